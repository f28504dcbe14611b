-- The loop over the tasks that a cancellation discards, step by step.
use Rattle.std.proofs.Common.{◌≡◌, ℕ, ◌+◌, ◌<◌, ◌≤◌, true, false, List, [], ◌∷◌, ◌++◌, Some, length, refl, ap, ◌∙◌, sym, subst, arith, suc, zero, inl, inr}
use Rattle.std.specs.Prelude.{◌&&◌, reverse, Option}
use Rattle.std.proofs.lemmas.List.{length_push, append_assoc}
use Rattle.std.proofs.lemmas.Bool.{cases_Bool}
use Rattle.gomp_types.specs.declared.cancel.Scope.{Scope}
use Rattle.gomp_types.specs.declared.cancel.Scope.TheVariants.{Region, OneShare, OneGroup}
use Rattle.gomp_events.specs.declared.event.Event.{Event}
use Rattle.gomp_events.specs.declared.event.Event.TheVariants.{Cancel, Discard}
use Rattle.gomp_events.specs.Events.{clash_of}
use Rattle.gomp_events.specs.Tasks.{tasks_created}
use Rattle.gomp_events.specs.Goals.{is_unstarted}
use Rattle.gomp_events.specs.Cancels.{is_covered}
use Rattle.gomp_events.specs.CancelCalls.{discards_to, cancels}
use Rattle.gomp_events.specs.TaskRules.{MayDiscard}
use Rattle.gomp_types.proofs.Booleans.{and_left, and_right}
use Rattle.gomp_tasks.specs.Stands.{count_of}
use Rattle.gomp_scheduler.specs.Schedulers.{SchedulerView, Stands as SchedulerStands, SchedulerHasMembers as SchedulerHas, IsOfTeam, scheduler_members}
use Rattle.gomp_board.specs.declared.payloads.Put.{Put}
use Rattle.gomp_board.specs.Stored.{stored}
use Rattle.gomp_board.specs.Owed.{owed}
use Rattle.gomp_board.specs.Payloads.{PayloadsStand}
use Rattle.gomp_board.specs.Discards.{DiscardsStand, NoneToDiscard}
use Rattle.gomp_board.specs.Boards.{BoardView, Stands, HasSpare, IsBoard, members_of}
use Rattle.gomp_board.proofs.Discards.{discards_of_none, discards_next_at, discards_none_at, discards_seal}
use Rattle.gomp_board.proofs.OwedKeeps.{discard_owes, cancel_owes}
use Rattle.gomp_board.proofs.PayloadsKeep.{payloads_stay}
use Rattle.gomp_board.proofs.StoredKeeps.{stored_with, reverse_with, history_after}

-- All tasks with numbers up to k; the first ones are not to be discarded

pub record AreDiscarded (first k m : ℕ) (s0 s : SchedulerView) (es0 es : List Event) : Type 0 where
  pub stands : (h : List Event) → DiscardsStand s0 es0 h → NoneToDiscard first h → DiscardsStand s es (discards_to k m h ++ h)
  pub history : reverse es ≡ discards_to k m (reverse es0) ++ reverse es0
  pub count : count_of s.tasks ≡ count_of s0.tasks
  pub owes : (n : ℕ) → length es + owed n (reverse es) ≤ length es0 + owed n (reverse es0)
  pub members : SchedulerHas (scheduler_members s0) s

-- none of these is
pub none_discarded_yet : (k m : ℕ) (s : SchedulerView) (es : List Event) → NoneToDiscard k (reverse es) → SchedulerHas (scheduler_members s) s → AreDiscarded k k m s s es es
none_discarded_yet k m s es none has = record {
  stands = λ h st none_there. rw (discards_of_none k m h none_there) st;
  history = rw (discards_of_none k m (reverse es) none) refl;
  count = refl;
  owes = λ n. omega arith;
  members = has;
}

module _ {s0 s : SchedulerView} {es0 es : List Event} (first k m : ℕ) (all : AreDiscarded first k m s0 s es0 es) where
  -- the scheduler stands for its own history
  pub own_discarded : DiscardsStand s0 es0 (reverse es0) → NoneToDiscard first (reverse es0) → DiscardsStand s es (reverse es)
  own_discarded own none = subst (λ (h : List Event). DiscardsStand s es h) (sym all.history) (all.stands (reverse es0) own none)

  -- the team has as many members as before
  pub member_still : m < scheduler_members s0 → m < scheduler_members s
  member_still low = let same = all.members.tasks in omega (arith, low, same)

  -- what is discarded next may be, and has memory
  pub discard_has_memory : (n space : ℕ) → length es0 + owed n (reverse es0) ≤ space → is_unstarted (k + 1) (reverse es) ≡ true → length es < space
  discard_has_memory n space room un = let owes = discard_owes n m (k + 1) (reverse es) un in let within = all.owes n in omega (arith, owes, within, room)

  pub discard_is_allowed : m < scheduler_members s0 → (h : List Event) → (is_unstarted (k + 1) h && is_covered (k + 1) h) ≡ true → MayDiscard (scheduler_members s) (k + 1) m h
  discard_is_allowed low h is = record { member = member_still low; unstarted = and_left (is_unstarted (k + 1) h) (is_covered (k + 1) h) is; covered = and_right (is_unstarted (k + 1) h) (is_covered (k + 1) h) is }

  -- it is
  pub one_more_discarded : {s' : SchedulerView} {es' : List Event} → m < scheduler_members s0 → DiscardsStand s0 es0 (reverse es0) → NoneToDiscard first (reverse es0) →
      ((h : List Event) → SchedulerStands s h → true ≡ (is_unstarted (k + 1) h && is_covered (k + 1) h)) →
      ((h : List Event) → DiscardsStand s es h → MayDiscard (scheduler_members s) (k + 1) m h → DiscardsStand s' es' (Discard (k + 1) m ∷ h)) →
      es' ≡ es ++ Discard (k + 1) m ∷ [] → count_of s'.tasks ≡ count_of s.tasks → SchedulerHas (scheduler_members s) s' →
      AreDiscarded first (k + 1) m s0 s' es0 es'
  one_more_discarded {s' = s'} {es' = es'} low own none tells step longer count members = record {
    stands = λ h st0 none_there.
        let st = all.stands h st0 none_there in let is = sym (tells (discards_to k m h ++ h) st.scheduler) in
        subst (λ (e : List Event). DiscardsStand s' es' e) (discards_next_at k m h is) (step (discards_to k m h ++ h) st (discard_is_allowed low (discards_to k m h ++ h) is));
    history =
        let st = own_discarded own none in let is0 = sym (tells (reverse es) st.scheduler) in
        let is = subst (λ (e : List Event). (is_unstarted (k + 1) e && is_covered (k + 1) e) ≡ true) all.history is0 in
        reverse_with es es' (Discard (k + 1) m) longer ∙ ap (λ (e : List Event). Discard (k + 1) m ∷ e) all.history ∙ discards_next_at k m (reverse es0) is;
    count = count ∙ all.count;
    owes = λ n.
        let st = own_discarded own none in let is = sym (tells (reverse es) st.scheduler) in
        let owes = discard_owes n m (k + 1) (reverse es) (and_left (is_unstarted (k + 1) (reverse es)) (is_covered (k + 1) (reverse es)) is) in
        let within = all.owes n in
        let size : length es' ≡ length es + 1 = rw longer (length_push es (Discard (k + 1) m)) in
        rw (reverse_with es es' (Discard (k + 1) m) longer) (omega (arith, owes, within, size));
    members = subst (λ (n : ℕ). SchedulerHas n s') all.members.tasks members;
  }

  -- it is not
  pub none_more_discarded : DiscardsStand s0 es0 (reverse es0) → NoneToDiscard first (reverse es0) → ((h : List Event) → SchedulerStands s h → false ≡ (is_unstarted (k + 1) h && is_covered (k + 1) h)) → AreDiscarded first (k + 1) m s0 s es0 es
  none_more_discarded own none tells = record {
    stands = λ h st0 none_there.
        let st = all.stands h st0 none_there in let not_it = sym (tells (discards_to k m h ++ h) st.scheduler) in
        subst (λ (e : List Event). DiscardsStand s es e) (discards_none_at k m h not_it) st;
    history =
        let st = all.stands (reverse es0) own none in let not_it = sym (tells (discards_to k m (reverse es0) ++ reverse es0) st.scheduler) in
        all.history ∙ discards_none_at k m (reverse es0) not_it;
    count = all.count;
    owes = all.owes;
    members = all.members;
  }

-- A cancellation, and its discards

scope_is_stored : (m groups : ℕ) (scope : Scope) (h : List Event) → IsOfTeam scope groups → (history after : List Event) → after ≡ history ++ Cancel m scope ∷ [] → stored h ≡ reverse history → stored (Cancel m scope ∷ h) ≡ reverse after
scope_is_stored m groups Region h is history after longer kept = stored_with history after (Cancel m Region) h refl longer kept
scope_is_stored m groups (OneGroup q) h is history after longer kept = stored_with history after (Cancel m (OneGroup q)) h refl longer kept
scope_is_stored m groups (OneShare i) h is history after longer kept = absurd is

pub parts_cancelled : (b : BoardView) (s : SchedulerView) (history : List Event) (m : ℕ) (scope : Scope) (h : List Event) → IsOfTeam scope (length b.scheduler.cancelled.marks) → history ≡ b.history ++ Cancel m scope ∷ [] →
    SchedulerStands s (Cancel m scope ∷ h) → Stands b h → DiscardsStand s history (Cancel m scope ∷ h)
parts_cancelled b s history m scope h is longer next st = record { scheduler = next; history = scope_is_stored m (length b.scheduler.cancelled.marks) scope h is b.history history longer st.history }

discards_keep_clash : (k m : ℕ) (h g : List Event) → clash_of (discards_to k m h ++ g) ≡ clash_of g
discards_keep_clash zero m h g = refl
discards_keep_clash (suc k) m h g = elim (cases_Bool (is_unstarted (suc k) h && is_covered (suc k) h)) [
  | inl is ↦ rw is (discards_keep_clash k m h g)
  | inr not_it ↦ rw not_it (discards_keep_clash k m h g)
]

discards_keep_words : (places : List (Option Put)) (k m : ℕ) (h g : List Event) → PayloadsStand places g → PayloadsStand places (discards_to k m h ++ g)
discards_keep_words places zero m h g st = st
discards_keep_words places (suc k) m h g st = elim (cases_Bool (is_unstarted (suc k) h && is_covered (suc k) h)) [
  | inl is ↦ rw is (payloads_stay places (Discard (suc k) m) (discards_to k m h ++ g) tt (discards_keep_words places k m h g st))
  | inr not_it ↦ rw not_it (discards_keep_words places k m h g st)
]

-- the board afterwards
pub cancelled_stands : (b : BoardView) (s : SchedulerView) (history : List Event) (m : ℕ) (scope : Scope) (h : List Event) →
    DiscardsStand s history (discards_to (tasks_created (Cancel m scope ∷ h)) m (Cancel m scope ∷ h) ++ Cancel m scope ∷ h) → Stands b h →
    Stands (record b { history = history; scheduler = s }) (discards_to (tasks_created (Cancel m scope ∷ h)) m (Cancel m scope ∷ h) ++ Cancel m scope ∷ h)
cancelled_stands b s history m scope h parts st = record {
  scheduler = parts.scheduler;
  sealed = discards_seal m (Cancel m scope ∷ h);
  payloads = discards_keep_words b.payloads (tasks_created (Cancel m scope ∷ h)) m (Cancel m scope ∷ h) (Cancel m scope ∷ h) (payloads_stay b.payloads (Cancel m scope) h tt st.payloads);
  clash = discards_keep_clash (tasks_created (Cancel m scope ∷ h)) m (Cancel m scope ∷ h) (Cancel m scope ∷ h) ∙ st.clash;
  history = parts.history;
}

-- as the events of the call
pub cancels_are : (m : ℕ) (scope : Scope) (h : List Event) → cancels m (Some scope) h ++ h ≡ discards_to (tasks_created (Cancel m scope ∷ h)) m (Cancel m scope ∷ h) ++ Cancel m scope ∷ h
cancels_are m scope h = append_assoc (discards_to (tasks_created h) m (Cancel m scope ∷ h)) (Cancel m scope ∷ []) h

-- There is room for it

pub cancel_fits : (space : ℕ) (b : BoardView) → IsBoard space b → HasSpare 1 b → length b.history < space
cancel_fits space b is spare = let within = is.space in omega (arith, spare, within)

pub own_cancelled : (b : BoardView) (s : SchedulerView) (history : List Event) (m : ℕ) (scope : Scope) → IsOfTeam scope (length b.scheduler.cancelled.marks) → history ≡ b.history ++ Cancel m scope ∷ [] →
    SchedulerStands s (Cancel m scope ∷ reverse b.history) → Stands b (reverse b.history) → DiscardsStand s history (reverse history)
own_cancelled b s history m scope is longer next st = history_after (λ h. DiscardsStand s history h) b.history history (Cancel m scope) longer (parts_cancelled b s history m scope (reverse b.history) is longer next st)

pub cancel_has_memory : (space new_space : ℕ) (b : BoardView) (history : List Event) (m : ℕ) (scope : Scope) → IsBoard space b → HasSpare 1 b → new_space ≡ space → history ≡ b.history ++ Cancel m scope ∷ [] → length history + owed (members_of b) (reverse history) ≤ new_space
cancel_has_memory space new_space b history m scope is spare memory longer =
    let within = is.space in
    let size : length history ≡ length b.history + 1 = rw longer (length_push b.history (Cancel m scope)) in
    let owes = cancel_owes (members_of b) m scope (reverse b.history) in
    rw (reverse_with b.history history (Cancel m scope) longer) (omega (arith, within, size, owes, spare, memory))

-- and it is a board afterwards
pub cancelled_board : (space new_space : ℕ) (b : BoardView) (s : SchedulerView) (noted history : List Event) (m : ℕ) (scope : Scope) →
    IsBoard space b → HasSpare 1 b → new_space ≡ space → noted ≡ b.history ++ Cancel m scope ∷ [] → ((n : ℕ) → length history + owed n (reverse history) ≤ length noted + owed n (reverse noted)) →
    reverse history ≡ discards_to (tasks_created (reverse noted)) m (reverse noted) ++ reverse noted →
    DiscardsStand s history (discards_to (tasks_created (reverse noted)) m (reverse noted) ++ reverse noted) → SchedulerHas (members_of b) s →
    IsBoard new_space (record b { history = history; scheduler = s })
cancelled_board space new_space b s noted history m scope is spare memory longer owes goes parts has =
    let own = reverse_with b.history noted (Cancel m scope) longer in
    let parts_own = subst (λ (h : List Event). DiscardsStand s history (discards_to (tasks_created h) m h ++ h)) own parts in
    let stands = cancelled_stands b s history m scope (reverse b.history) parts_own is.stands in
    let goes_own = subst (λ (h : List Event). reverse history ≡ discards_to (tasks_created h) m h ++ h) own goes in
    let size : length noted ≡ length b.history + 1 = rw longer (length_push b.history (Cancel m scope)) in
    let noted_owes : owed (members_of b) (reverse noted) ≡ owed (members_of b) (reverse b.history) = rw own (cancel_owes (members_of b) m scope (reverse b.history)) in
    let few = owes (members_of b) in
    let within = is.space in
    record {
      stands = subst (λ (h : List Event). Stands (record b { history = history; scheduler = s }) h) (sym goes_own) stands;
      members = has;
      room = omega (arith, size, noted_owes, few, spare);
      space = omega (arith, within, memory);
      limits = is.limits;
    }
