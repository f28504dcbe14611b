-- What is known of a member's calls that are not answered whole: the one that waits, and those at which it started the tasks that it has not ended.
use Rattle.std.proofs.Common.{◌≡◌, ℕ, Bool, true, false, List, [], ◌∷◌, Option, Some, None, refl, sym, ◌∙◌, subst, inl, inr}
use Rattle.std.specs.Prelude.{◌||◌, ◌⊎◌, is_some}
use Rattle.gomp_types.specs.declared.call.Call.{Call}
use Rattle.gomp_types.specs.declared.limits.Limits.{Limits}
use Rattle.gomp_types.specs.declared.refusal.Place.{Place}
use Rattle.gomp_events.specs.declared.event.Event.{Event}
use Rattle.gomp_events.specs.declared.event.Event.TheVariants.{Start, Done, Break}
use Rattle.gomp_types.specs.declared.task.Task.TheVariants.{Explicit}
use Rattle.gomp_events.specs.Events.{barriers_passed, arrival, at_barrier, clash_of}
use Rattle.gomp_events.specs.Tasks.{innermost_task, task_stack, executed_task, in_task, after_first, is_undeferred}
use Rattle.gomp_events.specs.Cancels.{leaves_region}
use Rattle.gomp_events.specs.Seen.{seen_of}
use Rattle.gomp_types.proofs.Booleans.{same_number, not_both}
use Rattle.gomp_types.proofs.LeastTests.{AllFail}
use Rattle.gomp_model.specs.Past.{Waits}
use Rattle.gomp_model.specs.Calls.{row_of}
use Rattle.gomp_model.specs.Team.{open_first}
use Rattle.gomp_model.specs.Row.{MayGoOn}
use Rattle.gomp_laws.proofs.Sound.{Lasts, HasCreated}

-- What is known while a wait is open

-- what the tests of a call that stays in its place have shown holds still
abbrev pub Pending : Limits → ℕ → Option Call → List Event → Type 0
Pending limits k None h = Unit {0}
Pending limits k (Some call) h = (row_of call).stays ≡ true → AllFail ((row_of call).by_place limits (seen_of k h))

-- what a call that waits for a name or a lock, or outside of every task, relies on holds still
abbrev pub WaitLasts : ℕ → Option Call → List Event → Type 0
WaitLasts k None h = Unit {0}
WaitLasts k (Some call) h = Lasts (row_of call) k h

-- and what a creation that waits has created is there
abbrev pub WaitCreated : ℕ → Option Call → List Event → Type 0
WaitCreated k None h = Unit {0}
WaitCreated k (Some call) h = HasCreated (row_of call) (executed_task k h) h

-- What is known of the calls at which a member started its tasks

-- one of them was made in the innermost of these tasks, outside of every one if it arrives, and what it has created is there
pub record IsMadeIn (k : ℕ) (call : Call) (tasks : List ℕ) (h : List Event) : Type 0 where
  pub outside : is_some (row_of call).arrives ≡ true → tasks ≡ []
  pub created : HasCreated (row_of call) (innermost_task k tasks) h

-- the first of these calls is that at which a task was started beneath which these lie, and the others cover those
abbrev pub CoversOne : ℕ → List Call → List ℕ → List Event → (List Call → Type 0) → Type 0
CoversOne k [] tasks h others = ⊥
CoversOne k (call ∷ calls) tasks h others = IsMadeIn k call tasks h × others calls

-- there is one for each task that it has started and not ended, and that is not undeferred: an undeferred one closed the call that created it
abbrev pub Covers : ℕ → List Call → List ℕ → List Event → Type 0
Covers k calls [] h = calls ≡ []
Covers k calls (task ∷ tasks) h =
    ((is_undeferred task h ≡ true) × Covers k calls tasks h) ⊎ ((is_undeferred task h ≡ false) × CoversOne k calls tasks h (λ under. Covers k under tasks h))

-- such a call does not stay in its place, and holds and frees nothing; one that arrives was made outside of every task; it is a call that may go on
pub record IsBeneath (k : ℕ) (call : Call) (under : List Call) : Type 0 where
  pub moves : (row_of call).stays ≡ false
  pub holds : (row_of call).holds ≡ None
  pub outside : is_some (row_of call).arrives ≡ true → under ≡ []
  pub goes_on : MayGoOn (row_of call) k

-- each of them is one
abbrev pub AreBeneath : ℕ → List Call → Type 0
AreBeneath k [] = Unit {0}
AreBeneath k (call ∷ calls) = IsBeneath k call calls × AreBeneath k calls

-- whether the call that waits has arrived at a barrier
abbrev pub has_arrived : Option Call → Bool
has_arrived None = false
has_arrived (Some call) = is_some (row_of call).arrives

-- whether one of these calls has
abbrev pub some_arrived : List Call → Bool
some_arrived [] = false
some_arrived (call ∷ calls) = is_some (row_of call).arrives || some_arrived calls

-- a member that waits at no barrier, and has not arrived at its next one
abbrev pub IsAway : ℕ → List Event → Type 0
IsAway k h = (arrival (barriers_passed k h) k h ≡ None) × (at_barrier k h ≡ false)

-- so is one of whose calls none has arrived, in a team that is not broken, unless it leaves the region
abbrev pub Fresh : ℕ → Waits → List Event → Type 0
Fresh k waits h = clash_of h ≡ None → leaves_region k h ≡ false → has_arrived waits.open_call ≡ false → some_arrived waits.beneath ≡ false → IsAway k h

-- what is known of a member's calls that are not answered whole
pub record WaitKnown (limits : Limits) (k : ℕ) (waits : Waits) (h : List Event) : Type 0 where
  pub pending : Pending limits k waits.open_call h
  pub lasting : WaitLasts k waits.open_call h
  pub created : WaitCreated k waits.open_call h
  pub covers : Covers k waits.beneath (task_stack k h) h
  pub beneath : AreBeneath k waits.beneath
  pub fresh : Fresh k waits h

-- What follows of it

-- a member that has started no task has no calls beneath
pub covers_none : (k : ℕ) (calls : List Call) (tasks : List ℕ) (h : List Event) → Covers k calls tasks h → tasks ≡ [] → calls ≡ []
covers_none k calls [] h covers none = covers
covers_none k calls (task ∷ tasks) h covers none = absurd (cc)

pub outside_of_none : (k : ℕ) (h : List Event) → task_stack k h ≡ [] → in_task k h ≡ false
outside_of_none k h none = rw none refl

pub none_arrived : (calls : List Call) → calls ≡ [] → some_arrived calls ≡ false
none_arrived calls none = rw none refl

-- What stays known

pub pending_same : (limits : Limits) (k : ℕ) (waiting : Option Call) (h now : List Event) → seen_of k now ≡ seen_of k h → Pending limits k waiting h → Pending limits k waiting now
pending_same limits k None h now same pending = tt
pending_same limits k (Some call) h now same pending = λ stays. rw same (pending stays)

pub lasts_at_break : (k n : ℕ) (place : Place) (waiting : Option Call) (h : List Event) → WaitLasts k waiting h → WaitLasts k waiting (Break n place ∷ h)
lasts_at_break k n place None h lasting = tt
lasts_at_break k n place (Some call) h lasting = lasting

pub created_at_break : (k n : ℕ) (place : Place) (waiting : Option Call) (h : List Event) → WaitCreated k waiting h → WaitCreated k waiting (Break n place ∷ h)
created_at_break k n place None h created = tt
created_at_break k n place (Some call) h created = created

pub started_stack : (m task : ℕ) (h : List Event) → task_stack m (Start task m ∷ h) ≡ task ∷ task_stack m h
started_stack m task h = rw (same_number m) refl

pub ended_stack : (m task : ℕ) (h : List Event) → task_stack m (Done task m ∷ h) ≡ after_first (task_stack m h)
ended_stack m task h = rw (same_number m) refl

-- the call at which a member started the task that it has ended waits again
call_opens_again : (limits : Limits) (k : ℕ) (now : List Event) (calls : List Call) (tasks : List ℕ) → CoversOne k calls tasks now (λ under. Covers k under tasks now) → AreBeneath k calls → task_stack k now ≡ tasks →
    (clash_of now ≡ None → leaves_region k now ≡ false → some_arrived calls ≡ false → IsAway k now) → WaitKnown limits k (open_first calls) now
call_opens_again limits k now [] tasks covers beneath stack fresh = absurd covers
call_opens_again limits k now (call ∷ calls) tasks covers beneath stack fresh = record {
  pending = λ stays. absurd (let both = sym stays ∙ beneath.0.moves in cc);
  lasting = (
    (λ arrives. outside_of_none k now (stack ∙ covers.0.outside arrives)),
    (λ key holds. absurd (let both = sym holds ∙ beneath.0.holds in cc)),
    beneath.0.goes_on,
  );
  created = subst (λ (ts : List ℕ). HasCreated (row_of call) (innermost_task k ts) now) (sym stack) covers.0.created;
  covers = subst (λ (ts : List ℕ). Covers k calls ts now) (sym stack) covers.1;
  beneath = beneath.1;
  fresh = λ whole stays quiet under. fresh whole stays (rw quiet under);
}

pub wait_opens_again : (limits : Limits) (k task : ℕ) (now : List Event) (calls : List Call) (tasks : List ℕ) → innermost_task k tasks ≡ Explicit task → is_undeferred task now ≡ false → Covers k calls tasks now → AreBeneath k calls →
    task_stack k now ≡ after_first tasks → (clash_of now ≡ None → leaves_region k now ≡ false → some_arrived calls ≡ false → IsAway k now) → WaitKnown limits k (open_first calls) now
wait_opens_again limits k task now calls [] executed deferred covers beneath stack fresh = absurd (cc)
wait_opens_again limits k task now calls (t ∷ ts) executed deferred (inl held) beneath stack fresh =
    absurd (let same : t ≡ task = cc in let held_too : is_undeferred task now ≡ true = rw same at held.0 in not_both (is_undeferred task now) held_too deferred)
wait_opens_again limits k task now calls (t ∷ ts) executed deferred (inr covers) beneath stack fresh = call_opens_again limits k now calls ts covers.1 beneath stack fresh

-- and if that task was undeferred no call of the member waits
pub ended_undeferred_covers : (k task : ℕ) (now : List Event) (calls : List Call) (tasks : List ℕ) → innermost_task k tasks ≡ Explicit task → is_undeferred task now ≡ true → Covers k calls tasks now → Covers k calls (after_first tasks) now
ended_undeferred_covers k task now calls [] executed held covers = absurd (cc)
ended_undeferred_covers k task now calls (t ∷ ts) executed held (inl covers) = covers.1
ended_undeferred_covers k task now calls (t ∷ ts) executed held (inr covers) =
    absurd (let same : t ≡ task = cc in let deferred : is_undeferred task now ≡ false = rw same at covers.0 in not_both (is_undeferred task now) held deferred)

-- a member that executes a task that is not undeferred has a call beneath it
pub call_beneath : (k task : ℕ) (h : List Event) (calls : List Call) (tasks : List ℕ) → innermost_task k tasks ≡ Explicit task → is_undeferred task h ≡ false → Covers k calls tasks h → is_some (open_first calls).open_call ≡ true
call_beneath k task h (call ∷ calls) tasks executed deferred covers = refl
call_beneath k task h [] [] executed deferred covers = absurd (cc)
call_beneath k task h [] (t ∷ ts) executed deferred (inl held) =
    absurd (let same : t ≡ task = cc in let held_too : is_undeferred task h ≡ true = rw same at held.0 in not_both (is_undeferred task h) held_too deferred)
call_beneath k task h [] (t ∷ ts) executed deferred (inr covers) = absurd covers.1
