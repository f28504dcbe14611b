-- The rows of the cancel and cancellation point constructs, and of calls that wait in their place unless the region is cancelled.
use Rattle.std.proofs.Common.{◌≡◌, ℕ, zero, suc, ◌<◌, Bool, true, false, List, [], ◌∷◌, ◌++◌, Option, Some, None, append_assoc, refl, ap, sym, ◌∙◌, subst, arith, inl, inr}
use Rattle.std.specs.Prelude.{◌⊎◌, ◌==◌, ◌&&◌, ◌||◌, is_some, if◌then◌else◌}
use Rattle.gomp_types.specs.declared.cancel.CancelKind.{CancelKind}
use Rattle.gomp_types.specs.declared.cancel.CancelKind.TheVariants.{Parallel, Loop, Sections, Taskgroup}
use Rattle.gomp_types.specs.declared.cancel.Scope.{Scope}
use Rattle.gomp_types.specs.declared.cancel.Scope.TheVariants.{Region, OneShare, OneGroup}
use Rattle.gomp_types.specs.declared.reply.Reply.{Reply}
use Rattle.gomp_types.specs.declared.reply.Reply.TheVariants.{Wait, Cancelled, Run, Cancelling, Refused}
use Rattle.gomp_events.specs.declared.seen.Seen.{Seen}
use Rattle.gomp_types.specs.declared.shape.Shape.{Shape}
use Rattle.gomp_types.specs.declared.shape.ShareKind.{ShareKind}
use Rattle.gomp_types.specs.declared.task.Task.{Task}
use Rattle.gomp_types.specs.declared.task.Task.TheVariants.{Implicit, Explicit}
use Rattle.gomp_events.specs.declared.event.Event.{Event}
use Rattle.gomp_events.specs.declared.event.Event.TheVariants.{Cancel, Discard, See}
use Rattle.gomp_types.specs.Shapes.{is_loop, is_sections}
use Rattle.gomp_events.specs.Events.{open_share, in_kind}
use Rattle.gomp_events.specs.Tasks.{executed_task, tasks_created}
use Rattle.gomp_events.specs.Groups.{groups_around}
use Rattle.gomp_events.specs.Goals.{is_unstarted}
use Rattle.gomp_types.specs.Deals.{schedule}
use Rattle.gomp_events.specs.Laws.{Always}
use Rattle.gomp_events.specs.TaskCalls.{has_some}
use Rattle.gomp_events.specs.Cancels.{same_scope, was_cancelled, is_cancelled, some_scope_cancelled, some_cancelled, groups_over, is_covered, first_in, share_scope, group_scope, scope_of, names_cancelled, may_be_cancelled}
use Rattle.gomp_events.specs.CancelCalls.{unless_cancelled, cancel_tests, cancel_room, OrWaitsCancelled, sees_cancelled, discards_to, discards, cancels, tells_cancelled as cancel_events}
use Rattle.gomp_events.specs.Seen.{seen_of}
use Rattle.gomp_types.proofs.Booleans.{and_right, or_left, or_right, not_false, not_both, other_number, same_number}
use Rattle.gomp_types.proofs.LeastTests.{AllFail}
use Rattle.gomp_shares.specs.Rules.{ShareRule}
use Rattle.gomp_shares.specs.Cancels.{cancel_place_tests}
use Rattle.gomp_shares.proofs.CancelledShares.{cancellable_end}
use Rattle.gomp_model.specs.Past.{Past}
use Rattle.gomp_types.specs.Tests.{Test}
use Rattle.gomp_types.specs.Least.{least}
use Rattle.gomp_events.proofs.Refutations.{scope_as_itself}
use Rattle.gomp_model.specs.Row.{Row, begun_past, leaving_tests, asked_tests, board_tests, book_tests, goes_on, waits_uncancelled, MayGoOn}
use Rattle.gomp_model.specs.Cancels.{cancel_row, point_row}
use Rattle.gomp_model.specs.Team.{ChoosesTask}
use Rattle.gomp_model.specs.Admits.{in_place}
use Rattle.gomp_model.proofs.Admitted.{by_place_fails, by_task_fails}
use Rattle.gomp_laws.specs.Rules.{TeamRule}
use Rattle.gomp_laws.proofs.Sound.{is_wait, is_cut, Same, Gives, AreOwn, AreGiven, own_append, memoryless, IsAdmittedMember, IsSound}

-- Groups that are cancelled

-- an event that cancels nothing leaves what is cancelled of some groups
pub some_cancelled_same : (qs : List ℕ) (event : Event) (h : List Event) → ((scope : Scope) → was_cancelled scope (event ∷ h) ≡ was_cancelled scope h) → some_cancelled qs (event ∷ h) ≡ some_cancelled qs h
some_cancelled_same [] event h same = refl
some_cancelled_same (q ∷ qs) event h same = rw (same (OneGroup q), some_cancelled_same qs event h same) refl

-- Events that a cancellation leaves out

pub unless_own : (can : Gives) (c : Bool) (m : ℕ) (events : List Event) → AreOwn can m events → AreOwn can m (unless_cancelled c events)
unless_own can true m events own = tt
unless_own can false m events own = own

pub unless_keeps : (members : ℕ) (c : Bool) (event : Event) (h : List Event) → (c ≡ false → TeamRule members event h) → Always (TeamRule members) h → Always (TeamRule members) (unless_cancelled c (event ∷ []) ++ h)
unless_keeps members true event h rule all = all
unless_keeps members false event h rule all = (rule refl, all)

-- Calls that wait in their place

-- such a call is answered that the region is cancelled, and would wait; or as it would be, and does not wait in a cancelled region
uncancelled_answer : (c : Bool) (May : Reply → Type 0) (reply : Reply) → OrWaitsCancelled c May reply → ((reply ≡ Cancelled) × (c ≡ true) × May Wait) ⊎ ((c ≡ true → is_wait reply ≡ false) × May reply)
uncancelled_answer true May Wait may = absurd may
uncancelled_answer true May Cancelled may = inl (refl, refl, may)
uncancelled_answer true May _ may = inr ((λ e. refl), may)
uncancelled_answer false May reply may = inr ((λ e. absurd (cc)), may)

other_than_cut : (c : Bool) (May : Reply → Type 0) (reply : Reply) → is_cut reply ≡ false → (reply ≡ Cancelled) × (c ≡ true) × May Wait → May reply
other_than_cut c May reply other e = absurd (not_both (is_cut reply) (ap is_cut e.0) other)

uncancelled_may : (c : Bool) (May : Reply → Type 0) (reply : Reply) → is_cut reply ≡ false → OrWaitsCancelled c May reply → May reply
uncancelled_may c May reply other may = elim (uncancelled_answer c May reply may) [ inl e ↦ other_than_cut c May reply other e | inr e ↦ e.1 ]

some_uncancelled : (c : Bool) (May : Reply → Type 0) (reply : Reply) → (May Cancelled → ⊥) → May reply → (r : Reply) × OrWaitsCancelled c May r
some_uncancelled true May Wait never may = (Cancelled, may)
some_uncancelled true May Cancelled never may = absurd (never may)
some_uncancelled true May reply never may = (reply, may)
some_uncancelled false May reply never may = (reply, may)

-- a wait is the one answer
one_wait_alone : (b : Reply) → Same Wait b → is_wait b ≡ false → ⊥
one_wait_alone b (inl e) other = not_both (is_wait b) (ap is_wait (sym e)) other
one_wait_alone b (inr runs) other = absurd runs

never_runs : (a : Reply) → ChoosesTask a Wait → ⊥
never_runs (Run task code arg true) runs = runs
never_runs (Run task code arg false) runs = runs
never_runs _ runs = runs

other_wait_alone : (a : Reply) → Same a Wait → is_wait a ≡ false → ⊥
other_wait_alone a (inl e) other = not_both (is_wait a) (ap is_wait e) other
other_wait_alone a (inr runs) other = absurd (never_runs a runs)

one_uncancelled : (c : Bool) (May : Reply → Type 0) → ((a b : Reply) → May a → May b → Same a b) → (a b : Reply) → OrWaitsCancelled c May a → OrWaitsCancelled c May b → Same a b
one_uncancelled c May one a b x y =
    elim (uncancelled_answer c May a x) [
      | inl p ↦ elim (uncancelled_answer c May b y) [
        | inl q ↦ inl (p.0 ∙ sym q.0)
        | inr q ↦ absurd (one_wait_alone b (one Wait b p.2 q.1) (q.0 p.1))
      ]
      | inr p ↦ elim (uncancelled_answer c May b y) [
        | inl q ↦ absurd (other_wait_alone a (one a Wait p.1 q.2) (p.0 q.1))
        | inr q ↦ one a b p.1 q.1
      ]
    ]

pub sees_given : (can : Gives) (m : ℕ) (reply : Reply) (events : List Event) → AreGiven can m reply events → AreGiven can m reply (sees_cancelled m reply events)
sees_given can m Cancelled events given = ((refl, (λ region. refl), (λ group. refl)), tt)
sees_given can m _ events given = given

pub sees_keep : (members m : ℕ) (reply : Reply) (events h : List Event) → m < members → (reply ≡ Cancelled → is_cancelled h ≡ true) → (is_cut reply ≡ false → Always (TeamRule members) (events ++ h)) → Always (TeamRule members) h →
    Always (TeamRule members) (sees_cancelled m reply events ++ h)
sees_keep members m Cancelled events h lt cancelled kept all = (record { sees = record { member = lt; cancelled = cancelled refl }; share = tt }, all)
sees_keep members m _ events h lt cancelled kept all = kept refl

-- what such a call is beside that: it stays in its place, arrives nowhere, holds, cancels and puts nothing, and is not answered so by itself
pub record WaitsInPlace (row : Row) : Type 0 where
  pub silent : is_some row.arrives ≡ false
  pub holds : row.holds ≡ None
  pub harmless : is_some row.cancels ≡ false
  pub wordless : row.puts ≡ false
  pub never : (m : ℕ) (p : Past) → row.may_reply m p Cancelled → ⊥

uncancelled_goes_on : (row : Row) (m : ℕ) → MayGoOn (waits_uncancelled row) m → MayGoOn row m
uncancelled_goes_on row m on =
    elim (uncancelled_answer (is_cancelled on.0.events) (row.may_reply m on.0) on.1 on.3) [
      | inl e ↦ absurd (let off : goes_on on.1 ≡ false = ap goes_on e.0 in not_both (goes_on on.1) on.2 off)
      | inr e ↦ (on.0, on.1, on.2, e.1)
    ]

uncancelled_tests : (row : Row) (repeated : Bool) (m : ℕ) (p : Past) →
    (leaving_tests repeated row m p ≡ leaving_tests repeated (waits_uncancelled row) m p) × (board_tests repeated row m p ≡ board_tests repeated (waits_uncancelled row) m p) × (book_tests repeated row m p ≡ book_tests repeated (waits_uncancelled row) m p)
uncancelled_tests row true m p = (refl, refl, refl)
uncancelled_tests row false m p = (refl, ap (λ (asked : List Test). row.by_task m p ++ asked) (asks_alike (row.drops m p)), refl)
  where
    asks_alike : (drops : Bool) → asked_tests drops row p ≡ asked_tests drops (waits_uncancelled row) p
    asks_alike true = refl
    asks_alike false = refl

uncancelled_is_admitted : (row : Row) (repeated : Bool) (m : ℕ) (p : Past) → IsAdmittedMember (waits_uncancelled row) repeated m p → IsAdmittedMember row repeated m p
uncancelled_is_admitted row repeated m p ready =
    let parts = ready.admitted.parts in
    let book = ready.admitted.book in
    let same = uncancelled_tests row repeated m p in record {
      admitted = record {
        leaving = ap least same.0 ∙ ready.admitted.leaving;
        drained = ready.admitted.drained;
        parts = record { place = parts.place; compared = parts.compared; tasks = ap least same.1 ∙ parts.tasks; waits = λ e. uncancelled_goes_on row m (parts.waits e) };
        book = record { holds = ap least same.2 ∙ book.holds; lasting = book.lasting; waits = λ e. uncancelled_goes_on row m (book.waits e) };
      };
      member = ready.member;
      outside = ready.outside;
      inside = ready.inside;
      made = ready.made;
      first = ready.first;
      away = ready.away;
      words = ready.words;
    }

pub waits_uncancelled_sound : (row : Row) → IsSound row → WaitsInPlace row → IsSound (waits_uncancelled row)
waits_uncancelled_sound row sound is = record {
  decided = λ m p a b x y. one_uncancelled (is_cancelled p.events) (row.may_reply m p) (λ c d. sound.decided m p c d) a b x y;
  accepts = λ m p refusal x. sound.accepts m p refusal (uncancelled_may (is_cancelled p.events) (row.may_reply m p) (Refused refusal) refl x);
  answered = λ repeated m p ready all.
      let q = begun_past repeated row m p in
      let found = sound.answered repeated m p (uncancelled_is_admitted row repeated m p ready) all in
      some_uncancelled (is_cancelled q.events) (row.may_reply m q) found.0 (is.never m q) found.1;
  counts = λ repeated m p first count ready all may.
      let q = begun_past repeated row m p in
      sound.counts repeated m p first count (uncancelled_is_admitted row repeated m p ready) all (uncancelled_may (is_cancelled q.events) (row.may_reply m q) _ refl may);
  begins_own = sound.begins_own;
  gives_own = λ m p reply. sees_given _ m reply (row.gives m p reply) (sound.gives_own m p reply);
  begins_keep = λ m p ready all. sound.begins_keep m p (uncancelled_is_admitted row false m p ready) all;
  gives_keep = λ repeated m p reply ready may all.
      let q = begun_past repeated row m p in
      sees_keep p.terms.members m reply (row.gives m q reply) q.events ready.member
      (λ e. answered_cancelled row is m q (subst (λ (r : Reply). OrWaitsCancelled (is_cancelled q.events) (row.may_reply m q) r) e may))
      (λ other. sound.gives_keep repeated m p reply (uncancelled_is_admitted row repeated m p ready) (uncancelled_may (is_cancelled q.events) (row.may_reply m q) reply other may) all) all;
  still = sound.still;
  placed = sound.placed;
  outside = sound.outside;
  tells = λ arrives m p reply may. absurd (not_both (is_some row.arrives) arrives is.silent);
  one_pass = λ arrives m p. absurd (not_both (is_some row.arrives) arrives is.silent);
  arrives_there = λ arrives m p. absurd (not_both (is_some row.arrives) arrives is.silent);
  waits_quietly = λ arrives m p. absurd (not_both (is_some row.arrives) arrives is.silent);
  lasts = λ repeated m p ready all may.
      let q = begun_past repeated row m p in
      let on = sound.lasts repeated m p (uncancelled_is_admitted row repeated m p ready) all (uncancelled_may (is_cancelled q.events) (row.may_reply m q) Wait refl may) in
      (on.0, on.1, (q, Wait, refl, may));
  waits_for = λ key m p holds may. sound.waits_for key m p holds (uncancelled_may (is_cancelled p.events) (row.may_reply m p) Wait refl may);
  tells_count = λ key repeated m count p holds ready all may. absurd (let none = sym is.holds ∙ holds in cc);
  runs = λ m p task code arg own may. sound.runs m p task code arg own (uncancelled_may (is_cancelled p.events) (row.may_reply m p) _ refl may);
  ends = λ m p task waiting may. sound.ends m p task waiting (uncancelled_may (is_cancelled p.events) (row.may_reply m p) _ refl may);
  created = λ repeated m p task ready may.
      let q = begun_past repeated row m p in
      sound.created repeated m p task (uncancelled_is_admitted row repeated m p ready) (uncancelled_may (is_cancelled q.events) (row.may_reply m q) _ refl may);
  cancelled = λ m p may. (answered_cancelled row is m p may, refl);
  dropped = λ repeated m p ready all may.
      let q = begun_past repeated row m p in
      sound.dropped repeated m p (uncancelled_is_admitted row repeated m p ready) all (uncancelled_may (is_cancelled q.events) (row.may_reply m q) _ refl may);
  allowed = λ cancels m p. absurd (not_both (is_some row.cancels) cancels is.harmless);
  no_memory = sound.no_memory;
  words_keep = λ puts repeated m p reply ready may all. absurd (not_both row.puts puts is.wordless);
}
  where
    answered_cancelled : (row : Row) → WaitsInPlace row → (m : ℕ) (p : Past) → OrWaitsCancelled (is_cancelled p.events) (row.may_reply m p) Cancelled → is_cancelled p.events ≡ true
    answered_cancelled row is m p may = elim (uncancelled_answer (is_cancelled p.events) (row.may_reply m p) Cancelled may) [ inl e ↦ e.1 | inr e ↦ absurd (is.never m p e.1) ]

-- Cancel constructs and cancellation points

-- the row of either: with this clause, that asks for so much room, keeps it so, and may cancel something or not
abbrev named_row : CancelKind → Bool → ℕ → Option CancelKind → Row
named_row kind clause room may = record (cancel_row kind clause) { room = room; cancels = may }

abbrev named_gives : Option CancelKind → Gives
named_gives may = record { arrives = false; creates = false; puts = false; holds = None; cancels = is_some may }

-- Discarded tasks

-- what each discard of a task below a number keeps, all of them keep
discards_keep_so : (P : List Event → Type 0) (m t : ℕ) → ((j : ℕ) (now : List Event) → j < t → P now → P (Discard j m ∷ now)) → (k : ℕ) (h : List Event) → k < t → P h → P (discards_to k m h ++ h)
discards_keep_so P m t each zero h lt holds = holds
discards_keep_so P m t each (suc k) h lt holds = by_test (is_unstarted (suc k) h && is_covered (suc k) h) (discards_keep_so P m t each k h (omega (arith, lt)) holds)
  where
    by_test : (b : Bool) → P (discards_to k m h ++ h) → P ((if b then Discard (suc k) m ∷ discards_to k m h else discards_to k m h) ++ h)
    by_test true rest = each (suc k) (discards_to k m h ++ h) lt rest
    by_test false rest = rest

-- a discard of another task leaves a task unstarted and reached
record StillCovered (t : ℕ) (h : List Event) : Type 0 where
  unstarted : is_unstarted t h ≡ true
  covered : is_covered t h ≡ true

covered_at_discard : (m t j : ℕ) (now : List Event) → j < t → StillCovered t now → StillCovered t (Discard j m ∷ now)
covered_at_discard m t j now lt still =
    let other : (j == t) ≡ false = other_number j t (λ same. omega (arith, same, lt)) in record {
      unstarted = rw other still.unstarted;
      covered = ap (λ (b : Bool). is_cancelled now || b) (some_cancelled_same (groups_around t now) (Discard j m) now (λ scope. refl)) ∙ still.covered;
    }

discards_rule : (members m k : ℕ) (h : List Event) → m < members → Always (TeamRule members) h → Always (TeamRule members) (discards_to k m h ++ h)
discards_rule members m zero h lt all = all
discards_rule members m (suc k) h lt all = by_test (is_unstarted (suc k) h) (is_covered (suc k) h) refl refl (discards_rule members m k h lt all)
  where
    by_test : (unstarted covered : Bool) → is_unstarted (suc k) h ≡ unstarted → is_covered (suc k) h ≡ covered → Always (TeamRule members) (discards_to k m h ++ h) →
        Always (TeamRule members) ((if unstarted && covered then Discard (suc k) m ∷ discards_to k m h else discards_to k m h) ++ h)
    by_test true true u c rest =
        let still = discards_keep_so (StillCovered (suc k)) m (suc k) (λ j now lt. covered_at_discard m (suc k) j now lt) k h (omega arith) (record { unstarted = u; covered = c }) in
        (record { member = lt; unstarted = still.unstarted; covered = still.covered }, rest)
    by_test true false u c rest = rest
    by_test false covered u c rest = rest

-- What a construct names

-- what the member's construct names there may be cancelled, and is named as cancelled then
record IsNamed (members m : ℕ) (kind : CancelKind) (h : List Event) : Type 0 where
  scope : Scope
  is : scope_of kind m h ≡ Some scope
  share : ShareRule (schedule members) members (Cancel m scope) h
  then_named : names_cancelled kind m (Cancel m scope ∷ h) ≡ true

-- whether a share is of such a shape
abbrev in_shape : (Shape → Bool) → Option (ℕ × Shape) → Bool
in_shape is None = false
in_shape is (Some share) = is share.1

in_shape_of : (is : ShareKind → Bool) (own : Option (ℕ × Shape)) → in_kind is own ≡ true → in_shape (λ shape. is shape.kind) own ≡ true
in_shape_of is None e = e
in_shape_of is (Some share) e = e

share_named : (is : Shape → Bool) (m : ℕ) (h : List Event) (own : Option (ℕ × Shape)) → open_share m h ≡ own → in_shape is own ≡ true → may_be_cancelled own ≡ true →
    (scope : Scope) × (share_scope is own ≡ Some scope) × ((members : ℕ) → ShareRule (schedule members) members (Cancel m scope) h)
share_named is m h None at inside may = absurd (cc)
share_named is m h (Some share) at inside may =
    (OneShare share.0, rw inside refl, λ members. record { shape = share.1; inside = at; cancellable = cancellable_end share.1.end_kind may })

-- of the groups that wait for a task the last one is named
group_named : (groups : List ℕ) → has_some groups ≡ true → (q : ℕ) × (group_scope (first_in groups) ≡ Some (OneGroup q)) × ((m : ℕ) (h : List Event) → some_cancelled groups (Cancel m (OneGroup q) ∷ h) ≡ true)
group_named [] some = absurd (cc)
group_named (q ∷ qs) some = (q, refl, λ m h. or_left (was_cancelled (OneGroup q) (Cancel m (OneGroup q) ∷ h)) (some_cancelled qs (Cancel m (OneGroup q) ∷ h)) (or_left (q == q) (was_cancelled (OneGroup q) h) (same_number q)))

-- and what waits for the task is the same then
over_cancelled : (p : Task) (m : ℕ) (scope : Scope) (h : List Event) → groups_over p (Cancel m scope ∷ h) ≡ groups_over p h
over_cancelled (Implicit x) m scope h = refl
over_cancelled (Explicit t) m scope h = refl

construct_names : (members m : ℕ) (kind : CancelKind) (h : List Event) → AllFail (cancel_place_tests kind (seen_of m h)) → AllFail (cancel_tests kind m h) → IsNamed members m kind h
construct_names members m Parallel h place task = record { scope = Region; is = refl; share = tt; then_named = refl }
construct_names members m Loop h place task =
    let named = share_named (λ shape. is_loop shape.kind) m h (open_share m h) refl (in_shape_of is_loop (open_share m h) (not_false (in_kind is_loop (open_share m h)) place.0)) (not_false (may_be_cancelled (open_share m h)) place.1.0) in record {
      scope = named.0;
      is = named.1;
      share = named.2 members;
      then_named = rw named.1 (or_left (same_scope named.0 named.0) (was_cancelled named.0 h) (scope_as_itself named.0));
    }
construct_names members m Sections h place task =
    let named = share_named (λ shape. is_sections shape.kind) m h (open_share m h) refl (in_shape_of is_sections (open_share m h) (not_false (in_kind is_sections (open_share m h)) place.0)) (not_false (may_be_cancelled (open_share m h)) place.1.0) in record {
      scope = named.0;
      is = named.1;
      share = named.2 members;
      then_named = rw named.1 (or_left (same_scope named.0 named.0) (was_cancelled named.0 h) (scope_as_itself named.0));
    }
construct_names members m Taskgroup h place task =
    let groups = groups_over (executed_task m h) h in
    let named = group_named groups (not_false (has_some groups) task.1.0) in
    let now : List Event = Cancel m (OneGroup named.0) ∷ h in record {
      scope = OneGroup named.0;
      is = named.1;
      share = tt;
      then_named = or_right (is_cancelled now) (some_cancelled (groups_over (executed_task m h) now) now) (ap (λ (qs : List ℕ). some_cancelled qs now) (over_cancelled (executed_task m h) m (OneGroup named.0) h) ∙ named.2 m h);
    }

-- a discard changes nothing of what is named
scope_at_discard : (own : Option Scope) (j m : ℕ) (now : List Event) → some_scope_cancelled own (Discard j m ∷ now) ≡ some_scope_cancelled own now
scope_at_discard None j m now = refl
scope_at_discard (Some scope) j m now = refl

over_at_discard : (p : Task) (j m : ℕ) (now : List Event) → groups_over p (Discard j m ∷ now) ≡ groups_over p now
over_at_discard (Implicit x) j m now = refl
over_at_discard (Explicit t) j m now = refl

named_at_discard : (kind : CancelKind) (k j m : ℕ) (now : List Event) → names_cancelled kind k (Discard j m ∷ now) ≡ names_cancelled kind k now
named_at_discard Parallel k j m now = refl
named_at_discard Loop k j m now = scope_at_discard (scope_of Loop k now) j m now
named_at_discard Sections k j m now = scope_at_discard (scope_of Sections k now) j m now
named_at_discard Taskgroup k j m now =
    let after : List Event = Discard j m ∷ now in
    let groups = groups_over (executed_task k now) now in
    ap (λ (b : Bool). is_cancelled now || b) (ap (λ (qs : List ℕ). some_cancelled qs after) (over_at_discard (executed_task k now) j m now) ∙ some_cancelled_same groups (Discard j m) now (λ scope. refl))

-- What a construct gives

discarded_own : (may : Option CancelKind) (m k : ℕ) (h : List Event) → is_some may ≡ true → AreOwn (named_gives may) m (discards_to k m h)
discarded_own may m zero h some = tt
discarded_own may m (suc k) h some = by_test (is_unstarted (suc k) h && is_covered (suc k) h) (discarded_own may m k h some)
  where
    by_test : (b : Bool) → AreOwn (named_gives may) m (discards_to k m h) → AreOwn (named_gives may) m (if b then Discard (suc k) m ∷ discards_to k m h else discards_to k m h)
    by_test true rest = ((refl, some), rest)
    by_test false rest = rest

cancelled_own : (may : Option CancelKind) (m : ℕ) (scope : Option Scope) (h : List Event) → is_some may ≡ true → AreOwn (named_gives may) m (cancels m scope h)
cancelled_own may m None h some = tt
cancelled_own may m (Some scope) h some = own_append (named_gives may) m (discards m scope h) (Cancel m scope ∷ []) (discarded_own may m (tasks_created h) (Cancel m scope ∷ h) some) ((refl, some), tt)

named_own : (may : Option CancelKind) (kind : CancelKind) (clause : Bool) (m : ℕ) (h : List Event) (reply : Reply) → (clause ≡ true → is_some may ≡ true) → AreGiven (named_gives may) m reply (cancel_events kind clause m h reply)
named_own may kind true m h (Cancelling true) allowed = ((refl, (λ region. refl), (λ group. refl)), cancelled_own may m (scope_of kind m h) h (allowed refl))
named_own may kind false m h (Cancelling true) allowed = ((refl, (λ region. refl), (λ group. refl)), tt)
named_own may kind clause m h (Cancelling false) allowed = tt
named_own may kind clause m h _ allowed = tt

-- the events of a cancellation keep the rule, and what was cancelled is named as such after them
cancelled_rule : (members m : ℕ) (kind : CancelKind) (h : List Event) → m < members → (named : IsNamed members m kind h) → Always (TeamRule members) h → Always (TeamRule members) (discards m named.scope h ++ (Cancel m named.scope ∷ h))
cancelled_rule members m kind h lt named all =
    discards_rule members m (tasks_created h) (Cancel m named.scope ∷ h) lt (record { cancels = record { member = lt; kind = kind; named = named.is }; share = named.share }, all)

cancelled_named : (members m : ℕ) (kind : CancelKind) (h : List Event) → (named : IsNamed members m kind h) → names_cancelled kind m (discards m named.scope h ++ (Cancel m named.scope ∷ h)) ≡ true
cancelled_named members m kind h named =
    discards_keep_so (λ now. names_cancelled kind m now ≡ true) m (suc (tasks_created h)) (λ j now lt named. named_at_discard kind m j m now ∙ named) (tasks_created h) (Cancel m named.scope ∷ h) (omega arith) named.then_named

sees_rule : (members m : ℕ) (kind : CancelKind) (h : List Event) → m < members → names_cancelled kind m h ≡ true → TeamRule members (See m kind) h
sees_rule members m Parallel h lt named = record { sees = record { member = lt; cancelled = named }; share = tt }
sees_rule members m Loop h lt named = record { sees = record { member = lt; cancelled = named }; share = named }
sees_rule members m Sections h lt named = record { sees = record { member = lt; cancelled = named }; share = named }
sees_rule members m Taskgroup h lt named = record { sees = record { member = lt; cancelled = named }; share = tt }

-- events in two parts
regroup_last : (members : ℕ) (last : Event) (events : List Event) (first : Event) (h : List Event) → Always (TeamRule members) (last ∷ (events ++ (first ∷ h))) → Always (TeamRule members) (last ∷ ((events ++ (first ∷ [])) ++ h))
regroup_last members last events first h all = rw append_assoc all

cancelling_is_true : (cancelling : Bool) → Cancelling true ≡ Cancelling cancelling → cancelling ≡ true
cancelling_is_true true e = refl
cancelling_is_true false e = absurd (cc)

named_keeps : (members m : ℕ) (kind : CancelKind) (clause allowed : Bool) (h : List Event) (reply : Reply) → m < members → IsNamed members m kind h → reply ≡ Cancelling (allowed && (clause || names_cancelled kind m h)) → Always (TeamRule members) h →
    Always (TeamRule members) (cancel_events kind clause m h reply ++ h)
named_keeps members m kind true allowed h (Cancelling true) lt named may all =
    let rules = cancelled_rule members m kind h lt named all in
    let sees = sees_rule members m kind (discards m named.scope h ++ (Cancel m named.scope ∷ h)) lt (cancelled_named members m kind h named) in
    subst (λ (scope : Option Scope). Always (TeamRule members) (See m kind ∷ (cancels m scope h ++ h))) (sym named.is)
    (regroup_last members (See m kind) (discards m named.scope h) (Cancel m named.scope) h (sees, rules))
named_keeps members m kind false allowed h (Cancelling true) lt named may all =
    let cancelling : (allowed && names_cancelled kind m h) ≡ true = cancelling_is_true (allowed && names_cancelled kind m h) may in
    (sees_rule members m kind h lt (and_right allowed (names_cancelled kind m h) cancelling), all)
named_keeps members m kind clause allowed h (Cancelling false) lt named may all = all
named_keeps members m kind clause allowed h _ lt named may all = all

disallowed_construct_gives_nothing : (kind : CancelKind) (clause allowed cancelling : Bool) (m : ℕ) (h : List Event) (reply : Reply) → reply ≡ Cancelling (allowed && cancelling) → allowed ≡ false → cancel_events kind clause m h reply ≡ []
disallowed_construct_gives_nothing kind clause allowed cancelling m h reply may off = rw (may, off) refl

-- such a call is not repeated
named_asked_once : (kind : CancelKind) (clause : Bool) (room : ℕ) (may : Option CancelKind) (repeated : Bool) (m : ℕ) (p : Past) → IsAdmittedMember (named_row kind clause room may) repeated m p → repeated ≡ false
named_asked_once kind clause room may false m p ready = refl
named_asked_once kind clause room may true m p ready = let on = ready.admitted.parts.waits refl in absurd (let off : goes_on on.1 ≡ false = ap goes_on on.3 in not_both (goes_on on.1) on.2 off)

shown_once : (repeated : Bool) → repeated ≡ false → in_place false repeated ≡ true
shown_once true first = absurd (cc)
shown_once false first = refl

place_clean : (kind : CancelKind) (seen : Seen) → memoryless (cancel_place_tests kind seen) ≡ true
place_clean Parallel seen = refl
place_clean Loop seen = refl
place_clean Sections seen = refl
place_clean Taskgroup seen = refl

tests_clean : (kind : CancelKind) (m : ℕ) (h : List Event) → memoryless (cancel_tests kind m h) ≡ true
tests_clean Parallel m h = refl
tests_clean Loop m h = refl
tests_clean Sections m h = refl
tests_clean Taskgroup m h = refl

named_sound : (kind : CancelKind) (clause : Bool) (room : ℕ) (may : Option CancelKind) → (clause ≡ true → is_some may ≡ true) → IsSound (named_row kind clause room may)
named_sound kind clause room may allowed = record {
  decided = λ m p a b x y. inl (x ∙ sym y);
  accepts = λ m p refusal x. cc;
  answered = λ repeated m p ready all. (Cancelling (p.terms.cancellation && (clause || names_cancelled kind m p.events)), refl);
  counts = λ repeated m p first count ready all x. absurd (cc);
  begins_own = λ m p. tt;
  gives_own = λ m p reply. named_own may kind clause m p.events reply allowed;
  begins_keep = λ m p ready all. all;
  gives_keep = λ repeated m p reply ready x all.
      let first = named_asked_once kind clause room may repeated m p ready in
      named_keeps p.terms.members m kind clause p.terms.cancellation p.events reply ready.member (construct_names p.terms.members m kind p.events (by_place_fails ready.admitted.parts (shown_once repeated first) refl) (by_task_fails ready.admitted.parts first)) x all;
  still = λ stays m p. absurd (cc);
  placed = λ stays m h. refl;
  outside = λ arrives m p fail. absurd (cc);
  tells = λ arrives m p reply x. absurd (cc);
  one_pass = λ arrives m p. absurd (cc);
  arrives_there = λ arrives m p. absurd (cc);
  waits_quietly = λ arrives m p. absurd (cc);
  lasts = λ repeated m p ready all x. absurd (cc);
  waits_for = λ key m p holds x. absurd (cc);
  tells_count = λ key repeated m count p holds ready all x. absurd (cc);
  runs = λ m p task code arg own x. absurd (cc);
  ends = λ m p task waiting x. absurd (cc);
  created = λ repeated m p task ready x. absurd (cc);
  cancelled = λ m p x. absurd (cc);
  dropped = λ repeated m p ready all x. absurd (cc);
  allowed = λ some m p. (refl, λ reply x off. disallowed_construct_gives_nothing kind clause p.terms.cancellation (clause || names_cancelled kind m p.events) m p.events reply x off);
  no_memory = λ m p. (place_clean kind (seen_of m p.events), tests_clean kind m p.events, refl, refl, λ repeated. refl);
  words_keep = λ puts repeated m p reply ready x all. absurd (cc);
}

pub cancel_sound : (kind : CancelKind) (clause : Bool) → IsSound (cancel_row kind clause)
cancel_sound kind clause = named_sound kind clause (cancel_room kind) (Some kind) (λ e. refl)

pub point_sound : (kind : CancelKind) → IsSound (point_row kind)
point_sound kind = named_sound kind false 0 None (λ e. absurd (cc))
