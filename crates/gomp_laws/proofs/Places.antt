-- A member's place among the shares and at the barriers, and its tasks, are left as they are by another member's call, whatever that is.
use Rattle.std.proofs.Common.{◌≡◌, ℕ, Bool, true, false, List, None, refl, ◌∙◌}
use Rattle.std.specs.Prelude.{◌==◌, ◌&&◌, ◌||◌, is_some}
use Rattle.gomp_types.specs.declared.reply.Reply.{Reply}
use Rattle.gomp_types.specs.declared.reply.Reply.TheVariants.{Wait}
use Rattle.gomp_events.specs.declared.event.Event.{Event}
use Rattle.gomp_events.specs.declared.event.Event.TheVariants.{Enter, Take, Drained, End, Part, PartEnd, Arrive, Pass, Hold, Free, Start, Done, See, Break}
use Rattle.gomp_events.specs.Events.{shares_entered, open_share, has_drained, last_piece, next_part, in_part, barriers_passed, arrival, at_barrier, clash_of}
use Rattle.gomp_events.specs.Cancels.{same_cancel, leaves_region, leaves_share}
use Rattle.gomp_types.specs.declared.cancel.CancelKind.TheVariants.{Parallel}
use Rattle.gomp_events.specs.Laws.{Always}
use Rattle.gomp_events.specs.Tasks.{task_stack, executed_task}
use Rattle.gomp_types.proofs.Booleans.{and_false, or_false}
use Rattle.gomp_locks.specs.Holders.{asker}
use Rattle.gomp_locks.proofs.HoldsKeep.{owner_of_another_member, held_by_another_stays_held, held_by_another_stays_freed}
use Rattle.gomp_laws.specs.Rules.{TeamRule}
use Rattle.gomp_events.specs.Seen.{seen_of}
use Rattle.gomp_model.specs.Past.{Past}
use Rattle.gomp_model.specs.Row.{Row, begun_past, events_after}
use Rattle.gomp_laws.proofs.Sound.{is_run, is_end, Lasts, IsSound, gives_of, Gives}
use Rattle.gomp_laws.proofs.CallsKeep.{OwnKeeps, LastKeeps, since_keeps, step_keeps}

record SamePlace (k : ℕ) (h after : List Event) : Type 0 where
  number : shares_entered k after ≡ shares_entered k h
  share : open_share k after ≡ open_share k h
  drained : has_drained k after ≡ has_drained k h
  piece : last_piece k after ≡ last_piece k h
  begun : next_part k after ≡ next_part k h
  within : in_part k after ≡ in_part k h
  leaving : leaves_share k after ≡ leaves_share k h

same_place : (k : ℕ) (h : List Event) → SamePlace k h h
same_place k h = record { number = refl; share = refl; drained = refl; piece = refl; begun = refl; within = refl; leaving = refl }

-- an event of another member
place_stays : (can : Gives) (reply : Reply) (k m : ℕ) (h : List Event) → (m == k) ≡ false → LastKeeps can m reply (SamePlace k h)
place_stays can reply k m h e (Enter share n shape) after by same =
    rw by (record { number = rw e same.number; share = rw e same.share; drained = rw e same.drained; piece = rw e same.piece; begun = rw e same.begun; within = rw e same.within; leaving = rw e same.leaving })
place_stays can reply k m h e (Take share n low high) after by same = rw by (record { number = same.number; share = same.share; drained = same.drained; piece = rw e same.piece; begun = same.begun; within = same.within; leaving = same.leaving })
place_stays can reply k m h e (Drained share n) after by same = rw by (record { number = same.number; share = same.share; drained = rw e same.drained; piece = rw e same.piece; begun = same.begun; within = same.within; leaving = same.leaving })
place_stays can reply k m h e (End share n) after by same = rw by (record { number = same.number; share = rw e same.share; drained = same.drained; piece = same.piece; begun = same.begun; within = same.within; leaving = rw e same.leaving })
place_stays can reply k m h e (Part share n iteration) after by same = rw by (record { number = same.number; share = same.share; drained = same.drained; piece = same.piece; begun = rw e same.begun; within = rw e same.within; leaving = same.leaving })
place_stays can reply k m h e (PartEnd share n) after by same = rw by (record { number = same.number; share = same.share; drained = same.drained; piece = same.piece; begun = same.begun; within = rw e same.within; leaving = same.leaving })
place_stays can reply k m h e (See n kind) after by same =
    rw by.0 (record { number = same.number; share = same.share; drained = same.drained; piece = same.piece; begun = same.begun; within = same.within; leaving = rw e same.leaving })
place_stays can reply k m h e _ after by same = record { number = same.number; share = same.share; drained = same.drained; piece = same.piece; begun = same.begun; within = same.within; leaving = same.leaving }

pub seen_other : (row : Row) → IsSound row → (repeated : Bool) (k m : ℕ) (p : Past) (reply : Reply) → (m == k) ≡ false → seen_of k (events_after repeated row m p reply) ≡ seen_of k p.events
seen_other row sound repeated k m p reply e =
    let same = step_keeps row sound repeated m p reply (SamePlace k p.events) (place_stays (gives_of row) reply k m p.events e) (same_place k p.events) in
    λ i. record { entered = same.number i; current = same.share i; drained = same.drained i; piece = same.piece i; next_part = same.begun i; in_part = same.within i; leaving = same.leaving i }

pub record SameBarriers (k : ℕ) (h after : List Event) : Type 0 where
  pub number : barriers_passed k after ≡ barriers_passed k h
  pub arrivals : (g : ℕ) → arrival g k after ≡ arrival g k h
  pub waiting : at_barrier k after ≡ at_barrier k h

same_barriers : (k : ℕ) (h : List Event) → SameBarriers k h h
same_barriers k h = record { number = refl; arrivals = λ g. refl; waiting = refl }

barriers_stay : (can : Gives) (reply : Reply) (k m : ℕ) (h : List Event) → (m == k) ≡ false → LastKeeps can m reply (SameBarriers k h)
barriers_stay can reply k m h e (Arrive barrier n tag) after by same =
    rw by.0 (record { number = same.number; arrivals = λ g. rw (and_false (barrier == g) (m == k) e) (same.arrivals g); waiting = rw e same.waiting })
barriers_stay can reply k m h e (Pass barrier n) after by same = rw by.0 (record { number = rw e same.number; arrivals = same.arrivals; waiting = rw e same.waiting })
barriers_stay can reply k m h e _ after by same = record { number = same.number; arrivals = same.arrivals; waiting = same.waiting }

pub barriers_other : (row : Row) → IsSound row → (repeated : Bool) (k m : ℕ) (p : Past) (reply : Reply) → (m == k) ≡ false → SameBarriers k p.events (events_after repeated row m p reply)
barriers_other row sound repeated k m p reply e = step_keeps row sound repeated m p reply (SameBarriers k p.events) (barriers_stay (gives_of row) reply k m p.events e) (same_barriers k p.events)

never_arrives : (can : Gives) → can.arrives ≡ false → (reply : Reply) (m : ℕ) (h : List Event) → LastKeeps can m reply (SameBarriers m h)
never_arrives can silent reply m h (Arrive barrier n tag) after by same = absurd (let arrives = by.1 in cc)
never_arrives can silent reply m h (Pass barrier n) after by same = absurd (let arrives = by.1 in cc)
never_arrives can silent reply m h _ after by same = record { number = same.number; arrivals = same.arrivals; waiting = same.waiting }

-- and by each of its own that does not arrive
pub barriers_own : (row : Row) → IsSound row → (repeated : Bool) (m : ℕ) (p : Past) (reply : Reply) → is_some row.arrives ≡ false → SameBarriers m p.events (events_after repeated row m p reply)
barriers_own row sound repeated m p reply silent = step_keeps row sound repeated m p reply (SameBarriers m p.events) (never_arrives (gives_of row) silent reply m p.events) (same_barriers m p.events)

unbroken_before : (can : Gives) (reply : Reply) (m : ℕ) (h : List Event) → LastKeeps can m reply (λ after. clash_of after ≡ None → clash_of h ≡ None)
unbroken_before can reply m h (Break n place) after by before = λ none. absurd (cc)
unbroken_before can reply m h _ after by before = before

-- a team that is not broken was not
pub was_whole : (row : Row) → IsSound row → (repeated : Bool) (m : ℕ) (p : Past) (reply : Reply) → clash_of (events_after repeated row m p reply) ≡ None → clash_of p.events ≡ None
was_whole row sound repeated m p reply = step_keeps row sound repeated m p reply (λ after. clash_of after ≡ None → clash_of p.events ≡ None) (unbroken_before (gives_of row) reply m p.events) (λ none. none)

-- Members that leave the region

-- whether a member does is left as it is by another's call
leaves_stays : (can : Gives) (reply : Reply) (k m : ℕ) (h : List Event) → (m == k) ≡ false → LastKeeps can m reply (λ after. leaves_region k after ≡ leaves_region k h)
leaves_stays can reply k m h e (See n kind) after by same = rw by.0 (rw e same)
leaves_stays can reply k m h e _ after by same = same

pub leaves_other : (row : Row) → IsSound row → (repeated : Bool) (k m : ℕ) (p : Past) (reply : Reply) → (m == k) ≡ false → leaves_region k (events_after repeated row m p reply) ≡ leaves_region k p.events
leaves_other row sound repeated k m p reply e = step_keeps row sound repeated m p reply (λ after. leaves_region k after ≡ leaves_region k p.events) (leaves_stays (gives_of row) reply k m p.events e) refl

-- one that does not after a call did not before it
stayed_before : (can : Gives) (reply : Reply) (m : ℕ) (h : List Event) → LastKeeps can m reply (λ after. leaves_region m after ≡ false → leaves_region m h ≡ false)
stayed_before can reply m h (See n kind) after by before = λ stays. before (or_false (n == m && same_cancel kind Parallel) (leaves_region m after) stays)
stayed_before can reply m h _ after by before = before

pub was_staying : (row : Row) → IsSound row → (repeated : Bool) (m : ℕ) (p : Past) (reply : Reply) → leaves_region m (events_after repeated row m p reply) ≡ false → leaves_region m p.events ≡ false
was_staying row sound repeated m p reply = step_keeps row sound repeated m p reply (λ after. leaves_region m after ≡ false → leaves_region m p.events ≡ false) (stayed_before (gives_of row) reply m p.events) (λ stays. stays)

-- Tasks

-- a member's tasks are left as they are by another's event
stack_stays : (can : Gives) (reply : Reply) (k m : ℕ) (h : List Event) → (m == k) ≡ false → LastKeeps can m reply (λ after. task_stack k after ≡ task_stack k h)
stack_stays can reply k m h e (Start task n) after by same = rw by.0 (rw e same)
stack_stays can reply k m h e (Done task n) after by same = rw by.0 (rw e same)
stack_stays can reply k m h e _ after by same = same

pub stack_other : (row : Row) → IsSound row → (repeated : Bool) (k m : ℕ) (p : Past) (reply : Reply) → (m == k) ≡ false → task_stack k (events_after repeated row m p reply) ≡ task_stack k p.events
stack_other row sound repeated k m p reply e = step_keeps row sound repeated m p reply (λ after. task_stack k after ≡ task_stack k p.events) (stack_stays (gives_of row) reply k m p.events e) refl

-- and by its own events of a call that neither runs a task nor ends one
starts_none : (can : Gives) (reply : Reply) (m : ℕ) (h : List Event) → is_run reply ≡ false → is_end reply ≡ false → LastKeeps can m reply (λ after. task_stack m after ≡ task_stack m h)
starts_none can reply m h run end (Start task n) after by same = absurd (let runs = by.1 in cc)
starts_none can reply m h run end (Done task n) after by same = absurd (let ends = by.1 in cc)
starts_none can reply m h run end _ after by same = same

pub stack_own : (row : Row) → IsSound row → (repeated : Bool) (m : ℕ) (p : Past) (reply : Reply) → is_run reply ≡ false → is_end reply ≡ false → task_stack m (events_after repeated row m p reply) ≡ task_stack m p.events
stack_own row sound repeated m p reply run end = step_keeps row sound repeated m p reply (λ after. task_stack m after ≡ task_stack m p.events) (starts_none (gives_of row) reply m p.events run end) refl

-- nor does a call start a task before its reply
begins_none : (can : Gives) (m : ℕ) (h : List Event) → OwnKeeps can m (λ after. task_stack m after ≡ task_stack m h)
begins_none can m h (Start task n) after own same = absurd own
begins_none can m h (Done task n) after own same = absurd own
begins_none can m h _ after own same = same

pub stack_begun : (row : Row) → IsSound row → (repeated : Bool) (m : ℕ) (p : Past) → task_stack m (begun_past repeated row m p).events ≡ task_stack m p.events
stack_begun row sound repeated m p = since_keeps row sound repeated m p (λ after. task_stack m after ≡ task_stack m p.events) (begins_none (gives_of row) m p.events) refl

-- What a call that waits relies on

-- it is left as it is by another member's event
lasts_by_another : (can : Gives) (reply : Reply) (members k m : ℕ) (row : Row) → (m == k) ≡ false → LastKeeps can m reply (λ now. Always (TeamRule members) now → Lasts row k now)
lasts_by_another can reply members k m row e (Hold key n task) h by kept = λ rules.
    let other : (n == k) ≡ false = rw by.0 e in
    let before = kept rules.1 in (
      before.0,
      (λ x is. (held_by_another_stays_held key x (asker k h) n task h (owner_of_another_member n k task (executed_task k h) other) ∙ (before.1 x is).0, (before.1 x is).1)),
      before.2,
    )
lasts_by_another can reply members k m row e (Free key n task) h by kept = λ rules.
    let other : (n == k) ≡ false = rw by.0 e in
    let before = kept rules.1 in (
      before.0,
      (λ x is. (held_by_another_stays_freed key x (asker k h) n task h rules.0 (owner_of_another_member n k task (executed_task k h) other) ∙ (before.1 x is).0, (before.1 x is).1)),
      before.2,
    )
lasts_by_another can reply members k m row e (Start task n) h by kept = λ rules.
    let other : (n == k) ≡ false = rw by.0 e in
    let before = kept rules.1 in ((λ arrives. rw other (before.0 arrives)), (λ x is. rw other (before.1 x is)), before.2)
lasts_by_another can reply members k m row e (Done task n) h by kept = λ rules.
    let other : (n == k) ≡ false = rw by.0 e in
    let before = kept rules.1 in ((λ arrives. rw other (before.0 arrives)), (λ x is. rw other (before.1 x is)), before.2)
lasts_by_another can reply members k m row e (See n kind) h by kept = λ rules.
    let other : (n == k) ≡ false = rw by.0 e in
    let before = kept rules.1 in (before.0, (λ x is. ((before.1 x is).0, rw other (before.1 x is).1)), before.2)
lasts_by_another can reply members k m row e _ h by kept = λ rules. kept rules.1

pub lasts_other : (row : Row) → IsSound row → (repeated : Bool) (members k m : ℕ) (p : Past) (reply : Reply) (waiting : Row) → (m == k) ≡ false → Always (TeamRule members) (events_after repeated row m p reply) → Lasts waiting k p.events →
    Lasts waiting k (events_after repeated row m p reply)
lasts_other row sound repeated members k m p reply waiting e rules lasts =
    step_keeps row sound repeated m p reply (λ now. Always (TeamRule members) now → Lasts waiting k now) (lasts_by_another (gives_of row) reply members k m waiting e) (λ before. lasts) rules

-- nor does one that is to wait see that the region is cancelled
sees_no_region : (n m : ℕ) (region leaves : Bool) → (region ≡ true → false ≡ true) → leaves ≡ false → (n == m && region || leaves) ≡ false
sees_no_region n m true leaves waits stays = absurd (let never = waits refl in cc)
sees_no_region n m false leaves waits stays = rw (and_false (n == m) false refl) stays

-- a call that is to wait holds and frees nothing, and starts and ends no task
lasts_while_waiting : (can : Gives) (m : ℕ) (row : Row) → LastKeeps can m Wait (Lasts row m)
lasts_while_waiting can m row (Hold key n task) h by lasts = absurd (let wait = by.2 in cc)
lasts_while_waiting can m row (Free key n task) h by lasts = absurd (let wait = by.2 in cc)
lasts_while_waiting can m row (Start task n) h by lasts = absurd (let wait = by.1 in cc)
lasts_while_waiting can m row (Done task n) h by lasts = absurd (let wait = by.1 in cc)
lasts_while_waiting can m row (See n kind) h by lasts = (lasts.0, (λ x is. ((lasts.1 x is).0, sees_no_region n m (same_cancel kind Parallel) (leaves_region m h) by.1 (lasts.1 x is).1)), lasts.2)
lasts_while_waiting can m row _ h by lasts = lasts

pub lasts_own : (row : Row) → IsSound row → (repeated : Bool) (m : ℕ) (p : Past) → Lasts row m p.events → Lasts row m (events_after repeated row m p Wait)
lasts_own row sound repeated m p lasts = step_keeps row sound repeated m p Wait (Lasts row m) (lasts_while_waiting (gives_of row) m row) lasts
