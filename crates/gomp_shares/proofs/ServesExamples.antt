-- What the calls of a member on its team's shares promise alike: for each line of that what it alone refuses.
use Rattle.std.proofs.Common.{◌≡◌, ℕ, false, List, [], ◌∷◌, refl, arith, ap}
use Rattle.std.specs.Prelude.{Ok, Err, length}
use Rattle.gomp_events.specs.declared.event.Event.{Event}
use Rattle.gomp_events.specs.declared.event.Event.TheVariants.{Enter, Drained, End}
use Rattle.gomp_types.specs.Singles.{single_shape}
use Rattle.gomp_types.specs.declared.refusal.Refusal.TheVariants.{NotInside, NotDrained}
use Rattle.gomp_types.specs.declared.reply.Reply.{Reply}
use Rattle.gomp_types.specs.declared.reply.Reply.TheVariants.{Wait, Finished, Refused}
use Rattle.gomp_shares.specs.Examples.{events_of, both_hold, in_the_part}
use Rattle.gomp_shares.specs.OrderedParts.{part_end_tests}
use Rattle.gomp_shares.specs.Serves.{LeavesConstruct, Serves, IsDone}
use Rattle.gomp_shares.specs.Starts.{left_at_once}

-- shares that are their list of events, beside a number of which no event says anything
abbrev Numbered : Type 0
Numbered = ℕ × List Event

abbrev stand_for : Numbered → List Event → Type 0
stand_for shares h = shares.1 ≡ h

-- shares that stand for nothing
abbrev for_none : Numbered → List Event → Type 0
for_none shares h = ⊥

-- any reply
abbrev anything : Reply → List Event → Type 0
anything reply h = Unit {0}

-- a member was told that nothing is left
abbrev told_one : List Event
told_one = Drained 0 0 ∷ Enter 0 0 (single_shape false) ∷ []

-- A call that answers a reply

-- a member leaves its share
pub served_end : Serves stand_for (0, told_one) (1, End 0 0 ∷ told_one) Finished IsDone (left_at_once 0)
served_end = record {
  known = (told_one, refl);
  answer = λ h is. refl;
  stands_for = λ h is. ap (left_at_once 0 Finished) is;
  kept = λ refusal is. absurd (cc);
  waits = λ is. absurd (cc);
}

-- the shares stand for some events
pub served_unknown : Serves for_none (0, []) (1, []) Finished IsDone (left_at_once 0) → ⊥
served_unknown served = served.known.1

-- the reply is one that may be given
pub served_by_another : Serves stand_for (0, []) (0, []) Wait IsDone (left_at_once 0) → ⊥
served_by_another served = absurd (let done = served.answer [] refl in cc)

-- a member that is told so has left
pub served_without_leaving : Serves stand_for (0, []) (0, []) Finished IsDone (left_at_once 0) → ⊥
served_without_leaving served = absurd (let after = served.stands_for [] refl in cc)

-- a refusal changes nothing, not even what no event says
pub served_refused_anew : Serves stand_for (0, []) (1, []) (Refused NotDrained) anything (left_at_once 0) → ⊥
served_refused_anew served = absurd (let same = served.kept NotDrained refl in let number = ap (λ (shares : Numbered). shares.0) same in omega arith)

-- nor does a wait
pub served_waits_anew : Serves stand_for (0, []) (1, []) Wait anything (left_at_once 0) → ⊥
served_waits_anew served = absurd (let same = served.waits refl in let number = ap (λ (shares : Numbered). shares.0) same in omega arith)

-- The end of a construct that has a part above the shares: here tested as the end of a part

-- a member that is in a part leaves
pub leaves_done : LeavesConstruct stand_for (0, events_of 2 in_the_part) (1, End 0 0 ∷ events_of 2 in_the_part) (Ok tt) part_end_tests 0
leaves_done = record {
  known = (events_of 2 in_the_part, refl);
  answer = λ h is. rw (← is) refl;
  stands_for = λ h is. rw (← is) refl;
  kept = λ refusal is. absurd (cc);
}

-- the shares stand for some events
pub leaves_unknown : LeavesConstruct for_none (0, []) (0, []) (Err NotInside) part_end_tests 0 → ⊥
leaves_unknown left = left.known.1

-- it does not leave if a test holds
pub leaves_though_refused : LeavesConstruct stand_for (0, events_of 2 both_hold) (0, End 0 0 ∷ events_of 2 both_hold) (Ok tt) part_end_tests 0 → ⊥
leaves_though_refused left = absurd (let done = left.answer (events_of 2 both_hold) refl in cc)

-- nor is it refused if none holds
pub leaves_not : LeavesConstruct stand_for (0, events_of 2 in_the_part) (0, events_of 2 in_the_part) (Err NotInside) part_end_tests 0 → ⊥
leaves_not left = absurd (let done = left.answer (events_of 2 in_the_part) refl in cc)

-- and it is refused by that test
pub leaves_refused_otherwise : LeavesConstruct stand_for (0, events_of 2 both_hold) (0, events_of 2 both_hold) (Err NotDrained) part_end_tests 0 → ⊥
leaves_refused_otherwise left = absurd (let done = left.answer (events_of 2 both_hold) refl in cc)

-- one that is told so has left
pub leaves_without_leaving : LeavesConstruct stand_for (0, events_of 2 in_the_part) (0, events_of 2 in_the_part) (Ok tt) part_end_tests 0 → ⊥
leaves_without_leaving left = absurd (let after = ap (λ (h : List Event). length h) (left.stands_for (events_of 2 in_the_part) refl) in omega arith)

-- and a refusal changes nothing
pub leaves_refused_anew : LeavesConstruct stand_for (0, events_of 2 both_hold) (1, events_of 2 both_hold) (Err NotInside) part_end_tests 0 → ⊥
leaves_refused_anew left = absurd (let same = left.kept NotInside refl in let number = ap (λ (shares : Numbered). shares.0) same in omega arith)
