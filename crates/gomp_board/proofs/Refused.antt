-- A refusal by a test is the answer, and changes nothing, unless a construct differs.
use Rattle.std.proofs.Common.{◌≡◌, ◌≢◌, ℕ, ◌<◌, Bool, true, false, List, [], ◌∷◌, ◌++◌, Option, Some, None, refl, sym, ap, ◌∙◌, ◌-◌, arith, inl, inr}
use Rattle.std.specs.Prelude.{slice_index_or, slice_set, nat_le}
use Rattle.std.proofs.lemmas.Bool.{cases_Bool}
use Rattle.std.proofs.lemmas.Bool.Decides.{nat_tests}
use Rattle.std.proofs.lemmas.List.{set-get_or}
use Rattle.gomp_types.specs.declared.limits.Limits.{Limits}
use Rattle.gomp_types.specs.declared.refusal.Clash.{Clash}
use Rattle.gomp_types.specs.declared.refusal.Place.{Place}
use Rattle.gomp_types.specs.declared.refusal.Place.TheVariants.{Barrier as AtBarrier}
use Rattle.gomp_types.specs.declared.refusal.Refusal.{Refusal}
use Rattle.gomp_types.specs.declared.refusal.Refusal.TheVariants.{Mismatch, NoMemory}
use Rattle.gomp_types.specs.declared.reply.Reply.TheVariants.{Refused}
use Rattle.gomp_events.specs.declared.event.Arrival.{Arrival}
use Rattle.gomp_events.specs.declared.event.Arrival.TheVariants.{Barrier, ShareEnd, RegionEnd}
use Rattle.gomp_events.specs.declared.event.Event.{Event}
use Rattle.gomp_types.specs.RefusalTexts.{number_of}
use Rattle.gomp_types.specs.Limits.{shown_number}
use Rattle.gomp_events.specs.Events.{barriers_passed, clash_of}
use Rattle.gomp_types.specs.Tests.{Test}
use Rattle.gomp_events.specs.TaskCalls.{end_task_tests}
use Rattle.gomp_events.specs.CancelCalls.{cancel_tests, creates_covered}
use Rattle.gomp_events.specs.Breaks.{broken_tests}
use Rattle.gomp_events.proofs.BreakReadings.{no_other_refusal_breaks}
use Rattle.gomp_types.specs.Least.{least}
use Rattle.gomp_types.proofs.LeastRefutations.{lesser_is_either}
use Rattle.gomp_board.specs.declared.op.Op.{Op}
use Rattle.gomp_board.specs.declared.op.Op.TheVariants.{Create, AwaitOwn, EndTask, Taskwait, AwaitChildren, OpenGroup, EndGroup, AwaitGroup, Arrive, AwaitBarrier, Reserve, Put, Got, Cancel, Point, Break}
use Rattle.gomp_board.specs.declared.op.TeamCancel.{TeamCancel}
use Rattle.gomp_board.specs.Ops.{op_member_tests, region_end_tests, creation_room_tests, named_kind, given_back, op_gives_back, op_tests, op_refusal, op_place, OpAnswer}
use Rattle.gomp_board.specs.Boards.{BoardView, Stands, Performs, members_of, kept_by, op_room_after, kept_after}

-- No test is for want of memory

-- the numbers of these tests' refusals are lower than that of want of memory
abbrev AreLow : List Test → Type 0
AreLow [] = Unit {0}
AreLow (test ∷ tests) = (number_of test.1 < 37) × AreLow tests

low_of_both : (tests more : List Test) → AreLow tests → AreLow more → AreLow (tests ++ more)
low_of_both [] more all rest = rest
low_of_both (test ∷ tests) more all rest = (all.0, low_of_both tests more all.1 rest)

least_is_low : (tests : List Test) (found : Refusal) → AreLow tests → least tests ≡ Some found → number_of found < 37
least_is_low [] found all e = absurd (cc)
least_is_low ((true, refusal) ∷ tests) found all e =
    elim (lesser_is_either refusal found (least tests) e) [
      | inl same ↦ rw (← same) all.0
      | inr later ↦ least_is_low tests found all.1 later
    ]
least_is_low ((false, refusal) ∷ tests) found all e = least_is_low tests found all.1 e

broken_is_low : (clash : Option Clash) → AreLow (broken_tests clash)
broken_is_low None = tt
broken_is_low (Some clash) = (omega arith, tt)

end_is_low : (kind : Arrival) (leaving : Bool) (m : ℕ) (h : List Event) → AreLow (region_end_tests kind leaving m h)
end_is_low Barrier leaving m h = tt
end_is_low ShareEnd leaving m h = tt
end_is_low RegionEnd true m h = tt
end_is_low RegionEnd false m h = (omega arith, tt)

task_end_is_low : (leaving : Bool) (m : ℕ) (h : List Event) → AreLow (end_task_tests leaving m h)
task_end_is_low true m h = (omega arith, tt)
task_end_is_low false m h = (omega arith, (omega arith, tt))

creation_is_low : (covered : Bool) (limits : Limits) (room : ℕ) → AreLow (creation_room_tests covered limits room)
creation_is_low true limits room = tt
creation_is_low false limits room = (omega arith, tt)

cancel_is_low : (named : TeamCancel) (m : ℕ) (h : List Event) → AreLow (cancel_tests (named_kind named) m h)
cancel_is_low TeamCancel.Parallel m h = (omega arith, tt)
cancel_is_low TeamCancel.Taskgroup m h = (omega arith, (omega arith, (omega arith, tt)))

own_are_low : (limits : Limits) (room kept m : ℕ) (op : Op) (h : List Event) → AreLow (op_tests limits room kept m op h)
own_are_low limits room kept m (Create desc) h = (omega arith, (omega arith, (omega arith, (omega arith, creation_is_low (creates_covered m h) limits room))))
own_are_low limits room kept m AwaitOwn h = (omega arith, tt)
own_are_low limits room kept m (EndTask leaving) h = (omega arith, task_end_is_low leaving m h)
own_are_low limits room kept m (Taskwait items) h = (omega arith, (omega arith, tt))
own_are_low limits room kept m (AwaitChildren items) h = (omega arith, tt)
own_are_low limits room kept m OpenGroup h = (omega arith, (omega arith, tt))
own_are_low limits room kept m EndGroup h = (omega arith, (omega arith, tt))
own_are_low limits room kept m AwaitGroup h = (omega arith, tt)
own_are_low limits room kept m (Arrive tag leaving) h = (omega arith, (omega arith, low_of_both (region_end_tests tag.kind leaving m h) _ (end_is_low tag.kind leaving m h) (omega arith, (omega arith, tt))))
own_are_low limits room kept m AwaitBarrier h = (omega arith, tt)
own_are_low limits room kept m (Reserve more) h = (omega arith, (omega arith, (omega arith, tt)))
own_are_low limits room kept m (Put share words) h = (omega arith, (omega arith, (omega arith, tt)))
own_are_low limits room kept m (Got share words) h = (omega arith, (omega arith, tt))
own_are_low limits room kept m (Cancel named clause allowed) h = (omega arith, low_of_both (cancel_tests (named_kind named) m h) _ (cancel_is_low named m h) (omega arith, tt))
own_are_low limits room kept m (Point named allowed) h = (omega arith, cancel_is_low named m h)
own_are_low limits room kept m (Break place back) h = (omega arith, tt)

refusal_is_low : (limits : Limits) (room kept m : ℕ) (op : Op) (h : List Event) (found : Refusal) → op_refusal limits room kept m op h ≡ Some found → number_of found < 37
refusal_is_low limits room kept m op h found e =
    least_is_low (op_member_tests m h ++ op_tests limits room kept m op h) found (omega arith, low_of_both (broken_tests (clash_of h)) (op_tests limits room kept m op h) (broken_is_low (clash_of h)) (own_are_low limits room kept m op h)) e

-- so a refusal by a test is an answer
refusal_answers : (limits : Limits) (room kept members m : ℕ) (op : Op) (h : List Event) (found : Refusal) → op_refusal limits room kept m op h ≡ Some found → OpAnswer limits room kept members m op h (Refused found)
refusal_answers limits room kept members m op h NoMemory e = absurd (omega (arith, refusal_is_low limits room kept m op h NoMemory e))
refusal_answers limits room kept members m op h _ e = e

-- What a refusal changes

-- only a construct that differs gives room back
pub nothing_goes_back : (op : Op) (found : Refusal) (kept : ℕ) → found ≢ Mismatch → op_gives_back op found kept ≡ 0
nothing_goes_back (Break place back) Mismatch kept other = absurd (other refl)
nothing_goes_back (Break place back) _ kept other = refl
nothing_goes_back _ found kept other = refl

-- so of others all stays as it was
pub room_stays : (op : Op) (found : Refusal) (kept room : ℕ) → found ≢ Mismatch → op_room_after op kept (Refused found) room ≡ room
room_stays op found kept room other = let none = nothing_goes_back op found kept other in omega (arith, none)

pub kept_stays : (op : Op) (m : ℕ) (found : Refusal) (kept : List ℕ) → found ≢ Mismatch → kept_after op m (Refused found) kept ≡ kept
kept_stays op m found kept other =
    let none = nothing_goes_back op found (slice_index_or kept m 0) other in
    let same : slice_index_or kept m 0 - op_gives_back op found (slice_index_or kept m 0) ≡ slice_index_or kept m 0 = omega (arith, none) in
    ap (slice_set kept m) same ∙ set-get_or kept m 0

-- if nothing is to go back, nothing does
pub nothing_given_back : (kept : ℕ) → given_back 0 kept ≡ 0
nothing_given_back kept =
    elim (cases_Bool (nat_le 0 kept)) [
      | inl enough ↦ rw enough refl
      | inr little ↦ absurd (grind (arith, nat_tests, little))
    ]

pub op_refused : (op : Op) (m : ℕ) (board : BoardView) (found : Refusal) → ((h : List Event) → Stands board h → op_refusal board.limits board.room (kept_by m board) m op h ≡ Some found) → found ≢ Mismatch → Performs op m board board (Refused found)
op_refused op m board found refuses other = record {
  answer = λ h st. refusal_answers board.limits board.room (kept_by m board) (members_of board) m op h found (refuses h st);
  stands = λ h st. rw (no_other_refusal_breaks found m (op_place m op h) other) st;
  limits = refl;
  members = refl;
  room = sym (room_stays op found (kept_by m board) board.room other);
  kept = sym (kept_stays op m found board.kept other);
  same = λ refusal e differs. record { history = refl; room = refl; kept = refl; stands = λ h st. st; stood = λ h st. st };
  waits = λ wait. absurd (cc);
}

-- so a break that gives nothing back leaves the room, and what each member keeps
pub break_that_gives_nothing_back : (m : ℕ) (place : Place) (board after : BoardView) → Performs (Break place 0) m board after (Refused Mismatch) → (after.room ≡ board.room) × (after.kept ≡ board.kept)
break_that_gives_nothing_back m place board after performs =
    let none = nothing_given_back (kept_by m board) in
    let room = performs.room in
    let same : kept_by m board - given_back 0 (kept_by m board) ≡ kept_by m board = omega (arith, none) in
    (omega (arith, room, none), performs.kept ∙ ap (slice_set board.kept m) same ∙ set-get_or board.kept m 0)

-- the place of any operation but a break
pub place_of_others : (op : Op) (m : ℕ) (h : List Event) → ((place : Place) (back : ℕ) → op ≡ Break place back → ⊥) → op_place m op h ≡ AtBarrier (shown_number (barriers_passed m h))
place_of_others (Break place back) m h differs = absurd (differs place back refl)
place_of_others _ m h differs = refl

-- and the room that it gives back
pub others_give_nothing_back : (op : Op) (kept : ℕ) → ((place : Place) (back : ℕ) → op ≡ Break place back → ⊥) → op_gives_back op Mismatch kept ≡ 0
others_give_nothing_back (Break place back) kept differs = absurd (differs place back refl)
others_give_nothing_back _ kept differs = refl
