-- What no seat's passage through a bare single is: what each clause of what the call tells forbids, of any seats and answers.
use Rattle.std.proofs.Common.{◌≡◌, ℕ, ◌-◌, ◌<◌, Bool, true, false, Option, Some, None, refl, ap, sym, subst, arith}
use Rattle.std.proofs.lemmas.Option.{none-some}
use Rattle.std.specs.Prelude.{◌==◌}
use Rattle.gomp_types.specs.declared.shape.Shape.{Shape}
use Rattle.gomp_types.specs.Singles.{single_shape}
use Rattle.gomp_events.specs.Events.{shape_at, has_room}
use Rattle.gomp_types.specs.Deals.{schedule}
use Rattle.gomp_events.specs.Laws.{Always}
use Rattle.gomp_events.specs.Seen.{seen_of}
use Rattle.gomp_events.specs.declared.seen.Seen.{Seen}
use Rattle.gomp_types.proofs.Booleans.{is_equal, not_both}
use Rattle.gomp_shares.specs.Calls.{taken_of}
use Rattle.gomp_shares.specs.Only.{own_of}
use Rattle.gomp_shares.specs.Rules.{ShareRule}
use Rattle.gomp_chunks.specs.Plans.{PlanView}
use Rattle.gomp_slots.specs.declared.opening.Delay.TheVariants.{NoRoom, BeingOpened}
use Rattle.gomp_slots.specs.declared.singles.Passage.{Passage}
use Rattle.gomp_slots.specs.declared.singles.Passage.TheVariants.{Passed, NotYet, Differs}
use Rattle.gomp_slots.specs.Calls.{events_through}
use Rattle.gomp_slots.proofs.SingleRefutations.{first_one_executes}
use Rattle.gomp_ring.specs.RingSeats.{SeatView, IsOfSingle, passed_seen, HasExecuted, SeatGoesThrough, SeatPasses, SeatPassesNext, may_enter}
use Rattle.gomp_ring.proofs.SeatRefutations.{no_seat_wait_for_an_entered_share, no_seat_differs_of_one_shape}

-- no passage is against the rule, after events that the seat does not know, or forgotten
pub no_seat_passage_against_the_rule : (b n : SeatView) (executes : Bool) (goes : SeatGoesThrough executes b n) → (Always (ShareRule (schedule b.members) b.members) (events_through executes b.seen.entered b.member goes.events) → ⊥) → ⊥
no_seat_passage_against_the_rule b n executes goes broken = broken goes.rule

pub no_seat_passage_after_unknown_events : (b n : SeatView) (executes : Bool) (goes : SeatGoesThrough executes b n) → (b.did ≡ own_of b.member goes.events → ⊥) → ⊥
no_seat_passage_after_unknown_events b n executes goes unknown = unknown goes.knows

pub no_seat_passage_is_forgotten : (b n : SeatView) (executes : Bool) → SeatGoesThrough executes b n → (n.did ≡ events_through executes b.seen.entered b.member b.did → ⊥) → ⊥
no_seat_passage_is_forgotten b n executes goes forgotten = forgotten goes.did

pub no_seat_passage_unseen : (b n : SeatView) (executes : Bool) → SeatGoesThrough executes b n → (n.seen ≡ seen_of b.member n.did → ⊥) → ⊥
no_seat_passage_unseen b n executes goes unseen = unseen goes.sees

-- or moves the seat to another ring, team or member
pub no_seat_passage_to_another_ring : (b n : SeatView) (executes : Bool) → SeatGoesThrough executes b n → (n.table ≡ b.table → ⊥) → ⊥
no_seat_passage_to_another_ring b n executes goes other = other goes.table

pub no_seat_passage_to_another_team : (b n : SeatView) (executes : Bool) → SeatGoesThrough executes b n → (n.members ≡ b.members → ⊥) → ⊥
no_seat_passage_to_another_team b n executes goes other = other goes.members

pub no_seat_passage_of_another_member : (b n : SeatView) (executes : Bool) → SeatGoesThrough executes b n → (n.member ≡ b.member → ⊥) → ⊥
no_seat_passage_of_another_member b n executes goes other = other goes.member

pub no_seat_passage_that_seats : (b n : SeatView) (executes : Bool) → SeatGoesThrough executes b n → (n.seated ≡ b.seated → ⊥) → ⊥
no_seat_passage_that_seats b n executes goes other = other goes.seated

-- no single is executed twice, and none by nobody
pub no_seat_executes_again : (b n : SeatView) (goes : SeatGoesThrough true b n) → (taken_of b.seen.entered goes.events ≡ 0 → ⊥) → ⊥
no_seat_executes_again b n goes taken = taken (none (taken_of b.seen.entered goes.events) (first_one_executes b.members b.member b.seen.entered true goes.events goes.rule))
  where
    none : (t : ℕ) → (t == 0) ≡ true → t ≡ 0
    none t e = is_equal t 0 e

pub no_seat_looks_on_first : (b n : SeatView) (goes : SeatGoesThrough false b n) → taken_of b.seen.entered goes.events ≡ 0 → ⊥
no_seat_looks_on_first b n goes none = not_both (taken_of b.seen.entered goes.events == 0) (ap (λ (t : ℕ). t == 0) none) (first_one_executes b.members b.member b.seen.entered false goes.events goes.rule)

-- no member goes through a share of another shape, or one without room, or is a stranger
pub no_seat_passage_through_another_share : (b n : SeatView) (executes : Bool) (other : Shape) (goes : SeatGoesThrough executes b n) → shape_at b.seen.entered goes.events ≡ Some other → (other ≡ single_shape false → ⊥) → ⊥
no_seat_passage_through_another_share b n executes other goes there differs = differs (goes.rule.1.1.0.same other there)

pub no_seat_passage_without_room : (b n : SeatView) (executes : Bool) (goes : SeatGoesThrough executes b n) → has_room b.members b.seen.entered goes.events ≡ false → ⊥
no_seat_passage_without_room b n executes goes full = not_both (has_room b.members b.seen.entered goes.events) goes.rule.1.1.0.room full

-- What the answer tells

pub no_seat_passed_without_a_passage : (b n : SeatView) (executes : Bool) → SeatPasses b (Passed executes) n → (SeatGoesThrough executes b n → ⊥) → ⊥
no_seat_passed_without_a_passage b n executes passes other = other passes

-- no seat waits for a single that others have entered, or for room where there is some, and the only one for no other
pub no_seat_waits_for_an_entered_single : (b n : SeatView) (other : Shape) (passes : SeatPasses b (NotYet NoRoom) n) → shape_at b.seen.entered passes.events ≡ Some other → ⊥
no_seat_waits_for_an_entered_single b n other passes there = no_seat_wait_for_an_entered_share b n false other passes there

pub no_seat_waits_for_a_single_with_room : (b n : SeatView) (passes : SeatPasses b (NotYet NoRoom) n) → has_room b.members b.seen.entered passes.events ≡ true → ⊥
no_seat_waits_for_a_single_with_room b n passes room = not_both (has_room b.members b.seen.entered passes.events) room passes.room_is

pub no_seat_waits_for_an_opener_of_an_entered_single : (b n : SeatView) (other : Shape) (passes : SeatPasses b (NotYet BeingOpened) n) → shape_at b.seen.entered passes.0.events ≡ Some other → ⊥
no_seat_waits_for_an_opener_of_an_entered_single b n other passes there = no_seat_wait_for_an_entered_share b n true other passes.0 there

pub no_seat_waits_for_an_opener_without_room : (b n : SeatView) (passes : SeatPasses b (NotYet BeingOpened) n) → has_room b.members b.seen.entered passes.0.events ≡ false → ⊥
no_seat_waits_for_an_opener_without_room b n passes full = not_both (has_room b.members b.seen.entered passes.0.events) passes.0.room_is full

pub no_only_seat_waits_for_an_opener : (b n : SeatView) → SeatPasses b (NotYet BeingOpened) n → b.seated ≡ 1 → ⊥
no_only_seat_waits_for_an_opener b n passes only = passes.1 only

-- none is told of another share where a single has been entered
pub no_seat_told_of_another_share_at_a_single : (b n : SeatView) (passes : SeatPasses b Differs n) → shape_at b.seen.entered passes.events ≡ Some (single_shape false) → ⊥
no_seat_told_of_another_share_at_a_single b n passes there = no_seat_differs_of_one_shape b n (single_shape false) passes there

-- and nothing changes but by a passage
pub no_change_of_a_seat_without_room_for_a_single : (b n : SeatView) → SeatPasses b (NotYet NoRoom) n → (n ≡ b → ⊥) → ⊥
no_change_of_a_seat_without_room_for_a_single b n passes changed = changed passes.same

pub no_change_of_a_seat_beside_an_opener_of_a_single : (b n : SeatView) → SeatPasses b (NotYet BeingOpened) n → (n ≡ b → ⊥) → ⊥
no_change_of_a_seat_beside_an_opener_of_a_single b n passes changed = changed passes.0.same

pub no_change_of_a_seat_at_another_share : (b n : SeatView) → SeatPasses b Differs n → (n ≡ b → ⊥) → ⊥
no_change_of_a_seat_at_another_share b n passes changed = changed passes.same

-- What a seat keeps: no plan is taken for that of a single that is another's
pub no_plan_of_another_share_for_a_single : (members : ℕ) (plan : PlanView) → IsOfSingle true members plan → (plan ≡ record { members = members; shape = single_shape false } → ⊥) → ⊥
no_plan_of_another_share_for_a_single members plan is other = other (is refl)

-- and no member for the executor of its last single that sees anything else, or is in its first eight shares
pub no_executor_that_sees_otherwise : (seen : Seen) → HasExecuted true seen → (seen ≡ passed_seen true (seen.entered - 1) → ⊥) → ⊥
no_executor_that_sees_otherwise seen has other = other (has refl).1

pub no_executor_of_the_first_shares : (seen : Seen) → HasExecuted true seen → seen.entered < 8 → ⊥
no_executor_of_the_first_shares seen has early = let late = (has refl).0 in omega arith

-- a member that may not enter a share goes through none, and nothing changes; one that may is answered, as it went through one or did not
pub no_passage_without_an_entry : (b n : SeatView) (answer : Passage) → may_enter b.seen ≡ false → SeatPassesNext (may_enter b.seen) b (Some answer) n → ⊥
no_passage_without_an_entry b n answer not_now passes = none-some answer (sym (subst (λ (may : Bool). SeatPassesNext may b (Some answer) n) not_now passes).0)

pub no_change_without_an_entry : (b n : SeatView) (answer : Option Passage) → may_enter b.seen ≡ false → SeatPassesNext (may_enter b.seen) b answer n → (n ≡ b → ⊥) → ⊥
no_change_without_an_entry b n answer not_now passes changed = changed (subst (λ (may : Bool). SeatPassesNext may b answer n) not_now passes).1

pub no_passage_unanswered : (b n : SeatView) → may_enter b.seen ≡ true → SeatPassesNext (may_enter b.seen) b None n → ⊥
no_passage_unanswered b n may passes = subst (λ (is : Bool). SeatPassesNext is b None n) may passes

pub no_passage_left_out : (b n : SeatView) (answer : Passage) → may_enter b.seen ≡ true → SeatPassesNext (may_enter b.seen) b (Some answer) n → (SeatPasses b answer n → ⊥) → ⊥
no_passage_left_out b n answer may passes out = out (subst (λ (is : Bool). SeatPassesNext is b (Some answer) n) may passes)
