-- What a caller found, and what it finds by a member's place: never a mismatch, and nothing if the call is accepted.
use Rattle.std.proofs.Common.{◌≡◌, ◌≢◌, ℕ, Bool, true, false, List, [], ◌∷◌, Option, Some, None, refl, inl, inr}
use Rattle.std.specs.Prelude.{nat_le, nat_eq, not, ◌&&◌}
use Rattle.std.proofs.lemmas.Bool.{cases_Bool, cases_lt}
use Rattle.gomp_types.specs.declared.loop_desc.EndKind.{EndKind}
use Rattle.gomp_types.specs.declared.refusal.Refusal.{Refusal}
use Rattle.gomp_types.specs.declared.refusal.Refusal.TheVariants.{Mismatch}
use Rattle.gomp_types.specs.declared.reply.Reply.{Reply}
use Rattle.gomp_types.specs.RefusalTexts.{number_of}
use Rattle.gomp_types.specs.Tests.{Test}
use Rattle.gomp_types.specs.Least.{lesser, least}
use Rattle.gomp_types.proofs.Booleans.{and_left, and_right}
use Rattle.gomp_events.specs.declared.event.Event.{Event}
use Rattle.gomp_shares.specs.declared.admission.Construct.{Construct}
use Rattle.gomp_shares.specs.declared.admission.Construct.TheVariants.{Loop, Sections}
use Rattle.gomp_shares.specs.Admission.{all_end_tests}
use Rattle.gomp_board.specs.declared.op.Op.{Op}
use Rattle.gomp_board.specs.Boards.{Stands}
use Rattle.gomp_waits.specs.Waits.{WaitBoardView}
use Rattle.gomp_team_board.specs.Locked.{team_size, AnswersUnless}
use Rattle.gomp_team_board.proofs.FoundRefusals.{found_is_refused}
use Rattle.gomp_team_calls.specs.Arrivals.{IsAccepted}

-- Mismatch

pub lesser_of_others : (one other : Option Refusal) → one ≢ Some Mismatch → other ≢ Some Mismatch → lesser one other ≢ Some Mismatch
lesser_of_others None other a b = b
lesser_of_others (Some one) None a b = a
lesser_of_others (Some one) (Some other) a b = elim (cases_Bool (nat_le (number_of one) (number_of other))) [
  | inl below ↦ rw below a
  | inr above ↦ rw above b
]

-- whether none of these tests is a comparison with other members
abbrev pub compares_nothing : List Test → Bool
compares_nothing [] = true
compares_nothing (test ∷ tests) = not (nat_eq (number_of test.1) 35) && compares_nothing tests

other_refusal : (refusal : Refusal) → not (nat_eq (number_of refusal) 35) ≡ true → refusal ≢ Mismatch
other_refusal refusal other same = let mismatch = rw same at other in cc

pub never_mismatch : (tests : List Test) → compares_nothing tests ≡ true → least tests ≢ Some Mismatch
never_mismatch [] none is = cc
never_mismatch ((true, refusal) ∷ tests) none is =
    let own = other_refusal refusal (and_left (not (nat_eq (number_of refusal) 35)) (compares_nothing tests) none) in
    let later = never_mismatch tests (and_right (not (nat_eq (number_of refusal) 35)) (compares_nothing tests) none) in
    lesser_of_others (Some refusal) (least tests) (λ same. own (cc)) later is
never_mismatch ((false, refusal) ∷ tests) none is = never_mismatch tests (and_right (not (nat_eq (number_of refusal) 35)) (compares_nothing tests) none) is

pub end_never_mismatches : (construct : Construct) (kind : EndKind) (m : ℕ) (h : List Event) → least (all_end_tests construct kind m h) ≢ Some Mismatch
end_never_mismatches Loop kind m h = never_mismatch (all_end_tests Loop kind m h) refl
end_never_mismatches Sections kind m h = never_mismatch (all_end_tests Sections kind m h) refl

-- An operation that is not refused: its caller found nothing

pub accepted_finds_nothing : (found : Option Refusal) (op : Op) (m : ℕ) (view after : WaitBoardView) (reply : Reply) (h : List Event)
    → Stands view.board h → AnswersUnless found op m view after reply → IsAccepted reply → found ≡ None
accepted_finds_nothing None op m view after reply h st answers accepted = refl
accepted_finds_nothing (Some one) op m view after reply h st answers accepted = elim (cases_lt m (team_size view)) [
  | inl inside ↦ let (refusal, is, least) = found_is_refused one op m view after reply h inside st answers in absurd (accepted refusal is)
  | inr outside ↦ absurd (accepted _ (answers.bad_member outside))
]

pub lesser_is_none : (one other : Option Refusal) → lesser one other ≡ None → other ≡ None
lesser_is_none None other none = none
lesser_is_none (Some one) None none = refl
lesser_is_none (Some one) (Some other) none = elim (cases_Bool (nat_le (number_of one) (number_of other))) [
  | inl below ↦ absurd (let some : Some one ≡ None = rw below at none in cc)
  | inr above ↦ absurd (let some : Some other ≡ None = rw above at none in cc)
]
