-- The end of a share with a barrier, by a member's own seat: what its place finds is never a mismatch, and what it leaves.
use Rattle.std.proofs.Common.{◌≡◌, ◌≢◌, Option, Some, None, refl, sym, ◌∙◌}
use Rattle.std.specs.Prelude.{if◌then◌else◌, Bool, true, false}
use Rattle.gomp_types.specs.declared.loop_desc.EndKind.{EndKind}
use Rattle.gomp_types.specs.declared.refusal.Refusal.{Refusal}
use Rattle.gomp_types.specs.declared.refusal.Refusal.TheVariants.{Mismatch, NotDrained}
use Rattle.gomp_types.specs.Least.{least}
use Rattle.gomp_events.specs.declared.seen.Seen.{Seen}
use Rattle.gomp_shares.specs.declared.admission.Construct.{Construct}
use Rattle.gomp_shares.specs.declared.admission.Construct.TheVariants.{Loop, Sections}
use Rattle.gomp_shares.specs.Admission.{all_end_tests, end_tests_of}
use Rattle.gomp_team_calls.proofs.Found.{compares_nothing, end_never_mismatches, never_mismatch}
use Rattle.gomp_ring.specs.RingSeats.{SeatView}
use Rattle.gomp_seat_calls.specs.Ends.{EndsBy, FindsEnd, has_seen_end}
use Rattle.gomp_seat_calls.specs.Stays.{FindsRefusal}

-- what a member asks of its place is never a mismatch
pub asked_end_is_own : (construct : Construct) (kind : EndKind) (before now : SeatView) (place : Option Refusal) → FindsRefusal (all_end_tests construct kind) before place now → place ≢ Some Mismatch
asked_end_is_own construct kind before now place finds = λ is. end_never_mismatches construct kind before.member finds.events (sym finds.least_is ∙ is)

ends_compare_nothing : (construct : Construct) (kind : EndKind) (seen : Seen) → compares_nothing (end_tests_of construct kind seen) ≡ true
ends_compare_nothing Loop kind seen = refl
ends_compare_nothing Sections kind seen = refl

no_mismatch_by_end : (seen_end : Bool) (before now : SeatView) (place : Option Refusal) → EndsBy seen_end before place now → place ≢ Some Mismatch
no_mismatch_by_end true before now place ends = λ is. (let no : ◌≡◌ {A = Option Refusal} None (Some Mismatch) = sym ends.0 ∙ is in cc)
no_mismatch_by_end false before now place ends = λ is. of_look ends.cancelled (sym ends.found_is ∙ is)
  where
    of_look : (cancelled : Bool) → (if cancelled then None else Some NotDrained) ≡ Some Mismatch → ⊥
    of_look true e = cc
    of_look false e = cc

-- nor is what it finds by looking for the end of its share
pub found_end_is_own : (construct : Construct) (kind : EndKind) (before now : SeatView) (place : Option Refusal) → FindsEnd construct kind before place now → place ≢ Some Mismatch
found_end_is_own construct kind before now place finds = by_first (least (end_tests_of construct kind before.seen)) refl
  where
    by_first : (first : Option Refusal) → least (end_tests_of construct kind before.seen) ≡ first → place ≢ Some Mismatch
    by_first None none = no_mismatch_by_end (has_seen_end before.seen) before now place (finds.admitted none)
    by_first (Some refusal) some = λ is.
        never_mismatch (end_tests_of construct kind before.seen) (ends_compare_nothing construct kind before.seen) (some ∙ sym ((finds.refused refusal some).0) ∙ is)
