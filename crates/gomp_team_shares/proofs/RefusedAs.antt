-- The tests of a call stand in the order of their refusals' numbers, so that the first that holds is the least.
use Rattle.std.proofs.Common.{◌≡◌, ℕ, true, List, refl}
use Rattle.gomp_types.specs.declared.limits.Limits.{Limits}
use Rattle.gomp_types.proofs.LeastTests.{from}
use Rattle.gomp_events.specs.declared.event.Event.{Event}
use Rattle.gomp_events.specs.declared.seen.Seen.{Seen}
use Rattle.gomp_shares.specs.declared.admission.Construct.{Construct}
use Rattle.gomp_shares.specs.declared.admission.Construct.TheVariants.{Loop, Sections}
use Rattle.gomp_shares.specs.Admission.{next_tests_of}
use Rattle.gomp_shares.specs.Cancels.{cancel_place_tests}
use Rattle.gomp_shares.specs.Starts.{start_tests}
use Rattle.gomp_team_shares.specs.declared.start.ShareStart.{ShareStart}
use Rattle.gomp_team_shares.specs.declared.start.ShareStart.TheVariants.{Loop as LoopStart, Sections as SectionsStart, Single, SingleCopy}
use Rattle.gomp_team_shares.specs.Constructs.{construct_tests, construct_start_tests}
use Rattle.gomp_team_shares.specs.Inside.{construct_kind}

pub next_tests_rise : (construct : Construct) (seen : Seen) → from 0 (next_tests_of construct seen) ≡ true
next_tests_rise Loop seen = refl
next_tests_rise Sections seen = refl

pub cancel_tests_rise : (construct : Construct) (seen : Seen) → from 0 (cancel_place_tests (construct_kind construct) seen) ≡ true
cancel_tests_rise Loop seen = refl
cancel_tests_rise Sections seen = refl

pub construct_start_tests_rise : (start : ShareStart) (limits : Limits) (m : ℕ) (h : List Event) → from 0 (construct_start_tests start limits m h) ≡ true
construct_start_tests_rise (LoopStart loop) limits m h = refl
construct_start_tests_rise (SectionsStart count end_kind) limits m h = refl
construct_start_tests_rise Single limits m h = refl
construct_start_tests_rise SingleCopy limits m h = refl

pub construct_place_tests_rise : (start : ShareStart) (limits : Limits) (seen : Seen) → from 0 (start_tests (construct_tests start) limits seen) ≡ true
construct_place_tests_rise (LoopStart loop) limits seen = refl
construct_place_tests_rise (SectionsStart count end_kind) limits seen = refl
construct_place_tests_rise Single limits seen = refl
construct_place_tests_rise SingleCopy limits seen = refl
