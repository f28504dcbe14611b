-- A call and a start are never tested for anything else, nor has a share another shape: of any members, constructs, limits and events.
use Rattle.std.proofs.Common.{◌≢◌, ℕ, ℤ, Bool, true, false, List, [], refl}
use Rattle.gomp_types.specs.declared.cancel.CancelKind.TheVariants.{Loop as OfLoop, Sections as OfSections}
use Rattle.gomp_types.specs.declared.limits.Limits.{Limits}
use Rattle.gomp_types.specs.declared.loop_desc.EndKind.{EndKind}
use Rattle.gomp_types.specs.declared.loop_desc.EndKind.TheVariants.{Nowait}
use Rattle.gomp_types.specs.declared.loop_desc.LoopDesc.{LoopDesc}
use Rattle.gomp_types.specs.Iterations.{loop_tests}
use Rattle.gomp_types.specs.Pieces.{shape_of}
use Rattle.gomp_types.specs.Sections.{sections_shape, sections_tests}
use Rattle.gomp_types.specs.Singles.{single_shape}
use Rattle.gomp_events.specs.declared.event.Event.{Event}
use Rattle.gomp_events.specs.Seen.{seen_of}
use Rattle.gomp_shares.specs.declared.admission.Construct.{Construct}
use Rattle.gomp_shares.specs.declared.admission.Construct.TheVariants.{Loop, Sections}
use Rattle.gomp_shares.specs.Admission.{next_tests_of, all_end_tests}
use Rattle.gomp_shares.specs.Cancels.{cancel_place_tests}
use Rattle.gomp_shares.specs.OrderedParts.{part_tests, part_end_tests}
use Rattle.gomp_shares.specs.Starts.{share_tests}
use Rattle.gomp_team_shares.specs.declared.inside.InsideCall.TheVariants.{Next, EndNowait, BeginPart, EndPart, Cancel}
use Rattle.gomp_team_shares.specs.declared.start.ShareStart.{ShareStart}
use Rattle.gomp_team_shares.specs.declared.start.ShareStart.TheVariants as starts
use Rattle.gomp_team_shares.specs.Constructs.{construct_tests, construct_shape, construct_start_tests}
use Rattle.gomp_team_shares.specs.Inside.{construct_kind, inside_tests}

-- Calls inside a share

pub never_names_another_than_a_loop : construct_kind Loop ≢ OfLoop → ⊥
never_names_another_than_a_loop differs = differs refl

pub never_names_another_than_sections : construct_kind Sections ≢ OfSections → ⊥
never_names_another_than_sections differs = differs refl

pub no_other_test_of_a_next_piece : (construct : Construct) (m : ℕ) (h : List Event) → inside_tests (Next construct) m h ≢ next_tests_of construct (seen_of m h) → ⊥
no_other_test_of_a_next_piece construct m h differs = differs refl

pub no_other_test_of_an_end_nowait : (construct : Construct) (m : ℕ) (h : List Event) → inside_tests (EndNowait construct) m h ≢ all_end_tests construct Nowait m h → ⊥
no_other_test_of_an_end_nowait construct m h differs = differs refl

pub no_other_test_of_a_part_begun : (value : ℤ) (m : ℕ) (h : List Event) → inside_tests (BeginPart value) m h ≢ part_tests value (seen_of m h) → ⊥
no_other_test_of_a_part_begun value m h differs = differs refl

pub no_other_test_of_a_part_ended : (m : ℕ) (h : List Event) → inside_tests EndPart m h ≢ part_end_tests (seen_of m h) → ⊥
no_other_test_of_a_part_ended m h differs = differs refl

pub no_other_test_of_a_share_cancelled : (construct : Construct) (clause allowed : Bool) (m : ℕ) (h : List Event) → inside_tests (Cancel construct clause allowed) m h ≢ cancel_place_tests (construct_kind construct) (seen_of m h) → ⊥
no_other_test_of_a_share_cancelled construct clause allowed m h differs = differs refl

-- Starts: the construct by itself, and its shape

pub no_other_test_of_a_loop_itself : (loop : LoopDesc) → construct_tests (starts.Loop loop) ≢ loop_tests loop → ⊥
no_other_test_of_a_loop_itself loop differs = differs refl

pub no_other_test_of_sections_themselves : (count : ℕ) (kind : EndKind) → construct_tests (starts.Sections count kind) ≢ sections_tests count → ⊥
no_other_test_of_sections_themselves count kind differs = differs refl

pub never_a_test_of_a_single_itself : construct_tests starts.Single ≢ [] → ⊥
never_a_test_of_a_single_itself differs = differs refl

pub never_a_test_of_a_copy_itself : construct_tests starts.SingleCopy ≢ [] → ⊥
never_a_test_of_a_copy_itself differs = differs refl

pub never_another_shape_of_a_loop : (loop : LoopDesc) → construct_shape (starts.Loop loop) ≢ shape_of loop → ⊥
never_another_shape_of_a_loop loop differs = differs refl

pub never_another_shape_of_sections : (count : ℕ) (kind : EndKind) → construct_shape (starts.Sections count kind) ≢ sections_shape count kind → ⊥
never_another_shape_of_sections count kind differs = differs refl

pub never_another_shape_of_a_single : construct_shape starts.Single ≢ single_shape false → ⊥
never_another_shape_of_a_single differs = differs refl

pub never_another_shape_of_a_copy : construct_shape starts.SingleCopy ≢ single_shape true → ⊥
never_another_shape_of_a_copy differs = differs refl

pub no_other_test_of_a_start : (start : ShareStart) (limits : Limits) (m : ℕ) (h : List Event) → construct_start_tests start limits m h ≢ share_tests (construct_tests start) (construct_shape start) limits m h → ⊥
no_other_test_of_a_start start limits m h differs = differs refl
