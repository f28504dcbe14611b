-- Worked examples, computed: what each call and each start is refused for.
use Rattle.std.proofs.Common.{◌≡◌, true, false, List, [], ◌∷◌, Some, None, refl}
use Rattle.std.specs.Prelude.{pos, map}
use Rattle.gomp_types.specs.declared.limits.Limits.{Limits}
use Rattle.gomp_types.specs.declared.loop_desc.EndKind.TheVariants.{Wait as WaitEnd, Nowait}
use Rattle.gomp_types.specs.declared.loop_desc.LoopDesc.{LoopDesc}
use Rattle.gomp_types.specs.declared.refusal.Refusal.TheVariants.{InsideShare, OutsideShare, InOrdered, ZeroStep, BadSections, TooManyShares, EndDiffers, NotDrained, Drained as DrainedAlready, NotOrdered, OrderedBackwards, NotInside, NotCancellable, Mismatch}
use Rattle.gomp_types.specs.Least.{least}
use Rattle.gomp_types.specs.Limits.{standard}
use Rattle.gomp_types.specs.Pieces.{shape_of}
use Rattle.gomp_types.specs.Sections.{sections_shape}
use Rattle.gomp_events.specs.declared.event.Event.{Event}
use Rattle.gomp_events.specs.declared.event.Event.TheVariants.{Enter, Take, Drained}
use Rattle.gomp_shares.specs.declared.admission.Construct.TheVariants.{Loop, Sections}
use Rattle.gomp_shares.specs.Examples.{events_of, ten, nine, no_step, took_one, told_none, in_the_part, in_cancellable}
use Rattle.gomp_team_shares.specs.declared.inside.InsideCall.{InsideCall}
use Rattle.gomp_team_shares.specs.declared.inside.InsideCall.TheVariants.{Next, EndNowait, BeginPart, EndPart, Cancel}
use Rattle.gomp_team_shares.specs.declared.start.ShareStart.{ShareStart}
use Rattle.gomp_team_shares.specs.declared.start.ShareStart.TheVariants as starts
use Rattle.gomp_team_shares.specs.Constructs.{construct_start_tests}
use Rattle.gomp_team_shares.specs.Inside.{inside_tests}

-- Calls inside a share

-- a member alone has a section, of three with no barrier at their end
abbrev pub in_nowait_sections : List Event
in_nowait_sections = Take 0 0 0 1 ∷ Enter 0 0 (sections_shape 3 Nowait) ∷ []

-- and is told that none is left
abbrev pub drained_sections : List Event
drained_sections = Drained 0 0 ∷ Take 0 0 2 3 ∷ Take 0 0 1 2 ∷ in_nowait_sections

-- the same of a loop with ten iterations
abbrev pub nowait_ten : LoopDesc
nowait_ten = record ten { end_kind = Nowait }

abbrev pub drained_loop : List Event
drained_loop = Drained 0 0 ∷ Enter 0 0 (shape_of nowait_ten) ∷ []

-- each call once
abbrev pub each_inside : List InsideCall
each_inside = Next Loop ∷ Next Sections ∷ EndNowait Loop ∷ EndNowait Sections ∷ BeginPart (pos 0) ∷ EndPart ∷ Cancel Loop true true ∷ Cancel Sections true true ∷ []

-- of a member outside of every share
pub refused_outside : map (λ (call : InsideCall). least (inside_tests call 0 [])) each_inside ≡
    Some OutsideShare ∷ Some OutsideShare ∷ Some OutsideShare ∷ Some OutsideShare ∷ Some OutsideShare ∷ Some NotInside ∷ Some OutsideShare ∷ Some OutsideShare ∷ []
refused_outside = refl

-- of one in a loop at whose end members wait
pub refused_in_a_loop : map (λ (call : InsideCall). least (inside_tests call 0 (events_of 2 took_one))) each_inside ≡
    None ∷ Some OutsideShare ∷ Some EndDiffers ∷ Some OutsideShare ∷ Some NotOrdered ∷ Some NotInside ∷ Some NotCancellable ∷ Some OutsideShare ∷ []
refused_in_a_loop = refl

-- of one in the first part of an ordered loop
pub refused_in_a_part : map (λ (call : InsideCall). least (inside_tests call 0 (events_of 2 in_the_part))) each_inside ≡
    Some InOrdered ∷ Some OutsideShare ∷ Some InOrdered ∷ Some OutsideShare ∷ Some InOrdered ∷ None ∷ Some NotCancellable ∷ Some OutsideShare ∷ []
refused_in_a_part = refl

-- of one that has its first section
pub refused_in_sections : map (λ (call : InsideCall). least (inside_tests call 0 in_nowait_sections)) each_inside ≡
    Some OutsideShare ∷ None ∷ Some OutsideShare ∷ Some NotDrained ∷ Some OutsideShare ∷ Some NotInside ∷ Some OutsideShare ∷ Some NotCancellable ∷ []
refused_in_sections = refl

-- one that is told that nothing is left asks no more, and may end
pub refused_when_drained :
    (least (inside_tests (Next Loop) 0 (events_of 2 told_none)) ≡ Some DrainedAlready)
    × (least (inside_tests (Next Sections) 0 drained_sections) ≡ Some DrainedAlready)
    × (least (inside_tests (EndNowait Sections) 0 drained_sections) ≡ None)
    × (least (inside_tests (EndNowait Loop) 0 drained_loop) ≡ None)
refused_when_drained = (refl, refl, refl, refl)

-- the part of the other member's piece is none of its own
pub refused_backwards :
    (least (inside_tests (BeginPart (pos 0)) 1 (events_of 2 in_the_part)) ≡ Some OrderedBackwards)
    × (least (inside_tests (BeginPart (pos 1)) 1 (events_of 2 in_the_part)) ≡ None)
refused_backwards = (refl, refl)

-- a loop that may be cancelled is named as one
pub cancels_a_loop_alone :
    (least (inside_tests (Cancel Loop false true) 0 in_cancellable) ≡ None) × (least (inside_tests (Cancel Sections false true) 0 in_cancellable) ≡ Some OutsideShare)
cancels_a_loop_alone = (refl, refl)

-- Starts

-- each construct once, and two that are refused by themselves
abbrev pub each_start : List ShareStart
each_start = starts.Loop ten ∷ starts.Sections 3 WaitEnd ∷ starts.Single ∷ starts.SingleCopy ∷ starts.Loop no_step ∷ starts.Sections 65537 WaitEnd ∷ []

-- no share is allowed
abbrev pub no_shares : Limits
no_shares = record standard { shares = 0 }

-- by a member in no share, while no share is open
pub refused_by_itself : map (λ (start : ShareStart). least (construct_start_tests start standard 0 [])) each_start ≡ None ∷ None ∷ None ∷ None ∷ Some ZeroStep ∷ Some BadSections ∷ []
refused_by_itself = refl

-- in a share
pub refused_in_a_share : map (λ (start : ShareStart). least (construct_start_tests start standard 0 (events_of 2 took_one))) each_start ≡
    Some InsideShare ∷ Some InsideShare ∷ Some InsideShare ∷ Some InsideShare ∷ Some InsideShare ∷ Some InsideShare ∷ []
refused_in_a_share = refl

-- beside another member that is in the loop
pub refused_beside_a_loop : map (λ (start : ShareStart). least (construct_start_tests start standard 1 (events_of 2 took_one))) (starts.Loop nine ∷ each_start) ≡
    Some Mismatch ∷ None ∷ Some Mismatch ∷ Some Mismatch ∷ Some Mismatch ∷ Some ZeroStep ∷ Some BadSections ∷ []
refused_beside_a_loop = refl

-- above the limit
pub refused_above_the_limit : map (λ (start : ShareStart). least (construct_start_tests start no_shares 0 [])) each_start ≡
    Some TooManyShares ∷ Some TooManyShares ∷ Some TooManyShares ∷ Some TooManyShares ∷ Some ZeroStep ∷ Some BadSections ∷ []
refused_above_the_limit = refl
