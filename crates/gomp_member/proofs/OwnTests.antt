-- The tests that a member's own knowledge decides, in the order of their numbers.
use Rattle.std.proofs.Common.{◌≡◌, Bool, true, false, List, [], ◌∷◌, Some, None, refl, ◌∙◌}
use Rattle.std.specs.Prelude.{is_some, is_none, ◌&&◌, if◌then◌else◌}
use Rattle.gomp_types.specs.declared.call.Call.{Call}
use Rattle.gomp_types.specs.declared.call.Call.TheVariants.{Resume, Stop}
use Rattle.gomp_types.specs.declared.refusal.Refusal.TheVariants.{Ended, Waiting, Leaving, NotInside}
use Rattle.gomp_types.specs.Tests.{Test}
use Rattle.gomp_types.specs.Least.{lesser, least}
use Rattle.gomp_events.specs.Events.{has_left_region}
use Rattle.gomp_model.specs.Past.{Past}
use Rattle.gomp_model.specs.Row.{leaving_tests}
use Rattle.gomp_model.specs.Calls.{row_of}
use Rattle.gomp_events.specs.Cancels.{is_leaving}
use Rattle.std.specs.Prelude.{not}
use Rattle.gomp_member.specs.Own.{OwnView, own_meant}
use Rattle.gomp_member.specs.Refused.{leaves_by, leaves_something, own_refusal}
use Rattle.gomp_member.specs.Tests.{inside_region_tests, own_tests}

-- a test that holds, if its refusal comes before those of the others
holding_test_first : (b : Bool) (tests : List Test) → b ≡ true → lesser (Some Ended) (least tests) ≡ Some Ended → least ((b, Ended) ∷ tests) ≡ Some Ended
holding_test_first true tests holds first = first
holding_test_first false tests holds first = absurd (cc)

-- one that does not
failing_test_aside : (b : Bool) (tests : List Test) → b ≡ false → least ((b, Ended) ∷ tests) ≡ least tests
failing_test_aside false tests fails = refl
failing_test_aside true tests fails = absurd (cc)

-- the end of the region comes before a wait, a leave and a resume
ended_before_all : (waits leaves none : Bool) → lesser (Some Ended) (least ((waits, Waiting) ∷ (leaves, Leaving) ∷ (none, NotInside) ∷ [])) ≡ Some Ended
ended_before_all true true true = refl
ended_before_all true true false = refl
ended_before_all true false true = refl
ended_before_all true false false = refl
ended_before_all false true true = refl
ended_before_all false true false = refl
ended_before_all false false true = refl
ended_before_all false false false = refl

ended_before_resume : (none : Bool) → lesser (Some Ended) (least ((none, NotInside) ∷ [])) ≡ Some Ended
ended_before_resume none = ended_before_all false false none

ended_before_stop : (leaves none : Bool) → lesser (Some Ended) (least ((leaves, Leaving) ∷ (none, NotInside) ∷ [])) ≡ Some Ended
ended_before_stop leaves none = ended_before_all false leaves none

-- whether the member leaves something, and not by this call
abbrev does_not_leave : OwnView → Call → Past → Bool
does_not_leave own call p = is_leaving own.number p.events && not ((row_of (own_meant own call)).lets_leave own.number p.events)

-- of each call
ended_before_rest : (call : Call) (own : OwnView) (p : Past) → lesser (Some Ended) (least (inside_region_tests own call p)) ≡ Some Ended
ended_before_rest Resume own p = ended_before_resume (is_none (p.waits own.number).open_call)
ended_before_rest Stop own p = ended_before_stop (does_not_leave own Stop p) false
ended_before_rest call own p = ended_before_all (is_some (p.waits own.number).open_call) (does_not_leave own call p) false

-- a member that has passed the region's end is refused so
pub ended_answers : (call : Call) (own : OwnView) (p : Past) → has_left_region own.number p.events ≡ true → least (own_tests own call p) ≡ Some Ended
ended_answers call own p ended = holding_test_first _ (inside_region_tests own call p) ended (ended_before_rest call own p)

-- a wait comes before a leave and a resume
wait_before_all : (leaves none : Bool) → lesser (Some Waiting) (least ((leaves, Leaving) ∷ (none, NotInside) ∷ [])) ≡ Some Waiting
wait_before_all true true = refl
wait_before_all true false = refl
wait_before_all false true = refl
wait_before_all false false = refl

-- a call that waits refuses others than a resume and a stop
waiting_refuses : (call : Call) → (call ≡ Resume → ⊥) → (call ≡ Stop → ⊥) → (own : OwnView) (p : Past) → is_some (p.waits own.number).open_call ≡ true →
    least (inside_region_tests own call p) ≡ Some Waiting
waiting_refuses Resume resumes stops own p waits = absurd (resumes refl)
waiting_refuses Stop resumes stops own p waits = absurd (stops refl)
waiting_refuses call resumes stops own p waits = rw waits (wait_before_all (does_not_leave own call p) false)

pub waiting_answers : (call : Call) → (call ≡ Resume → ⊥) → (call ≡ Stop → ⊥) → (own : OwnView) (p : Past) → has_left_region own.number p.events ≡ false → is_some (p.waits own.number).open_call ≡ true →
    least (own_tests own call p) ≡ Some Waiting
waiting_answers call resumes stops own p inside waits = failing_test_aside _ (inside_region_tests own call p) inside ∙ waiting_refuses call resumes stops own p waits

-- without one a member that leaves something is refused so
last_test_aside : (leaves : Bool) → least ((leaves, Leaving) ∷ (false, NotInside) ∷ []) ≡ least ((leaves, Leaving) ∷ [])
last_test_aside true = refl
last_test_aside false = refl

leaving_alone : (call : Call) → (call ≡ Resume → ⊥) → (call ≡ Stop → ⊥) → (own : OwnView) (p : Past) → is_some (p.waits own.number).open_call ≡ false →
    least (inside_region_tests own call p) ≡ least (leaving_tests false (row_of call) own.number p)
leaving_alone Resume resumes stops own p waits = absurd (resumes refl)
leaving_alone Stop resumes stops own p waits = absurd (stops refl)
leaving_alone call resumes stops own p waits = rw waits (last_test_aside (does_not_leave own call p))

pub leaving_answers : (call : Call) → (call ≡ Resume → ⊥) → (call ≡ Stop → ⊥) → (own : OwnView) (p : Past) → has_left_region own.number p.events ≡ false → is_some (p.waits own.number).open_call ≡ false →
    least (own_tests own call p) ≡ least (leaving_tests false (row_of call) own.number p)
leaving_answers call resumes stops own p inside waits = failing_test_aside _ (inside_region_tests own call p) inside ∙ leaving_alone call resumes stops own p waits

-- a resume is refused if it has nothing to repeat
pub resume_answers : (own : OwnView) (p : Past) → has_left_region own.number p.events ≡ false → least (own_tests own Resume p) ≡ least ((is_none (p.waits own.number).open_call, NotInside) ∷ [])
resume_answers own p inside = failing_test_aside _ (inside_region_tests own Resume p) inside

-- a stop by nothing
leaving_stops : (b : Bool) → least ((b && false, Leaving) ∷ (false, NotInside) ∷ []) ≡ None
leaving_stops true = refl
leaving_stops false = refl

pub stop_answers : (own : OwnView) (p : Past) → has_left_region own.number p.events ≡ false → least (own_tests own Stop p) ≡ None
stop_answers own p inside = failing_test_aside _ (inside_region_tests own Stop p) inside ∙ leaving_stops (is_leaving own.number p.events)

-- By what it knows alone

-- a wait refuses,
pub waiting_is_known : (placed : Bool) (call : Call) → (call ≡ Resume → ⊥) → (call ≡ Stop → ⊥) → (own : OwnView) → own.ended ≡ false → is_some own.waits.open_call ≡ true → own_refusal placed own call ≡ Some Waiting
waiting_is_known placed Resume resumes stops own inside waits = absurd (resumes refl)
waiting_is_known placed Stop resumes stops own inside waits = absurd (stops refl)
waiting_is_known placed call resumes stops own inside waits = rw (inside, waits) refl

-- and without one what the member leaves
pub leaving_is_known : (placed : Bool) (call : Call) → (call ≡ Resume → ⊥) → (call ≡ Stop → ⊥) → (own : OwnView) → own.ended ≡ false → is_some own.waits.open_call ≡ false →
    own_refusal placed own call ≡ (if leaves_something own && not (leaves_by placed own call) then Some Leaving else None)
leaving_is_known placed Resume resumes stops own inside waits = absurd (resumes refl)
leaving_is_known placed Stop resumes stops own inside waits = absurd (stops refl)
leaving_is_known placed call resumes stops own inside waits = rw (inside, waits) refl
