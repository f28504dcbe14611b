-- The calls that a program makes most often are refused by nothing if the few tests that each has fail.
use Rattle.std.proofs.Common.{◌≡◌, ℕ, Bool, true, false, Option, Some, None, refl, sym, inl, inr}
use Rattle.std.specs.Prelude.{is_some, not}
use Rattle.gomp_types.specs.declared.call.Call.TheVariants.{LoopNext, Barrier, RegionEnd, Resume}
use Rattle.gomp_types.specs.declared.call.Step.{Step}
use Rattle.gomp_types.specs.Least.{least}
use Rattle.gomp_types.specs.Resumes.{is_resume}
use Rattle.gomp_model.specs.Past.{Past}
use Rattle.gomp_model.specs.Row.{leaving_tests, place_tests, board_tests, book_tests}
use Rattle.gomp_model.specs.Arrivals.{barrier_row, region_end_row}
use Rattle.gomp_model.specs.Loops.{loop_next_row}
use Rattle.gomp_model.specs.Team.{row_at, member_tests, wait_tests, refusal_of}
use Rattle.gomp_dispatch.specs.Admission.{PartsLet}
use Rattle.gomp_core.specs.Resolved.{step_by}
use Rattle.gomp_core.specs.Stands.{IsFree, WaitsOutside}
use Rattle.gomp_core.proofs.Refused.{step_refused}

-- no layer refuses the step
unrefused_so : (p : Past) (step : Step) → least (member_tests p.terms.members step.member p.events) ≡ None → least (wait_tests step.call (p.waits step.member).open_call) ≡ None → least (leaving_tests (is_resume step.call) (row_at p step) step.member p) ≡ None →
    least (place_tests (is_resume step.call) (row_at p step) step.member p) ≡ None → least (board_tests (is_resume step.call) (row_at p step) step.member p) ≡ None → least (book_tests (is_resume step.call) (row_at p step) step.member p) ≡ None → refusal_of p step ≡ None
unrefused_so p step member wait leaving place board book = sym (step_refused p step None None None None None (rw (member, wait) refl) (sym leaving) (sym place) (sym board) (sym book))

pub next_unrefused : (m : ℕ) (p : Past) → IsFree m p → PartsLet loop_next_row m p → refusal_of p (step_by m LoopNext) ≡ None
next_unrefused m p free parts = unrefused_so p (step_by m LoopNext) free.member (rw free.quiet refl) parts.leaving parts.place parts.board (rw free.nameless refl)

pub barrier_unrefused : (m : ℕ) (p : Past) → IsFree m p → PartsLet barrier_row m p → refusal_of p (step_by m Barrier) ≡ None
barrier_unrefused m p free parts = unrefused_so p (step_by m Barrier) free.member (rw free.quiet refl) parts.leaving parts.place parts.board (rw free.nameless refl)

pub region_end_unrefused : (m : ℕ) (p : Past) → IsFree m p → PartsLet region_end_row m p → refusal_of p (step_by m RegionEnd) ≡ None
region_end_unrefused m p free parts = unrefused_so p (step_by m RegionEnd) free.member (rw free.quiet refl) parts.leaving parts.place parts.board (rw free.nameless refl)

-- a member that waits at a barrier, or at the region's end, is not compared again
pub resume_unrefused : (m : ℕ) (p : Past) → least (member_tests p.terms.members m p.events) ≡ None → WaitsOutside (p.waits m).open_call → refusal_of p (step_by m Resume) ≡ None
resume_unrefused m p member waits =
    elim waits [
      | inl at_barrier ↦ unrefused_so p (step_by m Resume) member refl refl (rw at_barrier refl) refl (rw at_barrier refl)
      | inr at_end ↦ unrefused_so p (step_by m Resume) member refl refl (rw at_end refl) refl (rw at_end refl)
    ]

-- what is not there is none
pub nothing_open : {A : Type 0} (found : Option A) (some : Bool) → some ≡ is_some found → some ≡ false → found ≡ None
nothing_open None some is e = refl
nothing_open (Some call) some is e = absurd (cc)

pub false_if_not : (b : Bool) → not b ≡ true → b ≡ false
false_if_not true e = absurd (cc)
false_if_not false e = refl
