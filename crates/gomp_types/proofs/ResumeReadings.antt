-- Which call a step makes, of every call and every wait.
use Rattle.std.proofs.Common.{◌≡◌, true, false, Option, Some, None, refl}
use Rattle.gomp_types.specs.declared.call.Call.{Call}
use Rattle.gomp_types.specs.declared.call.Call.TheVariants.{Resume}
use Rattle.gomp_types.specs.Resumes.{call_meant, is_resume}

-- a call that is no resume is meant itself, whatever waits
pub first_call_is_meant : (call : Call) (waiting : Option Call) → is_resume call ≡ false → call_meant call waiting ≡ call
first_call_is_meant Resume waiting first = absurd (cc)
first_call_is_meant _ waiting first = refl

-- a resume means the call that waits, and itself if none does
pub resume_means_what_waits : (waiting : Call) → (call_meant Resume (Some waiting) ≡ waiting) × (call_meant Resume None ≡ Resume)
resume_means_what_waits waiting = (refl, refl)

-- and it alone is one
pub only_a_resume_repeats : (call : Call) → is_resume call ≡ true → call ≡ Resume
only_a_resume_repeats Resume is = refl
only_a_resume_repeats _ is = absurd (cc)
