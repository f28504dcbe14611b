-- The call that a call of a member means.
use Rattle.std.proofs.Common.{◌≡◌, false, refl}
use Rattle.gomp_types.specs.declared.call.Call.{Call}
use Rattle.gomp_types.specs.declared.call.Call.TheVariants.{Resume}
use Rattle.gomp_types.specs.Resumes.{is_resume}
use Rattle.gomp_member.specs.Own.{OwnView, own_meant}

-- a call that is no resume means itself
pub call_means_itself : (call : Call) (own : OwnView) → is_resume call ≡ false → own_meant own call ≡ call
call_means_itself Resume own first = absurd (cc)
call_means_itself call own first = refl
