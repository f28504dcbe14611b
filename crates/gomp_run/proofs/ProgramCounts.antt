-- How many programs a team has.
use Rattle.std.proofs.Common.{◌≡◌, ℕ, zero, suc, ◌+◌, length, refl, ap}
use Rattle.gomp_region.specs.declared.script.Script.{Script}
use Rattle.gomp_program.specs.Programs.{programs_from}

-- as many as it was made for
pub programs_counted : (script : Script) (line member count : ℕ) → length (programs_from script line member count) ≡ count
programs_counted script line member zero = refl
programs_counted script line member (suc count) = ap suc (programs_counted script line (member + 1) count)
