-- The programs of a team, one member after another.
use Rattle.std.proofs.Common.{◌≡◌, ℕ, zero, suc, ◌+◌, [], ◌∷◌, ◌++◌, refl, ap, add-zero, arith}
use Rattle.gomp_region.specs.declared.script.Script.{Script}
use Rattle.gomp_program.specs.Programs.{program_from, programs_from}

-- one member more comes behind the others
pub programs_from_more : (script : Script) (line member count : ℕ) → programs_from script line member (suc count) ≡ programs_from script line member count ++ program_from script line (member + count) ∷ []
programs_from_more script line member zero = rw add-zero refl
programs_from_more script line member (suc count) =
    let next : (member + 1) + count ≡ member + suc count = omega arith in
    let later = programs_from_more script line (member + 1) count in
    ap (λ programs. program_from script line member ∷ programs) (rw next at later)
