-- A crew that was seen to have the threads of a team has enough of them.
use Rattle.std.proofs.Common.{ℕ, ◌≡◌, ◌≤◌, ◌+◌, ◌-◌, false, Result, Ok, Err, arith}
use Rattle.std.specs.Prelude.{OnOk, is_err, max}

pub enough_threads : {E : Type 0} (result : Result (Unit {0}) E) (before after size jobs : ℕ) → is_err result ≡ false → OnOk result (after ≡ max before (size - 1)) → jobs ≡ size → 1 ≤ size → jobs ≤ after + 1
enough_threads (Ok done) before after size jobs fine grown many some = omega (arith, grown, many, some)
enough_threads (Err error) before after size jobs fine grown many some = absurd (cc)
