-- What one write after another appends.
use Rattle.std.proofs.Common.{◌≡◌, ◌≤◌, ◌+◌, ◌-◌, ℕ, List, ◌++◌, Option, Some, None, length, ◌∙◌, ap, arith}
use Rattle.std.specs.Prelude.{take, drop}
use Rattle.std.specs.Io.KnownBytes.{Appends, Keeps}
use Rattle.std.proofs.Math.Seq.{take-add, take-append-add, take-length}
use Rattle.std.proofs.lemmas.List.{append_assoc, take_all, length-drop}
use Rattle.gomp_service.specs.Writing.{AppendsPrefix}

-- what two writes append is one behind the other
pub appended_twice : (before between after : Option (List ℕ)) (first second : List ℕ) → Appends before between first → Appends between after second → Appends before after (first ++ second)
appended_twice None between after first second one other = tt
appended_twice (Some xs) None after first second one other = absurd one
appended_twice (Some xs) (Some ys) None first second one other = absurd other
appended_twice (Some xs) (Some ys) (Some zs) first second one other = other ∙ ap (λ (all : List ℕ). all ++ second) one ∙ append_assoc xs first second

-- a write that fails appends nothing
pub appended_and_kept : (before between after : Option (List ℕ)) (bytes : List ℕ) → Appends before between bytes → Keeps between after → Appends before after bytes
appended_and_kept None between after bytes one kept = tt
appended_and_kept (Some xs) None after bytes one kept = absurd one
appended_and_kept (Some xs) (Some ys) None bytes one kept = absurd kept
appended_and_kept (Some xs) (Some ys) (Some zs) bytes one kept = kept ∙ one

-- a write of some of the bytes behind those that were written
pub more_is_written : (before between after : Option (List ℕ)) (bytes : List ℕ) (written count : ℕ) → written ≤ length bytes → Appends before between (take written bytes)
    → count ≤ length (take (length bytes - written) (drop written bytes)) → Appends between after (take count (take (length bytes - written) (drop written bytes)))
    → (written + count ≤ length bytes) × Appends before after (take (written + count) bytes)
more_is_written before between after bytes written count within first few second =
    let rest : take (length bytes - written) (drop written bytes) ≡ drop written bytes = take_all (length bytes - written) (drop written bytes) (let left = length-drop written bytes in omega (arith, left)) in
    let low = rw rest at few in
    let left = length-drop written bytes in (
      omega (arith, low, left, within),
      rw (take-add written count bytes) (appended_twice before between after (take written bytes) (take count (drop written bytes)) first (rw rest at second)),
    )

-- a prefix behind what was written before is a prefix of both
pub prefix_behind : (before between after : Option (List ℕ)) (first second : List ℕ) → Appends before between first → AppendsPrefix between after second → AppendsPrefix before after (first ++ second)
prefix_behind before between after first second one more = (length first + more.0, rw (take-append-add first second more.0) (appended_twice before between after first (take more.0 second) one more.1))

-- all of some bytes is a prefix of them
pub whole_is_prefix : (before after : Option (List ℕ)) (bytes : List ℕ) → Appends before after bytes → AppendsPrefix before after bytes
whole_is_prefix before after bytes written = (length bytes, rw (take-length bytes) written)
