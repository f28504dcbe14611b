use Rattle.std.proofs.Common.{◌≡◌, ◌≤◌, drop}
use Rattle.gomp_text.specs.Numbers.{digits_after}
use Rattle.gomp_text.proofs.numbers.unsigned.Given as goal

-- the digits so far write the number, which is not too large
abbrev pub invariant-loop-byte : goal.invariant-loop-byte
invariant-loop-byte l = record {
  so_far : digits_after l.number (drop l.byte-index l.word) ≡ digits_after 0 l.word;
  small : l.number ≤ l.most;
}
