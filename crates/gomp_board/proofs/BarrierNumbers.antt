-- A barrier's number is shown as it is while a board has its passes in its history.
use Rattle.std.proofs.Common.{◌≡◌, ℕ, ◌+◌, ◌<◌, ◌≤◌, Bool, true, false, List, [], ◌∷◌, length, arith}
use Rattle.std.specs.Prelude.{◌==◌, if◌then◌else◌}
use Rattle.gomp_events.specs.declared.event.Event.{Event}
use Rattle.gomp_events.specs.declared.event.Event.TheVariants.{Pass}
use Rattle.gomp_types.specs.Limits.{shown_number}
use Rattle.gomp_events.specs.Events.{barriers_passed}

one_more_at_most : (b : Bool) (n k : ℕ) → n ≤ k → (if b then n + 1 else n) ≤ k + 1
one_more_at_most true n k low = omega (arith, low)
one_more_at_most false n k low = omega (arith, low)

-- a member has passed no more barriers than there are events
pub passed_within : (m : ℕ) (h : List Event) → barriers_passed m h ≤ length h
passed_within m [] = omega arith
passed_within m (Pass barrier member ∷ earlier) = let low = one_more_at_most (member == m) (barriers_passed m earlier) (length earlier) (passed_within m earlier) in omega (arith, low)
passed_within m (_ ∷ earlier) = let low = passed_within m earlier in omega (arith, low)

-- a number below the largest is shown as it is, so one that is shown like it is the same
pub shown_exactly : (shown one other : ℕ) → shown ≡ shown_number one → shown ≡ shown_number other → other < 18446744073709551615 → shown ≡ one
shown_exactly shown one other as_one as_other small = omega (arith, as_one, as_other, small)
