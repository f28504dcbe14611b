-- What is printed of a script's region, and how its iterations are added up, of every report and sum; each refusal that a region itself gives, as it stands in a text.
use Rattle.std.proofs.Common.{◌≡◌, ℕ, ◌<◌, ◌≤◌, ◌^◌, List, [], ◌∷◌, ◌++◌, codes, refl, arith, sum_by}
use Rattle.std.specs.Prelude.{ℤ, pos, neg_ℤ}
use Rattle.std.specs.Fmt.{decimal, digits, signed_decimal}
use Rattle.gomp_types.specs.declared.refusal.Refusal.TheVariants.{NoMemory, TooManyLevels}
use Rattle.gomp_fork.specs.declared.report.RegionRefusal.{RegionRefusal}
use Rattle.gomp_fork.specs.declared.report.RegionRefusal.TheVariants.{Refused, Unsettled}
use Rattle.gomp_fork.specs.Reports.{refusal_text}
use Rattle.gomp_run.specs.Output.{refusal_line, report_text, taken_sum}

-- A report

-- three lines, each with its own number
pub report_has_three_lines : (threads taken : ℕ) (total : ℤ) →
    report_text threads total taken ≡ codes "threads " ++ (decimal threads ++ (codes "\ntotal " ++ (signed_decimal total ++ (codes "\ntaken " ++ (decimal taken ++ codes "\n")))))
report_has_three_lines threads taken total = refl

pub report_of_four_members_prints : report_text 4 (pos 145) 10 ≡ codes "threads 4\ntotal 145\ntaken 10\n"
unfolding digits
report_of_four_members_prints = refl

-- a total may be below 0
pub report_below_zero_prints : report_text 64 (neg_ℤ (pos 7)) 0 ≡ codes "threads 64\ntotal -7\ntaken 0\n"
unfolding digits
report_below_zero_prints = refl

-- Refusals

-- a refusal has a line of its own
pub refusal_has_its_line : (refusal : RegionRefusal) → refusal_line refusal ≡ codes "refused " ++ (refusal_text refusal ++ codes "\n")
refusal_has_its_line refusal = refl

-- a nested region is not served
pub region_of_many_levels_prints : refusal_line (Refused TooManyLevels) ≡ codes "refused E39 TooManyLevels\n"
unfolding digits
region_of_many_levels_prints = refl

-- memory or a thread is refused
pub region_without_memory_prints : refusal_line (Refused NoMemory) ≡ codes "refused E37 NoMemory\n"
unfolding digits
region_without_memory_prints = refl

-- a member has not passed the region's end
pub unsettled_region_prints : refusal_line Unsettled ≡ codes "refused E42 Unsettled\n"
unsettled_region_prints = refl

-- Sums of iterations

-- those of all members are added, below 2^128, and at its end the sum stays
pub iterations_of_all_are_added : (taken : List ℕ) → sum_by (λ n. n) taken < 2 ^ 128 → taken_sum taken ≡ sum_by (λ n. n) taken
iterations_of_all_are_added taken few = omega (arith, few)

pub sum_of_iterations_stays_at_the_largest : (taken : List ℕ) → 340282366920938463463374607431768211455 ≤ sum_by (λ n. n) taken → taken_sum taken ≡ 340282366920938463463374607431768211455
sum_of_iterations_stays_at_the_largest taken many = omega (arith, many)

-- of three members, and of none
pub iterations_of_three_are_added : taken_sum (3 ∷ 0 ∷ 7 ∷ []) ≡ 10
iterations_of_three_are_added = refl

pub no_members_have_no_iterations : taken_sum [] ≡ 0
no_members_have_no_iterations = refl
