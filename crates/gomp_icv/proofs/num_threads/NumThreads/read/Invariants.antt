use Rattle.std.proofs.Common.{◌≡◌, ◌≤◌, ◌+◌, length}
use Rattle.std.specs.Prelude.{option_copied}
use Rattle.gomp_text.specs.Words.{parts_left}
use Rattle.gomp_icv.specs.Variables.{AreSizes, most_sizes}
use Rattle.gomp_icv.specs.EnvValues.{threads_of, sizes_of}
use Rattle.gomp_icv.proofs.Sizes.{left, kept_with}
use Rattle.gomp_icv.proofs.num_threads.NumThreads.read.Given as goal

-- what is kept so far, and what the parts that are left give
abbrev pub invariant-loop-rest : goal.invariant-loop-rest
invariant-loop-rest l = record {
  so_far : kept_with l.sizes.items (sizes_of (parts_left 44 (option_copied l.rest))) ≡ threads_of l.fn.value;
  sizes : AreSizes l.sizes.items;
  some : 1 ≤ length l.sizes.items + left (option_copied l.rest);
  few : length l.sizes.items ≤ most_sizes;
}

abbrev pub decreases-loop-rest : goal.decreases-loop-rest
decreases-loop-rest l = left (option_copied l.rest)
