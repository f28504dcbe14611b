-- The internal control variables of a data environment, and their ranges. OpenMP API 5.2, chapter 2.
use Rattle.std.specs.Prelude.{ℕ, ℤ, pos, ◌≡◌, ◌≤◌, int_lt, Bool, false, List, [], ◌∷◌, length}
use Rattle.gomp_types.specs.declared.loop_desc.Sched.{Sched}
use Rattle.gomp_types.specs.declared.loop_desc.Sched.TheVariants.{Dynamic}
use Rattle.gomp_types.specs.Iterations.{is_runtime, max_chunk}

pub record Variables : Type 0 where
  -- dyn-var
  pub dynamic : Bool
  -- nthreads-var: the sizes of teams, the next one first
  pub nthreads : List ℕ
  -- run-sched-var: the schedule of a runtime loop, and its chunk; 0 is none
  pub sched : Sched
  pub chunk : ℤ
  -- max-active-levels-var
  pub max_active_levels : ℕ
  -- thread-limit-var
  pub thread_limit : ℕ
  -- cancel-var
  pub cancellation : Bool
  -- active-levels-var
  pub active : ℕ

-- the largest number that a variable may have, save a chunk and the active levels (own)
abbrev pub max_number : ℕ
max_number = 2147483647

-- the most sizes of teams that are kept (own)
abbrev pub most_sizes : ℕ
most_sizes = 4

-- each is the size of a team
abbrev pub AreSizes : List ℕ → Type 0
AreSizes [] = Unit {0}
AreSizes (size ∷ sizes) = (1 ≤ size) × (size ≤ max_number) × AreSizes sizes

-- one size or more, and no more than are kept
abbrev pub IsNumThreads : List ℕ → Type 0
IsNumThreads sizes = (1 ≤ length sizes) × (length sizes ≤ most_sizes) × AreSizes sizes

-- a chunk, or none, which is 0
abbrev pub IsChunk : ℤ → Type 0
IsChunk chunk = (int_lt chunk (pos 0) ≡ false) × (int_lt (pos max_chunk) chunk ≡ false)

-- a schedule that is not left to the control variables, and a chunk or none
abbrev pub IsSchedule : Sched → ℤ → Type 0
IsSchedule sched chunk = (is_runtime sched ≡ false) × (int_lt chunk (pos 0) ≡ false) × (int_lt (pos max_chunk) chunk ≡ false)

-- the ranges of the variables
pub record InRange (icv : Variables) : Type 0 where
  pub sizes : IsNumThreads icv.nthreads
  pub schedule : IsSchedule icv.sched icv.chunk
  pub levels : icv.max_active_levels ≤ max_number
  pub some_threads : 1 ≤ icv.thread_limit
  pub most_threads : icv.thread_limit ≤ max_number

-- what a program begins with (own)
abbrev pub initial : Variables
initial = record {
  dynamic = false;
  nthreads = 4 ∷ [];
  sched = Dynamic;
  chunk = pos 0;
  max_active_levels = 1;
  thread_limit = 64;
  cancellation = false;
  active = 0;
}

-- the first size of a list
abbrev pub outermost_size : List ℕ → ℕ
outermost_size [] = 1
outermost_size (size ∷ sizes) = size

-- a list without its first size, if it has more than one
abbrev pub without_first : List ℕ → List ℕ
without_first [] = []
without_first (size ∷ []) = size ∷ []
without_first (size ∷ next ∷ sizes) = next ∷ sizes
