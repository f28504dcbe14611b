-- Where the blocks of a script end, for what runs it. (own)
use Rattle.std.specs.Prelude.{ℕ, ◌≡◌, ◌<◌, List, length, slice_index}
use Rattle.std.specs.List.{HoldsAt}
use Rattle.gomp_region.specs.declared.script.ScriptLine.{ScriptLine}
use Rattle.gomp_region.specs.declared.statement.EndWord.{EndWord}
use Rattle.gomp_region.specs.declared.statement.Nesting.{Nesting}
use Rattle.gomp_region.specs.declared.statement.Nesting.TheVariants.{Begins, Ends}
use Rattle.gomp_region.specs.ScriptText.{nesting_of}

-- the line of this index is this end word
abbrev pub EndsAt : List ScriptLine → ℕ → EndWord → Type 0
EndsAt lines index word = HoldsAt (λ line. nesting_of line.statement ≡ Ends word) lines index

-- the end of a line of this index that nests so: a later line, of the word that ends its block; itself if it begins none
abbrev pub IsEndOf : List ScriptLine → ℕ → Nesting → ℕ → Type 0
IsEndOf lines index (Begins word) end = (index < end) × (end < length lines) × EndsAt lines end word
IsEndOf lines index _ end = end ≡ index

-- these are the ends of these lines, one for each
pub record HaveEnds (lines : List ScriptLine) (ends : List ℕ) : Type 0 where
  pub each : length ends ≡ length lines
  pub at : (index : ℕ) → index < length lines → HoldsAt (λ line. IsEndOf lines index (nesting_of line.statement) (slice_index ends index)) lines index
