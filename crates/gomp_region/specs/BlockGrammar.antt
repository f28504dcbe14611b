-- Statements whose blocks nest, as a grammar: another way to say which lines make a script. (own)
use Rattle.std.specs.Prelude.{ℕ, ◌≡◌, ◌<◌, ◌++◌, Bool, true, false, List, [], ◌∷◌}
use Rattle.std.proofs.Common.{suc}
use Rattle.gomp_region.specs.declared.nesting.TheConstants.{MAX_BLOCKS}
use Rattle.gomp_region.specs.declared.script.ScriptLine.{ScriptLine}
use Rattle.gomp_region.specs.declared.statement.EndWord.{EndWord}
use Rattle.gomp_region.specs.declared.statement.EndWord.TheVariants.{EndSections, EndSection}
use Rattle.gomp_region.specs.declared.statement.Nesting.TheVariants.{Begins, Ends, Stands}
use Rattle.gomp_region.specs.ScriptText.{nesting_of}

-- whether the block that this word ends has sections alone
abbrev pub has_sections : EndWord → Bool
has_sections EndSections = true
has_sections _ = false

-- whether that block is a section
abbrev pub is_section : EndWord → Bool
is_section EndSection = true
is_section _ = false

-- lines inside so many blocks, of which the innermost has sections alone, or none directly in it: no line; a statement without a block, and such lines; or a block, whose lines are such lines too, and such lines
pub data WellNested : ℕ → Bool → List ScriptLine → Type 0 where
  nothing : (outer : ℕ) (sections : Bool) → WellNested outer sections []
  stands : (outer : ℕ) (line : ScriptLine) (later : List ScriptLine) → nesting_of line.statement ≡ Stands → WellNested outer false later → WellNested outer false (line ∷ later)
  block : (outer : ℕ) (sections : Bool) (word : EndWord) (first last : ScriptLine) (body later : List ScriptLine) → outer < MAX_BLOCKS → nesting_of first.statement ≡ Begins word → nesting_of last.statement ≡ Ends word → is_section word ≡ sections → WellNested (suc outer) (has_sections word) body → WellNested outer sections later → WellNested outer sections (first ∷ body ++ last ∷ later)
