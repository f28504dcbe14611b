-- What the grammar of nested lines refuses, whatever the lines, words and blocks around them.
use Rattle.std.proofs.Common.{◌≡◌, ◌≢◌, ℕ, ◌<◌, ◌≤◌, Bool, true, false, List, [], ◌∷◌, ◌++◌, length, get_or, refl, ap, subst, ◌∙◌, sym, suc, arith}
use Rattle.gomp_region.specs.declared.nesting.TheConstants.{MAX_BLOCKS}
use Rattle.gomp_region.specs.declared.script.ScriptLine.{ScriptLine}
use Rattle.gomp_region.specs.declared.statement.EndWord.{EndWord}
use Rattle.gomp_region.specs.declared.statement.EndWord.TheVariants.{EndSections, EndSection}
use Rattle.gomp_region.specs.declared.statement.Nesting.{Nesting}
use Rattle.gomp_region.specs.declared.statement.Nesting.TheVariants.{Begins, Ends, Stands}
use Rattle.gomp_region.specs.ScriptText.{nesting_of}
use Rattle.gomp_region.specs.BlockEnds.{EndsAt, HaveEnds}
use Rattle.gomp_region.specs.BlockGrammar.{WellNested, nothing, stands, block, has_sections, is_section}
use Rattle.gomp_region.proofs.EndLaws.{end_of_block}

-- a block of this word: it ends later by its word, what stands in it and behind it nests, and it stands where it may
abbrev BlockCloses : ℕ → Bool → EndWord → List ScriptLine → Type 0
BlockCloses outer sections word later =
    (body : List ScriptLine) × (last : ScriptLine) × (behind : List ScriptLine) × (later ≡ body ++ last ∷ behind) × (nesting_of last.statement ≡ Ends word)
    × WellNested (suc outer) (has_sections word) body × WellNested outer sections behind × (outer < MAX_BLOCKS) × (is_section word ≡ sections)

-- what lines that nest may begin with, by the first of them
abbrev FirstLine : ℕ → Bool → List ScriptLine → Nesting → Type 0
FirstLine outer sections later Stands = (sections ≡ false) × WellNested outer false later
FirstLine outer sections later (Begins word) = BlockCloses outer sections word later
FirstLine outer sections later (Ends word) = ⊥

first_of_nested : (outer : ℕ) (sections : Bool) (all : List ScriptLine) → WellNested outer sections all → (line : ScriptLine) (later : List ScriptLine) → all ≡ line ∷ later → FirstLine outer sections later (nesting_of line.statement)
first_of_nested outer sections all (nothing o s) line later is = absurd (cc)
first_of_nested outer sections all (stands o first rest alone nest) line later is =
    let same : first ≡ line = cc in
    let behind : rest ≡ later = cc in
    let here : Stands ≡ nesting_of line.statement = sym alone ∙ ap (λ (one : ScriptLine). nesting_of one.statement) same in
    subst (FirstLine o false later) here (refl, subst (λ (lines : List ScriptLine). WellNested o false lines) behind nest)
first_of_nested outer sections all (block o s word first last body rest less begins ends fits inner nest) line later is =
    let same : first ≡ line = cc in
    let behind : body ++ last ∷ rest ≡ later = cc in
    let here : Begins word ≡ nesting_of line.statement = sym begins ∙ ap (λ (one : ScriptLine). nesting_of one.statement) same in
    subst (FirstLine o s later) here (body, last, rest, sym behind, ends, inner, nest, less, fits)

-- the first line, by what it does to the blocks around it
first_so : (outer : ℕ) (sections : Bool) (line : ScriptLine) (later : List ScriptLine) (nesting : Nesting) → nesting_of line.statement ≡ nesting → WellNested outer sections (line ∷ later) → FirstLine outer sections later nesting
first_so outer sections line later nesting is nest = subst (FirstLine outer sections later) is (first_of_nested outer sections (line ∷ later) nest line later refl)

-- an end word without its block
pub lone_end_refused : (outer : ℕ) (sections : Bool) (word : EndWord) (line : ScriptLine) (later : List ScriptLine) → nesting_of line.statement ≡ Ends word → WellNested outer sections (line ∷ later) → ⊥
lone_end_refused outer sections word line later is nest = first_so outer sections line later (Ends word) is nest

-- a block that does not end
pub unclosed_block_refused : (outer : ℕ) (sections : Bool) (word : EndWord) (line : ScriptLine) (later : List ScriptLine) → nesting_of line.statement ≡ Begins word → ((body : List ScriptLine) (last : ScriptLine) (behind : List ScriptLine) → later ≡ body ++ last ∷ behind → nesting_of last.statement ≢ Ends word) → WellNested outer sections (line ∷ later) → ⊥
unclosed_block_refused outer sections word line later is none nest =
    let closes = first_so outer sections line later (Begins word) is nest in
    none closes.0 closes.1 closes.2 closes.3 closes.4

-- an empty block that another word ends
pub other_end_refused : (outer : ℕ) (sections : Bool) (word other : EndWord) (first last : ScriptLine) → nesting_of first.statement ≡ Begins word → nesting_of last.statement ≡ Ends other → word ≢ other → WellNested outer sections (first ∷ last ∷ []) → ⊥
other_end_refused outer sections word other first last begins ends differ nest =
    let closes = first_so outer sections first (last ∷ []) (Begins word) begins nest in
    ended_otherwise closes.0 closes.1 closes.2 closes.3 closes.4
  where
    ended_otherwise : (body : List ScriptLine) (found : ScriptLine) (behind : List ScriptLine) → last ∷ [] ≡ body ++ found ∷ behind → nesting_of found.statement ≡ Ends word → ⊥
    ended_otherwise [] found behind same closed =
        let here : last ≡ found = cc in
        let words : Ends word ≡ Ends other = sym closed ∙ ap (λ (one : ScriptLine). nesting_of one.statement) (sym here) ∙ ends in
        differ (cc)
    ended_otherwise (line ∷ []) found behind same closed = absurd (cc)
    ended_otherwise (line ∷ more ∷ body) found behind same closed = absurd (cc)

-- a block inside as many others as there may be
pub block_too_deep_refused : (outer : ℕ) (sections : Bool) (word : EndWord) (line : ScriptLine) (later : List ScriptLine) → MAX_BLOCKS ≤ outer → nesting_of line.statement ≡ Begins word → WellNested outer sections (line ∷ later) → ⊥
block_too_deep_refused outer sections word line later deep is nest =
    let closes = first_so outer sections line later (Begins word) is nest in
    let less = closes.7 in
    absurd (omega (arith, less, deep))

-- a section that does not stand directly in sections
pub section_outside_refused : (outer : ℕ) (line : ScriptLine) (later : List ScriptLine) → nesting_of line.statement ≡ Begins EndSection → WellNested outer false (line ∷ later) → ⊥
section_outside_refused outer line later is nest =
    let closes = first_so outer false line later (Begins EndSection) is nest in
    let fits = closes.8 in
    absurd (cc)

-- directly in sections, a block that is none
pub other_block_in_sections_refused : (outer : ℕ) (word : EndWord) (line : ScriptLine) (later : List ScriptLine) → is_section word ≡ false → nesting_of line.statement ≡ Begins word → WellNested outer true (line ∷ later) → ⊥
other_block_in_sections_refused outer word line later other is nest =
    let closes = first_so outer true line later (Begins word) is nest in
    let fits = closes.8 in
    absurd (cc)

-- and a statement without a block
pub statement_in_sections_refused : (outer : ℕ) (line : ScriptLine) (later : List ScriptLine) → nesting_of line.statement ≡ Stands → WellNested outer true (line ∷ later) → ⊥
statement_in_sections_refused outer line later is nest =
    let alone = (first_so outer true line later Stands is nest).0 in
    absurd (cc)

-- lines that do not nest, in a block or behind one
pub bad_body_refused : (outer : ℕ) (sections : Bool) (word : EndWord) (line : ScriptLine) (later : List ScriptLine) → nesting_of line.statement ≡ Begins word → ((body : List ScriptLine) → WellNested (suc outer) (has_sections word) body → ⊥) → WellNested outer sections (line ∷ later) → ⊥
bad_body_refused outer sections word line later is none nest =
    let closes = first_so outer sections line later (Begins word) is nest in
    none closes.0 closes.5

pub bad_rest_refused : (outer : ℕ) (sections : Bool) (line : ScriptLine) (later : List ScriptLine) → nesting_of line.statement ≡ Stands → (WellNested outer false later → ⊥) → WellNested outer sections (line ∷ later) → ⊥
bad_rest_refused outer sections line later is none nest = none (first_so outer sections line later Stands is nest).1

pub bad_lines_behind_block_refused : (outer : ℕ) (sections : Bool) (word : EndWord) (line : ScriptLine) (later : List ScriptLine) → nesting_of line.statement ≡ Begins word → ((behind : List ScriptLine) → WellNested outer sections behind → ⊥) → WellNested outer sections (line ∷ later) → ⊥
bad_lines_behind_block_refused outer sections word line later is none nest =
    let closes = first_so outer sections line later (Begins word) is nest in
    none closes.2 closes.6

-- the block of `sections` has sections alone, and any other block has none directly in it
pub sections_have_sections : (word : EndWord) → has_sections word ≡ true → word ≡ EndSections
sections_have_sections EndSections is = refl
sections_have_sections _ is = absurd (cc)

pub section_is_one : (word : EndWord) → is_section word ≡ true → word ≡ EndSection
section_is_one EndSection is = refl
section_is_one _ is = absurd (cc)

-- there may be 32 blocks inside each other
pub blocks_inside_each_other : MAX_BLOCKS ≡ 32
blocks_inside_each_other = refl

-- no block ends at its first line or before it
pub never_ends_before_it_begins : (lines : List ScriptLine) (ends : List ℕ) (index : ℕ) (line : ScriptLine) (word : EndWord) → HaveEnds lines ends → index < length lines → line ≡ get_or lines index line → nesting_of line.statement ≡ Begins word → get_or ends index 0 ≤ index → ⊥
never_ends_before_it_begins lines ends index line word have less here begins early = let later = (end_of_block lines ends index line word have less here begins).0 in absurd (omega (arith, later, early))

-- nor behind the last line
pub never_ends_behind_the_lines : (lines : List ScriptLine) (ends : List ℕ) (index : ℕ) (line : ScriptLine) (word : EndWord) → HaveEnds lines ends → index < length lines → line ≡ get_or lines index line → nesting_of line.statement ≡ Begins word → length lines ≤ get_or ends index 0 → ⊥
never_ends_behind_the_lines lines ends index line word have less here begins behind = let within = (end_of_block lines ends index line word have less here begins).1 in absurd (omega (arith, within, behind))

-- nor at a line that is not its end word
pub never_ends_by_another_word : (lines : List ScriptLine) (ends : List ℕ) (index : ℕ) (line : ScriptLine) (word : EndWord) → HaveEnds lines ends → index < length lines → line ≡ get_or lines index line → nesting_of line.statement ≡ Begins word → (EndsAt lines (get_or ends index 0) word → ⊥) → ⊥
never_ends_by_another_word lines ends index line word have less here begins wrong = wrong (end_of_block lines ends index line word have less here begins).2
