-- The lines of a script nest, by the grammar.
use Rattle.std.proofs.Common.{◌≡◌, ℕ, ◌+◌, ◌<◌, Bool, true, false, not, List, [], ◌∷◌, ◌++◌, Option, Some, None, Result, Ok, Err, length, refl, ap, subst, ◌∙◌, sym, append_assoc, add-one, length-append, suc, arith}
use Rattle.std.specs.Prelude.{nat_lt, if◌then◌else◌}
use Rattle.std.proofs.lemmas.Bool.{ltb-true}
use Rattle.gomp_types.specs.Limits.{shown_number}
use Rattle.gomp_types.proofs.Booleans.{false_of_not}
use Rattle.gomp_script.specs.declared.parse.Why.{Why}
use Rattle.gomp_script.specs.StepText.{read_line}
use Rattle.gomp_region.specs.declared.nesting.OpenBlock.{OpenBlock}
use Rattle.gomp_region.specs.declared.nesting.TheConstants.{MAX_BLOCKS}
use Rattle.gomp_region.specs.declared.script.BadScript.{BadScript}
use Rattle.gomp_region.specs.declared.script.ScriptLine.{ScriptLine}
use Rattle.gomp_region.specs.declared.script.ScriptWhy.TheVariants.{NoOpenBlock, TooDeep}
use Rattle.gomp_region.specs.declared.statement.EndWord.{EndWord}
use Rattle.gomp_region.specs.declared.statement.EndWord.TheVariants.{EndFor, EndSections, EndSection, EndSingle, EndCopy, EndOrdered, EndCritical, EndTask, EndGroup, EndParallel, EndOnly}
use Rattle.gomp_region.specs.declared.statement.Nesting.{Nesting}
use Rattle.gomp_region.specs.declared.statement.Nesting.TheVariants.{Begins, Ends, Stands}
use Rattle.gomp_region.specs.declared.statement.Statement.{Statement}
use Rattle.gomp_region.specs.ScriptText.{ends_innermost, inside_then, line_nested, line_then, lines_inside, may_stand, nesting_of, open_behind, same_end_word, statement_of, statements_from, with_lines}
use Rattle.gomp_region.specs.BlockGrammar.{WellNested, nothing, stands, block, has_sections, is_section}

-- whether the innermost of these blocks has sections alone
abbrev has_sections_inside : List OpenBlock → Bool
has_sections_inside [] = false
has_sections_inside (around ∷ blocks) = has_sections around.end

-- lines that end these open blocks, each after lines of its own, and then go on outside of them
abbrev Closes : List OpenBlock → List ScriptLine → Type 0
Closes [] lines = WellNested 0 false lines
Closes (around ∷ blocks) lines =
    (body : List ScriptLine) × (last : ScriptLine) × (later : List ScriptLine) × (lines ≡ body ++ last ∷ later) × (nesting_of last.statement ≡ Ends around.end) × WellNested (length (around ∷ blocks)) (has_sections around.end) body × Closes blocks later

-- a statement without a block in front of them
with_stand : (blocks : List OpenBlock) (line : ScriptLine) (lines : List ScriptLine) → nesting_of line.statement ≡ Stands → has_sections_inside blocks ≡ false → Closes blocks lines → Closes blocks (line ∷ lines)
with_stand [] line lines is none closed = stands 0 line lines is closed
with_stand (around ∷ blocks) line lines is none closed =
    let body : WellNested (length (around ∷ blocks)) (has_sections around.end) (line ∷ closed.0) = rw none (stands (length (around ∷ blocks)) line closed.0 is (rw none at closed.5)) in
    (line ∷ closed.0, closed.1, closed.2, ap (λ (all : List ScriptLine). line ∷ all) closed.3, closed.4, body, closed.6)

-- the end of a block
with_end : (around : OpenBlock) (blocks : List OpenBlock) (line : ScriptLine) (lines : List ScriptLine) → nesting_of line.statement ≡ Ends around.end → Closes blocks lines → Closes (around ∷ blocks) (line ∷ lines)
with_end around blocks line lines is closed = ([], line, lines, refl, is, nothing (length (around ∷ blocks)) (has_sections around.end), closed)

-- the beginning of one
with_begin : (number : ℕ) (word : EndWord) (blocks : List OpenBlock) (first : ScriptLine) (lines : List ScriptLine) → length blocks < MAX_BLOCKS → nesting_of first.statement ≡ Begins word → is_section word ≡ has_sections_inside blocks → Closes (record { end = word; line = number } ∷ blocks) lines → Closes blocks (first ∷ lines)
with_begin number word [] first lines less is fits closed = rw closed.3 (block 0 false word first closed.1 closed.0 closed.2 less is closed.4 fits closed.5 closed.6)
with_begin number word (around ∷ blocks) first lines less is fits closed =
    let outer = closed.6 in
    let body = closed.0 in
    let all : first ∷ lines ≡ (first ∷ body ++ closed.1 ∷ outer.0) ++ outer.1 ∷ outer.2 = ap (λ (rest : List ScriptLine). first ∷ rest) (closed.3 ∙ ap (λ (rest : List ScriptLine). body ++ closed.1 ∷ rest) outer.3 ∙ sym (append_assoc body (closed.1 ∷ outer.0) (outer.1 ∷ outer.2))) in
    (first ∷ body ++ closed.1 ∷ outer.0, outer.1, outer.2, all, outer.4, block (length (around ∷ blocks)) (has_sections around.end) word first closed.1 body outer.0 less is closed.4 fits closed.5 outer.5, outer.6)

-- Places

sections_same : (word : EndWord) → same_end_word EndSections word ≡ has_sections word
sections_same EndSections = refl
sections_same _ = refl

inside_same : (blocks : List OpenBlock) → ends_innermost EndSections blocks ≡ has_sections_inside blocks
inside_same [] = refl
inside_same (around ∷ blocks) = sections_same around.end

none_inside : (blocks : List OpenBlock) → not (ends_innermost EndSections blocks) ≡ true → has_sections_inside blocks ≡ false
none_inside blocks may = false_of_not (has_sections_inside blocks) (rw (inside_same blocks) at may)

fits_inside : (word : EndWord) (blocks : List OpenBlock) → may_stand (Begins word) blocks ≡ true → is_section word ≡ has_sections_inside blocks
fits_inside EndSection blocks may = sym may ∙ inside_same blocks
fits_inside _ blocks may = sym (none_inside blocks may)

same_word_is : (one other : EndWord) → same_end_word one other ≡ true → one ≡ other
same_word_is EndFor EndFor same = refl
same_word_is EndSections EndSections same = refl
same_word_is EndSection EndSection same = refl
same_word_is EndSingle EndSingle same = refl
same_word_is EndCopy EndCopy same = refl
same_word_is EndOrdered EndOrdered same = refl
same_word_is EndCritical EndCritical same = refl
same_word_is EndTask EndTask same = refl
same_word_is EndGroup EndGroup same = refl
same_word_is EndParallel EndParallel same = refl
same_word_is EndOnly EndOnly same = refl
same_word_is _ _ same = absurd (cc)

-- Lines

abbrev Later : Type 0
Later = List OpenBlock → Result (List ScriptLine) BadScript

-- the lines behind close what is open behind the first
abbrev ClosesLater : Later → Type 0
ClosesLater later = (inside : List OpenBlock) (lines : List ScriptLine) → later inside ≡ Ok lines → Closes inside lines

-- what stands behind a line that is kept
pub behind_line : (line : ScriptLine) (read : Result (List ScriptLine) BadScript) (lines : List ScriptLine) → with_lines (line ∷ []) read ≡ Ok lines → (later : List ScriptLine) × (read ≡ Ok later) × (line ∷ later ≡ lines)
behind_line line (Ok later) lines is = (later, refl, cc)
behind_line line (Err bad) lines is = absurd (cc)

pub behind_none : (read : Result (List ScriptLine) BadScript) (lines : List ScriptLine) → with_lines [] read ≡ Ok lines → read ≡ Ok lines
behind_none (Ok later) lines is = is
behind_none (Err bad) lines is = absurd (cc)

abbrev at_line : ℕ → Statement → ScriptLine
at_line number statement = record { number = number; statement = statement }

closes_kept : (number : ℕ) (statement : Statement) (blocks behind : List OpenBlock) (later : Later) (lines : List ScriptLine) → ((rest : List ScriptLine) → Closes behind rest → Closes blocks (at_line number statement ∷ rest)) → ClosesLater later → with_lines (at_line number statement ∷ []) (later behind) ≡ Ok lines → Closes blocks lines
closes_kept number statement blocks behind later lines adds closed is =
    let found = behind_line (at_line number statement) (later behind) lines is in
    subst (λ (all : List ScriptLine). Closes blocks all) found.2 (adds found.0 (closed behind found.0 found.1))

closes_begin : (deep : Bool) (number : ℕ) (statement : Statement) (word : EndWord) (blocks : List OpenBlock) (later : Later) (lines : List ScriptLine) → nat_lt (length blocks) MAX_BLOCKS ≡ deep → nesting_of statement ≡ Begins word → is_section word ≡ has_sections_inside blocks → ClosesLater later → line_then number (Ok (Some statement)) (if deep then Ok (record { end = word; line = number } ∷ blocks) else Err TooDeep) later ≡ Ok lines → Closes blocks lines
closes_begin true number statement word blocks later lines less is fits closed read =
    closes_kept number statement blocks (record { end = word; line = number } ∷ blocks) later lines (λ rest inner. with_begin number word blocks (at_line number statement) rest (ltb-true (length blocks) MAX_BLOCKS less) is fits inner) closed read
closes_begin false number statement word blocks later lines less is fits closed read = absurd (cc)

closes_open : (number : ℕ) (statement : Statement) (nesting : Nesting) (blocks : List OpenBlock) (later : Later) (lines : List ScriptLine) → nesting_of statement ≡ nesting → may_stand nesting blocks ≡ true → ClosesLater later → line_then number (Ok (Some statement)) (open_behind number nesting blocks) later ≡ Ok lines → Closes blocks lines
closes_open number statement (Begins word) blocks later lines is may closed read =
    closes_begin (nat_lt (length blocks) MAX_BLOCKS) number statement word blocks later lines refl is (fits_inside word blocks may) closed read
closes_open number statement (Ends word) [] later lines is may closed read = absurd (cc)
closes_open number statement (Ends word) (around ∷ blocks) later lines is may closed read =
    let ends = is ∙ ap Ends (same_word_is word around.end may) in
    closes_kept number statement (around ∷ blocks) blocks later lines (λ rest outer. with_end around blocks (at_line number statement) rest ends outer) closed read
closes_open number statement Stands blocks later lines is may closed read =
    closes_kept number statement blocks blocks later lines (λ rest inner. with_stand blocks (at_line number statement) rest is (none_inside blocks may) inner) closed read

closes_may : (may : Bool) (number : ℕ) (statement : Statement) (nesting : Nesting) (blocks : List OpenBlock) (later : Later) (lines : List ScriptLine) → nesting_of statement ≡ nesting → may_stand nesting blocks ≡ may → ClosesLater later → line_then number (Ok (Some statement)) (if may then open_behind number nesting blocks else Err NoOpenBlock) later ≡ Ok lines → Closes blocks lines
closes_may true number statement nesting blocks later lines is may closed read = closes_open number statement nesting blocks later lines is may closed read
closes_may false number statement nesting blocks later lines is may closed read = absurd (cc)

closes_line : (number : ℕ) (said : Result (Option Statement) Why) (blocks : List OpenBlock) (later : Later) (lines : List ScriptLine) → ClosesLater later → line_then number said (line_nested number said blocks) later ≡ Ok lines → Closes blocks lines
closes_line number (Err why) blocks later lines closed read = absurd (cc)
closes_line number (Ok None) blocks later lines closed read = closed blocks lines (behind_none (later blocks) lines read)
closes_line number (Ok (Some statement)) blocks later lines closed read = closes_may (may_stand (nesting_of statement) blocks) number statement (nesting_of statement) blocks later lines refl refl closed read

closes_lines : (texts : List (List ℕ)) (number : ℕ) (blocks : List OpenBlock) (lines : List ScriptLine) → statements_from number blocks texts ≡ Ok lines → Closes blocks lines
closes_lines [] number [] lines read =
    let none : [] ≡ lines = cc in
    subst (λ (all : List ScriptLine). WellNested 0 false all) none (nothing 0 false)
closes_lines [] number (around ∷ blocks) lines read = absurd (cc)
closes_lines (text ∷ texts) number blocks lines read =
    closes_line number (read_line statement_of text) blocks (λ (inside : List OpenBlock). statements_from (shown_number (number + 1)) inside texts) lines (λ inside rest is. closes_lines texts (shown_number (number + 1)) inside rest is) read

-- the statements of a script nest
pub statements_nest : (texts : List (List ℕ)) (number : ℕ) (lines : List ScriptLine) → statements_from number [] texts ≡ Ok lines → WellNested 0 false lines
statements_nest texts number lines read = closes_lines texts number [] lines read

-- Where blocks end

one_more_inside : (depth : ℕ) (line : ScriptLine) (lines : List ScriptLine) (nesting : Nesting) → nesting_of line.statement ≡ nesting → lines_inside depth (line ∷ lines) ≡ inside_then depth nesting (λ inner. lines_inside inner lines)
one_more_inside depth line lines nesting is = rw is refl

-- lines that nest are passed as a whole
inside_nested : (rest : List ScriptLine) (outer : ℕ) (sections : Bool) (body : List ScriptLine) → WellNested outer sections body → (depth : ℕ) → lines_inside depth (body ++ rest) ≡ length body + lines_inside depth rest
inside_nested rest outer sections body (nothing o s) depth = omega arith
inside_nested rest outer sections body (stands o line later is nest) depth =
    one_more_inside depth line (later ++ rest) Stands is ∙ ap (λ (n : ℕ). n + 1) (inside_nested rest o false later nest depth) ∙ omega arith
inside_nested rest outer sections body (block o s word first last lines later less begins ends fits inner nest) depth =
    let all : (lines ++ last ∷ later) ++ rest ≡ lines ++ last ∷ (later ++ rest) = append_assoc lines (last ∷ later) rest in
    let here = one_more_inside depth first ((lines ++ last ∷ later) ++ rest) (Begins word) begins in
    let within = inside_nested (last ∷ later ++ rest) (suc o) (has_sections word) lines inner (depth + 1) in
    let closing : lines_inside (depth + 1) (last ∷ later ++ rest) ≡ lines_inside depth (later ++ rest) + 1 = rw (add-one depth) (one_more_inside (suc depth) last (later ++ rest) (Ends word) ends) in
    let behind = inside_nested rest o s later nest depth in
    let sizes : length (lines ++ last ∷ later) ≡ length lines + suc (length later) = length-append lines (last ∷ later) in
    here ∙ ap (λ (n : ℕ). n + 1) (ap (λ (l : List ScriptLine). lines_inside (depth + 1) l) all ∙ within) ∙ omega arith

-- so the block that begins before them ends right behind them
pub block_ends : (outer : ℕ) (sections : Bool) (word : EndWord) (body later : List ScriptLine) (last : ScriptLine) → nesting_of last.statement ≡ Ends word → WellNested outer sections body → lines_inside 0 (body ++ last ∷ later) ≡ length body
block_ends outer sections word body later last is nest =
    let here : lines_inside 0 (last ∷ later) ≡ 0 = one_more_inside 0 last later (Ends word) is in
    inside_nested (last ∷ later) outer sections body nest 0 ∙ omega arith
