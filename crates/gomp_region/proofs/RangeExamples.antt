-- Lines of scripts keep their numbers, however many lines stand before them and however many statements stand in a block: each lemma holds for every number up to 2^64 - 1.
use Rattle.std.proofs.Common.{◌≡◌, ℕ, zero, suc, ◌+◌, ◌^◌, ◌<◌, ◌≤◌, true, false, List, [], ◌∷◌, ◌++◌, length, replicate, Some, Result, Ok, Err, codes, refl, ap, ◌∙◌, arith}
use Rattle.std.specs.Prelude.{nat_lt}
use Rattle.std.proofs.lemmas.Bool.{lt-ltb}
use Rattle.std.proofs.lemmas.Bool.Decides.{nat_tests}
use Rattle.gomp_types.specs.Limits.{shown_number}
use Rattle.gomp_region.specs.declared.nesting.OpenBlock.{OpenBlock}
use Rattle.gomp_region.specs.declared.nesting.TheConstants.{MAX_BLOCKS}
use Rattle.gomp_region.specs.declared.statement.Nesting.TheVariants.{Begins}
use Rattle.gomp_region.specs.declared.script.BadScript.{BadScript}
use Rattle.gomp_region.specs.declared.script.ScriptLine.{ScriptLine}
use Rattle.gomp_region.specs.declared.script.ScriptWhy.{ScriptWhy}
use Rattle.gomp_region.specs.declared.script.ScriptWhy.TheVariants.{TooDeep, NotClosed}
use Rattle.gomp_region.specs.declared.script.AskedSize.TheVariants.{Unstated}
use Rattle.gomp_region.specs.declared.statement.BlockConstruct.TheVariants.{Task, Parallel}
use Rattle.gomp_region.specs.declared.statement.EndWord.{EndWord}
use Rattle.gomp_region.specs.declared.statement.EndWord.TheVariants.{EndTask, EndParallel}
use Rattle.gomp_region.specs.declared.statement.Statement.{Statement}
use Rattle.gomp_region.specs.declared.statement.Statement.TheVariants.{Begin, End, Barrier}
use Rattle.gomp_region.specs.ScriptText.{bad_script, line_said, open_behind, end_of_text, statements_from, script_from, with_team, with_lines, lines_inside, end_index, ends_from, task_line, parallel_line, plain_line, region_of}
use Rattle.gomp_region.specs.Examples.{on_line, with_items}

-- Numbers of lines

-- a line is said, and is bad, by its number, whatever that is
pub line_keeps_its_number : (number : ℕ) (statement : Statement) (why : ScriptWhy) → (line_said number (Ok (Some statement)) ≡ record { number = number; statement = statement } ∷ []) × (bad_script {A = List ScriptLine} number why ≡ Err (record { line = number; why = why }))
line_keeps_its_number number statement why = (refl, refl)

-- a block keeps the number of the line that began it, and that line is bad if the block stays open
pub open_block_keeps_its_line : (number : ℕ) (word : EndWord) (blocks : List OpenBlock) → length blocks < 32 → (open_behind number (Begins word) blocks ≡ Ok (record { end = word; line = number } ∷ blocks)) × (end_of_text (record { end = word; line = number } ∷ blocks) ≡ Err (record { line = number; why = NotClosed }))
open_block_keeps_its_line number word blocks few = let room : nat_lt (length blocks) MAX_BLOCKS ≡ true = lt-ltb (length blocks) MAX_BLOCKS few in rw room (refl, refl)

-- inside 32 others no block begins
pub block_inside_too_many : (number : ℕ) (word : EndWord) (blocks : List OpenBlock) → 32 ≤ length blocks → open_behind number (Begins word) blocks ≡ Err TooDeep
block_inside_too_many number word blocks many = let full : nat_lt (length blocks) MAX_BLOCKS ≡ false = grind (arith, nat_tests, many) in rw full refl

-- no lines change nothing
with_no_lines : (read : Result (List ScriptLine) BadScript) → with_lines [] read ≡ read
with_no_lines (Ok lines) = refl
with_no_lines (Err bad) = refl

-- so many empty lines are counted, each as one
pub empty_lines_are_counted : (count number : ℕ) (blocks : List OpenBlock) (lines : List (List ℕ)) → number + count < 2 ^ 64 → statements_from number blocks (replicate count [] ++ lines) ≡ statements_from (number + count) blocks lines
empty_lines_are_counted zero number blocks lines fits = ap (λ (at : ℕ). statements_from at blocks lines) (let same : number ≡ number + 0 = omega arith in same)
empty_lines_are_counted (suc count) number blocks lines fits =
    let next : shown_number (number + 1) ≡ number + 1 = omega (arith, fits) in
    let later = empty_lines_are_counted count (number + 1) blocks lines (omega (arith, fits)) in
    let same : number + 1 + count ≡ number + suc count = omega arith in
    with_no_lines (statements_from (shown_number (number + 1)) blocks (replicate count [] ++ lines)) ∙ ap (λ (at : ℕ). statements_from at blocks (replicate count [] ++ lines)) next ∙ later ∙ ap (λ (at : ℕ). statements_from at blocks lines) same

-- a task on the line of this number, and the end of its block on the next
task_on_any_line : (number : ℕ) → number + 1 < 2 ^ 64 → statements_from number [] (codes "task" ∷ codes "endtask" ∷ []) ≡ Ok (on_line number (Begin (Task (with_items []))) ∷ on_line (number + 1) (End EndTask) ∷ [])
unfolding task_line plain_line
task_on_any_line number fits = let next : shown_number (number + 1) ≡ number + 1 = omega (arith, fits) in rw next refl

-- a nested region
region_on_any_line : (number : ℕ) → number + 1 < 2 ^ 64 → statements_from number [] (codes "parallel 4294967295" ∷ codes "endparallel" ∷ []) ≡ Ok (on_line number (Begin (Parallel 4294967295)) ∷ on_line (number + 1) (End EndParallel) ∷ [])
unfolding parallel_line plain_line
region_on_any_line number fits = let next : shown_number (number + 1) ≡ number + 1 = omega (arith, fits) in rw next refl

-- a task stands behind any number of lines, and so does a nested region
pub task_behind_any_lines : (count : ℕ) → 2 + count + 1 < 2 ^ 64 → script_from 1 (codes "region" ∷ (replicate count [] ++ codes "task" ∷ codes "endtask" ∷ [])) ≡ Ok (Unstated, on_line (2 + count) (Begin (Task (with_items []))) ∷ on_line (2 + count + 1) (End EndTask) ∷ [], 1 ∷ 1 ∷ [])
unfolding region_of
task_behind_any_lines count fits =
    let before = empty_lines_are_counted count 2 [] (codes "task" ∷ codes "endtask" ∷ []) (omega (arith, fits)) in
    ap (λ (read : Result (List ScriptLine) BadScript). with_team Unstated read) (before ∙ task_on_any_line (2 + count) fits)

pub region_behind_any_lines : (count : ℕ) → 2 + count + 1 < 2 ^ 64 → script_from 1 (codes "region" ∷ (replicate count [] ++ codes "parallel 4294967295" ∷ codes "endparallel" ∷ [])) ≡ Ok (Unstated, on_line (2 + count) (Begin (Parallel 4294967295)) ∷ on_line (2 + count + 1) (End EndParallel) ∷ [], 1 ∷ 1 ∷ [])
unfolding region_of
region_behind_any_lines count fits =
    let before = empty_lines_are_counted count 2 [] (codes "parallel 4294967295" ∷ codes "endparallel" ∷ []) (omega (arith, fits)) in
    ap (λ (read : Result (List ScriptLine) BadScript). with_team Unstated read) (before ∙ region_on_any_line (2 + count) fits)

-- Statements in a block

-- so many statements are counted, each as one
statements_inside_are_counted : (count depth : ℕ) (later : List ScriptLine) → lines_inside depth (replicate count (on_line 1 Barrier) ++ later) ≡ count + lines_inside depth later
statements_inside_are_counted zero depth later = omega arith
statements_inside_are_counted (suc count) depth later = let more = statements_inside_are_counted count depth later in omega (arith, more)

-- the end of a block is found behind any number of statements
pub end_behind_any_statements : (count index number : ℕ) (word : EndWord) (later : List ScriptLine) → end_index index (Begins word) (replicate count (on_line 1 Barrier) ++ on_line number (End word) ∷ later) ≡ index + 1 + count
end_behind_any_statements count index number word later = let inside = statements_inside_are_counted count 0 (on_line number (End word) ∷ later) in omega (arith, inside)

-- and each statement without a block ends where it stands
pub statement_ends_at_its_index : (index number : ℕ) (later : List ScriptLine) → ends_from index (on_line number Barrier ∷ later) ≡ index ∷ ends_from (index + 1) later
statement_ends_at_its_index index number later = refl
