-- What a function gives of a line and of a text, computed: what it may give, and what not. (own)
use Rattle.std.proofs.Common.{◌≡◌, ℕ, false, List, [], ◌∷◌, Some, None, Result, Ok, Err, refl, ap, codes, arith}
use Rattle.std.specs.Fmt.{digits}
use Rattle.gomp_types.specs.declared.depend.DepKind.TheVariants.{DepIn}
use Rattle.gomp_script.specs.declared.parse.LineError.TheVariants.{NoMemory, Fault}
use Rattle.gomp_script.specs.declared.parse.Why.TheVariants.{MissingWord, ExtraWord}
use Rattle.gomp_region.specs.declared.parse.Stop.TheVariants.{OutOfMemory, BadHere}
use Rattle.gomp_region.specs.declared.script.BadScript.{BadScript}
use Rattle.gomp_region.specs.declared.script.ScriptError.TheVariants.{Memory, Bad}
use Rattle.gomp_region.specs.declared.script.ScriptWhy.TheVariants.{Words, NoOpenBlock, TooDeep, NotClosed}
use Rattle.gomp_region.specs.declared.script.AskedSize.TheVariants.{Unstated}
use Rattle.gomp_region.specs.declared.statement.BlockConstruct.TheVariants.{Single, Task}
use Rattle.gomp_region.specs.declared.statement.EndWord.TheVariants.{EndSingle, EndTask}
use Rattle.gomp_region.specs.declared.statement.Nesting.TheVariants.{Begins, Ends, Stands}
use Rattle.gomp_region.specs.declared.statement.Statement.TheVariants.{Begin, End, Barrier}
use Rattle.gomp_region.specs.declared.script.ScriptLine.{ScriptLine}
use Rattle.gomp_region.specs.BlockEnds.{HaveEnds}
use Rattle.gomp_region.specs.Printing.{bad_script_text}
use Rattle.gomp_region.proofs.EndLaws.{have_ends}
use Rattle.gomp_region.specs.BlockGrammar.{WellNested, nothing, stands, block}
use Rattle.gomp_region.specs.Examples.{on_line, on_second, with_items}
use Rattle.gomp_region.specs.ScriptText.{Gives, HasItems, HasLine, HasStatement, IsRefused, LineHasItems, Nests, Passes, end_index, end_of_text, innermost, line_nesting, line_said, lines_inside, nested, refused_by, stop_of, without_lines}

-- Lines

-- a task with an item may find no memory
pub item_takes_memory : HasItems (Ok (Begin (Task (with_items (record { kind = DepIn; addr = 4 } ∷ []))))) × LineHasItems (Ok (Some (Begin (Task (with_items (record { kind = DepIn; addr = 4 } ∷ []))))))
item_takes_memory = (λ same. absurd (cc), λ same. absurd (cc))

-- one without an item may not, nor another statement, a line without one, or a bad line
pub others_take_none : (HasItems (Ok (Begin (Task (with_items [])))) → ⊥) × (HasItems (Ok Barrier) → ⊥) × (HasItems (Err MissingWord) → ⊥) × (LineHasItems (Ok None) → ⊥) × (LineHasItems (Err MissingWord) → ⊥)
others_take_none = (λ some. some refl, λ never. never, λ never. never, λ never. never, λ never. never)

-- what lines do to the blocks around them
pub nestings_of_lines : (line_nesting (Ok (Some (Begin Single))) ≡ Ok (Some (Begins EndSingle))) × (line_nesting (Ok (Some (End EndTask))) ≡ Ok (Some (Ends EndTask))) × (line_nesting (Ok (Some Barrier)) ≡ Ok (Some Stands)) × (line_nesting (Ok None) ≡ Ok None) × (line_nesting (Err ExtraWord) ≡ Err ExtraWord)
nestings_of_lines = (refl, refl, refl, refl, refl)

-- what they say
pub said_by_lines : (line_said 2 (Ok (Some Barrier)) ≡ on_second Barrier ∷ []) × (line_said 2 (Ok None) ≡ []) × (line_said 2 (Err ExtraWord) ≡ [])
said_by_lines = (refl, refl, refl)

-- Blocks

-- the innermost comes first
pub innermost_first : (innermost (record { end = EndTask; line = 7 } ∷ record { end = EndSingle; line = 2 } ∷ []) ≡ Some (record { end = EndTask; line = 7 })) × (innermost [] ≡ None)
innermost_first = (refl, refl)

-- a block that begins is the innermost then, and one that ends is gone
pub blocks_behind : (nested 7 (Begins EndTask) (record { end = EndSingle; line = 2 } ∷ []) ≡ Ok (record { end = EndTask; line = 7 } ∷ record { end = EndSingle; line = 2 } ∷ [])) × (nested 7 (Ends EndSingle) (record { end = EndSingle; line = 2 } ∷ []) ≡ Ok []) × (nested 7 Stands (record { end = EndSingle; line = 2 } ∷ []) ≡ Ok (record { end = EndSingle; line = 2 } ∷ []))
blocks_behind = (refl, refl, refl)

-- the open blocks that are found are given, and the fault that is
pub given_nesting : Nests (Ok tt) (Ok []) [] × Nests (Err TooDeep) (Err TooDeep) []
given_nesting = (refl, refl)

-- no others
pub other_nesting : (Nests (Ok tt) (Ok (record { end = EndTask; line = 7 } ∷ [])) [] → ⊥) × (Nests (Ok tt) (Err TooDeep) [] → ⊥) × (Nests (Err TooDeep) (Ok []) [] → ⊥) × (Nests (Err TooDeep) (Err NoOpenBlock) [] → ⊥)
other_nesting = (λ same. absurd (cc), λ same. absurd (cc), λ same. absurd (cc), λ same. absurd (cc))

-- the same of a line that is kept, which may find no memory
pub given_passing : Passes (Ok tt) (Ok []) [] × Passes (Err (BadHere TooDeep)) (Err TooDeep) [] × Passes (Err OutOfMemory) (Ok []) []
given_passing = (refl, refl, tt)

pub other_passing : (Passes (Ok tt) (Err TooDeep) [] → ⊥) × (Passes (Err (BadHere TooDeep)) (Ok []) [] → ⊥) × (Passes (Err (BadHere TooDeep)) (Err NoOpenBlock) [] → ⊥)
other_passing = (λ same. absurd (cc), λ same. absurd (cc), λ same. absurd (cc))

-- memory is refused for a statement alone, and changes no block
pub refused_lines : IsRefused (Ok (Some Barrier)) [] [] × (IsRefused (Ok (Some Barrier)) [] (record { end = EndTask; line = 7 } ∷ []) → ⊥) × (IsRefused (Ok None) [] [] → ⊥) × (IsRefused (Err ExtraWord) [] [] → ⊥)
refused_lines = (refl, λ same. absurd (cc), λ never. never, λ never. never)

-- an error of a line is its own
pub stops_of_errors : (stop_of NoMemory ≡ OutOfMemory) × (stop_of (Fault ExtraWord) ≡ BadHere (Words ExtraWord))
stops_of_errors = (refl, refl)

-- Texts

-- the line that began the innermost block is bad
pub ends_of_texts : (end_of_text [] ≡ Ok []) × (end_of_text (record { end = EndTask; line = 7 } ∷ record { end = EndSingle; line = 2 } ∷ []) ≡ Err (record { line = 7; why = NotClosed }))
ends_of_texts = (refl, refl)

-- the fault of a text, once memory was refused and else
pub faults_of_texts : (without_lines (Ok []) ≡ Ok tt) × (without_lines (Err (record { line = 2; why = TooDeep })) ≡ Err (record { line = 2; why = TooDeep })) × (refused_by (Ok []) ≡ Memory) × (refused_by (Err (record { line = 2; why = TooDeep })) ≡ Bad (record { line = 2; why = TooDeep }))
faults_of_texts = (refl, refl, refl, refl)

-- what was read may be given, or want of memory, or the bad line
pub given_results : Gives {X = ℕ} {Y = ℕ} (λ n. n) (Ok 4) (Ok 4) × Gives {X = ℕ} {Y = ℕ} (λ n. n) (Err Memory) (Ok 4) × Gives {X = ℕ} {Y = ℕ} (λ n. n) (Err (Bad (record { line = 2; why = TooDeep }))) (Err (record { line = 2; why = TooDeep }))
given_results = (refl, tt, refl)

-- the bad line of what was read
abbrev bad_in : Result ℕ BadScript → BadScript
bad_in (Ok n) = record { line = 0; why = TooDeep }
bad_in (Err bad) = bad

-- no other value is given, nor one for a bad text, nor a fault of a good one
pub other_values : (Gives {X = ℕ} {Y = ℕ} (λ n. n) (Ok 4) (Ok 5) → ⊥) × (Gives {X = ℕ} {Y = ℕ} (λ n. n) (Ok 4) (Err (record { line = 2; why = TooDeep })) → ⊥) × (Gives {X = ℕ} {Y = ℕ} (λ n. n) (Err (Bad (record { line = 2; why = TooDeep }))) (Ok 4) → ⊥)
other_values = (λ same. absurd (cc), λ same. absurd (cc), λ same. absurd (cc))

-- nor another line or another fault
pub other_faults : (Gives {X = ℕ} {Y = ℕ} (λ n. n) (Err (Bad (record { line = 3; why = TooDeep }))) (Err (record { line = 2; why = TooDeep })) → ⊥) × (Gives {X = ℕ} {Y = ℕ} (λ n. n) (Err (Bad (record { line = 2; why = NotClosed }))) (Err (record { line = 2; why = TooDeep })) → ⊥)
other_faults = (λ same. let line : 2 ≡ 3 = ap (λ (bad : BadScript). bad.line) (ap bad_in same) in absurd (omega (arith, line)), λ same. let why : TooDeep ≡ NotClosed = ap (λ (bad : BadScript). bad.why) (ap bad_in same) in absurd (cc))

-- a script with a statement may find no memory; one without may not, nor a bad text
pub statements_take : HasStatement (Ok (Unstated, on_second Barrier ∷ [], 0 ∷ [])) × (HasStatement (Ok (Unstated, [], [])) → ⊥) × (HasStatement (Err (record { line = 2; why = TooDeep })) → ⊥)
statements_take = (λ same. absurd (cc), λ some. some refl, λ never. never)

-- the same of the lines behind the first
pub lines_take : HasLine (Ok (on_second Barrier ∷ [])) × (HasLine (Ok []) → ⊥) × (HasLine (Err (record { line = 2; why = TooDeep })) → ⊥)
lines_take = (λ same. absurd (cc), λ some. some refl, λ never. never)

-- Nesting, by the grammar

-- a block of a barrier nests, and a barrier behind it
pub block_nests : WellNested 0 false (on_line 2 (Begin Single) ∷ on_line 3 Barrier ∷ on_line 4 (End EndSingle) ∷ on_line 5 Barrier ∷ [])
block_nests = block 0 false EndSingle (on_line 2 (Begin Single)) (on_line 4 (End EndSingle)) (on_line 3 Barrier ∷ []) (on_line 5 Barrier ∷ []) (omega arith) refl refl refl (stands 1 (on_line 3 Barrier) [] refl (nothing 1 false)) (stands 0 (on_line 5 Barrier) [] refl (nothing 0 false))

-- so many lines stand in it, and it ends there
pub block_of_one : (lines_inside 0 (on_line 3 Barrier ∷ on_line 4 (End EndSingle) ∷ on_line 5 Barrier ∷ []) ≡ 1) × (end_index 7 (Begins EndSingle) (on_line 3 Barrier ∷ on_line 4 (End EndSingle) ∷ on_line 5 Barrier ∷ []) ≡ 9) × (end_index 7 Stands (on_line 3 Barrier ∷ on_line 4 (End EndSingle) ∷ []) ≡ 7) × (end_index 7 (Ends EndSingle) (on_line 3 Barrier ∷ on_line 4 (End EndSingle) ∷ []) ≡ 7)
block_of_one = (refl, refl, refl, refl)

-- Where blocks end

-- a block that is ended, and a barrier behind it
abbrev ended_block : List ScriptLine
ended_block = on_line 2 (Begin Single) ∷ on_line 3 (End EndSingle) ∷ on_line 4 Barrier ∷ []

-- their ends
pub ends_of_a_block : HaveEnds ended_block (1 ∷ 1 ∷ 2 ∷ [])
ends_of_a_block =
    have_ends ended_block (1 ∷ 1 ∷ 2 ∷ []) (block 0 false EndSingle (on_line 2 (Begin Single)) (on_line 3 (End EndSingle)) [] (on_line 4 Barrier ∷ []) (omega arith) refl refl refl (nothing 1 false) (stands 0 (on_line 4 Barrier) [] refl (nothing 0 false))) refl

-- each line has one, and one that begins no block is its own
pub other_ends_refused : (HaveEnds ended_block (1 ∷ 1 ∷ []) → ⊥) × (HaveEnds ended_block (1 ∷ 1 ∷ 1 ∷ []) → ⊥) × (HaveEnds ended_block (1 ∷ 2 ∷ 2 ∷ []) → ⊥)
other_ends_refused =
    (λ have. absurd (let each = have.each in omega (arith, each)), λ have. absurd (let own = have.at 2 (omega arith) (on_second Barrier) in omega (arith, own)), λ have. absurd (let own = have.at 1 (omega arith) (on_second Barrier) in omega (arith, own)))

-- a block ends behind its beginning, among the lines, at its end word
pub other_ends_of_blocks : (HaveEnds ended_block (0 ∷ 1 ∷ 2 ∷ []) → ⊥) × (HaveEnds ended_block (3 ∷ 1 ∷ 2 ∷ []) → ⊥) × (HaveEnds ended_block (2 ∷ 1 ∷ 2 ∷ []) → ⊥) × (HaveEnds (on_line 2 (Begin Single) ∷ on_line 3 (End EndTask) ∷ []) (1 ∷ 1 ∷ []) → ⊥)
other_ends_of_blocks = (
  λ have. absurd (let end = have.at 0 (omega arith) (on_second Barrier) in let behind = end.0 in omega (arith, behind)),
  λ have. absurd (let end = have.at 0 (omega arith) (on_second Barrier) in let within = end.1 in omega (arith, within)),
  λ have. absurd (let end = have.at 0 (omega arith) (on_second Barrier) in let word = end.2 (on_second Barrier) in cc),
  λ have. absurd (let end = have.at 0 (omega arith) (on_second Barrier) in let word = end.2 (on_second Barrier) in cc),
)

-- Bad lines

-- what is printed of each fault
pub faults_printed : (bad_script_text (record { line = 2; why = Words ExtraWord }) ≡ codes "bad line 2: extra word\n") × (bad_script_text (record { line = 10; why = NoOpenBlock }) ≡ codes "bad line 10: no open block\n") × (bad_script_text (record { line = 34; why = TooDeep }) ≡ codes "bad line 34: too deep\n") × (bad_script_text (record { line = 1; why = NotClosed }) ≡ codes "bad line 1: block not closed\n")
unfolding digits
faults_printed = (refl, refl, refl, refl)
