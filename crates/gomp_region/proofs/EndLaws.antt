-- Lines that nest have their ends, each behind its beginning.
use Rattle.std.proofs.Common.{◌≡◌, ℕ, ◌+◌, ◌<◌, Bool, false, List, [], ◌∷◌, ◌++◌, length, refl, ap, subst, sym, append_assoc, length-append, get_or, zero, suc, arith}
use Rattle.std.proofs.Math.Seq.{get_or-append_seam}
use Rattle.std.proofs.lemmas.List.{append-nil}
use Rattle.gomp_region.specs.declared.script.ScriptLine.{ScriptLine}
use Rattle.gomp_region.specs.declared.statement.EndWord.{EndWord}
use Rattle.gomp_region.specs.declared.statement.Nesting.{Nesting}
use Rattle.gomp_region.specs.declared.statement.Nesting.TheVariants.{Begins, Ends, Stands}
use Rattle.gomp_region.specs.ScriptText.{end_index, ends_from, lines_inside, nesting_of}
use Rattle.gomp_region.specs.BlockEnds.{EndsAt, HaveEnds, IsEndOf}
use Rattle.gomp_region.specs.BlockGrammar.{WellNested, nothing, stands, block, has_sections}
use Rattle.gomp_region.proofs.BlockLaws.{block_ends}

-- before these lines stands one that nests so: if it begins a block, that ends among them
abbrev HasEnd : Nesting → List ScriptLine → Type 0
HasEnd (Begins word) later = (lines_inside 0 later < length later) × EndsAt later (lines_inside 0 later) word
HasEnd (Ends word) later = Unit {0}
HasEnd Stands later = Unit {0}

abbrev EachHasEnd : List ScriptLine → Type 0
EachHasEnd [] = Unit {0}
EachHasEnd (line ∷ later) = HasEnd (nesting_of line.statement) later × EachHasEnd later

-- the block that begins before these lines ends behind the first of them
block_closed : (word : EndWord) (lines later : List ScriptLine) (last : ScriptLine) → nesting_of last.statement ≡ Ends word → lines_inside 0 (lines ++ last ∷ later) ≡ length lines → HasEnd (Begins word) (lines ++ last ∷ later)
block_closed word lines later last ends size =
    let all : length (lines ++ last ∷ later) ≡ length lines + suc (length later) = length-append lines (last ∷ later) in
    (omega (arith, size, all), λ given. rw (size, get_or-append_seam lines last later given) ends)

each_nested : (rest : List ScriptLine) (outer : ℕ) (sections : Bool) (body : List ScriptLine) → WellNested outer sections body → EachHasEnd rest → EachHasEnd (body ++ rest)
each_nested rest outer sections body (nothing o s) ended = ended
each_nested rest outer sections body (stands o line later is nest) ended = (rw is tt, each_nested rest o false later nest ended)
each_nested rest outer sections body (block o s word first last lines later less begins ends fits inner nest) ended =
    let all : (lines ++ last ∷ later) ++ rest ≡ lines ++ last ∷ (later ++ rest) = append_assoc lines (last ∷ later) rest in
    let size : lines_inside 0 (lines ++ last ∷ (later ++ rest)) ≡ length lines = block_ends (suc o) (has_sections word) word lines (later ++ rest) last ends inner in
    let outside : EachHasEnd (last ∷ (later ++ rest)) = (rw ends tt, each_nested rest o s later nest ended) in
    let inside : EachHasEnd (lines ++ last ∷ (later ++ rest)) = each_nested (last ∷ (later ++ rest)) (suc o) (has_sections word) lines inner outside in
    let here : HasEnd (nesting_of first.statement) (lines ++ last ∷ (later ++ rest)) = rw begins (block_closed word lines (later ++ rest) last ends size) in
    subst (λ (behind : List ScriptLine). HasEnd (nesting_of first.statement) behind × EachHasEnd behind) (sym all) (here, inside)

-- the end of the line of this index, by the number of the first line
abbrev EndFrom : ℕ → List ScriptLine → ℕ → Nesting → ℕ → Type 0
EndFrom base lines index (Begins word) end = (place : ℕ) × (end ≡ base + place) × (index < place) × (place < length lines) × EndsAt lines place word
EndFrom base lines index (Ends word) end = end ≡ base + index
EndFrom base lines index Stands end = end ≡ base + index

first_line_end : (base : ℕ) (line : ScriptLine) (lines : List ScriptLine) (nesting : Nesting) → HasEnd nesting lines → EndFrom base (line ∷ lines) 0 nesting (end_index base nesting lines)
first_line_end base line lines (Begins word) ended = let less = ended.0 in (suc (lines_inside 0 lines), omega arith, omega arith, omega (arith, less), ended.1)
first_line_end base line lines (Ends word) ended = omega arith
first_line_end base line lines Stands ended = omega arith

later_end : (base index end : ℕ) (line : ScriptLine) (lines : List ScriptLine) (nesting : Nesting) → EndFrom (base + 1) lines index nesting end → EndFrom base (line ∷ lines) (suc index) nesting end
later_end base index end line lines (Begins word) found =
    let same = found.1 in
    let behind = found.2 in
    let within = found.3 in
    (suc found.0, omega (arith, same), omega (arith, behind), omega (arith, within), found.4)
later_end base index end line lines (Ends word) found = omega (arith, found)
later_end base index end line lines Stands found = omega (arith, found)

end_found : (lines : List ScriptLine) (base index : ℕ) (given : ScriptLine) → EachHasEnd lines → index < length lines → EndFrom base lines index (nesting_of (get_or lines index given).statement) (get_or (ends_from base lines) index 0)
end_found [] base index given ended less = absurd (omega arith)
end_found (line ∷ lines) base zero given ended less = first_line_end base line lines (nesting_of line.statement) ended.0
end_found (line ∷ lines) base (suc index) given ended less =
    later_end base index (get_or (ends_from (base + 1) lines) index 0) line lines (nesting_of (get_or lines index given).statement) (end_found lines (base + 1) index given ended.1 (omega arith))

is_end : (lines : List ScriptLine) (index end : ℕ) (nesting : Nesting) → EndFrom 0 lines index nesting end → IsEndOf lines index nesting end
is_end lines index end (Begins word) found =
    let place : found.0 ≡ end = let same = found.1 in omega (arith, same) in
    let behind = found.2 in
    let within = found.3 in
    (omega (arith, behind, place), omega (arith, within, place), subst (λ (at : ℕ). EndsAt lines at word) place found.4)
is_end lines index end (Ends word) found = omega (arith, found)
is_end lines index end Stands found = omega (arith, found)

ends_each : (lines : List ScriptLine) (base : ℕ) → length (ends_from base lines) ≡ length lines
ends_each [] base = refl
ends_each (line ∷ lines) base = ap suc (ends_each lines (base + 1))

-- lines that nest have the ends that are found for them
pub have_ends : (lines : List ScriptLine) (ends : List ℕ) → WellNested 0 false lines → ends ≡ ends_from 0 lines → HaveEnds lines ends
have_ends lines ends nest is =
    let closed : EachHasEnd (lines ++ []) = each_nested [] 0 false lines nest tt in
    let ended : EachHasEnd lines = subst EachHasEnd (append-nil lines) closed in
    let found : HaveEnds lines (ends_from 0 lines) = record {
      each = ends_each lines 0;
      at = λ index less given. is_end lines index (get_or (ends_from 0 lines) index 0) (nesting_of (get_or lines index given).statement) (end_found lines 0 index given ended less);
    } in
    subst (λ (all : List ℕ). HaveEnds lines all) (sym is) found

-- The ends, for what runs the lines

-- the end of a block is a later line, its end word
pub end_of_block : (lines : List ScriptLine) (ends : List ℕ) (index : ℕ) (line : ScriptLine) (word : EndWord) → HaveEnds lines ends → index < length lines → line ≡ get_or lines index line → nesting_of line.statement ≡ Begins word → (index < get_or ends index 0) × (get_or ends index 0 < length lines) × EndsAt lines (get_or ends index 0) word
end_of_block lines ends index line word have less here begins =
    let found : IsEndOf lines index (nesting_of line.statement) (get_or ends index 0) = rw (← here) at (have.at index less line) in
    rw begins at found
