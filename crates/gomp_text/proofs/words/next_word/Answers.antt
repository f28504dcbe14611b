use Rattle.std.proofs.Common.{◌≡◌, ◌∙◌, ◌∷◌, [], ℕ, List, Some, None, length, ap, sym, rules}
use Rattle.std.specs.Prelude.{option_copied}
use Rattle.std.proofs.lemmas.List.{nil_from_length}
use Rattle.gomp_text.specs.Words.{words_of, cut_at, past_spaces}
use Rattle.gomp_text.proofs.WordLemmas.{words_past, has_first_word, words_first, words_last, Begins}
use Rattle.gomp_text.proofs.words.next_word.Goals as goal

pub returns-then-is_empty-clause-words : goal.returns-then-is_empty-clause-words
returns-then-is_empty-clause-words c =
    let none : c.past_spaces-line.result.now ≡ [] = nil_from_length c.past_spaces-line.result.now (search rules) in
    sym (words_past c.args.line.now) ∙ ap words_of (sym c.past_spaces-line.ensures ∙ none)

pub returns-in-Some-clause-words : goal.returns-in-Some-clause-words
returns-in-Some-clause-words c =
    let some : length c.past_spaces-line.result.now ≡ 0 → ⊥ = search rules in
    let begun : Begins (past_spaces c.args.line.now) = has_first_word c.args.line.now (rw c.past_spaces-line.ensures at some) in
    let front : c.cut_at.result.0.now ≡ (cut_at 32 (past_spaces c.args.line.now)).0 = rw c.past_spaces-line.ensures at c.cut_at.ensures.before in
    let after : (cut_at 32 (past_spaces c.args.line.now)).1 ≡ Some c.in-Some.rest.now = sym (rw c.past_spaces-line.ensures at c.cut_at.ensures.after) ∙ ap option_copied c.in-Some.is in
    sym (words_past c.args.line.now) ∙ words_first (past_spaces c.args.line.now) c.in-Some.rest.now begun after ∙ ap (λ (word : List ℕ). word ∷ words_of c.in-Some.rest.now) (sym front)

pub returns-in-None-clause-words : goal.returns-in-None-clause-words
returns-in-None-clause-words c =
    let some : length c.past_spaces-line.result.now ≡ 0 → ⊥ = search rules in
    let begun : Begins (past_spaces c.args.line.now) = has_first_word c.args.line.now (rw c.past_spaces-line.ensures at some) in
    let front : c.cut_at.result.0.now ≡ (cut_at 32 (past_spaces c.args.line.now)).0 = rw c.past_spaces-line.ensures at c.cut_at.ensures.before in
    let after : (cut_at 32 (past_spaces c.args.line.now)).1 ≡ None = sym (rw c.past_spaces-line.ensures at c.cut_at.ensures.after) ∙ ap option_copied c.in-None.is in
    sym (words_past c.args.line.now) ∙ words_last (past_spaces c.args.line.now) begun after ∙ ap (λ (word : List ℕ). word ∷ words_of []) (sym front)

pub returns-in-Some-clause-rest : goal.returns-in-Some-clause-rest
returns-in-Some-clause-rest c = search rules

pub returns-in-None-clause-rest : goal.returns-in-None-clause-rest
returns-in-None-clause-rest c = search rules
