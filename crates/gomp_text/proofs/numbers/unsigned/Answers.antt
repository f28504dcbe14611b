use Rattle.std.proofs.Common.{◌≡◌, ◌∙◌, ◌<◌, ◌+◌, ◌-◌, ◌*◌, true, length, ap, sym, arith, rules, get_or, drop}
use Rattle.gomp_text.specs.Numbers.{is_digit, up_to}
use Rattle.gomp_text.proofs.NumberLemmas.{filled_number, next_digit, too_large}
use Rattle.gomp_text.proofs.numbers.unsigned.Goals as goal

pub returns-then-number-most : goal.returns-then-number-most
returns-then-number-most c =
    let word = c.args.word.now in
    let i = c.loop-byte.byte-index in
    let some : length word ≡ 0 → ⊥ = search rules in
    let digit : is_digit (get_or word i 0) ≡ true = sym c.is_ascii_digit.ensures.value ∙ c.if-not-is_ascii_digit.false in
    let all = next_digit c.loop-byte.number i word c.loop-byte-test.true digit in
    let large : c.args.most < c.loop-byte.number * 10 + (get_or word i 0 - 48) = let over = c.if-number-most.true in omega (arith, over) in
    sym (filled_number c.args.most word some ∙ ap (up_to c.args.most) (sym c.loop-byte.invariant.so_far ∙ all) ∙ too_large c.args.most _ (drop (i + 1) word) large)

pub returns-then-digit-most : goal.returns-then-digit-most
returns-then-digit-most c =
    let word = c.args.word.now in
    let i = c.loop-byte.byte-index in
    let some : length word ≡ 0 → ⊥ = search rules in
    let digit : is_digit (get_or word i 0) ≡ true = sym c.is_ascii_digit.ensures.value ∙ c.if-not-is_ascii_digit.false in
    let all = next_digit c.loop-byte.number i word c.loop-byte-test.true digit in
    let large : c.args.most < c.loop-byte.number * 10 + (get_or word i 0 - 48) = let over = c.if-digit-most.true in omega (arith, over) in
    sym (filled_number c.args.most word some ∙ ap (up_to c.args.most) (sym c.loop-byte.invariant.so_far ∙ all) ∙ too_large c.args.most _ (drop (i + 1) word) large)
