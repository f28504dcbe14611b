-- What was read of a text that is not too long.
use Rattle.std.proofs.Common.{◌≡◌, ℕ, ◌+◌, ◌≤◌, List, Option, Some, None, length, take, ◌∙◌, arith}
use Rattle.std.specs.Prelude.{IfSome}
use Rattle.std.specs.Option.{option_map}
use Rattle.std.proofs.lemmas.List.{length-take, take_all}
use Rattle.gomp_service.specs.Reading.{Whole}

text_taken_whole : (limit : ℕ) (text : List ℕ) → length (take (limit + 1) text) ≤ limit → take (limit + 1) text ≡ text
text_taken_whole limit text short =
    let size = length-take (limit + 1) text in
    take_all (limit + 1) text (omega arith)

pub read_all : (limit : ℕ) (remaining : Option (List ℕ)) (items : List ℕ) → IfSome (option_map (take (limit + 1)) remaining) (λ xs. items ≡ xs) → length items ≤ limit → Whole limit remaining items
read_all limit None items bytes short = (tt, short)
read_all limit (Some text) items bytes short = (bytes ∙ text_taken_whole limit text (rw bytes at short), short)
