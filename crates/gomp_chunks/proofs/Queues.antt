-- The pieces that a member owns: where each stands among all pieces.
use Rattle.std.proofs.Common.{◌≡◌, ℕ, ◌+◌, ◌-◌, ◌*◌, ◌%◌, ◌<◌, ◌≤◌, ◌∙◌, false, true, List, [], ◌∷◌, None, refl, suc, zero, arith, length, slice_get, inl, inr, suc-mul}
use Rattle.std.specs.Prelude.{◌==◌, if◌then◌else◌, nat_le}
use Rattle.std.proofs.lemmas.Nat.{mod-mul-add}
use Rattle.std.proofs.lemmas.Bool.Decides.{nat_tests}
use Rattle.std.proofs.lemmas.Bool.{cases_lt, cases_Bool}
use Rattle.std.proofs.lemmas.Option.{slice_get_past}
use Rattle.std.proofs.Math.Nat.{mul_comm}
use Rattle.gomp_types.specs.declared.shape.ShareKind.TheVariants.{StaticChunked, StaticEven}
use Rattle.gomp_types.specs.Pieces.{Piece, dynamic_pieces, even_pieces}
use Rattle.gomp_types.specs.Deals.{owned_from}
use Rattle.gomp_chunks.specs.Plans.{PlanView, next_piece, pieces}

-- Piece j is that of member j mod N: of a list that begins with piece turn * N + at, where is the next one of member m

-- how many pieces lie before the member's next one
abbrev gap : ℕ → ℕ → ℕ → ℕ
gap members m at = if nat_le at m then m - at else members + m - at

gap_zero : (members m : ℕ) → gap members m m ≡ 0
gap_zero members m = grind (arith, nat_tests)

gap_none : (members m at : ℕ) → m < members → at < members → gap members m at ≡ 0 → at ≡ m
gap_none members m at lt in_turn none = grind (arith, nat_tests)

gap_less : (members m at : ℕ) → m < members → at + 1 < members → (at ≡ m → ⊥) → gap members m at ≡ gap members m (at + 1) + 1
gap_less members m at lt in_turn differ = grind (arith, nat_tests)

gap_turns : (members m at : ℕ) → m < members → at + 1 ≡ members → (at ≡ m → ⊥) → gap members m at ≡ gap members m 0 + 1
gap_turns members m at lt in_turn differ = grind (arith, nat_tests)

gap_after : (members m : ℕ) → m + 1 < members → gap members m (m + 1) + 1 ≡ members
gap_after members m lt = grind (arith, nat_tests)

gap_after_last : (members m : ℕ) → m + 1 ≡ members → gap members m 0 + 1 ≡ members
gap_after_last members m lt = grind (arith, nat_tests)

-- the number of the next piece, in the same turn or the next one
record Next (members m turn at : ℕ) : Type 0 where
  turn_is : ℕ
  at_is : ℕ
  in_turn : at_is < members
  number : turn * members + at + 1 ≡ turn_is * members + at_is
  own : at ≡ m → gap members m at_is + 1 ≡ members
  other : (at ≡ m → ⊥) → gap members m at ≡ gap members m at_is + 1

next_of_a_turn : (members m turn at : ℕ) → m < members → at < members → Next members m turn at
next_of_a_turn members m turn at lt in_turn = elim (cases_lt (at + 1) members) [
  | inl within ↦ record {
    turn_is = turn;
    at_is = at + 1;
    in_turn = within;
    number = omega arith;
    own = λ same. let after : m + 1 < members = omega arith in rw same (gap_after members m after);
    other = λ differ. gap_less members m at lt within differ;
  }
  | inr past ↦
      let whole : suc turn * members ≡ turn * members + members = suc-mul turn members in
      let last : at + 1 ≡ members = omega arith in record {
        turn_is = suc turn;
        at_is = 0;
        in_turn = omega arith;
        number = omega arith;
        own = λ same. gap_after_last members m (omega arith);
        other = λ differ. gap_turns members m at lt last differ;
      }
]

nth_chunked : (members m turn at n : ℕ) (pieces : List Piece) → m < members → at < members →
    slice_get (owned_from (λ j. j % members) m (turn * members + at) pieces) n ≡ slice_get pieces (gap members m at + n * members)
nth_chunked members m turn at n [] lt in_turn = refl
nth_chunked members m turn at n (piece ∷ pieces) lt in_turn =
    let after = next_of_a_turn members m turn at lt in_turn in
    let later = λ (i : ℕ). nth_chunked members m after.turn_is after.at_is i pieces lt after.in_turn in
    elim (cases_Bool ((turn * members + at) % members == m)) [
      | inl own ↦ rw own (front n after later (let e = own in is_own e))
      | inr other ↦
          let more : gap members m at + n * members ≡ suc (gap members m after.at_is + n * members) = let less = after.other (is_other other) in omega arith in
          rw (other, after.number, more) (later n)
    ]
  where
    is_own : ((turn * members + at) % members == m) ≡ true → at ≡ m
    is_own own = let here = mod-mul-add turn members at in_turn in grind (arith, nat_tests, own, here)

    is_other : ((turn * members + at) % members == m) ≡ false → at ≡ m → ⊥
    is_other other same = let here = mod-mul-add turn members at in_turn in grind (arith, nat_tests, other, here, same)

    front : (n : ℕ) (after : Next members m turn at) → ((i : ℕ) → slice_get (owned_from (λ j. j % members) m (after.turn_is * members + after.at_is) pieces) i ≡ slice_get pieces (gap members m after.at_is + i * members)) → at ≡ m →
        slice_get (piece ∷ owned_from (λ j. j % members) m (turn * members + at + 1) pieces) n ≡ slice_get (piece ∷ pieces) (gap members m at + n * members)
    front zero after later same =
        let none : gap members m at + 0 * members ≡ 0 = let e = gap_zero members m in rw same (omega arith) in
        rw none refl
    front (suc n) after later same =
        let none : gap members m at ≡ 0 = rw same (gap_zero members m) in
        let turned : suc n * members ≡ n * members + members = suc-mul n members in
        let more : gap members m at + suc n * members ≡ suc (gap members m after.at_is + n * members) = let whole = after.own same in omega arith in
        rw (more, after.number) (later n)

-- Piece j is member j's own

even_past : (m j : ℕ) (pieces : List Piece) → m < j → owned_from (λ j. j) m j pieces ≡ []
even_past m j [] past = refl
even_past m j (piece ∷ pieces) past =
    let other : (j == m) ≡ false = grind (arith, nat_tests, past) in
    rw other (even_past m (j + 1) pieces (omega arith))

even_first : (m j : ℕ) (pieces : List Piece) → j ≤ m → slice_get (owned_from (λ j. j) m j pieces) 0 ≡ slice_get pieces (m - j)
even_first m j [] le = refl
even_first m j (piece ∷ pieces) le = elim (cases_Bool (j == m)) [
  | inl own ↦ let none : m - j ≡ 0 = grind (arith, nat_tests, own) in rw (own, none) refl
  | inr other ↦
      let below : j + 1 ≤ m = grind (arith, nat_tests, other, le) in
      let more : m - j ≡ suc (m - (j + 1)) = omega arith in
      rw (other, more) (even_first m (j + 1) pieces below)
]

even_rest : (m j n : ℕ) (pieces : List Piece) → slice_get (owned_from (λ j. j) m j pieces) (suc n) ≡ None
even_rest m j n [] = refl
even_rest m j n (piece ∷ pieces) = elim (cases_Bool (j == m)) [
  | inl own ↦ let past : m < j + 1 = grind (arith, nat_tests, own) in rw (own, even_past m (j + 1) pieces past) refl
  | inr other ↦ rw other (even_rest m (j + 1) n pieces)
]

-- Of a plan

times_least : (n members : ℕ) → 0 < members → n ≤ n * members
times_least n zero some = absurd (omega arith)
times_least n (suc more) some = let turned = mul_comm n (suc more) in let all = suc-mul more n in omega arith

pub own_chunked : (plan : PlanView) (m n all : ℕ) → plan.shape.kind ≡ StaticChunked → m < plan.members → next_piece plan m n all ≡ slice_get (pieces plan) (n * plan.members + m)
own_chunked plan m n all is lt =
    let begin : gap plan.members m 0 ≡ m = grind (arith, nat_tests) in
    let place : gap plan.members m 0 + n * plan.members ≡ n * plan.members + m = omega arith in
    let none : 0 * plan.members + 0 ≡ 0 = omega arith in
    rw is (rw (place, none) at (nth_chunked plan.members m 0 0 n (dynamic_pieces plan.shape.trips plan.shape.chunk) lt (omega arith)))

pub own_chunked_none : (plan : PlanView) (m n all : ℕ) → plan.shape.kind ≡ StaticChunked → m < plan.members → length (dynamic_pieces plan.shape.trips plan.shape.chunk) ≤ n → next_piece plan m n all ≡ None
own_chunked_none plan m n all is lt past =
    let least = times_least n plan.members (omega arith) in
    own_chunked plan m n all is lt ∙ rw is (slice_get_past (dynamic_pieces plan.shape.trips plan.shape.chunk) (n * plan.members + m) (omega arith))

pub own_even : (plan : PlanView) (m n all : ℕ) → plan.shape.kind ≡ StaticEven → n ≡ 0 → next_piece plan m n all ≡ slice_get (pieces plan) m
own_even plan m n all is first =
    let all : m - 0 ≡ m = omega arith in
    rw (is, first) (rw all at (even_first m 0 (even_pieces plan.shape.trips plan.members) (omega arith)))

pub own_even_none : (plan : PlanView) (m n all : ℕ) → plan.shape.kind ≡ StaticEven → 0 < n → next_piece plan m n all ≡ None
own_even_none plan m zero all is later = absurd (omega arith)
own_even_none plan m (suc n) all is later = rw is (even_rest m 0 n (even_pieces plan.shape.trips plan.members))
