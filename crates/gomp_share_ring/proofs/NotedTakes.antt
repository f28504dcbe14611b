-- Of which shares some member took a piece: what is noted of each slot tells.
use Rattle.std.proofs.Common.{◌≡◌, ◌≢◌, ℕ, zero, suc, ◌+◌, ◌-◌, ◌/◌, ◌%◌, ◌<◌, ◌≤◌, true, false, List, [], ◌∷◌, length, slice_get, slice_set, replicate, Option, Some, None, inl, inr, refl, ap, sym, ◌∙◌, subst, arith}
use Rattle.std.specs.Prelude.{◌==◌, nat_lt}
use Rattle.std.proofs.lemmas.Bool.{cases_Bool, cases_lt}
use Rattle.std.proofs.lemmas.Bool.Decides.{nat_tests, eqb_tells}
use Rattle.std.proofs.lemmas.List.{length-set}
use Rattle.std.proofs.lemmas.Option.{none-some}
use Rattle.gomp_types.specs.declared.limits.TheConstants.{OPEN_SHARES}
use Rattle.gomp_types.specs.declared.shape.Shape.{Shape}
use Rattle.gomp_events.specs.declared.event.Event.{Event}
use Rattle.gomp_events.specs.declared.event.Event.TheVariants.{Take}
use Rattle.gomp_events.specs.Events.{shares_entered, open_share, shape_at, has_ended, is_over}
use Rattle.gomp_types.specs.Deals.{schedule}
use Rattle.gomp_events.specs.Laws.{Always}
use Rattle.gomp_types.proofs.Booleans.{same_number, is_equal, every_tells, not_both}
use Rattle.gomp_types.proofs.Lists.{slice_get-set, slice_get-set_same, slice_get-set_other}
use Rattle.gomp_shares.specs.Calls.{taken_of, was_taken}
use Rattle.gomp_shares.specs.Rules.{ShareRule}
use Rattle.gomp_shares.proofs.SharesKeep.{member_is_inside, not_ended}
use Rattle.gomp_shares.proofs.SharesOver.{next_is_open, eight_before}
use Rattle.gomp_slots.proofs.History.{no_events_of}
use Rattle.gomp_share_ring.specs.AllShares.{IsNoted}

-- a share of which a piece was taken was entered
taken_shape : (members i : ℕ) (h : List Event) → Always (ShareRule (schedule members) members) h → was_taken i h ≡ true → (shape : Shape) × (shape_at i h ≡ Some shape)
taken_shape members i h rule taken = by (shape_at i h) refl
  where
    by : (own : Option Shape) → shape_at i h ≡ own → (shape : Shape) × (shape_at i h ≡ Some shape)
    by (Some shape) at = (shape, at)
    by None at = absurd (let none = (no_events_of members i h rule at).takes in not_both (was_taken i h) taken (ap (λ (n : ℕ). nat_lt 0 n) none))

-- so every member has left the shares before it in its slot
earlier_is_over : (members i j : ℕ) (h : List Event) → Always (ShareRule (schedule members) members) h → was_taken j h ≡ true → i < j → j % OPEN_SHARES ≡ i % OPEN_SHARES → is_over members i h ≡ true
earlier_is_over members i j h rule taken lt slot =
    let there = taken_shape members j h rule taken in
    eight_before (schedule members) members j i (j / 8 - i / 8 - 1) there.0 h rule there.1 (omega arith)

-- what is noted tells of the next share of each member whether a piece of it was taken
pub noted_none : (i : ℕ) (places : List (Option ℕ)) (h : List Event) → IsNoted places h → slice_get places (i % OPEN_SHARES) ≡ Some None → was_taken i h ≡ false
noted_none i places h noted none = elim (cases_Bool (was_taken i h)) [
  | inl taken ↦ absurd (let some = noted.most i taken in let both : ◌≡◌ {A = Option (Option ℕ)} (Some None) (Some (Some some.0)) = sym none ∙ some.1 in cc)
  | inr other ↦ other
]

-- and if one is noted, whether it is that one
pub noted_some : (members m i last : ℕ) (places : List (Option ℕ)) (h : List Event) → IsNoted places h → Always (ShareRule (schedule members) members) h → m < members → shares_entered m h ≡ i → slice_get places (i % OPEN_SHARES) ≡ Some (Some last) → was_taken i h ≡ (last == i)
noted_some members m i last places h noted rule lt next at =
    let own = noted.last (i % OPEN_SHARES) last at in
    elim (eqb_tells last i) [
      | inl e ↦ rw e.0 (subst (λ (n : ℕ). was_taken n h ≡ true) e.1 own.1)
      | inr e ↦ rw e.0 (elim (cases_Bool (was_taken i h)) [
        | inl taken ↦ absurd (
            let some = noted.most i taken in
            let same : last ≡ some.0 = one_number last some.0 (sym at ∙ some.1) in
            let apart = e.1 in
            let most : i ≤ some.0 = some.2 in
            let over = earlier_is_over members i last h rule own.1 (omega arith) own.0 in
            not_both (is_over members i h) over (ap (λ (n : ℕ). is_over members n h) (sym next) ∙ next_is_open (schedule members) members m h rule lt))
        | inr other ↦ other
      ])
    ]
  where
    one_number : (a b : ℕ) → ◌≡◌ {A = Option (Option ℕ)} (Some (Some a)) (Some (Some b)) → a ≡ b
    one_number a b e = cc

-- an event that takes no piece leaves it
pub noted_after : (places : List (Option ℕ)) (event : Event) (before now : List Event) → IsNoted places before → now ≡ event ∷ before → ((i : ℕ) → was_taken i (event ∷ before) ≡ was_taken i before) → IsNoted places now
noted_after places event before now noted goes same = rw goes (record {
  eight = noted.eight;
  most = λ i taken. noted.most i (sym (same i) ∙ taken);
  last = λ slot j at. let own = noted.last slot j at in (own.0, same j ∙ own.1);
})

-- and when one is taken, that is noted
pub noted_take : (members m i low high : ℕ) (shape : Shape) (places : List (Option ℕ)) (before now : List Event) → IsNoted places before → Always (ShareRule (schedule members) members) before → open_share m before ≡ Some (i, shape) → now ≡ Take i m low high ∷ before → IsNoted (slice_set places (i % OPEN_SHARES) (Some i)) now
noted_take members m i low high shape places before now noted rule inside goes = rw goes (record {
  eight = length-set places (i % OPEN_SHARES) (Some i) ∙ noted.eight;
  most = λ j taken. elim (eqb_tells i j) [
    | inl e ↦ (i, ap (slice_get (slice_set places (i % OPEN_SHARES) (Some i))) (ap (λ (n : ℕ). n % OPEN_SHARES) (sym e.1)) ∙ here, let same = e.1 in omega arith)
    | inr e ↦ other j (λ x. e.1 (sym x)) (taken_else j e.0 ∙ taken)
  ];
  last = λ slot j at. elim (slice_get-set places (i % OPEN_SHARES) slot (Some i) (Some j) at) [
    | inl e ↦ let same : j ≡ i = one_number j i e.1 in (rw same (sym e.0), ap (λ (n : ℕ). was_taken n (Take i m low high ∷ before)) same ∙ taken_here)
    | inr e ↦ let own = noted.last slot j e.1 in (own.0, taken_more j own.1)
  ];
})
  where
    within : i % OPEN_SHARES < length places
    within = let eight = noted.eight in omega arith

    here : slice_get (slice_set places (i % OPEN_SHARES) (Some i)) (i % OPEN_SHARES) ≡ Some (Some i)
    here = slice_get-set_same places (i % OPEN_SHARES) (Some i) within

    one_number : (a b : ℕ) → ◌≡◌ {A = Option ℕ} (Some a) (Some b) → a ≡ b
    one_number a b e = cc

    taken_here : was_taken i (Take i m low high ∷ before) ≡ true
    taken_here = let more : taken_of i (Take i m low high ∷ before) ≡ taken_of i before + 1 = rw (same_number i) refl in rw more (grind (arith, nat_tests))

    taken_else : (j : ℕ) → (i == j) ≡ false → was_taken j before ≡ was_taken j (Take i m low high ∷ before)
    taken_else j e = rw e refl

    taken_more : (j : ℕ) → was_taken j before ≡ true → was_taken j (Take i m low high ∷ before) ≡ true
    taken_more j was = elim (cases_Bool (i == j)) [
      | inl e ↦ ap (λ (n : ℕ). was_taken n (Take i m low high ∷ before)) (sym (is_equal i j e)) ∙ taken_here
      | inr e ↦ sym (taken_else j e) ∙ was
    ]

    below : (j : ℕ) → was_taken j before ≡ true → j % OPEN_SHARES ≡ i % OPEN_SHARES → j ≤ i
    below j was slot = elim (cases_lt i j) [
      | inl lt ↦ absurd (
          let over = earlier_is_over members i j before rule was lt slot in
          let member = (member_is_inside (schedule members) members m i shape before rule inside).1 in
          not_both (has_ended i m before) (every_tells members (λ k. has_ended i k before) m over member) (not_ended (schedule members) members m i shape before rule inside))
      | inr past ↦ past
    ]

    other : (j : ℕ) → j ≢ i → was_taken j before ≡ true → (k : ℕ) × (slice_get (slice_set places (i % OPEN_SHARES) (Some i)) (j % OPEN_SHARES) ≡ Some (Some k)) × (j ≤ k)
    other j apart was = elim (eqb_tells (j % OPEN_SHARES) (i % OPEN_SHARES)) [
      | inl e ↦ (i, ap (slice_get (slice_set places (i % OPEN_SHARES) (Some i))) e.1 ∙ here, below j was e.1)
      | inr e ↦ let some = noted.most j was in (some.0, slice_get-set_other places (i % OPEN_SHARES) (j % OPEN_SHARES) (Some i) e.1 ∙ some.1, some.2)
    ]

-- of a new team nothing is
pub noted_new : (did : List Event) → did ≡ [] → IsNoted (replicate OPEN_SHARES None) did
noted_new did none = rw none (record {
  eight = refl;
  most = λ i taken. absurd (let no_one : false ≡ true = taken in cc);
  last = λ slot j at. absurd (nothing 8 slot j at);
})
  where
    nothing : (n slot j : ℕ) → slice_get (replicate {A = Option ℕ} n None) slot ≡ Some (Some j) → ⊥
    nothing zero slot j at = none-some (Some j) at
    nothing (suc n) zero j at = let both : ◌≡◌ {A = Option (Option ℕ)} (Some None) (Some (Some j)) = at in cc
    nothing (suc n) (suc slot) j at = nothing n slot j at
