-- Rows under numbers: what a row that was put in, replaced or taken out changes.
use Rattle.std.proofs.Common.{◌≡◌, ◌≢◌, ℕ, ◌+◌, ◌<◌, ◌≤◌, Bool, true, false, cond, List, [], ◌∷◌, ◌++◌, Option, Some, None, length, refl, ap, ◌∙◌, sym, arith, suc, zero, inl, inr, ◌⊎◌, slice_set}
use Rattle.std.specs.Prelude.{◌==◌, IsSome, count_by, slice_index_or}
use Rattle.std.proofs.lemmas.Bool.{cases_Bool}
use Rattle.std.proofs.lemmas.List.{length-set, length-append, get_or-set_same, get_or-set_other}
use Rattle.std.proofs.lemmas.List.Sums.{sum_by-set, sum_by-append, sum_by-cons}
use Rattle.gomp_types.proofs.Booleans.{is_equal, unequal_numbers}
use Rattle.gomp_rows.specs.Rows.{row_no, HasRow, with_row}

-- A row that there is

-- has a number that was given
pub row_given : {T : Type 0} (rows : List (Option T)) (t : ℕ) (row : T) → row_no rows t ≡ Some row → (0 < t) × (t ≤ length rows)
row_given rows zero row at = absurd (cc)
row_given rows (suc k) row at = (omega arith, by rows k at)
  where
    by : {T : Type 0} {row : T} (rows : List (Option T)) (k : ℕ) → slice_index_or rows k None ≡ Some row → suc k ≤ length rows
    by [] k at = absurd (cc)
    by (r ∷ rs) zero at = omega arith
    by (r ∷ rs) (suc k) at = let less = by rs k at in omega (arith, less)

pub row_is_there : {T : Type 0} (rows : List (Option T)) (t : ℕ) (row : T) → row_no rows t ≡ Some row → HasRow rows t
row_is_there rows t row at = rw at refl

pub row_under : {T : Type 0} (rows : List (Option T)) (t : ℕ) → HasRow rows t → (row : T) × (row_no rows t ≡ Some row)
row_under {T} rows t has = by (row_no rows t) has
  where
    by : (found : Option T) → IsSome found → (row : T) × (found ≡ Some row)
    by None has = absurd (cc)
    by (Some row) has = (row, refl)

pub row_or_none : {T : Type 0} (found : Option T) → (found ≡ None) ⊎ ((row : T) × (found ≡ Some row))
row_or_none None = inl refl
row_or_none (Some row) = inr (row, refl)

-- A row that is replaced or taken out

pub as_many_rows : {T : Type 0} (rows : List (Option T)) (t : ℕ) (new : Option T) → length (with_row rows t new) ≡ length rows
as_many_rows rows zero new = refl
as_many_rows rows (suc k) new = length-set rows k new

pub replaced_row : {T : Type 0} (rows : List (Option T)) (t : ℕ) (row : T) (new : Option T) → row_no rows t ≡ Some row → row_no (with_row rows t new) t ≡ new
replaced_row rows zero row new at = absurd (cc)
replaced_row rows (suc k) row new at = let high = (row_given rows (suc k) row at).1 in get_or-set_same rows k new None (omega (arith, high))

pub untouched_row : {T : Type 0} (rows : List (Option T)) (t x : ℕ) (new : Option T) → x ≢ t → row_no (with_row rows t new) x ≡ row_no rows x
untouched_row rows zero x new apart = refl
untouched_row rows (suc k) zero new apart = refl
untouched_row rows (suc k) (suc j) new apart = get_or-set_other rows k j new None (λ same. apart (ap suc same))

-- the row that was put in the place of another, or one of the others
pub row_replaced : {T : Type 0} (rows : List (Option T)) (t x : ℕ) (row found : T) (new : Option T) → row_no rows t ≡ Some row → row_no (with_row rows t new) x ≡ Some found → ((x ≡ t) × (new ≡ Some found)) ⊎ ((x ≢ t) × (row_no rows x ≡ Some found))
row_replaced rows t x row found new at at_x = elim (cases_Bool (x == t)) [
  | inl here ↦ let same = is_equal x t here in inl (same, sym (replaced_row rows t row new at) ∙ (rw same at at_x))
  | inr other ↦ let apart = unequal_numbers x t other in inr (apart, sym (untouched_row rows t x new apart) ∙ at_x)
]

-- no row where there was one: it was taken out, or there was none
pub row_replaced_by_none : {T : Type 0} (rows : List (Option T)) (t x : ℕ) (row : T) (new : Option T) → row_no rows t ≡ Some row → row_no (with_row rows t new) x ≡ None → ((x ≡ t) × (new ≡ None)) ⊎ ((x ≢ t) × (row_no rows x ≡ None))
row_replaced_by_none rows t x row new at at_x = elim (cases_Bool (x == t)) [
  | inl here ↦ let same = is_equal x t here in inl (same, sym (replaced_row rows t row new at) ∙ (rw same at at_x))
  | inr other ↦ let apart = unequal_numbers x t other in inr (apart, sym (untouched_row rows t x new apart) ∙ at_x)
]

-- a row stays if it is not taken out
pub row_stays : {T : Type 0} (rows : List (Option T)) (t x : ℕ) (row new : T) → row_no rows t ≡ Some row → HasRow rows x → HasRow (with_row rows t (Some new)) x
row_stays rows t x row new at has = elim (cases_Bool (x == t)) [
  | inl here ↦ rw (is_equal x t here, replaced_row rows t row (Some new) at) refl
  | inr other ↦ rw (untouched_row rows t x (Some new) (unequal_numbers x t other)) has
]

pub other_row_stays : {T : Type 0} (rows : List (Option T)) (t x : ℕ) (new : Option T) → x ≢ t → HasRow rows x → HasRow (with_row rows t new) x
other_row_stays rows t x new apart has = rw (untouched_row rows t x new apart) has

-- A row that is put in

pub row_put_last : {T : Type 0} (rows : List (Option T)) (row : T) → row_no (rows ++ Some row ∷ []) (suc (length rows)) ≡ Some row
row_put_last [] row = refl
row_put_last (r ∷ rs) row = row_put_last rs row

pub row_put_before : {T : Type 0} (rows : List (Option T)) (row : T) (x : ℕ) → x ≢ suc (length rows) → row_no (rows ++ Some row ∷ []) x ≡ row_no rows x
row_put_before rows row zero apart = refl
row_put_before rows row (suc k) apart = by rows row k (λ same. apart (ap suc same))
  where
    by : {T : Type 0} (rows : List (Option T)) (row : T) (k : ℕ) → k ≢ length rows → slice_index_or (rows ++ Some row ∷ []) k None ≡ slice_index_or rows k None
    by [] row zero apart = absurd (apart refl)
    by [] row (suc k) apart = refl
    by (r ∷ rs) row zero apart = refl
    by (r ∷ rs) row (suc k) apart = by rs row k (λ same. apart (ap suc same))

-- a row may as well be replaced before another is put in
pub replaced_before_put : {T : Type 0} (rows : List (Option T)) (row : T) (t : ℕ) (old : T) (new : Option T) → row_no rows t ≡ Some old → with_row rows t new ++ Some row ∷ [] ≡ with_row (rows ++ Some row ∷ []) t new
replaced_before_put rows row zero old new at = absurd (cc)
replaced_before_put {T} rows row (suc k) old new at = by rows k at
  where
    by : (rest : List (Option T)) (k : ℕ) → slice_index_or rest k None ≡ Some old → slice_set rest k new ++ Some row ∷ [] ≡ slice_set (rest ++ Some row ∷ []) k new
    by [] k at = absurd (cc)
    by (r ∷ rs) zero at = refl
    by (r ∷ rs) (suc k) at = ap (λ xs. r ∷ xs) (by rs k at)

pub row_put : {T : Type 0} (rows : List (Option T)) (row found : T) (x : ℕ) → row_no (rows ++ Some row ∷ []) x ≡ Some found → ((x ≡ suc (length rows)) × (row ≡ found)) ⊎ ((x ≢ suc (length rows)) × (row_no rows x ≡ Some found))
row_put rows row found x at = elim (cases_Bool (x == suc (length rows))) [
  | inl here ↦ let same = is_equal x (suc (length rows)) here in let e : Some row ≡ Some found = sym (row_put_last rows row) ∙ (rw same at at) in inl (same, cc)
  | inr other ↦ let apart = unequal_numbers x (suc (length rows)) other in inr (apart, sym (row_put_before rows row x apart) ∙ at)
]

pub one_row_more : {T : Type 0} (rows : List (Option T)) (row : T) → length (rows ++ Some row ∷ []) ≡ suc (length rows)
one_row_more rows row = let longer = length-append rows (Some row ∷ []) in omega (arith, longer)

-- Counted rows

-- a row that is replaced changes the count by itself alone
pub count_replaced : {T : Type 0} (test : Option T → Bool) (rows : List (Option T)) (t : ℕ) (row : T) (new : Option T) → row_no rows t ≡ Some row → count_by test (with_row rows t new) + cond (test (Some row)) 1 0 ≡ count_by test rows + cond (test new) 1 0
count_replaced test rows zero row new at = absurd (cc)
count_replaced test rows (suc k) row new at =
    let high = (row_given rows (suc k) row at).1 in
    let counted = sum_by-set (λ r. cond (test r) 1 0) rows k new None (omega (arith, high)) in
    rw (← at) counted

pub count_put : {T : Type 0} (test : Option T → Bool) (rows : List (Option T)) (row : T) → count_by test (rows ++ Some row ∷ []) ≡ count_by test rows + cond (test (Some row)) 1 0
count_put test rows row = let whole = sum_by-append (λ r. cond (test r) 1 0) rows (Some row ∷ []) in omega (arith, whole)

-- one that passes is counted
pub passing_row_is_counted : {T : Type 0} (test : Option T → Bool) (rows : List (Option T)) (x : ℕ) (row : T) → test None ≡ false → row_no rows x ≡ Some row → test (Some row) ≡ true → 0 < count_by test rows
passing_row_is_counted test rows x row off at on =
    let without = count_replaced test rows x row None at in
    let less : count_by test (with_row rows x None) + 1 ≡ count_by test rows + 0 = rw (on, off) at without in
    omega (arith, less)

-- and what is counted is one
pub some_is_counted : {T : Type 0} (test : Option T → Bool) (rows : List (Option T)) → test None ≡ false → 0 < count_by test rows → (x : ℕ) × (row : T) × (row_no rows x ≡ Some row) × (test (Some row) ≡ true)
some_is_counted test [] off some = absurd (omega arith)
some_is_counted {T} test (r ∷ rs) off some = by r refl (cases_Bool (test r)) (λ rest. some_is_counted test rs off rest)
  where
    later : (x : ℕ) × (row : T) × (row_no rs x ≡ Some row) × (test (Some row) ≡ true) → (x : ℕ) × (row : T) × (row_no (r ∷ rs) x ≡ Some row) × (test (Some row) ≡ true)
    later (zero, row, at, on) = absurd (cc)
    later (suc k, row, at, on) = (suc (suc k), row, at, on)

    by : (found : Option T) → r ≡ found → (test r ≡ true) ⊎ (test r ≡ false) → (0 < count_by test rs → (x : ℕ) × (row : T) × (row_no rs x ≡ Some row) × (test (Some row) ≡ true)) → (x : ℕ) × (row : T) × (row_no (r ∷ rs) x ≡ Some row) × (test (Some row) ≡ true)
    by None is (inl on) further = absurd (let e : false ≡ true = sym off ∙ ap test (sym is) ∙ on in cc)
    by (Some row) is (inl on) further = (1, row, is, ap test (sym is) ∙ on)
    by found is (inr away) further =
        let whole = sum_by-cons (λ x. cond (test x) 1 0) r rs in
        let none : cond {A = ℕ} (test r) 1 0 ≡ 0 = rw away refl in
        later (further (omega (arith, whole, none, some)))

-- none is counted if none passes
pub no_row_is_counted : {T : Type 0} (test : Option T → Bool) (rows : List (Option T)) → test None ≡ false → ((x : ℕ) (row : T) → row_no rows x ≡ Some row → test (Some row) ≡ false) → count_by test rows ≡ 0
no_row_is_counted test [] off each = refl
no_row_is_counted {T} test (r ∷ rs) off each =
    let whole = sum_by-cons (λ x. cond (test x) 1 0) r rs in
    let rest = no_row_is_counted test rs off (λ x row at. later x row at) in
    let first = by r (λ row same. each 1 row same) in
    let both : cond (test r) 1 0 + count_by test rs ≡ 0 = rw first (omega (arith, rest)) in
    whole ∙ both
  where
    later : (x : ℕ) (row : T) → row_no rs x ≡ Some row → test (Some row) ≡ false
    later zero row at = absurd (cc)
    later (suc k) row at = each (suc (suc k)) row at

    by : (found : Option T) → ((row : T) → found ≡ Some row → test (Some row) ≡ false) → test found ≡ false
    by None is = off
    by (Some row) is = is row refl
