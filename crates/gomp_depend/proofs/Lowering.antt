-- Tasks wait at fewer addresses, and those that wait at none any more are freed.
use Rattle.std.proofs.Common.{◌≡◌, ℕ, ◌<◌, ◌≤◌, ◌-◌, Bool, true, false, refl, ap, ◌∙◌, sym, subst, arith, inl, inr}
use Rattle.std.specs.Prelude.{◌==◌, ◌&&◌, ◌||◌, ◌≢◌, not, nat_lt}
use Rattle.std.proofs.lemmas.Bool.Decides.{eqb_tells}
use Rattle.gomp_types.proofs.Booleans.{same_number, other_number}
use Rattle.gomp_depend.specs.declared.rows.Row.{Row}
use Rattle.gomp_depend.specs.declared.rows.RowTable.{RowTable}
use Rattle.gomp_depend.specs.Rows.{names_items, is_waiting_row}
use Rattle.gomp_depend.specs.Tables.{depend_row, has_entry, is_row_freed, listed_row_count, LowersRows}

freed_still : (freed some none : Bool) → freed ≡ (freed || ((some && not none) && none))
freed_still true some none = refl
freed_still false true true = refl
freed_still false true false = refl
freed_still false false none = refl

-- no step
pub lowers_nothing : (rows : RowTable) → LowersRows rows rows
lowers_nothing rows = record { parents = λ t. refl; named = λ t. refl; fewer = λ t. omega arith; freed = λ t. freed_still (is_row_freed t rows) (names_items (depend_row t rows)) ((depend_row t rows).held_count == 0); listed = refl; entries = λ t. refl }

-- one step
pub lowers_one : (task : ℕ) (free : Bool) (before after : RowTable) → 0 < (depend_row task before).held_count → names_items (depend_row task before) ≡ true →
    depend_row task after ≡ record (depend_row task before) { held_count = (depend_row task before).held_count - 1 } → ((t : ℕ) → t ≢ task → depend_row t after ≡ depend_row t before) →
    free ≡ ((depend_row task after).held_count == 0) → ((t : ℕ) → is_row_freed t after ≡ (is_row_freed t before || (free && task == t))) → listed_row_count after ≡ listed_row_count before → ((t : ℕ) → has_entry t after ≡ has_entry t before) → LowersRows before after
lowers_one task free before after held some lowered others is freed listed entries = record {
  parents = λ t. elim (eqb_tells task t) [
    | inl here ↦ subst (λ (u : ℕ). (depend_row u after).parent ≡ (depend_row u before).parent) here.1 (ap (λ (row : Row). row.parent) lowered)
    | inr away ↦ ap (λ (row : Row). row.parent) (others t (λ e. away.1 (sym e)))
  ];
  named = λ t. elim (eqb_tells task t) [
    | inl here ↦ subst (λ (u : ℕ). (depend_row u after).named ≡ (depend_row u before).named) here.1 (ap (λ (row : Row). row.named) lowered)
    | inr away ↦ ap (λ (row : Row). row.named) (others t (λ e. away.1 (sym e)))
  ];
  fewer = λ t. elim (eqb_tells task t) [
    | inl here ↦ subst (λ (u : ℕ). (depend_row u after).held_count ≤ (depend_row u before).held_count) here.1 (let count = ap (λ (row : Row). row.held_count) lowered in omega (arith, count))
    | inr away ↦ let count = ap (λ (row : Row). row.held_count) (others t (λ e. away.1 (sym e))) in omega (arith, count)
  ];
  freed = λ t. elim (eqb_tells task t) [
    | inl here ↦ subst (λ (u : ℕ). is_row_freed u after ≡ (is_row_freed u before || (is_waiting_row (depend_row u before) && (depend_row u after).held_count == 0))) here.1 at_the_task
    | inr away ↦
        freed t ∙ rw away.0 (at_another (is_row_freed t before) free (names_items (depend_row t before)) ((depend_row t before).held_count == 0))
        ∙ ap (λ (row : Row). is_row_freed t before || (is_waiting_row (depend_row t before) && row.held_count == 0)) (sym (others t (λ e. away.1 (sym e))))
  ];
  listed = listed;
  entries = entries;
}
  where
    at_another : (freed free some none : Bool) → (freed || (free && false)) ≡ (freed || ((some && not none) && none))
    at_another true free some none = refl
    at_another false true some none = freed_still false some none
    at_another false false some none = freed_still false some none

    either_order : (freed free waits : Bool) → waits ≡ true → (freed || (free && true)) ≡ (freed || (waits && free))
    either_order freed true true e = refl
    either_order freed false true e = refl
    either_order freed free false e = absurd (cc)

    at_the_task : is_row_freed task after ≡ (is_row_freed task before || (is_waiting_row (depend_row task before) && (depend_row task after).held_count == 0))
    at_the_task =
        let count : ((depend_row task before).held_count == 0) ≡ false = other_number (depend_row task before).held_count 0 (λ e. omega (arith, e, held)) in
        let waits : is_waiting_row (depend_row task before) ≡ true = ap (λ (b : Bool). b && not ((depend_row task before).held_count == 0)) some ∙ ap not count in
        freed task ∙ ap (λ (b : Bool). is_row_freed task before || (free && b)) (same_number task) ∙ either_order (is_row_freed task before) free (is_waiting_row (depend_row task before)) waits
        ∙ ap (λ (b : Bool). is_row_freed task before || (is_waiting_row (depend_row task before) && b)) is

-- one after another
pub lowers_more : (before middle after : RowTable) → LowersRows before middle → LowersRows middle after → LowersRows before after
lowers_more before middle after one two = record {
  parents = λ t. two.parents t ∙ one.parents t;
  named = λ t. two.named t ∙ one.named t;
  fewer = λ t. let first = one.fewer t in let second = two.fewer t in omega (arith, first, second);
  freed = λ t.
      two.freed t ∙ ap (λ (b : Bool). b || (is_waiting_row (depend_row t middle) && (depend_row t after).held_count == 0)) (one.freed t)
      ∙ ap (λ (x : ℕ). (is_row_freed t before || (is_waiting_row (depend_row t before) && (depend_row t middle).held_count == 0)) || ((nat_lt 0 x && not ((depend_row t middle).held_count == 0)) && (depend_row t after).held_count == 0)) (one.named t)
      ∙ freed_by_both (is_row_freed t before) (names_items (depend_row t before)) (depend_row t before).held_count (depend_row t middle).held_count (depend_row t after).held_count (one.fewer t) (two.fewer t);
  listed = two.listed ∙ one.listed;
  entries = λ t. two.entries t ∙ one.entries t;
}
  where
    by : (none : Bool) → ((not none && true) || (false && true)) ≡ (not none && true)
    by true = refl
    by false = refl

    freed_by_both : (freed some : Bool) (n m k : ℕ) → m ≤ n → k ≤ m → ((freed || ((some && not (n == 0)) && m == 0)) || ((some && not (m == 0)) && k == 0)) ≡ (freed || ((some && not (n == 0)) && k == 0))
    freed_by_both true some n m k le less = refl
    freed_by_both false false n m k le less = refl
    freed_by_both false true n m k le less = elim (eqb_tells m 0) [
      | inl none ↦
          let last : k ≡ 0 = (let first = none.1 in omega (arith, first, less)) in
          let zero : (k == 0) ≡ true = rw last refl in
          rw (none.0, zero) (by (n == 0))
      | inr some_left ↦
          let was : (n == 0) ≡ false = other_number n 0 (λ e. some_left.1 (omega (arith, e, le))) in
          rw (some_left.0, was) refl
    ]
