-- The list of tasks goes with the rows.
use Rattle.std.proofs.Common.{◌≡◌, ℕ, ◌+◌, ◌<◌, Bool, true, false, List, [], ◌∷◌, Option, Some, None, refl, ap, ◌∙◌, sym, subst, arith, inl, inr}
use Rattle.std.specs.Prelude.{◌==◌, ◌&&◌, ◌||◌, ◌≢◌, not, IfSome}
use Rattle.std.specs.Coded.{le_prop}
use Rattle.std.specs.BTreeMap as tree
use mathlib.Core.Logic.{∥∥₁_elim, ∥∥₁_map}
use Rattle.std.proofs.lemmas.Bool.{cases_Bool}
use Rattle.std.proofs.lemmas.Bool.Decides.{eqb_tells}
use Rattle.gomp_events.specs.Tasks.{contains}
use Rattle.gomp_types.proofs.Booleans.{and_left, and_false, not_both, other_number}
use Rattle.gomp_depend.specs.declared.free_list.FreeList.{FreeList}
use Rattle.gomp_depend.specs.declared.rows.Row.{Row}
use Rattle.gomp_depend.specs.FreeTasks.{is_listed_free, listed_waiting_count}
use Rattle.gomp_depend.specs.Rows.{names_items, no_row, row_in, is_free_row, is_waiting_row, WaitAll, Tied}
use Rattle.gomp_depend.proofs.Listed.{without_task, contains_without, different_without, one_less_without, contained_is_some}

-- The tasks that wait

waits_as : (one other : Row) → one ≡ other → is_waiting_row one ≡ is_waiting_row other
waits_as one other e = ap is_waiting_row e

-- they are the same if the change touches none of them
pub wait_still : (rows after : tree.BTreeMap ℕ Row) (task : ℕ) (tasks : List ℕ) → WaitAll rows tasks → is_waiting_row (row_in task rows) ≡ is_waiting_row (row_in task after) → ((t : ℕ) → t ≢ task → row_in t after ≡ row_in t rows) → WaitAll after tasks
wait_still rows after task tasks all same others = record {
  differ = all.differ;
  waits = λ t. elim (eqb_tells task t) [
    | inl here ↦ subst (λ (u : ℕ). contains u tasks ≡ is_waiting_row (row_in u after)) here.1 (all.waits task ∙ same)
    | inr away ↦ all.waits t ∙ waits_as _ _ (sym (others t (λ e. away.1 (sym e))))
  ];
}

-- one more waits
pub wait_more : (rows after : tree.BTreeMap ℕ Row) (task : ℕ) (tasks : List ℕ) → WaitAll rows tasks → is_waiting_row (row_in task rows) ≡ false → is_waiting_row (row_in task after) ≡ true → ((t : ℕ) → t ≢ task → row_in t after ≡ row_in t rows) → WaitAll after (task ∷ tasks)
wait_more rows after task tasks all was now others = record {
  differ = rw (all.waits task ∙ was) all.differ;
  waits = λ t. elim (eqb_tells task t) [
    | inl here ↦ rw here.0 (sym (ap (λ (u : ℕ). is_waiting_row (row_in u after)) (sym here.1) ∙ now))
    | inr away ↦ rw away.0 (all.waits t ∙ waits_as _ _ (sym (others t (λ e. away.1 (sym e)))))
  ];
}

-- one waits no more
pub wait_fewer : (rows after : tree.BTreeMap ℕ Row) (task : ℕ) (tasks : List ℕ) → WaitAll rows tasks → is_waiting_row (row_in task after) ≡ false → ((t : ℕ) → t ≢ task → row_in t after ≡ row_in t rows) → WaitAll after (without_task task tasks)
wait_fewer rows after task tasks all now others = record {
  differ = different_without task tasks all.differ;
  waits = λ t. elim (eqb_tells task t) [
    | inl here ↦
        contains_without t task tasks all.differ ∙ rw here.0 (and_false (contains t tasks) false refl ∙ sym (ap (λ (u : ℕ). is_waiting_row (row_in u after)) (sym here.1) ∙ now))
    | inr away ↦
        contains_without t task tasks all.differ ∙ rw away.0 (and_with_true (contains t tasks)) ∙ all.waits t ∙ waits_as _ _ (sym (others t (λ e. away.1 (sym e))))
  ];
}
  where
    and_with_true : (b : Bool) → (b && true) ≡ b
    and_with_true true = refl
    and_with_true false = refl

-- a row with items waits at no address, or at some
pub row_is_free : (row : Row) → names_items row ≡ true → (row.held_count == 0) ≡ true → (is_free_row row ≡ true) × (is_waiting_row row ≡ false)
row_is_free row some none = (ap (λ (b : Bool). b && row.held_count == 0) some ∙ none, ap (λ (b : Bool). b && not (row.held_count == 0)) some ∙ ap not none)

pub row_is_waiting : (row : Row) → names_items row ≡ true → (row.held_count == 0) ≡ false → is_waiting_row row ≡ true
row_is_waiting row some held = ap (λ (b : Bool). b && not (row.held_count == 0)) some ∙ ap not held

pub held_is_not_none : (row : Row) → 0 < row.held_count → (row.held_count == 0) ≡ false
held_is_not_none row held = other_number row.held_count 0 (λ e. omega (arith, e, held))

-- The list

-- a task that waits is counted
pub waiting_is_counted : (rows : tree.BTreeMap ℕ Row) (list : FreeList) (t : ℕ) → Tied rows list → is_waiting_row (row_in t rows) ≡ true → 0 < listed_waiting_count list
waiting_is_counted rows list t tied waits = ∥∥₁_elim tied.waits le_prop (λ all.
    let some = contained_is_some t all.0 (all.1.waits t ∙ waits) in
    let count = all.2 in
    omega (arith, some, count))

-- a task without items, or that waits, was not freed
pub no_items_not_freed : (rows : tree.BTreeMap ℕ Row) (list : FreeList) (t : ℕ) → Tied rows list → is_free_row (row_in t rows) ≡ false → is_listed_free t list ≡ false
no_items_not_freed rows list t tied none = elim (cases_Bool (is_listed_free t list)) [
  | inl free ↦ absurd (not_both (is_free_row (row_in t rows)) (tied.freed t free) none)
  | inr held ↦ held
]

pub waiting_not_freed : (rows : tree.BTreeMap ℕ Row) (list : FreeList) (t : ℕ) → Tied rows list → is_waiting_row (row_in t rows) ≡ true → is_listed_free t list ≡ false
waiting_not_freed rows list t tied waits = no_items_not_freed rows list t tied (neither (names_items (row_in t rows)) ((row_in t rows).held_count == 0) waits)
  where
    neither : (some none : Bool) → (some && not none) ≡ true → (some && none) ≡ false
    neither true true e = absurd (cc)
    neither true false e = refl
    neither false none e = refl

pub unnamed_not_freed : (rows : tree.BTreeMap ℕ Row) (list : FreeList) (t : ℕ) → Tied rows list → names_items (row_in t rows) ≡ false → is_listed_free t list ≡ false
unnamed_not_freed rows list t tied none = no_items_not_freed rows list t tied (ap (λ (b : Bool). b && (row_in t rows).held_count == 0) none)

-- the tasks that were freed have free rows if each of them did, or is the one whose row is changed
freed_rows : (rows after : tree.BTreeMap ℕ Row) (list last : FreeList) (task : ℕ) → Tied rows list → ((t : ℕ) → t ≢ task → row_in t after ≡ row_in t rows) → ((t : ℕ) → (task == t) ≡ false → is_listed_free t last ≡ is_listed_free t list) →
    (is_listed_free task last ≡ true → is_free_row (row_in task after) ≡ true) → (t : ℕ) → is_listed_free t last ≡ true → is_free_row (row_in t after) ≡ true
freed_rows rows after list last task tied others freed own t is = elim (eqb_tells task t) [
  | inl here ↦ subst (λ (u : ℕ). is_listed_free u last ≡ true → is_free_row (row_in u after) ≡ true) here.1 own is
  | inr away ↦ ap is_free_row (others t (λ e. away.1 (sym e))) ∙ tied.freed t (sym (freed t away.0) ∙ is)
]

freed_but_one : (freed : Bool) (task t : ℕ) → (task == t) ≡ false → (freed || task == t) ≡ freed
freed_but_one true task t other = refl
freed_but_one false task t other = other

-- other room, and other places for rows that say nothing
pub tied_same : (rows after : tree.BTreeMap ℕ Row) (list last : FreeList) → Tied rows list → ((t : ℕ) → row_in t after ≡ row_in t rows) → ((t : ℕ) → is_listed_free t last ≡ is_listed_free t list) → listed_waiting_count last ≡ listed_waiting_count list → Tied after last
tied_same rows after list last tied same freed count = record {
  freed = λ t is. ap is_free_row (same t) ∙ tied.freed t (sym (freed t) ∙ is);
  waits = ∥∥₁_map tied.waits (λ all. (all.0, record { differ = all.1.differ; waits = λ t. all.1.waits t ∙ waits_as _ _ (sym (same t)) }, all.2 ∙ sym count));
}

-- no rows
pub tied_empty : (rows : tree.BTreeMap ℕ Row) (list : FreeList) → ((t : ℕ) → row_in t rows ≡ no_row) → ((t : ℕ) → is_listed_free t list ≡ false) → listed_waiting_count list ≡ 0 → Tied rows list
tied_empty rows list none freed count = record {
  freed = λ t is. absurd (not_both (is_listed_free t list) is (freed t));
  waits = ∣ ([], record { differ = refl; waits = λ t. sym (ap is_waiting_row (none t)) }, sym count) ∣₁;
}

-- a task is handed out
pub tied_handed : (rows : tree.BTreeMap ℕ Row) (list last : FreeList) → Tied rows list → ((t : ℕ) → is_listed_free t last ≡ true → is_listed_free t list ≡ true) → listed_waiting_count last ≡ listed_waiting_count list → Tied rows last
tied_handed rows list last tied freed count = record { freed = λ t is. tied.freed t (freed t is); waits = ∥∥₁_map tied.waits (λ all. (all.0, all.1, all.2 ∙ sym count)) }

pub handed_were_freed : (list last : FreeList) (task : Option ℕ) → IfSome task (λ t. (u : ℕ) → is_listed_free u last ≡ (is_listed_free u list && not (t == u))) → (task ≡ None → last ≡ list) → (t : ℕ) → is_listed_free t last ≡ true → is_listed_free t list ≡ true
handed_were_freed list last None rest same t is = sym (ap (is_listed_free t) (same refl)) ∙ is
handed_were_freed list last (Some u) rest same t is = and_left (is_listed_free t list) (not (u == t)) (sym (rest t) ∙ is)

-- a row of a task that waits
pub tied_put : (rows after : tree.BTreeMap ℕ Row) (list last : FreeList) (task : ℕ) (row : Row) → Tied rows list → names_items (row_in task rows) ≡ false → is_waiting_row row ≡ true → row_in task after ≡ row → ((t : ℕ) → t ≢ task → row_in t after ≡ row_in t rows) →
    ((t : ℕ) → is_listed_free t last ≡ is_listed_free t list) → listed_waiting_count last ≡ listed_waiting_count list + 1 → Tied after last
tied_put rows after list last task row tied new waits is others freed count =
    let was : is_waiting_row (row_in task rows) ≡ false = ap (λ (b : Bool). b && not ((row_in task rows).held_count == 0)) new in
    record {
      freed = freed_rows rows after list last task tied others (λ t other. freed t) (λ free. absurd (not_both (is_listed_free task list) (sym (freed task) ∙ free) (unnamed_not_freed rows list task tied new)));
      waits = ∥∥₁_map tied.waits (λ all. (task ∷ all.0, wait_more rows after task all.0 all.1 was (ap is_waiting_row is ∙ waits) others, (let length_is = all.2 in omega (arith, length_is, count))));
    }

-- or of one that is free
pub tied_put_free : (rows after : tree.BTreeMap ℕ Row) (list last : FreeList) (task : ℕ) (row : Row) → Tied rows list → names_items (row_in task rows) ≡ false → is_free_row row ≡ true → row_in task after ≡ row → ((t : ℕ) → t ≢ task → row_in t after ≡ row_in t rows) →
    ((t : ℕ) → is_listed_free t last ≡ (is_listed_free t list || (task == t))) → listed_waiting_count last ≡ listed_waiting_count list → Tied after last
tied_put_free rows after list last task row tied new free is others freed count =
    let was : is_waiting_row (row_in task rows) ≡ false = ap (λ (b : Bool). b && not ((row_in task rows).held_count == 0)) new in
    let waits_not : is_waiting_row (row_in task after) ≡ false = ap is_waiting_row is ∙ free_waits_not row free in
    record {
      freed = freed_rows rows after list last task tied others (λ t other. freed t ∙ freed_but_one (is_listed_free t list) task t other) (λ own. ap is_free_row is ∙ free);
      waits = ∥∥₁_map tied.waits (λ all. (all.0, wait_still rows after task all.0 all.1 (was ∙ sym waits_not) others, all.2 ∙ sym count));
    }
  where
    either : (some none : Bool) → (some && none) ≡ true → (some && not none) ≡ false
    either true true e = refl
    either true false e = absurd (cc)
    either false none e = refl

    free_waits_not : (r : Row) → is_free_row r ≡ true → is_waiting_row r ≡ false
    free_waits_not r e = either (names_items r) (r.held_count == 0) e

-- a task waits at one address less, and at others
pub tied_lowered : (rows after : tree.BTreeMap ℕ Row) (list : FreeList) (task : ℕ) → Tied rows list → is_waiting_row (row_in task rows) ≡ true → is_waiting_row (row_in task after) ≡ true → ((t : ℕ) → t ≢ task → row_in t after ≡ row_in t rows) → Tied after list
tied_lowered rows after list task tied was now others = record {
  freed = freed_rows rows after list list task tied others (λ t other. refl) (λ free. absurd (not_both (is_listed_free task list) free (waiting_not_freed rows list task tied was)));
  waits = ∥∥₁_map tied.waits (λ all. (all.0, wait_still rows after task all.0 all.1 (was ∙ sym now) others, all.2));
}

-- or at none
pub tied_freed : (rows after : tree.BTreeMap ℕ Row) (list last : FreeList) (task : ℕ) → Tied rows list → is_waiting_row (row_in task rows) ≡ true → is_free_row (row_in task after) ≡ true → is_waiting_row (row_in task after) ≡ false → ((t : ℕ) → t ≢ task → row_in t after ≡ row_in t rows) →
    ((t : ℕ) → is_listed_free t last ≡ (is_listed_free t list || (task == t))) → listed_waiting_count last + 1 ≡ listed_waiting_count list → Tied after last
tied_freed rows after list last task tied was free waits_not others freed count = record {
  freed = freed_rows rows after list last task tied others (λ t other. freed t ∙ freed_but_one (is_listed_free t list) task t other) (λ own. free);
  waits = ∥∥₁_map tied.waits (λ all.
      let less = one_less_without task all.0 (all.1.waits task ∙ was) in
      let length_is = all.2 in
      (without_task task all.0, wait_fewer rows after task all.0 all.1 waits_not others, omega (arith, less, length_is, count)));
}

-- a row less, of a task that was not freed, and waits
pub tied_removed : (rows after : tree.BTreeMap ℕ Row) (list last : FreeList) (task : ℕ) → Tied rows list → is_listed_free task list ≡ false → is_waiting_row (row_in task rows) ≡ true → row_in task after ≡ no_row → ((t : ℕ) → t ≢ task → row_in t after ≡ row_in t rows) →
    ((t : ℕ) → is_listed_free t last ≡ is_listed_free t list) → listed_waiting_count last + 1 ≡ listed_waiting_count list → Tied after last
tied_removed rows after list last task tied held was gone others freed count = record {
  freed = freed_rows rows after list last task tied others (λ t other. freed t) (λ free. absurd (not_both (is_listed_free task list) (sym (freed task) ∙ free) held));
  waits = ∥∥₁_map tied.waits (λ all.
      let less = one_less_without task all.0 (all.1.waits task ∙ was) in
      let length_is = all.2 in
      (without_task task all.0, wait_fewer rows after task all.0 all.1 (ap is_waiting_row gone) others, omega (arith, less, length_is, count)));
}

-- or does not wait
pub tied_removed_free : (rows after : tree.BTreeMap ℕ Row) (list : FreeList) (task : ℕ) → Tied rows list → is_listed_free task list ≡ false → is_waiting_row (row_in task rows) ≡ false → row_in task after ≡ no_row → ((t : ℕ) → t ≢ task → row_in t after ≡ row_in t rows) → Tied after list
tied_removed_free rows after list task tied held idle gone others = record {
  freed = freed_rows rows after list list task tied others (λ t other. refl) (λ free. absurd (not_both (is_listed_free task list) free held));
  waits = ∥∥₁_map tied.waits (λ all. (all.0, wait_still rows after task all.0 all.1 (idle ∙ sym (ap is_waiting_row gone)) others, all.2));
}
