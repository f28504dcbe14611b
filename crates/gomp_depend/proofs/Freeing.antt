-- Tasks that may go at an address become free there one by one.
use Rattle.std.proofs.Common.{◌≡◌, ℕ, ◌<◌, ◌+◌, ◌-◌, true, false, List, [], Option, refl, ap, ◌∙◌, sym, subst, arith, inl, inr}
use Rattle.std.specs.Prelude.{◌==◌, ◌&&◌, ◌≢◌, not, length}
use Rattle.std.proofs.lemmas.Bool.{cases_Bool}
use Rattle.std.proofs.lemmas.Bool.Decides.{eqb_tells}
use Rattle.gomp_types.specs.declared.task.Task.{Task}
use Rattle.gomp_types.specs.declared.depend.Dep.{Dep}
use Rattle.gomp_events.specs.Tasks.{same_task}
use Rattle.gomp_types.proofs.Booleans.{is_equal, same_number, and_left, and_right, and_true_is_the_same}
use Rattle.gomp_events.proofs.GroupsKeep.{same_is_one, one_is_same}
use Rattle.gomp_lines.specs.Lines.{Entry}
use Rattle.gomp_lines.specs.Queues.{LineView, is_held_back, LineQueues}
use Rattle.gomp_lines.proofs.QueueSteps.{held_is_in}
use Rattle.gomp_depend.specs.declared.rows.Row.{Row}
use Rattle.gomp_depend.specs.declared.rows.RowTable.{RowTable}
use Rattle.gomp_depend.specs.declared.table.LineTable.{LineTable}
use Rattle.gomp_depend.specs.Tables.{is_key, entry_at, line_at, or_no_tasks, depend_row, LowersRows}
use Rattle.gomp_depend.specs.Rows.{names_items}
use Rattle.gomp_depend.specs.Books.{names, addresses_where, holds, row_by, Agree, AreIn}
use Rattle.gomp_depend.proofs.Addresses.{where_same, where_less, named_has_items, some_are_named}
use Rattle.gomp_depend.proofs.Lowering.{lowers_nothing, lowers_more}

-- Keys

pub key_is : (parent p : Task) (addr a : ℕ) → is_key parent addr p a ≡ true → (parent ≡ p) × (addr ≡ a)
key_is parent p addr a e = (same_is_one parent p (and_left (same_task parent p) (addr == a) e), is_equal addr a (and_right (same_task parent p) (addr == a) e))

-- Rows

-- a row with this count
abbrev pub row_with : Task → List Dep → ℕ → Row
row_with p items n = record { parent = p; named = length items; held_count = n }

-- a row agrees with other lines that hold its task at the same addresses
pub agree_same : (parents : ℕ → Task) (items : ℕ → List Dep) (lines other : LineTable) (rows : RowTable) → Agree parents items lines rows →
    ((t a : ℕ) → names a (items t) ≡ true → holds other t (parents t) a ≡ holds lines t (parents t) a) → Agree parents items other rows
agree_same parents items lines other rows agree same t =
    agree t ∙ ap (row_with (parents t) (items t)) (where_same (holds lines t (parents t)) (holds other t (parents t)) (items t) (λ a named. sym (same t a named)))

-- one task of the line of a parent and an address is free there, and no other change is made
pub record Frees (task : ℕ) (parent : Task) (addr : ℕ) (lines other : LineTable) : Type 0 where
  pub was : holds lines task parent addr ≡ true
  pub held : (t : ℕ) → holds other t parent addr ≡ (holds lines t parent addr && not (task == t))
  pub others : (p : Task) (a : ℕ) → is_key parent addr p a ≡ false → entry_at p a other ≡ entry_at p a lines

not_now : (task : ℕ) (parent : Task) (addr : ℕ) (lines other : LineTable) → Frees task parent addr lines other → holds other task parent addr ≡ false
not_now task parent addr lines other frees = frees.held task ∙ rw (frees.was, same_number task) refl

at_other_addresses : (task : ℕ) (parent : Task) (addr : ℕ) (lines other : LineTable) → Frees task parent addr lines other → (t : ℕ) (p : Task) (a : ℕ) → is_key parent addr p a ≡ false → holds other t p a ≡ holds lines t p a
at_other_addresses task parent addr lines other frees t p a away = ap (λ (entry : Option LineView). is_held_back t (or_no_tasks entry).waiting) (frees.others p a away)

-- so it waits at one address less
one_address_less : (task : ℕ) (parent : Task) (addr : ℕ) (lines other : LineTable) (items : List Dep) → Frees task parent addr lines other → names addr items ≡ true →
    addresses_where (holds lines task parent) items ≡ addresses_where (holds other task parent) items + 1
one_address_less task parent addr lines other items frees named =
    where_less (holds lines task parent) (holds other task parent) items addr named frees.was (not_now task parent addr lines other frees)
    (λ a differ. sym (at_other_addresses task parent addr lines other frees task parent a (rw (one_is_same parent) differ)))

pub lowers_some : (task : ℕ) (parent : Task) (addr : ℕ) (parents : ℕ → Task) (items : ℕ → List Dep) (lines other : LineTable) (rows : RowTable) → Agree parents items lines rows → Frees task parent addr lines other →
    parents task ≡ parent → names addr (items task) ≡ true → 0 < (depend_row task rows).held_count
lowers_some task parent addr parents items lines other rows agree frees own named =
    let count : (depend_row task rows).held_count ≡ addresses_where (holds lines task (parents task)) (items task) = ap (λ (row : Row). row.held_count) (agree task) in
    let less : addresses_where (holds lines task (parents task)) (items task) ≡ addresses_where (holds other task parent) (items task) + 1 = rw own (one_address_less task parent addr lines other (items task) frees named) in
    omega (arith, count, less)

-- a task that is held at one address as before is so everywhere, if no other line changes
pub holds_as : (parent : Task) (addr : ℕ) (lines other : LineTable) (t : ℕ) → holds other t parent addr ≡ holds lines t parent addr → ((p : Task) (a : ℕ) → is_key parent addr p a ≡ false → entry_at p a other ≡ entry_at p a lines) →
    (p : Task) (a : ℕ) → holds other t p a ≡ holds lines t p a
holds_as parent addr lines other t now others p a = elim (cases_Bool (is_key parent addr p a)) [
  | inl here ↦
      let key = key_is parent p addr a here in
      subst (λ (q : Task). holds other t q a ≡ holds lines t q a) key.0 (subst (λ (b : ℕ). holds other t parent b ≡ holds lines t parent b) key.1 now)
  | inr away ↦ ap (λ (entry : Option LineView). is_held_back t (or_no_tasks entry).waiting) (others p a away)
]

-- it has a row
pub lowers_a_row : (task addr : ℕ) (parents : ℕ → Task) (items : ℕ → List Dep) (lines : LineTable) (rows : RowTable) → Agree parents items lines rows → names addr (items task) ≡ true → names_items (depend_row task rows) ≡ true
lowers_a_row task addr parents items lines rows agree named = ap names_items (agree task) ∙ some_are_named (items task) ∙ named_has_items addr (items task) named

-- the others wait where they did
holds_still : (task : ℕ) (parent : Task) (addr : ℕ) (lines other : LineTable) → Frees task parent addr lines other → (t : ℕ) → (task == t) ≡ false → (p : Task) (a : ℕ) → holds other t p a ≡ holds lines t p a
holds_still task parent addr lines other frees t differ p a = holds_as parent addr lines other t (frees.held t ∙ rw differ (and_true_is_the_same (holds lines t parent addr))) frees.others p a

-- the rows agree once that of the task is lowered
pub agree_lowered : (task : ℕ) (parent : Task) (addr : ℕ) (parents : ℕ → Task) (items : ℕ → List Dep) (lines other : LineTable) (rows after : RowTable) → Agree parents items lines rows → Frees task parent addr lines other →
    parents task ≡ parent → names addr (items task) ≡ true →
    depend_row task after ≡ record (depend_row task rows) { held_count = (depend_row task rows).held_count - 1 } → ((t : ℕ) → t ≢ task → depend_row t after ≡ depend_row t rows) → Agree parents items other after
agree_lowered task parent addr parents items lines other rows after agree frees own named lowered same t = elim (eqb_tells task t) [
  | inl here ↦
      let less : addresses_where (holds lines task (parents task)) (items task) ≡ addresses_where (holds other task (parents task)) (items task) + 1 = rw own (one_address_less task parent addr lines other (items task) frees named) in
      let count : addresses_where (holds lines task (parents task)) (items task) - 1 ≡ addresses_where (holds other task (parents task)) (items task) = omega (arith, less) in
      let now : depend_row task after ≡ row_by other task (parents task) (items task) = lowered ∙ ap (λ (row : Row). record row { held_count = row.held_count - 1 }) (agree task) ∙ ap (row_with (parents task) (items task)) count in
      subst (λ (u : ℕ). depend_row u after ≡ row_by other u (parents u) (items u)) here.1 now
  | inr away ↦
      let differ : t ≢ task = λ e. away.1 (sym e) in
      same t differ ∙ agree t
      ∙ ap (row_with (parents t) (items t)) (where_same (holds lines t (parents t)) (holds other t (parents t)) (items t) (λ a own_named. sym (holds_still task parent addr lines other frees t away.0 (parents t) a)))
]

-- What the loop keeps

pub record FreesSoFar (parent : Task) (addr : ℕ) (lines : LineTable) (rows : RowTable) (other : LineTable) (after : RowTable) : Type 0 where
  pub others : (p : Task) (a : ℕ) → is_key parent addr p a ≡ false → entry_at p a other ≡ entry_at p a lines
  pub queues : (n : ℕ) (line : List Entry) → LineQueues (line_at parent addr lines) n line → LineQueues (line_at parent addr other) n line
  pub agree : (n : ℕ) (line : List Entry) (parents : ℕ → Task) (items : ℕ → List Dep) → LineQueues (line_at parent addr lines) n line → Agree parents items lines rows → AreIn parent addr parents items line → Agree parents items other after
  pub lowers : LowersRows rows after

pub frees_none_yet : (parent : Task) (addr : ℕ) (lines : LineTable) (rows : RowTable) → FreesSoFar parent addr lines rows lines rows
frees_none_yet parent addr lines rows = record { others = λ p a away. refl; queues = λ n line qs. qs; agree = λ n line parents items qs agree are. agree; lowers = lowers_nothing rows }

-- one more task is free
pub frees_more : (parent : Task) (addr : ℕ) (lines : LineTable) (rows : RowTable) (other : LineTable) (after : RowTable) (next : LineTable) (last : RowTable) (task : ℕ) → FreesSoFar parent addr lines rows other after → Frees task parent addr other next →
    ((n : ℕ) (line : List Entry) → LineQueues (line_at parent addr other) n line → LineQueues (line_at parent addr next) n line) →
    depend_row task last ≡ record (depend_row task after) { held_count = (depend_row task after).held_count - 1 } → ((t : ℕ) → t ≢ task → depend_row t last ≡ depend_row t after) → LowersRows after last → FreesSoFar parent addr lines rows next last
frees_more parent addr lines rows other after next last task sofar frees queues lowered same lowers = record {
  others = λ p a away. frees.others p a away ∙ sofar.others p a away;
  queues = λ n line qs. queues n line (sofar.queues n line qs);
  agree = λ n line parents items qs agree are.
      let there = are task (held_is_in task (line_at parent addr other) n line (sofar.queues n line qs) frees.was) in
      agree_lowered task parent addr parents items other next after last (sofar.agree n line parents items qs agree are) frees there.0 there.1 lowered same;
  lowers = lowers_more rows after last sofar.lowers lowers;
}

-- no task is free any more
pub frees_none : (parent : Task) (addr : ℕ) (parents : ℕ → Task) (items : ℕ → List Dep) (lines other : LineTable) (rows : RowTable) → Agree parents items lines rows →
    ((t : ℕ) → holds other t parent addr ≡ (holds lines t parent addr && true)) → ((p : Task) (a : ℕ) → is_key parent addr p a ≡ false → entry_at p a other ≡ entry_at p a lines) → Agree parents items other rows
frees_none parent addr parents items lines other rows agree held others =
    agree_same parents items lines other rows agree (λ t a named. holds_as parent addr lines other t (held t ∙ and_true_is_the_same (holds lines t parent addr)) others (parents t) a)

-- a task that has no items leaves
pub agree_left : (task : ℕ) (parent : Task) (addr : ℕ) (parents : ℕ → Task) (items : ℕ → List Dep) (lines other : LineTable) (rows : RowTable) → Agree parents items lines rows → items task ≡ [] →
    ((t : ℕ) → holds other t parent addr ≡ (holds lines t parent addr && not (task == t))) → ((p : Task) (a : ℕ) → is_key parent addr p a ≡ false → entry_at p a other ≡ entry_at p a lines) → Agree parents items other rows
agree_left task parent addr parents items lines other rows agree none held others =
    agree_same parents items lines other rows agree (λ t a named. elim (eqb_tells task t) [
      | inl here ↦ absurd (let no_name : names a (items t) ≡ false = rw (← here.1, none) refl in cc)
      | inr away ↦ holds_as parent addr lines other t (held t ∙ rw away.0 (and_true_is_the_same (holds lines t parent addr))) others (parents t) a
    ])
