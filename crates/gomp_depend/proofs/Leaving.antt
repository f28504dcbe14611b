-- A task leaves the lines of its addresses, and a new one joins them.
use Rattle.std.proofs.Common.{◌≡◌, ℕ, ◌<◌, ◌≤◌, ◌+◌, ◌-◌, take, drop, get_or, Bool, true, false, List, [], ◌∷◌, Option, None, refl, ap, ◌∙◌, sym, subst, arith, inl, inr}
use Rattle.std.proofs.Math.Seq.{take-length}
use Rattle.std.specs.Prelude.{◌==◌, ◌&&◌, ◌||◌, if◌then◌else◌, length}
use Rattle.std.proofs.lemmas.Bool.{cases_Bool}
use Rattle.gomp_types.specs.declared.task.Task.{Task}
use Rattle.gomp_types.specs.declared.depend.Dep.{Dep}
use Rattle.gomp_events.specs.Tasks.{same_task}
use Rattle.gomp_types.proofs.Booleans.{is_equal, same_number, other_number, and_false, or_right, or_left}
use Rattle.gomp_events.proofs.GroupsKeep.{one_is_same}
use Rattle.gomp_lines.specs.declared.lines.Waiting.{Waiting}
use Rattle.gomp_lines.specs.Lines.{Entry, is_in, without}
use Rattle.gomp_lines.specs.Queues.{LineView, is_held_back, Rise, StandsFor}
use Rattle.gomp_lines.proofs.QueueTasks.{rise_to}
use Rattle.gomp_depend.specs.declared.rows.RowTable.{RowTable}
use Rattle.gomp_depend.specs.declared.table.LineTable.{LineTable}
use Rattle.gomp_depend.specs.Tables.{is_key, entry_at, line_at, or_no_tasks}
use Rattle.gomp_depend.specs.Books.{names, Agree, AreIn, Books, left_at, left_by, LeavesOne, LeavesLines, NoneIsEmpty}
use Rattle.gomp_depend.proofs.Tables.{same_held}
use Rattle.gomp_depend.proofs.Freeing.{key_is, holds_as, agree_same}

-- the tables stand for lines that are the same
pub books_same : (n : ℕ) (parents : ℕ → Task) (items : ℕ → List Dep) (all other : Task → ℕ → List Entry) (lines : LineTable) (rows : RowTable) → Books n parents items all lines rows → ((p : Task) (a : ℕ) → all p a ≡ other p a) → Books n parents items other lines rows
books_same n parents items all other lines rows books same = record { stand = λ p a. subst (λ line. StandsFor (line_at p a lines) n line) (same p a) (books.stand p a); agree = books.agree }

-- a line whose entry is the same
pub stands_still : (p : Task) (a n : ℕ) (lines other : LineTable) (line : List Entry) → entry_at p a other ≡ entry_at p a lines → StandsFor (line_at p a lines) n line → StandsFor (line_at p a other) n line
stands_still p a n lines other line same st = subst (λ (entry : Option LineView). StandsFor (or_no_tasks entry) n line) (sym same) st

-- One line

is_in_without : (t u : ℕ) (line : List Entry) → is_in u (without t line) ≡ true → ((t == u) ≡ false) × (is_in u line ≡ true)
is_in_without t u [] is = absurd (cc)
is_in_without t u (entry ∷ line) is = elim (cases_Bool (entry.task == t)) [
  | inl here ↦
      let rest = is_in_without t u line (rw here at is) in
      (rest.0, or_right (entry.task == u) (is_in u line) rest.1)
  | inr away ↦ elim (cases_Bool (entry.task == u)) [
    | inl it ↦ (other_number t u (λ e. let same : (entry.task == t) ≡ true = rw e it in absurd (cc)), or_left (entry.task == u) (is_in u line) it)
    | inr other ↦ let rest = is_in_without t u line (rw (away, other) at is) in (rest.0, or_right (entry.task == u) (is_in u line) rest.1)
  ]
]

pub are_in_left : (task : ℕ) (parent : Task) (addr : ℕ) (parents : ℕ → Task) (items : ℕ → List Dep) (all : Task → ℕ → List Entry) → LeavesOne task parent addr parents items all → AreIn parent addr parents items (without task (all parent addr))
are_in_left task parent addr parents items all leaves u is = let rest = is_in_without task u (all parent addr) is in leaves.others u rest.0 parent addr rest.1

-- what the steps of a leave give
pub leaves_books : (task : ℕ) (parent : Task) (addr n : ℕ) (parents : ℕ → Task) (items : ℕ → List Dep) (all : Task → ℕ → List Entry) (lines left freed dropped : LineTable) (rows after : RowTable) → Books n parents items all lines rows →
    ((p : Task) (a : ℕ) → is_key parent addr p a ≡ false → entry_at p a left ≡ entry_at p a lines) → ((p : Task) (a : ℕ) → is_key parent addr p a ≡ false → entry_at p a freed ≡ entry_at p a left) → ((p : Task) (a : ℕ) → is_key parent addr p a ≡ false → entry_at p a dropped ≡ entry_at p a freed) →
    StandsFor (line_at parent addr freed) n (without task (all parent addr)) → StandsFor (line_at parent addr dropped) n (without task (all parent addr)) → Agree parents items freed after → Books n parents items (left_at task parent addr all) dropped after
leaves_books task parent addr n parents items all lines left freed dropped rows after books left_others freed_others dropped_others was now agree = record {
  stand = λ p a. elim (cases_Bool (is_key parent addr p a)) [
    | inl here ↦
        let key = key_is parent p addr a here in
        rw here (subst (λ (q : Task). StandsFor (line_at q a dropped) n (without task (all q a))) key.0 (subst (λ (b : ℕ). StandsFor (line_at parent b dropped) n (without task (all parent b))) key.1 now))
    | inr away ↦ rw away (stands_still p a n lines dropped (all p a) (dropped_others p a away ∙ freed_others p a away ∙ left_others p a away) (books.stand p a))
  ];
  agree = agree_same parents items freed dropped after agree (λ t a named. holds_as parent addr freed dropped t (same_held _ _ n n (without task (all parent addr)) now was t) dropped_others (parents t) a);
}

-- its own line without the task
pub own_line : (task : ℕ) (parent : Task) (addr : ℕ) (all : Task → ℕ → List Entry) → left_at task parent addr all parent addr ≡ [] → without task (all parent addr) ≡ []
own_line task parent addr all none = sym (ap (λ (b : Bool). if b then without task (all parent addr) else all parent addr) (key_of_itself parent addr)) ∙ none
  where
    key_of_itself : (p : Task) (a : ℕ) → is_key p a p a ≡ true
    key_of_itself p a = rw (one_is_same p, same_number a) refl

pub stands_for_no_task : (n : ℕ) (queue : LineView) (line : List Entry) → line ≡ [] → StandsFor queue n line → StandsFor queue n []
stands_for_no_task n queue line none st = subst (λ (l : List Entry). StandsFor queue n l) none st

-- All lines of a clause

pub left_nothing : (t : ℕ) (parent : Task) (all : Task → ℕ → List Entry) (p : Task) (a : ℕ) → all p a ≡ left_by t parent [] all p a
left_nothing t parent all p a = rw (and_false (same_task parent p) false refl) refl

names_again : (first : Dep) (later : List Dep) → names first.addr later ≡ true → (a : ℕ) → names a (first ∷ later) ≡ names a later
names_again first later again a = elim (cases_Bool (a == first.addr)) [
  | inl here ↦ let now : names a later ≡ true = rw (is_equal a first.addr here) again in rw (here, now) refl
  | inr away ↦ rw away refl
]

pub left_again : (t : ℕ) (parent : Task) (first : Dep) (later : List Dep) (all : Task → ℕ → List Entry) → names first.addr later ≡ true → (p : Task) (a : ℕ) → left_by t parent later all p a ≡ left_by t parent (first ∷ later) all p a
left_again t parent first later all again p a = ap (λ (b : Bool). if same_task parent p && b then without t (all p a) else all p a) (sym (names_again first later again a))

pub left_in_any_order : (a b : ℕ) → (a == b) ≡ false → (b == a) ≡ false
left_in_any_order a b differ = other_number b a (λ e. let same : (a == b) ≡ true = rw e (same_number a) in absurd (cc))

pub left_by_more : (t : ℕ) (parent : Task) (first : Dep) (later : List Dep) (all : Task → ℕ → List Entry) → names first.addr later ≡ false → (p : Task) (a : ℕ) →
    left_at t parent first.addr (left_by t parent later all) p a ≡ left_by t parent (first ∷ later) all p a
left_by_more t parent first later all last p a = elim (cases_Bool (same_task parent p)) [
  | inl own ↦ elim (cases_Bool (first.addr == a)) [
    | inl here ↦
        let it = is_equal first.addr a here in
        let out : names a later ≡ false = rw (← it) last in
        let there : (a == first.addr) ≡ true = rw it (same_number a) in
        rw (own, here, out, there) refl
    | inr away ↦ rw (own, away, left_in_any_order first.addr a away) refl
  ]
  | inr alien ↦ rw alien refl
]

pub leaves_later : (t : ℕ) (parent : Task) (first : Dep) (later : List Dep) (parents : ℕ → Task) (items : ℕ → List Dep) (all : Task → ℕ → List Entry) → LeavesLines t parent (first ∷ later) parents items all → LeavesLines t parent later parents items all
leaves_later t parent first later parents items all leaves = record { no_items = leaves.no_items; there = λ a named. leaves.there a (or_right (a == first.addr) (names a later) named); others = leaves.others }

pub leaves_first : (t : ℕ) (parent : Task) (first : Dep) (later : List Dep) (parents : ℕ → Task) (items : ℕ → List Dep) (all : Task → ℕ → List Entry) → LeavesLines t parent (first ∷ later) parents items all → names first.addr later ≡ false →
    LeavesOne t parent first.addr parents items (left_by t parent later all)
leaves_first t parent first later parents items all leaves last = record {
  no_items = leaves.no_items;
  there = rw (and_false (same_task parent parent) (names first.addr later) last) (leaves.there first.addr (or_left (first.addr == first.addr) (names first.addr later) (same_number first.addr)));
  others = λ u differ p a is. leaves.others u differ p a (elim (cases_Bool (same_task parent p && names a later)) [
    | inl here ↦ (is_in_without t u (all p a) (rw here at is)).1
    | inr away ↦ rw away at is
  ]);
}

-- A new task

-- no task of a queue has a number from the next one on
held_above : (t low n : ℕ) (tasks : List Waiting) → Rise low n tasks → n ≤ t → is_held_back t tasks ≡ false
held_above t low n [] rise le = refl
held_above t low n (task ∷ tasks) rise le =
    let to = rise_to (task.task + 1) n tasks rise.1 in
    let other : (task.task == t) ≡ false = other_number task.task t (λ e. omega (arith, to, le, e)) in
    rw (and_false task.is_open (task.task == t) other) (held_above t (task.task + 1) n tasks rise.1 le)

pub new_is_not_held : (t n : ℕ) (queue : LineView) (line : List Entry) → StandsFor queue n line → n ≤ t → is_held_back t queue.waiting ≡ false
new_is_not_held t n queue line st le = held_above t st.queues.low n queue.waiting st.queues.rise le

-- a larger number is below all as well
rise_up : (low n more : ℕ) (tasks : List Waiting) → n ≤ more → Rise low n tasks → Rise low more tasks
rise_up low n more [] le rise = omega (arith, le, rise)
rise_up low n more (task ∷ tasks) le rise = (rise.0, rise_up (task.task + 1) n more tasks le rise.1)

pub stands_up : (queue : LineView) (n more : ℕ) (line : List Entry) → n ≤ more → StandsFor queue n line → StandsFor queue more line
stands_up queue n more line le st =
    let qs = st.queues in
    record { queues = record { free = qs.free; line_is = qs.line_is; count_is = qs.count_is; of_class = qs.of_class; sharing = qs.sharing; low = qs.low; fall = qs.fall; rise = rise_up qs.low n more queue.waiting le qs.rise }; first = st.first }

-- Clauses as the code takes them apart

pub no_item : (items : List Dep) → length items < 1 → items ≡ []
no_item [] lt = refl
no_item (item ∷ items) lt = absurd (omega (arith, lt))

-- the items of a clause after the first
abbrev pub later_items : List Dep → List Dep
later_items items = take (length items - 1) (drop 1 items)

pub clause_parts : (items : List Dep) (d : Dep) → 1 ≤ length items → items ≡ get_or items 0 d ∷ later_items items
clause_parts [] d le = absurd (omega (arith, le))
clause_parts (item ∷ items) d le =
    let all : length (item ∷ items) - 1 ≡ length items = omega arith in
    rw (all, take-length items) refl

-- what is left to do after the later items
pub books_again : (task : ℕ) (parent : Task) (clause : List Dep) (first : Dep) (later : List Dep) (n : ℕ) (parents : ℕ → Task) (items : ℕ → List Dep) (all : Task → ℕ → List Entry) (lines : LineTable) (rows : RowTable) → clause ≡ first ∷ later → names first.addr later ≡ true →
    Books n parents items (left_by task parent later all) lines rows → Books n parents items (left_by task parent clause all) lines rows
books_again task parent clause first later n parents items all lines rows is again books =
    subst (λ (x : List Dep). Books n parents items (left_by task parent x all) lines rows) (sym is) (books_same n parents items _ _ lines rows books (left_again task parent first later all again))

pub books_more : (task : ℕ) (parent : Task) (clause : List Dep) (first : Dep) (later : List Dep) (n : ℕ) (parents : ℕ → Task) (items : ℕ → List Dep) (all : Task → ℕ → List Entry) (lines : LineTable) (rows : RowTable) → clause ≡ first ∷ later → names first.addr later ≡ false →
    Books n parents items (left_at task parent first.addr (left_by task parent later all)) lines rows → Books n parents items (left_by task parent clause all) lines rows
books_more task parent clause first later n parents items all lines rows is last books =
    subst (λ (x : List Dep). Books n parents items (left_by task parent x all) lines rows) (sym is) (books_same n parents items _ _ lines rows books (left_by_more task parent first later all last))

pub clause_leaves_later : (task : ℕ) (parent : Task) (clause : List Dep) (first : Dep) (later : List Dep) (parents : ℕ → Task) (items : ℕ → List Dep) (all : Task → ℕ → List Entry) → clause ≡ first ∷ later → LeavesLines task parent clause parents items all → LeavesLines task parent later parents items all
clause_leaves_later task parent clause first later parents items all is leaves = leaves_later task parent first later parents items all (subst (λ (x : List Dep). LeavesLines task parent x parents items all) is leaves)

pub clause_leaves_first : (task : ℕ) (parent : Task) (clause : List Dep) (first : Dep) (later : List Dep) (parents : ℕ → Task) (items : ℕ → List Dep) (all : Task → ℕ → List Entry) → clause ≡ first ∷ later → names first.addr later ≡ false → LeavesLines task parent clause parents items all →
    LeavesOne task parent first.addr parents items (left_by task parent later all)
clause_leaves_first task parent clause first later parents items all is last leaves = leaves_first task parent first later parents items all (subst (λ (x : List Dep). LeavesLines task parent x parents items all) is leaves) last

-- Entries of lines that have no task any more

-- those of the later addresses
pub dropped_again : (task : ℕ) (parent : Task) (clause : List Dep) (first : Dep) (later : List Dep) (all : Task → ℕ → List Entry) (lines : LineTable) (a : ℕ) → clause ≡ first ∷ later → names first.addr later ≡ true → names a clause ≡ true →
    (names a later ≡ true → NoneIsEmpty parent a (left_by task parent later all) lines) → NoneIsEmpty parent a (left_by task parent clause all) lines
dropped_again task parent clause first later all lines a is again named rest none =
    let in_later : names a later ≡ true = sym (names_again first later again a) ∙ sym (ap (names a) is) ∙ named in
    rest in_later (left_again task parent first later all again parent a ∙ sym (ap (λ (x : List Dep). left_by task parent x all parent a) is) ∙ none)

-- and that of the first
pub dropped_more : (task : ℕ) (parent : Task) (clause : List Dep) (first : Dep) (later : List Dep) (all : Task → ℕ → List Entry) (lines after : LineTable) (a : ℕ) → clause ≡ first ∷ later → names first.addr later ≡ false → names a clause ≡ true →
    (names a later ≡ true → NoneIsEmpty parent a (left_by task parent later all) lines) → ((p : Task) (b : ℕ) → is_key parent first.addr p b ≡ false → entry_at p b after ≡ entry_at p b lines) →
    NoneIsEmpty parent first.addr (left_at task parent first.addr (left_by task parent later all)) after → NoneIsEmpty parent a (left_by task parent clause all) after
dropped_more task parent clause first later all lines after a is last named rest others own none = elim (cases_Bool (first.addr == a)) [
  | inl here ↦
      let it = is_equal first.addr a here in
      subst (λ (b : ℕ). entry_at parent b after ≡ None) it
      (own (left_by_more task parent first later all last parent first.addr ∙ sym (ap (λ (x : List Dep). left_by task parent x all parent first.addr) is) ∙ ap (λ (b : ℕ). left_by task parent clause all parent b) it ∙ none))
  | inr away ↦
      let all_named : (a == first.addr || names a later) ≡ true = sym (ap (names a) is) ∙ named in
      let in_later : names a later ≡ true = rw (left_in_any_order first.addr a away) at all_named in
      let elsewhere : is_key parent first.addr parent a ≡ false = and_false (same_task parent parent) (first.addr == a) away in
      others parent a elsewhere
      ∙ rest in_later (same_line elsewhere ∙ left_by_more task parent first later all last parent a ∙ sym (ap (λ (x : List Dep). left_by task parent x all parent a) is) ∙ none)
]
  where
    same_line : is_key parent first.addr parent a ≡ false → left_by task parent later all parent a ≡ left_at task parent first.addr (left_by task parent later all) parent a
    same_line elsewhere = sym (ap (λ (b : Bool). if b then without task (left_by task parent later all parent a) else left_by task parent later all parent a) elsewhere)
