-- A new task joins the lines of its addresses.
use Rattle.std.proofs.Common.{◌≡◌, ℕ, ◌≤◌, ◌+◌, Bool, true, false, List, ◌∷◌, Option, Some, refl, ap, ◌∙◌, sym, subst, arith, inl, inr}
use Rattle.std.specs.Prelude.{◌==◌, ◌&&◌, ◌||◌, not, if◌then◌else◌}
use Rattle.std.proofs.lemmas.Bool.{cases_Bool}
use Rattle.gomp_types.specs.declared.task.Task.{Task}
use Rattle.gomp_types.specs.declared.depend.Dep.{Dep}
use Rattle.gomp_events.specs.Tasks.{same_task}
use Rattle.gomp_types.proofs.Booleans.{is_equal, same_number, other_number, and_false}
use Rattle.gomp_events.proofs.GroupsKeep.{one_is_same}
use Rattle.gomp_lines.specs.declared.classes.Class.{Class}
use Rattle.gomp_lines.specs.Classes.{class_at}
use Rattle.gomp_lines.specs.Lines.{Entry}
use Rattle.gomp_lines.specs.Queues.{LineView, is_held_back, StandsFor}
use Rattle.gomp_depend.specs.declared.table.LineTable.{LineTable}
use Rattle.gomp_depend.specs.Tables.{is_key, entry_at, line_at, or_no_tasks, HasRoomIn, HasRoomAt}
use Rattle.gomp_depend.specs.Books.{names, addresses_where, holds}
use Rattle.gomp_depend.proofs.Addresses.{where_same}
use Rattle.gomp_depend.proofs.Freeing.{key_is}
use Rattle.gomp_depend.proofs.Leaving.{new_is_not_held, stands_still, left_in_any_order}

-- One line

-- 1 if it is so
abbrev pub one_if : Bool → ℕ
one_if b = if b then 1 else 0

-- a new task waits there if it is not free
pub held_if_not_ready : (task n : ℕ) (ready : Bool) (queue after : LineView) (line : List Entry) → StandsFor queue n line → n ≤ task → ((t : ℕ) → is_held_back t after.waiting ≡ (is_held_back t queue.waiting || (not ready && task == t))) →
    one_if (not ready) ≡ one_if (is_held_back task after.waiting)
held_if_not_ready task n ready queue after line st le held =
    ap one_if (sym (held task ∙ rw (new_is_not_held task n queue line st le, same_number task) (and_true (not ready))))
  where
    and_true : (b : Bool) → (b && true) ≡ b
    and_true true = refl
    and_true false = refl

pub not_held_counts : (task n : ℕ) (queue : LineView) (line : List Entry) → StandsFor queue n line → n ≤ task → 0 ≡ one_if (is_held_back task queue.waiting)
not_held_counts task n queue line st le = rw (new_is_not_held task n queue line st le) refl

-- All lines of a clause

-- the line of an address that the later items name is done
pub at_later : (clause : List Dep) (first : Dep) (later : List Dep) (a : ℕ) → clause ≡ first ∷ later → names first.addr later ≡ true → names a clause ≡ true → names a later ≡ true
at_later clause first later a is again named =
    let all : (a == first.addr || names a later) ≡ true = subst (λ (x : List Dep). names a x ≡ true) is named in
    elim (cases_Bool (a == first.addr)) [
      | inl here ↦ rw (is_equal a first.addr here) again
      | inr away ↦ rw away at all
    ]

pub at_first_or_later : (clause : List Dep) (first : Dep) (later : List Dep) (a : ℕ) → clause ≡ first ∷ later → (a == first.addr) ≡ false → names a clause ≡ true → names a later ≡ true
at_first_or_later clause first later a is away named = let all : (a == first.addr || names a later) ≡ true = subst (λ (x : List Dep). names a x ≡ true) is named in rw away at all

-- the count with one more address
pub counted_with_one_more : (clause : List Dep) (first : Dep) (later : List Dep) (task : ℕ) (parent : Task) (before after : LineTable) (count one : ℕ) → clause ≡ first ∷ later → names first.addr later ≡ false →
    count ≡ addresses_where (holds before task parent) later → one ≡ one_if (holds after task parent first.addr) → ((p : Task) (a : ℕ) → is_key parent first.addr p a ≡ false → entry_at p a after ≡ entry_at p a before) →
    count + one ≡ addresses_where (holds after task parent) clause
counted_with_one_more clause first later task parent before after count one is last counted added others =
    subst (λ (x : List Dep). count + one ≡ addresses_where (holds after task parent) x) (sym is)
    (rw (last, added, counted) (by (holds after task parent first.addr) _ _ (where_same (holds before task parent) (holds after task parent) later
    (λ a named. sym (ap (λ (entry : Option LineView). is_held_back task (or_no_tasks entry).waiting) (others parent a (rw (one_is_same parent) (differs a named))))))))
  where
    differs : (a : ℕ) → names a later ≡ true → (first.addr == a) ≡ false
    differs a named = other_number first.addr a (λ e. let out : names a later ≡ false = rw (← e) last in absurd (cc))

    by : (b : Bool) (m n : ℕ) → m ≡ n → m + one_if b ≡ (if b then n + 1 else n)
    by true m n e = omega (arith, e)
    by false m n e = omega (arith, e)

pub count_again : (clause : List Dep) (first : Dep) (later : List Dep) (test : ℕ → Bool) (count : ℕ) → clause ≡ first ∷ later → names first.addr later ≡ true → count ≡ addresses_where test later → count ≡ addresses_where test clause
count_again clause first later test count is again counted = subst (λ (x : List Dep). count ≡ addresses_where test x) (sym is) (counted ∙ rw again refl)

-- a line of the clause that is joined
pub joined_more : (clause : List Dep) (first : Dep) (later : List Dep) (items : List Dep) (a task n : ℕ) (parent : Task) (class : Class) (line : List Entry) (before middle after : LineTable) → clause ≡ first ∷ later → names first.addr later ≡ false → names a clause ≡ true → class_at a items ≡ Some class →
    StandsFor (line_at parent a before) n line → ((p : Task) (b : ℕ) → (same_task parent p && names b later) ≡ false → entry_at p b middle ≡ entry_at p b before) →
    (names a later ≡ true → StandsFor (line_at parent a middle) (task + 1) (record { task = task; class = class } ∷ line)) →
    (class_at first.addr items ≡ Some class → StandsFor (line_at parent first.addr middle) n line → StandsFor (line_at parent first.addr after) (task + 1) (record { task = task; class = class } ∷ line)) →
    ((p : Task) (b : ℕ) → is_key parent first.addr p b ≡ false → entry_at p b after ≡ entry_at p b middle) → StandsFor (line_at parent a after) (task + 1) (record { task = task; class = class } ∷ line)
joined_more clause first later items a task n parent class line before middle after is last named class_is st still later_joined first_joins others = elim (cases_Bool (first.addr == a)) [
  | inl here ↦
      let it = is_equal first.addr a here in
      let own_class : class_at first.addr items ≡ Some class = rw it class_is in
      let own_line : StandsFor (line_at parent first.addr before) n line = subst (λ (b : ℕ). StandsFor (line_at parent b before) n line) (sym it) st in
      let mid = stands_still parent first.addr n before middle line (still parent first.addr (and_false (same_task parent parent) (names first.addr later) last)) own_line in
      subst (λ (b : ℕ). StandsFor (line_at parent b after) (task + 1) (record { task = task; class = class } ∷ line)) it (first_joins own_class mid)
  | inr away ↦
      let in_later = at_first_or_later clause first later a is (left_in_any_order first.addr a away) named in
      stands_still parent a (task + 1) middle after (record { task = task; class = class } ∷ line) (others parent a (and_false (same_task parent parent) (first.addr == a) away)) (later_joined in_later)
]

-- Room in the lines of a clause

pub room_more : (clause : List Dep) (first : Dep) (later : List Dep) (items : List Dep) (a : ℕ) (parent : Task) (own class : Class) (lines after : LineTable) → clause ≡ first ∷ later → names a clause ≡ true → class_at a items ≡ Some class → class_at first.addr items ≡ Some own →
    HasRoomAt parent first.addr own after → (names a later ≡ true → HasRoomAt parent a class lines) → ((p : Task) (b : ℕ) → is_key parent first.addr p b ≡ false → entry_at p b after ≡ entry_at p b lines) → HasRoomAt parent a class after
room_more clause first later items a parent own class lines after is named class_is own_is room rest others = elim (cases_Bool (first.addr == a)) [
  | inl here ↦
      let it = is_equal first.addr a here in
      let at_first : class_at first.addr items ≡ Some class = rw it class_is in
      let same : own ≡ class = cc in
      subst (λ (b : ℕ). HasRoomAt parent b class after) it (subst (λ (k : Class). HasRoomAt parent first.addr k after) same room)
  | inr away ↦
      subst (λ (entry : Option LineView). HasRoomIn class entry) (sym (others parent a (and_false (same_task parent parent) (first.addr == a) away)))
      (rest (at_first_or_later clause first later a is (left_in_any_order first.addr a away) named))
]

pub stands_roomy : (parent : Task) (addr : ℕ) (lines after : LineTable) → ((n : ℕ) (line : List Entry) → StandsFor (line_at parent addr lines) n line → StandsFor (line_at parent addr after) n line) → ((p : Task) (b : ℕ) → is_key parent addr p b ≡ false → entry_at p b after ≡ entry_at p b lines) →
    (p : Task) (a n : ℕ) (line : List Entry) → StandsFor (line_at p a lines) n line → StandsFor (line_at p a after) n line
stands_roomy parent addr lines after stands others p a n line st = elim (cases_Bool (is_key parent addr p a)) [
  | inl here ↦
      let key = key_is parent p addr a here in
      let was : StandsFor (line_at parent addr lines) n line = subst (λ (q : Task). StandsFor (line_at q addr lines) n line) (sym key.0) (subst (λ (b : ℕ). StandsFor (line_at p b lines) n line) (sym key.1) st) in
      subst (λ (q : Task). StandsFor (line_at q a after) n line) key.0 (subst (λ (b : ℕ). StandsFor (line_at parent b after) n line) key.1 (stands n line was))
  | inr away ↦ stands_still p a n lines after line (others p a away) st
]
