-- A task is free exactly if it is free at each of its addresses.
use Rattle.std.proofs.Common.{◌≡◌, ℕ, ◌≤◌, Bool, true, false, List, [], ◌∷◌, Option, Some, None, refl, ap, ◌∙◌, sym, arith, inl, inr}
use Rattle.std.specs.Prelude.{◌&&◌, ◌||◌, ◌==◌, not, if◌then◌else◌}
use Rattle.std.specs.List.{list_any}
use Rattle.std.proofs.lemmas.Bool.{cases_Bool}
use Rattle.gomp_types.specs.declared.task.Task.{Task}
use Rattle.gomp_types.specs.declared.depend.Dep.{Dep}
use Rattle.gomp_events.specs.declared.event.Event.{Event}
use Rattle.gomp_events.specs.declared.event.Event.TheVariants.{Create, Done, Discard}
use Rattle.gomp_events.specs.Laws.{Always}
use Rattle.gomp_events.specs.Tasks.{same_task, tasks_created, is_created, is_complete, all_complete, is_child}
use Rattle.gomp_types.specs.DependItems.{items_wait}
use Rattle.gomp_events.specs.Depends.{task_items, child_waits, waits_for, is_free}
use Rattle.gomp_types.proofs.Booleans.{same_number, other_number, is_equal, and_left, and_right, and_false, or_false, not_false, neither_left, and_true_is_the_same}
use Rattle.gomp_events.proofs.OpenTasks.{created_low, created_high, closed_all, all_closed, none_counted, counts_none}
use Rattle.gomp_events.proofs.LaterTasks.{old_created}
use Rattle.gomp_events.proofs.GroupsKeep.{one_is_same}
use Rattle.gomp_lines.specs.declared.classes.Class.{Class}
use Rattle.gomp_lines.specs.Classes.{shares, class_at, waits_in_line}
use Rattle.gomp_lines.specs.Order.{InOrder, IsOpen, task_parent}
use Rattle.gomp_lines.specs.Lines.{Entry, joined, without, class_in, waits_in, waits_for_none, may_join, is_free_in, is_free_at_each, child_is_free, line_of}
use Rattle.gomp_lines.specs.Queues.{Fall}
use Rattle.gomp_lines.proofs.Each.{Each, each_by, each_map, each_fails, none_passes, each_passes, all_pass, any_same, any_and}
use Rattle.gomp_lines.proofs.ClauseClasses.{waits_both_ways, clauses_wait_by_classes}
use Rattle.gomp_lines.proofs.LineTasks.{uncreated_is_no_child, next_is_uncreated, class_in_line, waits_joined, waits_joined_other, waits_without, line_falls}

-- Task by task

-- no clause waits for a task that is not there
waits_for_nobody : (new items : List Dep) → list_any (λ (item : Dep). waits_in_line (class_at item.addr new) None) items ≡ false
waits_for_nobody new items = none_passes _ items (each_by _ (λ item. waits_both_ways (class_at item.addr new) None) items)

by_classes : (new old : List Dep) (child incomplete : Bool) →
    list_any (λ (item : Dep). waits_in_line (class_at item.addr new) (if child && incomplete then class_at item.addr old else None)) new ≡ ((child && items_wait new old) && incomplete)
by_classes new old true true = sym (and_true_is_the_same (items_wait new old) ∙ clauses_wait_by_classes new old)
by_classes new old true false = waits_for_nobody new new ∙ sym (and_false (items_wait new old) false refl)
by_classes new old false incomplete = waits_for_nobody new new

-- a new child waits for an open task exactly if it does at one of its addresses
pub child_waits_by_lines : (h : List Event) → Always InOrder h → (p : Task) (items : List Dep) (q : ℕ) →
    (child_waits p items q h && not (is_complete q h)) ≡ list_any (λ (item : Dep). waits_in_line (class_at item.addr items) (class_in q (line_of p item.addr h))) items
child_waits_by_lines h all p items q =
    sym (any_same _ (λ (item : Dep). waits_in_line (class_at item.addr items) (if is_child p q h && not (is_complete q h) then class_at item.addr (task_items q h) else None))
    (λ (item : Dep). ap (waits_in_line (class_at item.addr items)) (class_in_line p item.addr q h all)) items
    ∙ by_classes items (task_items q h) (is_child p q h) (not (is_complete q h)))

-- whether a task is in no line yet
not_in_line : (p : Task) (a t : ℕ) (h : List Event) → Always InOrder h → is_created t h ≡ false → class_in t (line_of p a h) ≡ None
not_in_line p a t h all new = class_in_line p a t h all ∙ rw ((uncreated_is_no_child h all t new).0 p) refl

-- one that is complete takes no part
complete_waits : (waits complete same : Bool) → (waits && not (same || complete)) ≡ ((waits && not complete) && not same)
complete_waits true true true = refl
complete_waits true true false = refl
complete_waits true false true = refl
complete_waits true false false = refl
complete_waits false complete same = refl

-- what a task waits for after another is complete
complete_by_lines : (u t q : ℕ) (p : Task) (items : List Dep) (waits : Bool) (h : List Event) → (u == t) ≡ false →
    (waits && not (is_complete q h)) ≡ list_any (λ (item : Dep). waits_in t q (line_of p item.addr h)) items →
    (waits && not (u == q || is_complete q h)) ≡ list_any (λ (item : Dep). waits_in t q (without u (line_of p item.addr h))) items
complete_by_lines u t q p items waits h other was =
    complete_waits waits (is_complete q h) (u == q) ∙ ap (λ b. b && not (u == q)) was
    ∙ sym (any_same _ (λ (item : Dep). waits_in t q (line_of p item.addr h) && not (u == q)) (λ (item : Dep). waits_without u t q (line_of p item.addr h) other) items ∙ any_and _ (not (u == q)) items)

created_none : (t : ℕ) → is_created t [] ≡ true → ⊥
created_none t made = let low = created_low t [] made in let high = created_high t [] made in absurd (omega (arith, low, high))

-- a new task in a line
joins_own : (t q : ℕ) (parent : Task) (a : ℕ) (class : Option Class) (h : List Event) → class_in t (line_of parent a h) ≡ None →
    waits_in t q (if same_task parent parent then joined t class (line_of parent a h) else line_of parent a h) ≡ waits_in_line class (class_in q (line_of parent a h))
joins_own t q parent a class h none = rw (one_is_same parent) (waits_joined t q class (line_of parent a h) none)

-- and for whom it waits there, if its parent and its items are these
abbrev waits_new : Task → Task → List Dep → List Dep → ℕ → ℕ → List Event → Bool
waits_new parent p deps items t q h = list_any (λ (item : Dep). waits_in t q (if same_task parent p then joined t (class_at item.addr deps) (line_of p item.addr h) else line_of p item.addr h)) items

waits_where : (parent p : Task) (deps items : List Dep) (t q : ℕ) (h : List Event) → parent ≡ p → deps ≡ items → waits_new parent parent deps deps t q h ≡ waits_new parent p deps items t q h
waits_where parent p deps items t q h own its = ap (λ x. waits_new parent x deps deps t q h) own ∙ ap (λ x. waits_new parent p deps x t q h) its

joins_other : (own : Bool) (u t q : ℕ) (class : Option Class) (line : List Entry) → (u == t) ≡ false → waits_in t q (if own then joined u class line else line) ≡ waits_in t q line
joins_other true u t q class line other = waits_joined_other u t q class line other
joins_other false u t q class line other = refl

-- a task waits for an open task exactly if it does in the line of one of its addresses
pub waits_by_lines : (h : List Event) → Always InOrder h → (t q : ℕ) → is_created t h ≡ true → is_complete t h ≡ false → (p : Task) (items : List Dep) → task_parent t h ≡ p → task_items t h ≡ items →
    (waits_for t q h && not (is_complete q h)) ≡ list_any (λ (item : Dep). waits_in t q (line_of p item.addr h)) items
waits_by_lines [] all t q made incomplete p items own its = absurd (let none = created_none t made in none)
waits_by_lines (Create task m parent desc ∷ earlier) all t q made incomplete p items own its = elim (cases_Bool (task == t)) [
  | inl same ↦
      let it = is_equal task t same in
      let parent_is : parent ≡ p = rw same at own in
      let items_are : desc.deps ≡ items = rw same at its in
      let new_number : is_created task earlier ≡ false = rw all.0 (next_is_uncreated earlier) in
      rw (same, ← it)
      (child_waits_by_lines earlier all.1 parent desc.deps q
      ∙ sym (any_same _ _ (λ (item : Dep). joins_own task q parent item.addr (class_at item.addr desc.deps) earlier (not_in_line parent item.addr task earlier all.1 new_number)) desc.deps)
      ∙ waits_where parent p desc.deps items task q earlier parent_is items_are)
  | inr other ↦
      let made_before = old_created t task earlier all.0 other made in
      let own_before : task_parent t earlier ≡ p = rw other at own in
      let its_before : task_items t earlier ≡ items = rw other at its in
      rw other (waits_by_lines earlier all.1 t q made_before incomplete p items own_before its_before
      ∙ sym (any_same _ _ (λ (item : Dep). joins_other (same_task parent p) task t q (class_at item.addr desc.deps) (line_of p item.addr earlier) other) items))
]
waits_by_lines (Done task m ∷ earlier) all t q made incomplete p items own its =
    complete_by_lines task t q p items (waits_for t q earlier) earlier (neither_left (task == t) (is_complete t earlier) incomplete)
    (waits_by_lines earlier all.1 t q made (or_false (task == t) (is_complete t earlier) incomplete) p items own its)
waits_by_lines (Discard task m ∷ earlier) all t q made incomplete p items own its =
    complete_by_lines task t q p items (waits_for t q earlier) earlier (neither_left (task == t) (is_complete t earlier) incomplete)
    (waits_by_lines earlier all.1 t q made (or_false (task == t) (is_complete t earlier) incomplete) p items own its)
waits_by_lines (_ ∷ earlier) all t q made incomplete p items own its = waits_by_lines earlier all.1 t q made incomplete p items own its

-- In a line

-- a task above all of a line is not in it
pub above_line : (q n : ℕ) (line : List Entry) → Fall n line → n ≤ q → class_in q line ≡ None
above_line q n [] fall le = refl
above_line q n (entry ∷ line) fall le =
    let lt = fall.0 in
    let other : (entry.task == q) ≡ false = other_number entry.task q (λ e. omega (arith, lt, le, e)) in
    rw other (above_line q entry.task line fall.1 (omega (arith, lt, le)))

-- a task that shares the address with each waits for none
shares_with_each : (class : Class) (q : ℕ) (line : List Entry) → waits_for_none class line ≡ true → waits_in_line (Some class) (class_in q line) ≡ false
shares_with_each class q [] none = refl
shares_with_each class q (entry ∷ line) none = elim (cases_Bool (entry.task == q)) [
  | inl here ↦ let own = and_left (shares class entry.class) (waits_for_none class line) none in rw (here, own) refl
  | inr away ↦ rw away (shares_with_each class q line (and_right (shares class entry.class) (waits_for_none class line) none))
]

-- and the other way round
each_shares : (class : Class) (n : ℕ) (line : List Entry) → Fall n line → ((q : ℕ) → waits_in_line (Some class) (class_in q line) ≡ false) → waits_for_none class line ≡ true
each_shares class n [] fall none = refl
each_shares class n (entry ∷ line) fall none =
    let first : not (shares class entry.class) ≡ false = rw (same_number entry.task) at (none entry.task) in
    rw (not_false (shares class entry.class) first)
    (each_shares class entry.task line fall.1 (λ q. elim (cases_Bool (entry.task == q)) [
      | inl same ↦ rw (above_line q entry.task line fall.1 (let it = is_equal entry.task q same in omega (arith, it))) refl
      | inr other ↦ rw other at (none q)
    ]))

-- a task is free in a line exactly if it waits there for none
pub free_waits_not : (t q : ℕ) (line : List Entry) → is_free_in t line ≡ true → waits_in t q line ≡ false
free_waits_not t q [] is = refl
free_waits_not t q (entry ∷ line) is = elim (cases_Bool (entry.task == t)) [
  | inl here ↦ rw here (shares_with_each entry.class q line (rw here at is))
  | inr away ↦ rw away (free_waits_not t q line (rw away at is))
]

pub waits_not_free : (t n : ℕ) (line : List Entry) → Fall n line → ((q : ℕ) → waits_in t q line ≡ false) → is_free_in t line ≡ true
waits_not_free t n [] fall none = refl
waits_not_free t n (entry ∷ line) fall none = elim (cases_Bool (entry.task == t)) [
  | inl here ↦ rw here (each_shares entry.class entry.task line fall.1 (λ q. rw here at (none q)))
  | inr away ↦ rw away (waits_not_free t entry.task line fall.1 (λ q. rw away at (none q)))
]

-- no task waits for one that is not in the line
waits_not_for_outside : (t q : ℕ) (line : List Entry) → class_in q line ≡ None → waits_in t q line ≡ false
waits_not_for_outside t q [] none = refl
waits_not_for_outside t q (entry ∷ line) none = elim (cases_Bool (entry.task == q)) [
  | inl here ↦ absurd (let some : Some entry.class ≡ None = rw here at none in cc)
  | inr away ↦
      let rest : class_in q line ≡ None = rw away at none in
      elim (cases_Bool (entry.task == t)) [
        | inl it ↦ rw (it, rest) refl
        | inr other ↦ rw other (waits_not_for_outside t q line rest)
      ]
]

-- a new task may join exactly if it would wait for none
may_join_waits_not : (class : Option Class) (q : ℕ) (line : List Entry) → may_join class line ≡ true → waits_in_line class (class_in q line) ≡ false
may_join_waits_not None q line is = refl
may_join_waits_not (Some class) q line is = shares_with_each class q line is

waits_not_may_join : (class : Option Class) (n : ℕ) (line : List Entry) → Fall n line → ((q : ℕ) → waits_in_line class (class_in q line) ≡ false) → may_join class line ≡ true
waits_not_may_join None n line fall none = refl
waits_not_may_join (Some class) n line fall none = each_shares class n line fall none

-- The events

-- what a test of all tasks says of each
each_of_all : (test : ℕ → Bool) (h : List Event) → all_complete test h ≡ true → (q : ℕ) → is_created q h ≡ true → (test q && not (is_complete q h)) ≡ false
each_of_all test h all q made = none_counted (tasks_created h) (λ u. test u && not (is_complete u h)) (closed_all test h all) q (created_low q h made) (created_high q h made)

all_of_each : (test : ℕ → Bool) (h : List Event) → ((q : ℕ) → (test q && not (is_complete q h)) ≡ false) → all_complete test h ≡ true
all_of_each test h each = all_closed test h (counts_none (tasks_created h) (λ u. test u && not (is_complete u h)) (λ q low high. each q))

-- two tests agree if each gives the other
by_each_other : (a b : Bool) → (a ≡ true → b ≡ true) → (b ≡ true → a ≡ true) → a ≡ b
by_each_other true b to back = sym (to refl)
by_each_other false true to back = back refl
by_each_other false false to back = refl

-- the line of a task's parent at an address
abbrev own_line : ℕ → List Event → ℕ → List Entry
own_line t h a = line_of (task_parent t h) a h

-- for whom a free task waits: for none
free_waits_for_none : (t : ℕ) (h : List Event) → Always InOrder h → IsOpen t h → is_free t h ≡ true → (q : ℕ) → list_any (λ (item : Dep). waits_in t q (own_line t h item.addr)) (task_items t h) ≡ false
free_waits_for_none t h all is free q = elim (cases_Bool (is_created q h)) [
  | inl made ↦ sym (waits_by_lines h all t q is.created is.incomplete (task_parent t h) (task_items t h) refl refl) ∙ each_of_all (λ u. waits_for t u h) h free q made
  | inr new ↦ none_passes _ (task_items t h) (each_by _ (λ (item : Dep). waits_not_for_outside t q (own_line t h item.addr) (not_in_line (task_parent t h) item.addr q h all new)) (task_items t h))
]

-- each of some elements passes if for each number none fails
each_number : (P : ℕ → Dep → Type 0) (items : List Dep) → ((q : ℕ) → Each (P q) items) → Each (λ item. (q : ℕ) → P q item) items
each_number P [] each = tt
each_number P (item ∷ items) each = ((λ q. (each q).0), each_number P items (λ q. (each q).1))

-- a task is free exactly if it is free at each of its addresses
pub free_by_lines : (t : ℕ) (h : List Event) → Always InOrder h → IsOpen t h → is_free t h ≡ is_free_at_each t h
free_by_lines t h all is = by_each_other (is_free t h) (is_free_at_each t h) to back
  where
    to : is_free t h ≡ true → is_free_at_each t h ≡ true
    to free = all_pass (λ (item : Dep). is_free_in t (own_line t h item.addr)) (task_items t h)
        (each_map (λ item. (q : ℕ) → waits_in t q (own_line t h item.addr) ≡ false) _
        (λ item none. waits_not_free t _ (own_line t h item.addr) (line_falls (task_parent t h) item.addr h all) none) (task_items t h)
        (each_number (λ q item. waits_in t q (own_line t h item.addr) ≡ false) (task_items t h) (λ q. each_fails _ (task_items t h) (free_waits_for_none t h all is free q))))

    back : is_free_at_each t h ≡ true → is_free t h ≡ true
    back free = all_of_each (λ q. waits_for t q h) h (λ q.
        waits_by_lines h all t q is.created is.incomplete (task_parent t h) (task_items t h) refl refl
        ∙ none_passes _ (task_items t h) (each_map _ (λ item. waits_in t q (own_line t h item.addr) ≡ false) (λ item own. free_waits_not t q (own_line t h item.addr) own) (task_items t h)
        (each_passes (λ (item : Dep). is_free_in t (own_line t h item.addr)) (task_items t h) free)))

-- all tasks are complete that a new child would wait for exactly if it would be free at each of its addresses
pub child_free_by_lines : (p : Task) (items : List Dep) (h : List Event) → Always InOrder h → all_complete (λ q. child_waits p items q h) h ≡ child_is_free p items h
child_free_by_lines p items h all = by_each_other _ (child_is_free p items h) to back
  where
    none_for : all_complete (λ q. child_waits p items q h) h ≡ true → (q : ℕ) → list_any (λ (item : Dep). waits_in_line (class_at item.addr items) (class_in q (line_of p item.addr h))) items ≡ false
    none_for free q = elim (cases_Bool (is_created q h)) [
      | inl made ↦ sym (child_waits_by_lines h all p items q) ∙ each_of_all (λ u. child_waits p items u h) h free q made
      | inr new ↦ sym (child_waits_by_lines h all p items q) ∙ rw ((uncreated_is_no_child h all q new).0 p) refl
    ]

    to : all_complete (λ q. child_waits p items q h) h ≡ true → child_is_free p items h ≡ true
    to free = all_pass (λ (item : Dep). may_join (class_at item.addr items) (line_of p item.addr h)) items
        (each_map (λ item. (q : ℕ) → waits_in_line (class_at item.addr items) (class_in q (line_of p item.addr h)) ≡ false) _
        (λ item none. waits_not_may_join (class_at item.addr items) _ (line_of p item.addr h) (line_falls p item.addr h all) none) items
        (each_number (λ q item. waits_in_line (class_at item.addr items) (class_in q (line_of p item.addr h)) ≡ false) items (λ q. each_fails _ items (none_for free q))))

    back : child_is_free p items h ≡ true → all_complete (λ q. child_waits p items q h) h ≡ true
    back free = all_of_each (λ q. child_waits p items q h) h (λ q.
        child_waits_by_lines h all p items q
        ∙ none_passes _ items (each_map _ (λ item. waits_in_line (class_at item.addr items) (class_in q (line_of p item.addr h)) ≡ false) (λ item own. may_join_waits_not (class_at item.addr items) q (line_of p item.addr h) own) items
        (each_passes (λ (item : Dep). may_join (class_at item.addr items) (line_of p item.addr h)) items free)))
