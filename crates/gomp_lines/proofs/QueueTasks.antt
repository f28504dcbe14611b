-- What a queue says of its line.
use Rattle.std.proofs.Common.{◌≡◌, ℕ, ◌+◌, ◌<◌, ◌≤◌, Bool, true, false, List, [], ◌∷◌, length, refl, ◌∙◌, sym, subst, arith, inl, inr}
use Rattle.std.specs.Prelude.{◌&&◌, ◌||◌, ◌==◌, not, if◌then◌else◌}
use Rattle.std.proofs.lemmas.Bool.{cases_Bool}
use Rattle.gomp_types.proofs.Booleans.{other_number, is_equal, and_false, or_false, or_right, neither_left}
use Rattle.gomp_lines.specs.declared.classes.Class.{Class}
use Rattle.gomp_lines.specs.declared.lines.Waiting.{Waiting}
use Rattle.gomp_lines.specs.Classes.{shares}
use Rattle.gomp_lines.specs.Lines.{Entry, waits_for_none, is_free_in}
use Rattle.gomp_lines.specs.Queues.{LineView, entry_of, queued, is_held_back, is_unblocked, Fall, Rise, HaveClass, LineQueues, StandsFor}
use Rattle.gomp_lines.proofs.ClauseClasses.{shares_with_one}

-- Numbers

pub fall_more : (low n : ℕ) (line : List Entry) → low ≤ n → Fall low line → Fall n line
fall_more low n [] le fall = tt
fall_more low n (entry ∷ line) le fall = (let lt = fall.0 in omega (arith, lt, le), fall.1)

-- so there are fewer than the number
pub fall_length : (n : ℕ) (line : List Entry) → Fall n line → length line ≤ n
fall_length n [] fall = omega arith
fall_length n (entry ∷ line) fall = let lt = fall.0 in let rest = fall_length entry.task line fall.1 in omega (arith, lt, rest)

pub rise_less : (low more n : ℕ) (tasks : List Waiting) → low ≤ more → Rise more n tasks → Rise low n tasks
rise_less low more n [] le rise = omega (arith, le, rise)
rise_less low more n (task ∷ tasks) le rise = (let from = rise.0 in omega (arith, le, from), rise.1)

pub rise_to : (low n : ℕ) (tasks : List Waiting) → Rise low n tasks → low ≤ n
rise_to low n [] rise = rise
rise_to low n (task ∷ tasks) rise = let from = rise.0 in let rest = rise_to (task.task + 1) n tasks rise.1 in omega (arith, from, rest)

-- a number below all of these is not held
pub held_below : (t low n : ℕ) (tasks : List Waiting) → Rise low n tasks → t < low → is_held_back t tasks ≡ false
held_below t low n [] rise lt = refl
held_below t low n (task ∷ tasks) rise lt =
    let from = rise.0 in
    let other : (task.task == t) ≡ false = other_number task.task t (λ e. omega (arith, from, lt, e)) in
    rw (and_false task.is_open (task.task == t) other) (held_below t (task.task + 1) n tasks rise.1 (omega (arith, from, lt)))

-- Classes

-- a task waits for none of those that are free exactly if it shares the address with them
of_one_class : (class own : Class) (line : List Entry) → HaveClass own line → waits_for_none class line ≡ (length line == 0 || shares class own)
of_one_class class own [] all = refl
of_one_class class own (entry ∷ line) all =
    let rest = of_one_class class own line all.1 in
    let some : (length (entry ∷ line) == 0) ≡ false = other_number (length (entry ∷ line)) 0 (λ e. omega (arith, e)) in
    rw (all.0, rest, some) (by (length line == 0) (shares class own))
  where
    by : (a b : Bool) → (b && (a || b)) ≡ b
    by a true = or_right a true refl
    by a false = refl

-- no task that joins is free
abbrev Blocks : List Entry → Type 0
Blocks line = (class : Class) → waits_for_none class line ≡ false

queued_blocks : (tasks : List Waiting) (line : List Entry) → Blocks line → Blocks (queued tasks line)
queued_blocks [] line blocks = blocks
queued_blocks (task ∷ tasks) line blocks = queued_blocks tasks (if task.is_open then entry_of task ∷ line else line) (by task.is_open)
  where
    by : (b : Bool) → Blocks (if b then entry_of task ∷ line else line)
    by true class = and_false (shares class task.class) (waits_for_none class line) (blocks class)
    by false class = blocks class

-- two tasks that do not share the address block it
first_blocks : (class own : Class) (count t : ℕ) (free : List Entry) → HaveClass own free → length free ≡ count → (count == 0 || shares class own) ≡ false → Blocks (record { task = t; class = class } ∷ free)
first_blocks class own count t free all len waits new = elim (cases_Bool (shares new class)) [
  | inl same ↦
      let apart : shares class own ≡ false = or_false (count == 0) (shares class own) waits in
      let some : (length free == 0) ≡ false = rw len (neither_left (count == 0) (shares class own) waits) in
      rw (same, of_one_class new own free all, some) (shares_with_one class own new apart same)
  | inr other ↦ rw other refl
]

-- What it says of a new task

ready_line : (class own : Class) (count room n : ℕ) (waiting : List Waiting) (line : List Entry) → StandsFor (record { class = own; free_count = count; waiting = waiting; room = room }) n line →
    is_unblocked class (record { class = own; free_count = count; waiting = waiting; room = room }) ≡ waits_for_none class line
ready_line class own count room n [] line st =
    let is : line ≡ st.queues.free = st.queues.line_is in
    rw (is, of_one_class class own st.queues.free st.queues.of_class, st.queues.count_is) refl
ready_line class own count room n (task ∷ tasks) line st =
    let is = st.queues.line_is in
    let first : Blocks (entry_of task ∷ st.queues.free) = first_blocks task.class own count task.task st.queues.free st.queues.of_class st.queues.count_is st.first.1 in
    let all : line ≡ queued tasks (entry_of task ∷ st.queues.free) = is ∙ rw st.first.0 refl in
    sym (rw all (queued_blocks tasks (entry_of task ∷ st.queues.free) first class))

pub ready_by_line : (class : Class) (queue : LineView) (n : ℕ) (line : List Entry) → StandsFor queue n line → is_unblocked class queue ≡ waits_for_none class line
ready_by_line class queue n line st = ready_line class queue.class queue.free_count queue.room n queue.waiting line st

queued_length : (tasks : List Waiting) (line : List Entry) → length line ≤ length (queued tasks line)
queued_length [] line = omega arith
queued_length (task ∷ tasks) line = elim (cases_Bool task.is_open) [
  | inl is ↦ rw is (let rest = queued_length tasks (entry_of task ∷ line) in omega (arith, rest))
  | inr isnt ↦ rw isnt (queued_length tasks line)
]

-- Free and held tasks

-- a task that is not among these, in a line after them
free_after : (t : ℕ) (tasks : List Waiting) (line : List Entry) → is_held_back t tasks ≡ false → is_free_in t (queued tasks line) ≡ is_free_in t line
free_after t [] line none = refl
free_after t (task ∷ tasks) line none =
    let first = neither_left (task.is_open && task.task == t) (is_held_back t tasks) none in
    let rest = or_false (task.is_open && task.task == t) (is_held_back t tasks) none in
    elim (cases_Bool task.is_open) [
      | inl is ↦ let away : (task.task == t) ≡ false = rw is at first in rw is (free_after t tasks (entry_of task ∷ line) rest ∙ rw away refl)
      | inr isnt ↦ rw isnt (free_after t tasks line rest)
    ]

-- and one that is among them
held_is_not_free : (t low n : ℕ) (tasks : List Waiting) (line : List Entry) → Rise low n tasks → Blocks line → is_held_back t tasks ≡ true → is_free_in t (queued tasks line) ≡ false
held_is_not_free t low n [] line rise blocks held = absurd (cc)
held_is_not_free t low n (task ∷ tasks) line rise blocks held = elim (cases_Bool task.is_open) [
  | inl is ↦ elim (cases_Bool (task.task == t)) [
    | inl here ↦
        let it = is_equal task.task t here in
        let later : is_held_back t tasks ≡ false = held_below t (task.task + 1) n tasks rise.1 (omega (arith, it)) in
        rw is (free_after t tasks (entry_of task ∷ line) later ∙ rw here (blocks task.class))
    | inr away ↦
        let rest : is_held_back t tasks ≡ true = rw (is, away) at held in
        rw is (held_is_not_free t (task.task + 1) n tasks (entry_of task ∷ line) rise.1 (λ class. and_false (shares class task.class) (waits_for_none class line) (blocks class)) rest)
  ]
  | inr isnt ↦ let rest : is_held_back t tasks ≡ true = rw isnt at held in rw isnt (held_is_not_free t (task.task + 1) n tasks line rise.1 blocks rest)
]

-- those that are free share the address
free_of_class : (t : ℕ) (own : Class) (line : List Entry) → HaveClass own line → (1 < length line → shares own own ≡ true) → is_free_in t line ≡ true
free_of_class t own [] all sharing = refl
free_of_class t own (entry ∷ line) all sharing = elim (cases_Bool (entry.task == t)) [
  | inl here ↦ rw (here, all.0, of_one_class own own line all.1) (by line sharing)
  | inr away ↦ rw away (free_of_class t own line all.1 (λ more. sharing (omega (arith, more))))
]
  where
    by : (rest : List Entry) → (1 < length (entry ∷ rest) → shares own own ≡ true) → (length rest == 0 || shares own own) ≡ true
    by [] sharing = refl
    by (other ∷ rest) sharing = or_right (length (other ∷ rest) == 0) (shares own own) (sharing (omega arith))

held_first : (t : ℕ) (own : Class) (count room n : ℕ) (task : Waiting) (tasks : List Waiting) (line : List Entry) → (st : StandsFor (record { class = own; free_count = count; waiting = task ∷ tasks; room = room }) n line) →
    is_held_back t (task ∷ tasks) ≡ true → is_free_in t (queued (task ∷ tasks) st.queues.free) ≡ false
held_first t own count room n task tasks line st held =
    let is = st.first.0 in
    let first : Blocks (entry_of task ∷ st.queues.free) = first_blocks task.class own count task.task st.queues.free st.queues.of_class st.queues.count_is st.first.1 in
    elim (cases_Bool (task.task == t)) [
      | inl here ↦
          let it = is_equal task.task t here in
          let later : is_held_back t tasks ≡ false = held_below t (task.task + 1) n tasks st.queues.rise.1 (omega (arith, it)) in
          let some : (length st.queues.free == 0) ≡ false = rw st.queues.count_is (neither_left (count == 0) (shares task.class own) st.first.1) in
          rw is (free_after t tasks (entry_of task ∷ st.queues.free) later
          ∙ rw (here, of_one_class task.class own st.queues.free st.queues.of_class, some) (or_false (count == 0) (shares task.class own) st.first.1))
      | inr away ↦
          let rest : is_held_back t tasks ≡ true = rw (is, away) at held in
          rw is (held_is_not_free t (task.task + 1) n tasks (entry_of task ∷ st.queues.free) st.queues.rise.1 first rest)
    ]

free_line : (t : ℕ) (own : Class) (count room n : ℕ) (waiting : List Waiting) (line : List Entry) → StandsFor (record { class = own; free_count = count; waiting = waiting; room = room }) n line →
    is_free_in t line ≡ not (is_held_back t waiting)
free_line t own count room n [] line st =
    let is = st.queues.line_is in
    rw is (free_of_class t own st.queues.free st.queues.of_class (λ more. st.queues.sharing (let len = st.queues.count_is in omega (arith, len, more))))
free_line t own count room n (task ∷ tasks) line st = elim (cases_Bool (is_held_back t (task ∷ tasks))) [
  | inl held ↦ rw (held, st.queues.line_is) (held_first t own count room n task tasks line st held)
  | inr none ↦
      rw (none, st.queues.line_is) (free_after t (task ∷ tasks) st.queues.free none
      ∙ free_of_class t own st.queues.free st.queues.of_class (λ more. st.queues.sharing (let len = st.queues.count_is in omega (arith, len, more))))
]

-- a task of a line waits there exactly if the queue holds it
pub free_is_not_held : (t : ℕ) (queue : LineView) (n : ℕ) (line : List Entry) → StandsFor queue n line → is_free_in t line ≡ not (is_held_back t queue.waiting)
free_is_not_held t queue n line st = free_line t queue.class queue.free_count queue.room n queue.waiting line st

-- the line is empty exactly if no task is free there
empty_by_count : (own : Class) (count room n : ℕ) (waiting : List Waiting) (line : List Entry) → StandsFor (record { class = own; free_count = count; waiting = waiting; room = room }) n line →
    ((count == 0) ≡ true → line ≡ []) × (line ≡ [] → (count == 0) ≡ true)
empty_by_count own count room n waiting line st = (to waiting st, back)
  where
    none : (free : List Entry) → length free ≡ 0 → free ≡ []
    none [] e = refl
    none (entry ∷ free) e = absurd (omega (arith, e))

    to : (tasks : List Waiting) → StandsFor (record { class = own; free_count = count; waiting = tasks; room = room }) n line → (count == 0) ≡ true → line ≡ []
    to [] now zero_is = now.queues.line_is ∙ none now.queues.free (now.queues.count_is ∙ is_equal count 0 zero_is)
    to (task ∷ tasks) now zero_is = absurd (let first = neither_left (count == 0) (shares task.class own) now.first.1 in cc)

    back : line ≡ [] → (count == 0) ≡ true
    back e =
        let len = st.queues.count_is in
        let more = queued_length waiting st.queues.free in
        let all : length (queued waiting st.queues.free) ≡ 0 = rw (← st.queues.line_is, e) refl in
        let zero_is : count ≡ 0 = omega (arith, len, more, all) in
        rw zero_is refl

pub empty_line : (queue : LineView) (n : ℕ) (line : List Entry) → StandsFor queue n line → ((queue.free_count == 0) ≡ true → line ≡ []) × (line ≡ [] → (queue.free_count == 0) ≡ true)
empty_line queue n line st = empty_by_count queue.class queue.free_count queue.room n queue.waiting line st

-- as many tasks as are free have numbers below the next one
pub count_below : (queue : LineView) (n : ℕ) (line : List Entry) → StandsFor queue n line → queue.free_count ≤ n
count_below queue n line st =
    let len = st.queues.count_is in
    let low = fall_length st.queues.low st.queues.free st.queues.fall in
    let to = rise_to st.queues.low n queue.waiting st.queues.rise in
    omega (arith, len, low, to)

-- one queue stands as another does
pub same_line_stands : (one other : LineView) (n : ℕ) (line : List Entry) → one ≡ other → StandsFor other n line → StandsFor one n line
same_line_stands one other n line e st = subst (λ (queue : LineView). StandsFor queue n line) (sym e) st

pub same_queues : (one other : LineView) (n : ℕ) (line : List Entry) → one ≡ other → LineQueues other n line → LineQueues one n line
same_queues one other n line e qs = subst (λ (queue : LineView). LineQueues queue n line) (sym e) qs
