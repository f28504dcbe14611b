-- What the calls on a queue do to its line.
use Rattle.std.proofs.Common.{◌≡◌, ◌⊎◌, ℕ, ◌+◌, ◌<◌, ◌≤◌, Bool, true, false, List, [], ◌∷◌, ◌++◌, length, refl, ap, ◌∙◌, sym, subst, arith, inl, inr}
use Rattle.std.specs.Prelude.{◌&&◌, ◌||◌, ◌==◌, not, if◌then◌else◌, ◌-◌}
use Rattle.std.proofs.lemmas.Bool.{cases_Bool}
use Rattle.gomp_types.proofs.Booleans.{other_number, is_equal, and_false, or_false, or_tells, neither_left}
use Rattle.gomp_lines.specs.declared.classes.Class.{Class}
use Rattle.gomp_lines.specs.declared.lines.Waiting.{Waiting}
use Rattle.gomp_lines.specs.Classes.{shares}
use Rattle.gomp_lines.specs.Lines.{Entry, without, is_in}
use Rattle.gomp_lines.specs.Queues.{LineView, entry_of, queued, is_held_back, is_unblocked, none_waits, Fall, Rise, HaveClass, LineQueues, FirstOf, StandsFor, from_first_open, first_may_join}
use Rattle.gomp_lines.proofs.ClauseClasses.{sharing_is_same}
use Rattle.gomp_lines.proofs.QueueTasks.{fall_more, rise_less, held_below}
use Rattle.gomp_lines.proofs.LineTasks.{fall_without}

-- No tasks

pub empty_queue : (class : Class) (room n : ℕ) → StandsFor (record { class = class; free_count = 0; waiting = []; room = room }) n []
empty_queue class room n = record { queues = record { free = []; line_is = refl; count_is = refl; of_class = tt; sharing = λ more. absurd (omega (arith, more)); low = 0; fall = tt; rise = omega arith }; first = tt }

-- the same tasks with other room
pub other_room : (class : Class) (count room other n : ℕ) (waiting : List Waiting) (line : List Entry) → LineQueues (record { class = class; free_count = count; waiting = waiting; room = room }) n line →
    LineQueues (record { class = class; free_count = count; waiting = waiting; room = other }) n line
other_room class count room other n waiting line qs = record { free = qs.free; line_is = qs.line_is; count_is = qs.count_is; of_class = qs.of_class; sharing = qs.sharing; low = qs.low; fall = qs.fall; rise = qs.rise }

-- A task joins

-- one more task is free
free_more : (class own : Class) (count task : ℕ) (free : List Entry) → HaveClass own free → length free ≡ count → (count == 0 || shares class own) ≡ true → HaveClass class (record { task = task; class = class } ∷ free)
free_more class own count task free all len is = elim (or_tells (count == 0) (shares class own) is) [
  | inl none ↦ (refl, none_of_class free (len ∙ is_equal count 0 none))
  | inr same ↦ (refl, subst (λ (c : Class). HaveClass c free) (sym (sharing_is_same class own same)) all)
]
  where
    none_of_class : (line : List Entry) → length line ≡ 0 → HaveClass class line
    none_of_class [] e = tt
    none_of_class (entry ∷ line) e = absurd (omega (arith, e))

more_share : (class own : Class) (count : ℕ) → (count == 0 || shares class own) ≡ true → 1 < count + 1 → shares class class ≡ true
more_share class own count is more = elim (or_tells (count == 0) (shares class own) is) [
  | inl none ↦ absurd (let zero_is = is_equal count 0 none in omega (arith, zero_is, more))
  | inr same ↦ let it : own ≡ class = sym (sharing_is_same class own same) in rw it at same
]

pub joins_free : (class own : Class) (count room n task : ℕ) (waiting : List Waiting) (line : List Entry) → StandsFor (record { class = own; free_count = count; waiting = waiting; room = room }) n line → n ≤ task →
    is_unblocked class (record { class = own; free_count = count; waiting = waiting; room = room }) ≡ true →
    StandsFor (record { class = class; free_count = count + 1; waiting = waiting; room = room }) (task + 1) (record { task = task; class = class } ∷ line)
joins_free class own count room n task [] line st le is =
    let qs = st.queues in
    let len = qs.count_is in
    let from = qs.rise in
    record {
      queues = record {
        free = record { task = task; class = class } ∷ qs.free;
        line_is = rw qs.line_is refl;
        count_is = omega (arith, len);
        of_class = free_more class own count task qs.free qs.of_class qs.count_is is;
        sharing = more_share class own count is;
        low = task + 1;
        fall = (omega arith, fall_more qs.low task qs.free (omega (arith, from, le)) qs.fall);
        rise = omega arith;
      };
      first = tt;
    }
joins_free class own count room n task (first ∷ tasks) line st le is = absurd (cc)

-- one more waits
queued_more : (tasks : List Waiting) (task : Waiting) (line : List Entry) → task.is_open ≡ true → queued (tasks ++ task ∷ []) line ≡ entry_of task ∷ queued tasks line
queued_more [] task line is = rw is refl
queued_more (first ∷ tasks) task line is = queued_more tasks task (if first.is_open then entry_of first ∷ line else line) is

rise_more : (low n : ℕ) (tasks : List Waiting) (task : Waiting) → Rise low n tasks → n ≤ task.task → Rise low (task.task + 1) (tasks ++ task ∷ [])
rise_more low n [] task rise le = (omega (arith, rise, le), omega arith)
rise_more low n (first ∷ tasks) task rise le = (rise.0, rise_more (first.task + 1) n tasks task rise.1 le)

first_stays : (queue : LineView) (room : ℕ) (tasks : List Waiting) (task : Waiting) → FirstOf queue tasks → (tasks ≡ [] → FirstOf queue (task ∷ [])) → FirstOf queue (tasks ++ task ∷ [])
first_stays queue room [] task first here = here refl
first_stays queue room (other ∷ tasks) task first here = first

same_first : (class : Class) (count room other : ℕ) (waiting tasks : List Waiting) → FirstOf (record { class = class; free_count = count; waiting = waiting; room = room }) tasks →
    FirstOf (record { class = class; free_count = count; waiting = tasks; room = other }) tasks
same_first class count room other waiting [] first = tt
same_first class count room other waiting (task ∷ tasks) first = first

pub joins_waiting : (class own : Class) (count room other n task : ℕ) (waiting : List Waiting) (line : List Entry) → StandsFor (record { class = own; free_count = count; waiting = waiting; room = room }) n line → n ≤ task →
    is_unblocked class (record { class = own; free_count = count; waiting = waiting; room = room }) ≡ false →
    StandsFor (record { class = own; free_count = count; waiting = waiting ++ record { task = task; class = class; is_open = true } ∷ []; room = other }) (task + 1) (record { task = task; class = class } ∷ line)
joins_waiting class own count room other n task waiting line st le isnt =
    let qs = st.queues in
    let new : Waiting = record { task = task; class = class; is_open = true } in
    record {
      queues = record {
        free = qs.free;
        line_is = rw qs.line_is (sym (queued_more waiting new qs.free refl));
        count_is = qs.count_is;
        of_class = qs.of_class;
        sharing = qs.sharing;
        low = qs.low;
        fall = qs.fall;
        rise = rise_more qs.low n waiting new qs.rise le;
      };
      first = same_first own count room other waiting (waiting ++ new ∷ [])
          (first_stays (record { class = own; free_count = count; waiting = waiting; room = room }) room waiting new st.first (λ none. (refl, let e : (none_waits [] && (count == 0 || shares class own)) ≡ false = rw none at isnt in e)));
    }

pub held_with_one_more : (t : ℕ) (tasks : List Waiting) (task : Waiting) → is_held_back t (tasks ++ task ∷ []) ≡ (is_held_back t tasks || task.is_open && task.task == t)
held_with_one_more t [] task = or_nothing (task.is_open && task.task == t)
  where
    or_nothing : (b : Bool) → (b || false) ≡ b
    or_nothing true = refl
    or_nothing false = refl
held_with_one_more t (first ∷ tasks) task = ap (λ b. first.is_open && first.task == t || b) (held_with_one_more t tasks task) ∙ or_assoc (first.is_open && first.task == t) (is_held_back t tasks) (task.is_open && task.task == t)
  where
    or_assoc : (a b c : Bool) → (a || (b || c)) ≡ ((a || b) || c)
    or_assoc true b c = refl
    or_assoc false b c = refl

-- A task leaves

-- the tasks, this one no longer open
abbrev pub closed : ℕ → List Waiting → List Waiting
closed t [] = []
closed t (task ∷ tasks) = (if task.task == t then record task { is_open = false } else task) ∷ closed t tasks

queued_closed : (t : ℕ) (tasks : List Waiting) (line : List Entry) → without t (queued tasks line) ≡ queued (closed t tasks) (without t line)
queued_closed t [] line = refl
queued_closed t (task ∷ tasks) line = elim (cases_Bool task.is_open) [
  | inl is ↦ elim (cases_Bool (task.task == t)) [
    | inl here ↦ rw (is, here) (queued_closed t tasks (entry_of task ∷ line) ∙ rw here refl)
    | inr away ↦ rw (is, away) (queued_closed t tasks (entry_of task ∷ line) ∙ rw away refl)
  ]
  | inr isnt ↦ elim (cases_Bool (task.task == t)) [
    | inl here ↦ rw (isnt, here) (queued_closed t tasks line)
    | inr away ↦ rw (isnt, away) (queued_closed t tasks line)
  ]
]

rise_closed : (t low n : ℕ) (tasks : List Waiting) → Rise low n tasks → Rise low n (closed t tasks)
rise_closed t low n [] rise = rise
rise_closed t low n (task ∷ tasks) rise = elim (cases_Bool (task.task == t)) [
  | inl here ↦ rw here (rise.0, rise_closed t (task.task + 1) n tasks rise.1)
  | inr away ↦ rw away (rise.0, rise_closed t (task.task + 1) n tasks rise.1)
]

pub held_closed : (t u : ℕ) (tasks : List Waiting) → is_held_back u (closed t tasks) ≡ (is_held_back u tasks && not (t == u))
held_closed t u [] = refl
held_closed t u (task ∷ tasks) = elim (cases_Bool (task.task == t)) [
  | inl here ↦ rw (here, held_closed t u tasks, is_equal task.task t here) (by task.is_open (t == u) (is_held_back u tasks))
  | inr away ↦ rw (away, held_closed t u tasks) (elim (cases_Bool (t == u)) [
    | inl same ↦ let other : (task.task == u) ≡ false = rw (← is_equal t u same) away in rw (other, same, and_false task.is_open false refl) refl
    | inr differ ↦ rw differ (stays (task.is_open && task.task == u) (is_held_back u tasks))
  ])
]
  where
    by : (is same held : Bool) → (held && not same) ≡ ((is && same || held) && not same)
    by true true held = and_false held false refl
    by true false held = refl
    by false same held = refl

    stays : (a b : Bool) → (a || (b && true)) ≡ ((a || b) && true)
    stays true b = refl
    stays false b = refl

-- a task that none of these is changes nothing
closed_unheld : (t : ℕ) (tasks : List Waiting) → is_held_back t tasks ≡ false → closed t tasks ≡ tasks
closed_unheld t [] none = refl
closed_unheld t (task ∷ tasks) none =
    let first = neither_left (task.is_open && task.task == t) (is_held_back t tasks) none in
    let rest = closed_unheld t tasks (or_false (task.is_open && task.task == t) (is_held_back t tasks) none) in
    elim (cases_Bool (task.task == t)) [
      | inl here ↦ rw (here, rest) (let was : task.is_open ≡ false = is_closed task.is_open (rw here at first) in rw was refl)
      | inr away ↦ rw (away, rest) refl
    ]
  where
    is_closed : (b : Bool) → (b && true) ≡ false → b ≡ false
    is_closed true e = absurd (cc)
    is_closed false e = refl

-- a line without a task above it
without_above : (t n : ℕ) (line : List Entry) → Fall n line → n ≤ t → without t line ≡ line
without_above t n [] fall le = refl
without_above t n (entry ∷ line) fall le =
    let lt = fall.0 in
    let other : (entry.task == t) ≡ false = other_number entry.task t (λ e. omega (arith, lt, le, e)) in
    rw (other, without_above t entry.task line fall.1 (omega (arith, lt, le))) refl

-- and without one that is in it
without_length : (t n : ℕ) (line : List Entry) → Fall n line → is_in t line ≡ true → length (without t line) + 1 ≡ length line
without_length t n [] fall is = absurd (cc)
without_length t n (entry ∷ line) fall is = elim (cases_Bool (entry.task == t)) [
  | inl here ↦ let it = is_equal entry.task t here in rw (here, without_above t entry.task line fall.1 (omega (arith, it))) (omega arith)
  | inr away ↦ rw away (let rest = without_length t entry.task line fall.1 (rw away at is) in omega (arith, rest))
]

without_class : (t : ℕ) (class : Class) (line : List Entry) → HaveClass class line → HaveClass class (without t line)
without_class t class [] all = tt
without_class t class (entry ∷ line) all = elim (cases_Bool (entry.task == t)) [
  | inl here ↦ rw here (without_class t class line all.1)
  | inr away ↦ rw away (all.0, without_class t class line all.1)
]

-- a task is in the line if it waits or is free
pub in_queued : (t : ℕ) (tasks : List Waiting) (line : List Entry) → is_in t (queued tasks line) ≡ (is_held_back t tasks || is_in t line)
in_queued t [] line = refl
in_queued t (task ∷ tasks) line = elim (cases_Bool task.is_open) [
  | inl is ↦ rw (is, in_queued t tasks (entry_of task ∷ line)) (by (task.task == t) (is_held_back t tasks) (is_in t line))
  | inr isnt ↦ rw (isnt, in_queued t tasks line) refl
]
  where
    by : (a b c : Bool) → (b || (a || c)) ≡ ((a || b) || c)
    by true true c = refl
    by true false c = refl
    by false b c = refl

-- a task has a place among these
abbrev pub HasPlace : ℕ → List Waiting → Type 0
HasPlace t [] = ⊥
HasPlace t (task ∷ tasks) = (task.task ≡ t) ⊎ HasPlace t tasks

place_from : (t low n : ℕ) (tasks : List Waiting) → Rise low n tasks → HasPlace t tasks → low ≤ t
place_from t low n [] rise place = absurd place
place_from t low n (task ∷ tasks) rise (inl here) = let from = rise.0 in omega (arith, from, here)
place_from t low n (task ∷ tasks) rise (inr later) = let from = rise.0 in let rest = place_from t (task.task + 1) n tasks rise.1 later in omega (arith, from, rest)

-- a task that waits leaves
pub leaves_waiting : (t : ℕ) (class : Class) (count room n : ℕ) (waiting : List Waiting) (line : List Entry) → LineQueues (record { class = class; free_count = count; waiting = waiting; room = room }) n line →
    HasPlace t waiting → LineQueues (record { class = class; free_count = count; waiting = closed t waiting; room = room }) n (without t line)
leaves_waiting t class count room n waiting line qs place =
    let from = place_from t qs.low n waiting qs.rise place in
    record {
      free = qs.free;
      line_is = rw (qs.line_is, queued_closed t waiting qs.free, without_above t qs.low qs.free qs.fall from) refl;
      count_is = qs.count_is;
      of_class = qs.of_class;
      sharing = qs.sharing;
      low = qs.low;
      fall = qs.fall;
      rise = rise_closed t qs.low n waiting qs.rise;
    }

-- one that is free is among those
pub is_in_free : (t : ℕ) (queue : LineView) (n : ℕ) (line : List Entry) → (qs : LineQueues queue n line) → is_in t line ≡ true → is_held_back t queue.waiting ≡ false → is_in t qs.free ≡ true
is_in_free t queue n line qs is none =
    let all : (is_held_back t queue.waiting || is_in t qs.free) ≡ true = sym (in_queued t queue.waiting qs.free) ∙ ap (is_in t) (sym qs.line_is) ∙ is in
    rw none at all

pub free_counted : (t : ℕ) (queue : LineView) (n : ℕ) (line : List Entry) → LineQueues queue n line → is_in t line ≡ true → is_held_back t queue.waiting ≡ false → 0 < queue.free_count
free_counted t queue n line qs is none =
    let less = without_length t qs.low qs.free qs.fall (is_in_free t queue n line qs is none) in
    let len = qs.count_is in
    omega (arith, less, len)

-- and leaves
pub free_task_leaves : (t : ℕ) (class : Class) (count room n : ℕ) (waiting : List Waiting) (line : List Entry) → LineQueues (record { class = class; free_count = count; waiting = waiting; room = room }) n line →
    is_in t line ≡ true → is_held_back t waiting ≡ false → LineQueues (record { class = class; free_count = count - 1; waiting = waiting; room = room }) n (without t line)
free_task_leaves t class count room n waiting line qs is none =
    let less = without_length t qs.low qs.free qs.fall (is_in_free t _ n line qs is none) in
    let len = qs.count_is in
    record {
      free = without t qs.free;
      line_is = rw (qs.line_is, queued_closed t waiting qs.free, closed_unheld t waiting none) refl;
      count_is = omega (arith, less, len);
      of_class = without_class t class qs.free qs.of_class;
      sharing = λ more. qs.sharing (omega (arith, more));
      low = qs.low;
      fall = fall_without t qs.low qs.free qs.fall;
      rise = qs.rise;
    }

-- The next task is free

queued_from_open : (tasks : List Waiting) (line : List Entry) → queued (from_first_open tasks) line ≡ queued tasks line
queued_from_open [] line = refl
queued_from_open (task ∷ tasks) line = elim (cases_Bool task.is_open) [
  | inl is ↦ rw is refl
  | inr isnt ↦ rw isnt (queued_from_open tasks line)
]

pub held_from_open : (t : ℕ) (tasks : List Waiting) → is_held_back t (from_first_open tasks) ≡ is_held_back t tasks
held_from_open t [] = refl
held_from_open t (task ∷ tasks) = elim (cases_Bool task.is_open) [
  | inl is ↦ rw is refl
  | inr isnt ↦ rw isnt (held_from_open t tasks)
]

rise_from_open : (low n : ℕ) (tasks : List Waiting) → Rise low n tasks → Rise low n (from_first_open tasks)
rise_from_open low n [] rise = rise
rise_from_open low n (task ∷ tasks) rise = elim (cases_Bool task.is_open) [
  | inl is ↦ rw is rise
  | inr isnt ↦ let from = rise.0 in rw isnt (rise_from_open low n tasks (rise_less low (task.task + 1) n tasks (omega (arith, from)) rise.1))
]

pub skips_closed : (class : Class) (count room other n : ℕ) (waiting : List Waiting) (line : List Entry) → LineQueues (record { class = class; free_count = count; waiting = waiting; room = room }) n line →
    LineQueues (record { class = class; free_count = count; waiting = from_first_open waiting; room = other }) n line
skips_closed class count room other n waiting line qs = record {
  free = qs.free;
  line_is = qs.line_is ∙ sym (queued_from_open waiting qs.free);
  count_is = qs.count_is;
  of_class = qs.of_class;
  sharing = qs.sharing;
  low = qs.low;
  fall = qs.fall;
  rise = rise_from_open qs.low n waiting qs.rise;
}

-- the first of those that are left is open
pub first_is_open : (tasks : List Waiting) (first : Waiting) (rest : List Waiting) → from_first_open tasks ≡ first ∷ rest → first.is_open ≡ true
first_is_open [] first rest e = absurd (cc)
first_is_open (task ∷ tasks) first rest e = by task.is_open refl (first_is_open tasks first rest) e
  where
    by : (b : Bool) → task.is_open ≡ b → (from_first_open tasks ≡ first ∷ rest → first.is_open ≡ true) → (if b then task ∷ tasks else from_first_open tasks) ≡ first ∷ rest → first.is_open ≡ true
    by true is later same = let it : task ≡ first = cc in ap (λ (one : Waiting). one.is_open) (sym it) ∙ is
    by false isnt later same = later same

pub none_may_go : (queue : LineView) (tasks : List Waiting) → first_may_join queue (from_first_open tasks) ≡ false → FirstOf queue (from_first_open tasks)
none_may_go queue [] waits = tt
none_may_go queue (task ∷ tasks) waits = by task.is_open refl (none_may_go queue tasks) waits
  where
    by : (b : Bool) → task.is_open ≡ b → (first_may_join queue (from_first_open tasks) ≡ false → FirstOf queue (from_first_open tasks)) →
        first_may_join queue (if b then task ∷ tasks else from_first_open tasks) ≡ false → FirstOf queue (if b then task ∷ tasks else from_first_open tasks)
    by true is later first = (is, first)
    by false isnt later first = later first

-- the first waiting task is free from now on
pub first_goes : (own : Class) (count room other n : ℕ) (first : Waiting) (tasks : List Waiting) (line : List Entry) → LineQueues (record { class = own; free_count = count; waiting = first ∷ tasks; room = room }) n line →
    first.is_open ≡ true → (count == 0 || shares first.class own) ≡ true → LineQueues (record { class = first.class; free_count = count + 1; waiting = tasks; room = other }) n line
first_goes own count room other n first tasks line qs is may =
    let len = qs.count_is in
    record {
      free = entry_of first ∷ qs.free;
      line_is = qs.line_is ∙ rw is refl;
      count_is = omega (arith, len);
      of_class = free_more first.class own count first.task qs.free qs.of_class qs.count_is may;
      sharing = more_share first.class own count may;
      low = first.task + 1;
      fall = (omega arith, fall_more qs.low first.task qs.free qs.rise.0 qs.fall);
      rise = qs.rise.1;
    }

pub held_after_first : (low n t : ℕ) (first : Waiting) (tasks : List Waiting) → Rise low n (first ∷ tasks) → first.is_open ≡ true → is_held_back t tasks ≡ (is_held_back t (first ∷ tasks) && not (first.task == t))
held_after_first low n t first tasks rise is = elim (cases_Bool (first.task == t)) [
  | inl here ↦
      let it = is_equal first.task t here in
      let none : is_held_back t tasks ≡ false = held_below t (first.task + 1) n tasks rise.1 (omega (arith, it)) in
      rw (is, here, none) refl
  | inr away ↦ rw (is, away) (and_nothing (is_held_back t tasks))
]
  where
    and_nothing : (b : Bool) → b ≡ (b && true)
    and_nothing true = refl
    and_nothing false = refl

-- a task that waits is in the line
pub held_is_in : (t : ℕ) (queue : LineView) (n : ℕ) (line : List Entry) → LineQueues queue n line → is_held_back t queue.waiting ≡ true → is_in t line ≡ true
held_is_in t queue n line qs held = ap (is_in t) qs.line_is ∙ in_queued t queue.waiting qs.free ∙ rw held refl
