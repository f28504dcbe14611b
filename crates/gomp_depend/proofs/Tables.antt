-- What the tables say at one key.
use Rattle.std.proofs.Common.{◌≡◌, ℕ, ◌<◌, Bool, true, false, List, [], ◌∷◌, Option, Some, None, refl, ◌∙◌, sym, subst}
use Rattle.std.specs.Prelude.{not, OnOk, Result, Ok, Err}
use Rattle.gomp_lines.specs.declared.classes.Class.{Class}
use Rattle.gomp_lines.specs.declared.lines.Waiting.{Waiting}
use Rattle.gomp_lines.specs.Lines.{Entry}
use Rattle.gomp_lines.specs.Queues.{LineView, StandsFor, SameTasks, is_unblocked, is_held_back}
use Rattle.gomp_lines.proofs.QueueTasks.{ready_by_line, free_is_not_held, empty_line}
use Rattle.gomp_lines.proofs.QueueSteps.{empty_queue, other_room}
use Rattle.gomp_depend.specs.Tables.{no_tasks, or_no_tasks, HasRoomIn}

-- no entry stands for no tasks
pub stands_for_none : (entry : Option LineView) (n : ℕ) → entry ≡ None → StandsFor (or_no_tasks entry) n []
stands_for_none entry n none = subst (λ (e : Option LineView). StandsFor (or_no_tasks e) n []) (sym none) (empty_queue _ 0 n)

-- and so does a new line
pub stands_new : (entry : Option LineView) (queue : LineView) (n : ℕ) (line : List Entry) → entry ≡ None → ((m : ℕ) → StandsFor queue m []) → StandsFor (or_no_tasks entry) n line → StandsFor queue n line
stands_new entry queue n line none new st =
    let was : StandsFor no_tasks n line = subst (λ (e : Option LineView). StandsFor (or_no_tasks e) n line) none st in
    let is : line ≡ [] = (empty_line no_tasks n line was).0 refl in
    subst (λ tasks. StandsFor queue n tasks) (sym is) (new n)

-- a new line stands for no tasks alone
pub stood_new : (entry : Option LineView) (queue : LineView) (n : ℕ) (line : List Entry) → entry ≡ None → ((m : ℕ) → StandsFor queue m []) → StandsFor queue n line → StandsFor (or_no_tasks entry) n line
stood_new entry queue n line none new st =
    let no_free = (empty_line queue 0 [] (new 0)).1 refl in
    let is : line ≡ [] = (empty_line queue n line st).0 no_free in
    subst (λ tasks. StandsFor (or_no_tasks entry) n tasks) (sym is) (stands_for_none entry n none)

-- in which there is room for a task that is free
pub new_has_room : (class : Class) (entry : Option LineView) (queue : LineView) → entry ≡ Some queue → ((m : ℕ) → StandsFor queue m []) → HasRoomIn class entry
new_has_room class entry queue is new =
    subst (λ (e : Option LineView). HasRoomIn class e) (sym is) (λ isnt. absurd (let ready = ready_by_line class queue 0 [] (new 0) in cc))

pub room_in : (class : Class) (entry : Option LineView) (queue : LineView) → entry ≡ Some queue → (is_unblocked class queue ≡ false → 0 < queue.room) → HasRoomIn class entry
room_in class entry queue is room = subst (λ (e : Option LineView). HasRoomIn class e) (sym is) room

has_room_there : (class : Class) (count : ℕ) (waiting : List Waiting) (room other n : ℕ) (line : List Entry) → StandsFor (record { class = class; free_count = count; waiting = waiting; room = room }) n line →
    StandsFor (record { class = class; free_count = count; waiting = waiting; room = other }) n line
has_room_there class count [] room other n line st = record { queues = other_room class count room other n [] line st.queues; first = tt }
has_room_there class count (task ∷ tasks) room other n line st = record { queues = other_room class count room other n (task ∷ tasks) line st.queues; first = st.first }

-- other room changes nothing else
pub stands_in_more_room : (one other : LineView) (n : ℕ) (line : List Entry) → SameTasks one other → StandsFor one n line → StandsFor other n line
stands_in_more_room one other n line same st = by one.class one.free_count one.waiting other.class other.free_count other.waiting one.room other.room same.class same.free_count same.waiting st
  where
    by : (c : Class) (k : ℕ) (ws : List Waiting) (d : Class) (l : ℕ) (vs : List Waiting) (room more : ℕ) → c ≡ d → k ≡ l → ws ≡ vs → StandsFor (record { class = c; free_count = k; waiting = ws; room = room }) n line → StandsFor (record { class = d; free_count = l; waiting = vs; room = more }) n line
    by c k ws d l vs room more e f g now =
        subst (λ (x : Class). StandsFor (record { class = x; free_count = l; waiting = vs; room = more }) n line) e
        (subst (λ (x : ℕ). StandsFor (record { class = c; free_count = x; waiting = vs; room = more }) n line) f
        (subst (λ (x : List Waiting). StandsFor (record { class = c; free_count = k; waiting = x; room = more }) n line) g
        (has_room_there c k ws room more n line now)))

pub same_back : (one other : LineView) → SameTasks one other → SameTasks other one
same_back one other same = record { class = sym same.class; free_count = sym same.free_count; waiting = sym same.waiting }

not_tells_apart : (x y : Bool) → not x ≡ not y → x ≡ y
not_tells_apart true true e = refl
not_tells_apart true false e = absurd (cc)
not_tells_apart false true e = absurd (cc)
not_tells_apart false false e = refl

-- two queues that stand for one line hold the same tasks
pub same_held : (one other : LineView) (n m : ℕ) (line : List Entry) → StandsFor one n line → StandsFor other m line → (t : ℕ) → is_held_back t one.waiting ≡ is_held_back t other.waiting
same_held one other n m line a b t = not_tells_apart _ _ (sym (free_is_not_held t one n line a) ∙ free_is_not_held t other m line b)

pub on_ok_then : {A E : Type 0} {P Q : Type 0} (r : Result A E) → (P → Q) → OnOk r P → OnOk r Q
on_ok_then (Ok x) f p = f p
on_ok_then (Err e) f p = p
