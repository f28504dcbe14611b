-- Rows under numbers, of which one is written or taken out, and what is then kept of each task.
use Rattle.std.proofs.Common.{◌≡◌, ◌≢◌, ℕ, ◌+◌, ◌-◌, ◌<◌, ◌≤◌, Bool, true, false, List, [], ◌∷◌, ◌++◌, Option, Some, None, length, set, get_or, refl, ap, ◌∙◌, sym, subst, arith, suc, zero, ◌⊎◌, inl, inr}
use Rattle.std.specs.Prelude.{◌==◌, ◌&&◌, if◌then◌else◌}
use Rattle.std.proofs.lemmas.Bool.{cases_lt, cases_eq}
use Rattle.std.proofs.lemmas.List.{length-append, length-set, set-set, get_or-set_same, get_or-set_other, get_or_past}
use Rattle.gomp_rows.specs.Rows.{row_no, HasRow, with_row}
use Rattle.gomp_rows.proofs.Readings.{written_row_is_read, other_rows_stay, length-with_row, new_row_is_read, earlier_rows_stay}
use Rattle.gomp_types.specs.declared.task.Task.{Task}
use Rattle.gomp_types.specs.declared.task.Task.TheVariants.{Implicit, Explicit}
use Rattle.gomp_events.specs.Tasks.{same_task}
use Rattle.gomp_types.proofs.Booleans.{same_number, other_number, unequal_numbers, is_equal}
use Rattle.gomp_groups.specs.declared.rows.GroupSeat.{GroupSeat}
use Rattle.gomp_groups.specs.declared.rows.SeatedTask.{SeatedTask}
use Rattle.gomp_groups.specs.Rows.{no_seat, task_at, or_no_task, seat_at, IsSeatedIn, with_seat, members_with_seat, is_over, needed_row, ended_row, one_child_less, after_child, members_after_child}

-- Rows

-- a number has a row, or none
pub row_or_gone : (rows : List (Option SeatedTask)) (t : ℕ) → ((row : SeatedTask) × (row_no rows t ≡ Some row)) ⊎ (row_no rows t ≡ None)
row_or_gone rows t = by (row_no rows t)
  where
    by : (kept : Option SeatedTask) → ((row : SeatedTask) × (kept ≡ Some row)) ⊎ (kept ≡ None)
    by None = inr refl
    by (Some row) = inl (row, refl)

-- the rows of a list in which one was written
pub row_at-with : (rows : List (Option SeatedTask)) (t : ℕ) (kept : Option SeatedTask) → HasRow rows t → (u : ℕ) → row_no (with_row rows t kept) u ≡ (if t == u then kept else row_no rows u)
row_at-with rows t kept there u =
    elim (cases_eq u t) [
      | inl here ↦ rw (here, same_number t) (written_row_is_read rows t kept there)
      | inr away ↦ rw (other_number t u (λ e. away (sym e))) (other_rows_stay rows t u kept away)
    ]

-- and of one to which one was put
pub row_at-push : (rows : List (Option SeatedTask)) (row : SeatedTask) (u : ℕ) → row_no (rows ++ Some row ∷ []) u ≡ (if suc (length rows) == u then Some row else row_no rows u)
row_at-push rows row u =
    elim (cases_lt (length rows) u) [
      | inr before ↦ rw (other_number (suc (length rows)) u (λ e. omega (arith, e, before))) (earlier_rows_stay rows row u before)
      | inl after ↦ elim (cases_eq u (suc (length rows))) [
        | inl here ↦
            let number : length rows + 1 ≡ suc (length rows) = omega arith in
            let last : row_no (rows ++ Some row ∷ []) (suc (length rows)) ≡ Some row = subst (λ (n : ℕ). row_no (rows ++ Some row ∷ []) n ≡ Some row) number (new_row_is_read rows row) in
            rw (here, same_number (suc (length rows))) last
        | inr away ↦ past u after away
      ]
    ]
  where
    past : (u : ℕ) → length rows < u → u ≢ suc (length rows) → row_no (rows ++ Some row ∷ []) u ≡ (if suc (length rows) == u then Some row else row_no rows u)
    past zero after away = absurd (omega (arith, after))
    past (suc k) after away =
        let size = length-append rows (Some row ∷ []) in
        rw (other_number (suc (length rows)) (suc k) (λ e. away (omega (arith, e))))
        (get_or_past (rows ++ Some row ∷ []) k None (omega (arith, size, after, away)) ∙ sym (get_or_past rows k None (omega (arith, after))))

-- no number beyond the last has a row
pub row_at_past : (rows : List (Option SeatedTask)) (n : ℕ) → length rows ≤ n → row_no rows (suc n) ≡ None
row_at_past rows n past = get_or_past rows n None past

-- Seats

-- what a row says is what is kept of its task
pub seat_of_row : (tasks : List (Option SeatedTask)) (members : List GroupSeat) (t : ℕ) (row : SeatedTask) → row_no tasks t ≡ Some row → seat_at tasks members (Explicit t) ≡ row.seat
seat_of_row tasks members t row is = ap (λ (kept : Option SeatedTask). (or_no_task kept).seat) is

-- the row of a task that is seated
pub row_of_seated : (tasks : List (Option SeatedTask)) (t : ℕ) → HasRow tasks t → (row : SeatedTask) × (row_no tasks t ≡ Some row)
row_of_seated tasks t there =
    elim (row_or_gone tasks t) [
      | inl found ↦ found
      | inr none ↦ absurd (let e = rw none at there in cc)
    ]

pub seated_by_row : (tasks : List (Option SeatedTask)) (t : ℕ) (row : SeatedTask) → row_no tasks t ≡ Some row → HasRow tasks t
seated_by_row tasks t row is = rw is refl

-- who has an open child has a seat
pub parent_seated : (tasks : List (Option SeatedTask)) (members : List GroupSeat) (p : Task) → 0 < (seat_at tasks members p).children → IsSeatedIn tasks members p
parent_seated tasks members (Implicit x) some =
    elim (cases_lt x (length members)) [
      | inl lt ↦ lt
      | inr past ↦ absurd (let none : (get_or members x no_seat).children ≡ 0 = ap (λ (s : GroupSeat). s.children) (get_or_past members x no_seat past) in omega (arith, none, some))
    ]
parent_seated tasks members (Explicit t) some =
    elim (row_or_gone tasks t) [
      | inl found ↦ seated_by_row tasks t found.0 found.1
      | inr gone ↦ absurd (let none : (task_at tasks t).seat.children ≡ 0 = ap (λ (kept : Option SeatedTask). (or_no_task kept).seat.children) gone in omega (arith, none, some))
    ]

-- the seat of a task that was not created before
pub seat_at-push : (tasks : List (Option SeatedTask)) (members : List GroupSeat) (row : SeatedTask) (p : Task) → seat_at (tasks ++ Some row ∷ []) members p ≡ (if same_task (Explicit (suc (length tasks))) p then row.seat else seat_at tasks members p)
seat_at-push tasks members row (Implicit m) = refl
seat_at-push tasks members row (Explicit t) = ap (λ (kept : Option SeatedTask). (or_no_task kept).seat) (row_at-push tasks row t) ∙ by (suc (length tasks) == t)
  where
    by : (b : Bool) → (or_no_task (if b then Some row else row_no tasks t)).seat ≡ (if b then row.seat else seat_at tasks members (Explicit t))
    by true = refl
    by false = refl

-- A seat that was written

-- this row is that of the same task, with the same parent, and says as much of its end
pub record IsRowOf (kept : Option SeatedTask) (row : SeatedTask) : Type 0 where
  pub was : SeatedTask
  pub is : kept ≡ Some was
  pub parent : row.parent ≡ was.parent
  pub complete : row.complete ≡ was.complete

-- the task has this seat now, and the others theirs; no row is added or taken out
pub record Reseats (tasks : List (Option SeatedTask)) (members : List GroupSeat) (task : Task) (seat : GroupSeat) (tasks_now : List (Option SeatedTask)) (members_now : List GroupSeat) : Type 0 where
  pub tasks_len : length tasks_now ≡ length tasks
  pub members_len : length members_now ≡ length members
  pub seat_is : (p : Task) → seat_at tasks_now members_now p ≡ (if same_task task p then seat else seat_at tasks members p)
  pub gone : (t : ℕ) → row_no tasks_now t ≡ None → row_no tasks t ≡ None
  pub row : (t : ℕ) (row : SeatedTask) → row_no tasks_now t ≡ Some row → IsRowOf (row_no tasks t) row

-- who is seated was so before
pub was_seated : (tasks : List (Option SeatedTask)) (members : List GroupSeat) (task : Task) (seat : GroupSeat) (tasks_now : List (Option SeatedTask)) (members_now : List GroupSeat) → Reseats tasks members task seat tasks_now members_now → (p : Task) → IsSeatedIn tasks_now members_now p → IsSeatedIn tasks members p
was_seated tasks members task seat tasks_now members_now re (Implicit x) seated = let size = re.members_len in omega (arith, seated, size)
was_seated tasks members task seat tasks_now members_now re (Explicit t) seated =
    let (row, is) = row_of_seated tasks_now t seated in
    let old = re.row t row is in
    seated_by_row tasks t old.was old.is

pub seat_is_put : (tasks : List (Option SeatedTask)) (members : List GroupSeat) (task : Task) (seat : GroupSeat) → IsSeatedIn tasks members task → Reseats tasks members task seat (with_seat tasks task seat) (members_with_seat members task seat)
seat_is_put tasks members (Implicit m) seat seated = record {
  tasks_len = refl;
  members_len = length-set members m seat;
  seat_is = seat_is;
  gone = λ t none. none;
  row = λ t row is. record { was = row; is = is; parent = refl; complete = refl };
}
  where
    seat_is : (p : Task) → seat_at tasks (set members m seat) p ≡ (if same_task (Implicit m) p then seat else seat_at tasks members p)
    seat_is (Implicit x) =
        elim (cases_eq x m) [
          | inl here ↦ rw (here, same_number m) (get_or-set_same members m seat no_seat seated)
          | inr away ↦ rw (other_number m x (λ e. away (sym e))) (get_or-set_other members m x seat no_seat away)
        ]
    seat_is (Explicit t) = refl
seat_is_put tasks members (Explicit n) seat seated = record {
  tasks_len = length-with_row tasks n (Some now);
  members_len = refl;
  seat_is = seat_is;
  gone = λ t none. gone t (n == t) (sym (row_is t) ∙ none);
  row = λ t row is. old_row t row (n == t) refl (sym (row_is t) ∙ is);
}
  where
    now : SeatedTask
    now = record (task_at tasks n) { seat = seat }

    row_is : (t : ℕ) → row_no (with_row tasks n (Some now)) t ≡ (if n == t then Some now else row_no tasks t)
    row_is t = row_at-with tasks n (Some now) seated t

    seat_is : (p : Task) → seat_at (with_row tasks n (Some now)) members p ≡ (if same_task (Explicit n) p then seat else seat_at tasks members p)
    seat_is (Implicit x) = refl
    seat_is (Explicit t) = ap (λ (kept : Option SeatedTask). (or_no_task kept).seat) (row_is t) ∙ by (n == t)
      where
        by : (b : Bool) → (or_no_task (if b then Some now else row_no tasks t)).seat ≡ (if b then seat else seat_at tasks members (Explicit t))
        by true = refl
        by false = refl

    gone : (t : ℕ) (b : Bool) → (if b then Some now else row_no tasks t) ≡ None → row_no tasks t ≡ None
    gone t true none = absurd (cc)
    gone t false none = none

    old_row : (t : ℕ) (row : SeatedTask) (b : Bool) → (n == t) ≡ b → (if b then Some now else row_no tasks t) ≡ Some row → IsRowOf (row_no tasks t) row
    old_row t row true here is =
        let found = row_of_seated tasks n seated in
        let same : task_at tasks n ≡ found.0 = ap or_no_task found.1 in
        let e : now ≡ row = cc in
        record { was = found.0; is = rw (← is_equal n t here) found.1; parent = rw (← e) (ap (λ (r : SeatedTask). r.parent) same); complete = rw (← e) (ap (λ (r : SeatedTask). r.complete) same) }
    old_row t row false away is = record { was = row; is = is; parent = refl; complete = refl }

-- Rows that are kept as long as they are needed

-- a row that is kept is the one that was to be kept
pub kept_is : (row kept : SeatedTask) → needed_row row ≡ Some kept → row ≡ kept
kept_is row kept is = by (row.complete && (row.seat.children == 0)) is
  where
    by : (b : Bool) → (if b then None else Some row) ≡ Some kept → row ≡ kept
    by true e = absurd (cc)
    by false e = cc

-- and if its task is complete, a child of that is open
pub kept_has_child : (row kept : SeatedTask) → needed_row row ≡ Some kept → kept.complete ≡ true → 0 < kept.seat.children
kept_has_child row kept is complete =
    let same : row ≡ kept = kept_is row kept is in
    let still : needed_row kept ≡ Some kept = rw (← same) (is ∙ ap Some (sym same)) in
    by kept.complete (kept.seat.children == 0) complete refl still
  where
    by : (b c : Bool) → b ≡ true → (kept.seat.children == 0) ≡ c → (if b && c then None else Some kept) ≡ Some kept → 0 < kept.seat.children
    by true true over none e = absurd (cc)
    by true false over some e = let differ = unequal_numbers kept.seat.children 0 some in omega (arith, differ)
    by false c over some e = absurd (cc)

-- one that is taken out is that of a complete task without an open child
pub taken_out_is_over : (row : SeatedTask) → needed_row row ≡ None → (row.complete ≡ true) × (row.seat.children ≡ 0)
taken_out_is_over row is = by row.complete (row.seat.children == 0) refl refl is
  where
    by : (b c : Bool) → row.complete ≡ b → (row.seat.children == 0) ≡ c → (if b && c then None else Some row) ≡ None → (row.complete ≡ true) × (row.seat.children ≡ 0)
    by true true complete none e = (complete, is_equal row.seat.children 0 none)
    by true false complete some e = absurd (cc)
    by false c open' some e = absurd (cc)

-- so the count of its children is what it was to be
pub kept_children : (row : SeatedTask) → (or_no_task (needed_row row)).seat.children ≡ row.seat.children
kept_children row = by (needed_row row) refl
  where
    by : (kept : Option SeatedTask) → needed_row row ≡ kept → (or_no_task kept).seat.children ≡ row.seat.children
    by None is = sym (taken_out_is_over row is).1
    by (Some kept) is = ap (λ (r : SeatedTask). r.seat.children) (sym (kept_is row kept is))

-- as many children of each task are counted as before
pub own_row_count : (tasks : List (Option SeatedTask)) (members : List GroupSeat) (t : ℕ) (row : SeatedTask) → row_no tasks t ≡ Some row → (p : Task) → (seat_at (with_row tasks t (needed_row (ended_row row))) members p).children ≡ (seat_at tasks members p).children
own_row_count tasks members t row found (Implicit x) = refl
own_row_count tasks members t row found (Explicit u) =
    ap (λ (kept : Option SeatedTask). (or_no_task kept).seat.children) (row_at-with tasks t (needed_row (ended_row row)) (seated_by_row tasks t row found) u) ∙ by (t == u) refl
  where
    by : (b : Bool) → (t == u) ≡ b → (or_no_task (if b then needed_row (ended_row row) else row_no tasks u)).seat.children ≡ (seat_at tasks members (Explicit u)).children
    by true here = kept_children (ended_row row) ∙ rw (← is_equal t u here) (ap (λ (s : GroupSeat). s.children) (sym (seat_of_row tasks members t row found)))
    by false other = refl

-- The row of a task that is complete

-- it is taken out if no child of the task is open
pub ended_row_is_out : (tasks : List (Option SeatedTask)) (t children : ℕ) → children ≡ (task_at tasks t).seat.children → children ≡ 0 → with_row tasks t None ≡ with_row tasks t (needed_row (ended_row (task_at tasks t)))
ended_row_is_out tasks t children count none =
    let over : (task_at tasks t).seat.children ≡ 0 = sym count ∙ none in
    rw over refl

-- and says so if one is
pub ended_row_is_kept : (tasks : List (Option SeatedTask)) (t children : ℕ) (row : SeatedTask) → row_no tasks t ≡ Some row → children ≡ (task_at tasks t).seat.children → children ≢ 0 → with_row tasks t (Some (ended_row row)) ≡ with_row tasks t (needed_row (ended_row (task_at tasks t)))
ended_row_is_kept tasks t children row found count some =
    let same : task_at tasks t ≡ row = ap or_no_task found in
    let differ : ((task_at tasks t).seat.children == 0) ≡ false = other_number (task_at tasks t).seat.children 0 (λ e. some (count ∙ e)) in
    rw (differ, same) refl

-- A row that is written, and taken out then, is taken out

row_written_twice : (rows : List (Option SeatedTask)) (t : ℕ) (first second : Option SeatedTask) → with_row (with_row rows t first) t second ≡ with_row rows t second
row_written_twice rows zero first second = refl
row_written_twice rows (suc k) first second = set-set rows k first second

-- that of a task of which the last child is complete
pub parents_row_is_out : (tasks left : List (Option SeatedTask)) (parent : Task) (t : ℕ) (row : SeatedTask) (kept : Option SeatedTask) → parent ≡ Explicit t → row_no tasks t ≡ Some row → is_over (record row { seat = one_child_less row.seat }) ≡ true → left ≡ with_row (with_row tasks t kept) t None → left ≡ after_child tasks parent
parents_row_is_out tasks left parent t row kept is found over left_is =
    let same : task_at tasks t ≡ row = ap or_no_task found in
    left_is ∙ row_written_twice tasks t kept None ∙ rw (is, same, over) refl

-- A parent of which one child less is open

-- a seat that there is now: it was there, in the same groups
pub record IsSeatOf (tasks : List (Option SeatedTask)) (members : List GroupSeat) (p : Task) (seat : GroupSeat) : Type 0 where
  pub seated : IsSeatedIn tasks members p
  pub around : seat.around ≡ (seat_at tasks members p).around
  pub last : seat.last ≡ (seat_at tasks members p).last

-- the rows and seats with one child less of the parent, and whose rows are gone
pub record ChildLess (tasks : List (Option SeatedTask)) (members : List GroupSeat) (parent : Task) (tasks_now : List (Option SeatedTask)) (members_now : List GroupSeat) : Type 0 where
  pub tasks_len : length tasks_now ≡ length tasks
  pub members_len : length members_now ≡ length members
  pub children : (p : Task) → (seat_at tasks_now members_now p).children ≡ (seat_at tasks members p).children - (if same_task parent p then 1 else 0)
  pub seat : (p : Task) → IsSeatedIn tasks_now members_now p → IsSeatOf tasks members p (seat_at tasks_now members_now p)
  pub gone : (t : ℕ) → row_no tasks_now t ≡ None → (row_no tasks t ≡ None) ⊎ ((row : SeatedTask) × (row_no tasks t ≡ Some row) × (row.complete ≡ true))
  pub row : (t : ℕ) (row : SeatedTask) → row_no tasks_now t ≡ Some row → IsRowOf (row_no tasks t) row
  pub needed : (t : ℕ) (row : SeatedTask) → row_no tasks_now t ≡ Some row → row.complete ≡ true → (0 < row.seat.children) ⊎ (row_no tasks t ≡ Some row)

pub child_less : (tasks : List (Option SeatedTask)) (members : List GroupSeat) (parent : Task) → IsSeatedIn tasks members parent → ChildLess tasks members parent (after_child tasks parent) (members_after_child members parent)
child_less tasks members (Implicit m) seated = record {
  tasks_len = refl;
  members_len = length-set members m less;
  children = children;
  seat = seat;
  gone = λ t none. inl none;
  row = λ t row is. record { was = row; is = is; parent = refl; complete = refl };
  needed = λ t row is complete. inr is;
}
  where
    less : GroupSeat
    less = one_child_less (get_or members m no_seat)

    at : (x : ℕ) → get_or (set members m less) x no_seat ≡ (if m == x then less else get_or members x no_seat)
    at x =
        elim (cases_eq x m) [
          | inl here ↦ rw (here, same_number m) (get_or-set_same members m less no_seat seated)
          | inr away ↦ rw (other_number m x (λ e. away (sym e))) (get_or-set_other members m x less no_seat away)
        ]

    children : (p : Task) → (seat_at tasks (set members m less) p).children ≡ (seat_at tasks members p).children - (if same_task (Implicit m) p then 1 else 0)
    children (Implicit x) = ap (λ (s : GroupSeat). s.children) (at x) ∙ by (m == x) refl
      where
        by : (b : Bool) → (m == x) ≡ b → (if b then less else get_or members x no_seat).children ≡ (get_or members x no_seat).children - (if b then 1 else 0)
        by true here = rw (is_equal m x here) refl
        by false other = omega arith
    children (Explicit t) = omega arith

    seat : (p : Task) → IsSeatedIn tasks (set members m less) p → IsSeatOf tasks members p (seat_at tasks (set members m less) p)
    seat (Implicit x) now =
        record {
          seated = let size = length-set members m less in omega (arith, now, size);
          around = ap (λ (s : GroupSeat). s.around) (at x) ∙ around (m == x) refl;
          last = ap (λ (s : GroupSeat). s.last) (at x) ∙ last (m == x) refl;
        }
      where
        around : (b : Bool) → (m == x) ≡ b → (if b then less else get_or members x no_seat).around ≡ (get_or members x no_seat).around
        around true here = rw (is_equal m x here) refl
        around false other = refl

        last : (b : Bool) → (m == x) ≡ b → (if b then less else get_or members x no_seat).last ≡ (get_or members x no_seat).last
        last true here = rw (is_equal m x here) refl
        last false other = refl
    seat (Explicit t) now = record { seated = now; around = refl; last = refl }
child_less tasks members (Explicit n) seated = record {
  tasks_len = length-with_row tasks n (needed_row less);
  members_len = refl;
  children = children;
  seat = seat;
  gone = λ t none. gone t (n == t) refl (sym (row_is t) ∙ none);
  row = λ t row is. old_row t row (n == t) refl (sym (row_is t) ∙ is);
  needed = λ t row is complete. needed t row (n == t) (sym (row_is t) ∙ is) complete;
}
  where
    less : SeatedTask
    less = record (task_at tasks n) { seat = one_child_less (task_at tasks n).seat }

    row_is : (t : ℕ) → row_no (with_row tasks n (needed_row less)) t ≡ (if n == t then needed_row less else row_no tasks t)
    row_is t = row_at-with tasks n (needed_row less) seated t

    was : (row : SeatedTask) × (row_no tasks n ≡ Some row)
    was = row_of_seated tasks n seated

    children : (p : Task) → (seat_at (with_row tasks n (needed_row less)) members p).children ≡ (seat_at tasks members p).children - (if same_task (Explicit n) p then 1 else 0)
    children (Implicit x) = omega arith
    children (Explicit t) = ap (λ (kept : Option SeatedTask). (or_no_task kept).seat.children) (row_is t) ∙ by (n == t) refl
      where
        by : (b : Bool) → (n == t) ≡ b → (or_no_task (if b then needed_row less else row_no tasks t)).seat.children ≡ (task_at tasks t).seat.children - (if b then 1 else 0)
        by true here = kept_children less ∙ rw (is_equal n t here) refl
        by false other = omega arith

    old_row : (t : ℕ) (r : SeatedTask) (b : Bool) → (n == t) ≡ b → (if b then needed_row less else row_no tasks t) ≡ Some r → IsRowOf (row_no tasks t) r
    old_row t r true here is =
        let old : task_at tasks n ≡ was.0 = ap or_no_task was.1 in
        let same : less ≡ r = kept_is less r is in
        record { was = was.0; is = rw (← is_equal n t here) was.1; parent = rw (← same) (ap (λ (x : SeatedTask). x.parent) old); complete = rw (← same) (ap (λ (x : SeatedTask). x.complete) old) }
    old_row t r false other is = record { was = r; is = is; parent = refl; complete = refl }

    seat : (p : Task) → IsSeatedIn (with_row tasks n (needed_row less)) members p → IsSeatOf tasks members p (seat_at (with_row tasks n (needed_row less)) members p)
    seat (Implicit x) now = record { seated = now; around = refl; last = refl }
    seat (Explicit t) now =
        let kept = row_of_seated (with_row tasks n (needed_row less)) t now in
        let is : (if n == t then needed_row less else row_no tasks t) ≡ Some kept.0 = sym (row_is t) ∙ kept.1 in
        let old = old_row t kept.0 (n == t) refl is in
        let reads = seat_of_row (with_row tasks n (needed_row less)) members t kept.0 kept.1 in
        record {
          seated = seated_by_row tasks t old.was old.is;
          around = ap (λ (s : GroupSeat). s.around) reads ∙ around kept.0 (n == t) refl is;
          last = ap (λ (s : GroupSeat). s.last) reads ∙ last kept.0 (n == t) refl is;
        }
      where
        around : (r : SeatedTask) (b : Bool) → (n == t) ≡ b → (if b then needed_row less else row_no tasks t) ≡ Some r → r.seat.around ≡ (task_at tasks t).seat.around
        around r true here is = ap (λ (x : SeatedTask). x.seat.around) (sym (kept_is less r is)) ∙ rw (is_equal n t here) refl
        around r false other is = ap (λ (s : GroupSeat). s.around) (sym (seat_of_row tasks members t r is))

        last : (r : SeatedTask) (b : Bool) → (n == t) ≡ b → (if b then needed_row less else row_no tasks t) ≡ Some r → r.seat.last ≡ (task_at tasks t).seat.last
        last r true here is = ap (λ (x : SeatedTask). x.seat.last) (sym (kept_is less r is)) ∙ rw (is_equal n t here) refl
        last r false other is = ap (λ (s : GroupSeat). s.last) (sym (seat_of_row tasks members t r is))

    gone : (t : ℕ) (b : Bool) → (n == t) ≡ b → (if b then needed_row less else row_no tasks t) ≡ None → (row_no tasks t ≡ None) ⊎ ((row : SeatedTask) × (row_no tasks t ≡ Some row) × (row.complete ≡ true))
    gone t true here none =
        let over = (taken_out_is_over less none).0 in
        inr (was.0, rw (← is_equal n t here) was.1, ap (λ (kept : Option SeatedTask). (or_no_task kept).complete) (sym was.1) ∙ over)
    gone t false other none = inl none

    needed : (t : ℕ) (r : SeatedTask) (b : Bool) → (if b then needed_row less else row_no tasks t) ≡ Some r → r.complete ≡ true → (0 < r.seat.children) ⊎ (row_no tasks t ≡ Some r)
    needed t r true is complete = inl (kept_has_child less r is complete)
    needed t r false is complete = inr is
