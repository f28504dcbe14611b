-- What becomes of the groups as tasks are created and ended, and groups opened and ended.
use Rattle.std.proofs.Common.{◌≡◌, ℕ, ◌+◌, ◌<◌, ◌≤◌, Bool, true, false, List, [], ◌∷◌, ◌++◌, Option, Some, None, length, refl, ap, ◌∙◌, sym, subst, arith, suc, inl, inr}
use Rattle.std.specs.Prelude.{◌==◌, ◌||◌, if◌then◌else◌}
use Rattle.std.proofs.lemmas.Bool.{cases_Bool}
use Rattle.std.proofs.lemmas.List.{length-append, append-nil}
use Rattle.gomp_rows.specs.Rows.{row_no, HasRow, with_row}
use Rattle.gomp_types.specs.declared.task.Task.{Task}
use Rattle.gomp_types.specs.declared.task.Task.TheVariants.{Implicit, Explicit}
use Rattle.gomp_types.specs.declared.task.TaskDesc.{TaskDesc}
use Rattle.gomp_events.specs.declared.event.Event.{Event}
use Rattle.gomp_events.specs.declared.event.Event.TheVariants.{Create, Done, Discard, Group, GroupEnd}
use Rattle.gomp_events.specs.Laws.{Always}
use Rattle.gomp_events.specs.Tasks.{tasks_created, is_created, is_complete, open_tasks, is_child, same_task, contains, executed_task, innermost_task, task_stack, after_first}
use Rattle.gomp_events.specs.Groups.{groups_opened, open_groups, groups_around, in_group}
use Rattle.gomp_events.specs.TaskRules.{TaskRule}
use Rattle.gomp_types.proofs.Booleans.{same_number, other_number, is_equal, not_both}
use Rattle.gomp_events.proofs.LaterTasks.{old_created}
use Rattle.gomp_events.proofs.OpenTasks.{open_done, open_done_other, open_created, created_high}
use Rattle.gomp_events.proofs.Suspended.{current_open, unstarted_is_fresh}
use Rattle.gomp_events.proofs.TaskRoom.{uncreated_not_started}
use Rattle.gomp_rows.proofs.Readings.{length-with_row}
use Rattle.gomp_groups.specs.declared.rows.GroupRow.{GroupRow}
use Rattle.gomp_groups.specs.declared.rows.GroupSeat.{GroupSeat}
use Rattle.gomp_groups.specs.declared.rows.SeatedTask.{SeatedTask}
use Rattle.gomp_groups.specs.Rows.{no_seat, or_no_task, outer_at, pending_at, since_at, seat_at, IsSeatedIn, IsChain, IsNested, CountsOneMore, needed_row, ended_row, after_child, members_after_child}
use Rattle.gomp_events.specs.Cancels.{groups_over, groups_within}
use Rattle.gomp_events.proofs.GroupsKeep.{same_is_one, one_is_same}
use Rattle.gomp_groups.specs.Stands.{GroupsStand}
use Rattle.gomp_groups.specs.Calls.{tasks_before, Executes, MayClose, MayCreateIn, MayComplete}
use Rattle.gomp_groups.proofs.Chains.{chain_on, chain_starts, outer_at-push, outer_at-pushed, pending_at-push, since_at-push, since_at-pushed, nested_push}
use Rattle.gomp_groups.proofs.Seats.{row_or_gone, row_at-with, row_at-push, row_at_past, seat_of_row, row_of_seated, seated_by_row, seat_at-push, Reseats, was_seated, kept_is, kept_has_child, own_row_count, child_less}

-- a task that was created, and is not complete
pub record StillOpen (t : ℕ) (h : List Event) : Type 0 where
  pub made : is_created t h ≡ true
  pub incomplete : is_complete t h ≡ false

-- it has a row
pub open_task_has_row : (groups : List GroupRow) (tasks : List (Option SeatedTask)) (members : List GroupSeat) (t : ℕ) (h : List Event) → GroupsStand groups tasks members h → StillOpen t h → HasRow tasks t
open_task_has_row groups tasks members t h st open' =
    elim (row_or_gone tasks t) [
      | inl found ↦ seated_by_row tasks t found.0 found.1
      | inr none ↦ absurd (not_both (is_complete t h) (st.gone t open'.made none) open'.incomplete)
    ]

-- the task that a member executes has a seat
pub executed_task_has_seat : (groups : List GroupRow) (tasks : List (Option SeatedTask)) (members : List GroupSeat) (h : List Event) (m : ℕ) (task : Task) → GroupsStand groups tasks members h → m < length members → executed_task m h ≡ task → IsSeatedIn tasks members task
executed_task_has_seat groups tasks members h m (Implicit x) st member current = let same : m ≡ x = own (task_stack m h) current in rw (← same) member
  where
    own : (ts : List ℕ) → innermost_task m ts ≡ Implicit x → m ≡ x
    own [] e = cc
    own (t ∷ ts) e = absurd (cc)
executed_task_has_seat groups tasks members h m (Explicit t) st member current =
    let is = current_open (length members) m t h st.rule current in
    open_task_has_row groups tasks members t h st (record { made = is.0; incomplete = is.1 })

-- what two seats have in common, all have
fields_same : {A : Type 0} → (f : GroupSeat → A) (tasks : List (Option SeatedTask)) (members : List GroupSeat) (task : Task) (seat : GroupSeat) (tasks_now : List (Option SeatedTask)) (members_now : List GroupSeat) → Reseats tasks members task seat tasks_now members_now → f seat ≡ f (seat_at tasks members task) → (p : Task) → f (seat_at tasks_now members_now p) ≡ f (seat_at tasks members p)
fields_same f tasks members task seat tasks_now members_now re same p =
    elim (cases_Bool (same_task task p)) [
      | inl here ↦ ap f (rw here at (re.seat_is p)) ∙ rw (← same_is_one task p here) same
      | inr away ↦ ap f (rw away at (re.seat_is p))
    ]

-- and so do what the rows say of the tasks' ends and parents
complete_still : (tasks : List (Option SeatedTask)) (members : List GroupSeat) (task : Task) (seat : GroupSeat) (tasks_now : List (Option SeatedTask)) (members_now : List GroupSeat) (h : List Event) → Reseats tasks members task seat tasks_now members_now →
    ((t : ℕ) (row : SeatedTask) → row_no tasks t ≡ Some row → is_complete t h ≡ row.complete) →
    (t : ℕ) (row : SeatedTask) → row_no tasks_now t ≡ Some row → is_complete t h ≡ row.complete
complete_still tasks members task seat tasks_now members_now h re said t row is =
    let old = re.row t row is in
    said t old.was old.is ∙ sym old.complete

parent_still : (tasks : List (Option SeatedTask)) (members : List GroupSeat) (task : Task) (seat : GroupSeat) (tasks_now : List (Option SeatedTask)) (members_now : List GroupSeat) (h : List Event) → Reseats tasks members task seat tasks_now members_now →
    ((t : ℕ) (row : SeatedTask) → row_no tasks t ≡ Some row → (p : Task) → is_child p t h ≡ same_task row.parent p) →
    (t : ℕ) (row : SeatedTask) → row_no tasks_now t ≡ Some row → (p : Task) → is_child p t h ≡ same_task row.parent p
parent_still tasks members task seat tasks_now members_now h re said t row is p =
    let old = re.row t row is in
    said t old.was old.is p ∙ ap (λ (x : Task). same_task x p) (sym old.parent)

needed_still : (tasks : List (Option SeatedTask)) (members : List GroupSeat) (task : Task) (seat : GroupSeat) (tasks_now : List (Option SeatedTask)) (members_now : List GroupSeat) → Reseats tasks members task seat tasks_now members_now → (seat_at tasks members task).children ≤ seat.children →
    ((t : ℕ) (row : SeatedTask) → row_no tasks t ≡ Some row → row.complete ≡ true → 0 < row.seat.children) →
    (t : ℕ) (row : SeatedTask) → row_no tasks_now t ≡ Some row → row.complete ≡ true → 0 < row.seat.children
needed_still tasks members task seat tasks_now members_now re more said t row is complete =
    let old = re.row t row is in
    let some = said t old.was old.is (sym old.complete ∙ complete) in
    let was = ap (λ (s : GroupSeat). s.children) (seat_of_row tasks members t old.was old.is) in
    let now = ap (λ (s : GroupSeat). s.children) (sym (seat_of_row tasks_now members_now t row is) ∙ re.seat_is (Explicit t)) in
    by (same_task task (Explicit t)) refl (omega (arith, some, was)) now
  where
    by : (b : Bool) → same_task task (Explicit t) ≡ b → 0 < (seat_at tasks members (Explicit t)).children → row.seat.children ≡ (if b then seat else seat_at tasks members (Explicit t)).children → 0 < row.seat.children
    by true same some now = let here = ap (λ (p : Task). (seat_at tasks members p).children) (same_is_one task (Explicit t) same) in omega (arith, some, now, here, more)
    by false other some now = omega (arith, some, now)

-- Groups that are opened and ended

over_opened : (p : Task) (q m : ℕ) (h : List Event) → groups_over p (Group q m ∷ h) ≡ groups_over p h
over_opened (Implicit x) q m h = refl
over_opened (Explicit t) q m h = refl

over_closed : (p : Task) (q m : ℕ) (h : List Event) → groups_over p (GroupEnd q m ∷ h) ≡ groups_over p h
over_closed (Implicit x) q m h = refl
over_closed (Explicit t) q m h = refl

pub open_keeps : (groups : List GroupRow) (tasks : List (Option SeatedTask)) (members : List GroupSeat) (task : Task) (tasks_now : List (Option SeatedTask)) (members_now : List GroupSeat) (h : List Event) (m : ℕ) → GroupsStand groups tasks members h → Executes (length members) m task h →
    Reseats tasks members task (record { children = (seat_at tasks members task).children; around = (seat_at tasks members task).around; last = Some (length groups) }) tasks_now members_now →
    GroupsStand (groups ++ record { outer = (seat_at tasks members task).last; pending = 0; since = length tasks } ∷ []) tasks_now members_now (Group (length groups) m ∷ h)
open_keeps groups tasks members task tasks_now members_now h m st executes re =
    let size = length-append groups (row ∷ []) in
    let count = st.opened in
    let seated = executed_task_has_seat groups tasks members h m task st executes.member executes.current in
    record {
      opened = omega (arith, size, count);
      created = st.created ∙ sym re.tasks_len;
      nested = nested_push groups row st.nested (chain_starts groups (seat_at tasks members task).last _ (st.last task seated));
      pending = λ q. st.pending q ∙ sym (pending_at-push groups row q refl);
      since = λ q. since_now q (length groups == q) refl;
      gone = λ t made none. st.gone t made (re.gone t none);
      complete = λ t row is. complete_still tasks members task seat tasks_now members_now h re st.complete t row is;
      needed = λ t row is. needed_still tasks members task seat tasks_now members_now re (omega arith) st.needed t row is;
      parent = λ t row is. parent_still tasks members task seat tasks_now members_now h re st.parent t row is;
      children = λ p. st.children p ∙ sym (fields_same (λ s. s.children) tasks members task seat tasks_now members_now re refl p);
      around = λ p now. rw (over_opened p (length groups) m h, fields_same (λ s. s.around) tasks members task seat tasks_now members_now re refl p) (stays (seat_at tasks members p).around (groups_over p h) (st.around p (was_seated tasks members task seat tasks_now members_now re p now)));
      last = λ p now. rw (over_opened p (length groups) m h, executes.current, re.seat_is p) (last_now p (was_seated tasks members task seat tasks_now members_now re p now) (same_task task p) refl);
      rule = subst (λ (n : ℕ). Always (TaskRule n) (Group (length groups) m ∷ h)) (sym re.members_len) (record { member = executes.member; number = sym st.opened }, st.rule);
    }
  where
    seat : GroupSeat
    seat = record { children = (seat_at tasks members task).children; around = (seat_at tasks members task).around; last = Some (length groups) }

    row : GroupRow
    row = record { outer = (seat_at tasks members task).last; pending = 0; since = length tasks }

    since_now : (q : ℕ) (b : Bool) → (length groups == q) ≡ b → (if b then tasks_created h else tasks_before q h) ≡ since_at (groups ++ row ∷ []) q
    since_now q true here = rw (← is_equal (length groups) q here) (st.created ∙ sym (since_at-pushed groups row))
    since_now q false away = st.since q ∙ sym (since_at-push groups row q away)

    stays : (first : Option ℕ) (qs : List ℕ) → IsChain groups first qs → IsChain (groups ++ row ∷ []) first qs
    stays first qs chain = let size = length-append groups (row ∷ []) in chain_on groups (groups ++ row ∷ []) first qs (omega (arith, size)) (outer_at-push groups row) chain

    last_now : (p : Task) → IsSeatedIn tasks members p → (b : Bool) → same_task task p ≡ b → IsChain (groups ++ row ∷ []) (if b then seat else seat_at tasks members p).last ((if b then length groups ∷ open_groups p h else open_groups p h) ++ groups_over p h)
    last_now p seated true same =
        let size = length-append groups (row ∷ []) in
        let chain : IsChain groups (seat_at tasks members task).last (open_groups p h ++ groups_over p h) = rw (same_is_one task p same) (st.last p seated) in
        (refl, omega (arith, size), rw (outer_at-pushed groups row) (stays (seat_at tasks members task).last (open_groups p h ++ groups_over p h) chain))
    last_now p seated false other = stays (seat_at tasks members p).last (open_groups p h ++ groups_over p h) (st.last p seated)

pub close_keeps : (groups : List GroupRow) (tasks : List (Option SeatedTask)) (members : List GroupSeat) (task : Task) (group : ℕ) (tasks_now : List (Option SeatedTask)) (members_now : List GroupSeat) (h : List Event) (q m : ℕ) → GroupsStand groups tasks members h → MayClose (length members) q m task h → (seat_at tasks members task).last ≡ Some group →
    Reseats tasks members task (record { children = (seat_at tasks members task).children; around = (seat_at tasks members task).around; last = outer_at groups group }) tasks_now members_now →
    GroupsStand groups tasks_now members_now (GroupEnd q m ∷ h)
close_keeps groups tasks members task group tasks_now members_now h q m st may is re =
    record {
      opened = st.opened;
      created = st.created ∙ sym re.tasks_len;
      nested = st.nested;
      pending = st.pending;
      since = st.since;
      gone = λ t made none. st.gone t made (re.gone t none);
      complete = λ t row is. complete_still tasks members task seat tasks_now members_now h re st.complete t row is;
      needed = λ t row is. needed_still tasks members task seat tasks_now members_now re (omega arith) st.needed t row is;
      parent = λ t row is. parent_still tasks members task seat tasks_now members_now h re st.parent t row is;
      children = λ p. st.children p ∙ sym (fields_same (λ s. s.children) tasks members task seat tasks_now members_now re refl p);
      around = λ p now. rw (over_closed p q m h, fields_same (λ s. s.around) tasks members task seat tasks_now members_now re refl p) (st.around p (was_seated tasks members task seat tasks_now members_now re p now));
      last = λ p now. rw (over_closed p q m h, may.current, re.seat_is p) (last_now p (was_seated tasks members task seat tasks_now members_now re p now) (same_task task p) refl);
      rule = subst (λ (n : ℕ). Always (TaskRule n) (GroupEnd q m ∷ h)) (sym re.members_len) (may.rule, st.rule);
    }
  where
    seat : GroupSeat
    seat = record { children = (seat_at tasks members task).children; around = (seat_at tasks members task).around; last = outer_at groups group }

    last_now : (p : Task) → IsSeatedIn tasks members p → (b : Bool) → same_task task p ≡ b → IsChain groups (if b then seat else seat_at tasks members p).last ((if b then after_first (open_groups p h) else open_groups p h) ++ groups_over p h)
    last_now p seated true same =
        let here = same_is_one task p same in
        let open' : open_groups p h ≡ q ∷ may.rule.outer = rw (← here, ← may.current) may.rule.last in
        let chain : IsChain groups (Some group) (open_groups p h ++ groups_over p h) = rw (← is, here) (st.last p seated) in
        let found = rw open' at chain in
        let number : q ≡ group = (let e : ◌≡◌ {A = Option ℕ} (Some group) (Some q) = found.0 in cc) in
        rw (open', ← number) found.2
    last_now p seated false other = st.last p seated

-- Tasks that are created

-- the groups of the new task
around_new : (t m : ℕ) (parent : Task) (desc : TaskDesc) (h : List Event) → groups_around t (Create t m parent desc ∷ h) ≡ open_groups parent h ++ groups_over parent h
around_new t m (Implicit x) desc h = rw (same_number t) (sym (append-nil (open_groups (Implicit x) h)))
around_new t m (Explicit p) desc h = rw (same_number t) refl

-- and of the others
around_old : (t task m : ℕ) (parent : Task) (desc : TaskDesc) (h : List Event) → (task == t) ≡ false → groups_around t (Create task m parent desc ∷ h) ≡ groups_around t h
around_old t task m (Implicit x) desc h other = rw other refl
around_old t task m (Explicit p) desc h other = rw other refl

over_old : (p : Task) (task m : ℕ) (parent : Task) (desc : TaskDesc) (h : List Event) → same_task (Explicit task) p ≡ false → groups_over p (Create task m parent desc ∷ h) ≡ groups_over p h
over_old (Implicit x) task m parent desc h other = refl
over_old (Explicit t) task m parent desc h other = around_old t task m parent desc h other

-- a task that was not created has no seat
none_yet : (tasks : List (Option SeatedTask)) (members : List GroupSeat) (n : ℕ) → n ≡ length tasks → seat_at tasks members (Explicit (suc n)) ≡ no_seat
none_yet tasks members n count = ap (λ (kept : Option SeatedTask). (or_no_task kept).seat) (row_at_past tasks n (omega (arith, count)))

-- and it has opened no group
none_opened : (members : ℕ) (h : List Event) → Always (TaskRule members) h → (t : ℕ) → tasks_created h < t → open_groups (Explicit t) h ≡ []
none_opened members [] all t later = refl
none_opened members (Create task m parent desc ∷ earlier) all t later = none_opened members earlier all.1 t (omega (arith, later))
none_opened members (Group q m ∷ earlier) all t later = by (same_task (executed_task m earlier) (Explicit t)) refl (none_opened members earlier all.1 t later)
  where
    by : (b : Bool) → same_task (executed_task m earlier) (Explicit t) ≡ b → open_groups (Explicit t) earlier ≡ [] → (if b then q ∷ open_groups (Explicit t) earlier else open_groups (Explicit t) earlier) ≡ []
    by true same before =
        let is = current_open members m t earlier all.1 (same_is_one (executed_task m earlier) (Explicit t) same) in
        let high = created_high t earlier is.0 in
        absurd (omega (arith, high, later))
    by false other before = before
none_opened members (GroupEnd q m ∷ earlier) all t later = by (same_task (executed_task m earlier) (Explicit t)) (none_opened members earlier all.1 t later)
  where
    by : (b : Bool) → open_groups (Explicit t) earlier ≡ [] → (if b then after_first (open_groups (Explicit t) earlier) else open_groups (Explicit t) earlier) ≡ []
    by true before = ap after_first before
    by false before = before
none_opened members (_ ∷ earlier) all t later = none_opened members earlier all.1 t later

not_the_next_task : (tasks : List (Option SeatedTask)) (members : List GroupSeat) (parent : Task) (n : ℕ) → n ≡ length tasks → IsSeatedIn tasks members parent → same_task parent (Explicit (suc n)) ≡ false
not_the_next_task tasks members (Implicit x) n count seated = refl
not_the_next_task tasks members (Explicit p) n count seated =
    other_number p (suc n)
    (λ e.
    let none : row_no tasks p ≡ None = rw e (row_at_past tasks n (omega (arith, count))) in
    let found = row_of_seated tasks p seated in
    absurd (let no : ◌≡◌ {A = Option SeatedTask} None (Some found.0) = sym none ∙ found.1 in cc))

plus_if : (b : Bool) (n : ℕ) → (if b then n + 1 else n) ≡ n + (if b then 1 else 0)
plus_if true n = refl
plus_if false n = omega arith

pub create_keeps : (groups : List GroupRow) (tasks : List (Option SeatedTask)) (members : List GroupSeat) (parent : Task) (groups_now : List GroupRow) (tasks_now : List (Option SeatedTask)) (members_now : List GroupSeat) (h : List Event) (m : ℕ) (desc : TaskDesc) → GroupsStand groups tasks members h → MayCreateIn (length members) m parent h →
    CountsOneMore (open_groups parent h ++ groups_over parent h) groups groups_now →
    Reseats tasks members parent (record { children = (seat_at tasks members parent).children + 1; around = (seat_at tasks members parent).around; last = (seat_at tasks members parent).last }) tasks_now members_now →
    GroupsStand groups_now (tasks_now ++ Some (record { parent = parent; seat = record { children = 0; around = (seat_at tasks members parent).last; last = (seat_at tasks members parent).last }; complete = false }) ∷ []) members_now (Create (suc (tasks_created h)) m parent desc ∷ h)
create_keeps groups tasks members parent groups_now tasks_now members_now h m desc st may counts re =
    let size = length-append tasks_now (Some row ∷ []) in
    let same_size = re.tasks_len in
    let count = st.created in
    record {
      opened = st.opened ∙ sym counts.len;
      created = omega (arith, size, same_size, count);
      nested = λ q. rw (counts.outer q) (st.nested q);
      pending = λ q.
          open_created (λ u. in_group q u h) (λ u. in_group q u event) m parent desc h incomplete (λ u le. ap (contains q) (around_old u new m parent desc h (other_number new u (λ e. omega (arith, e, le)))))
          ∙ plus_if (contains q (groups_around new event)) (open_tasks (λ u. in_group q u h) h)
          ∙ rw (counts.pending q, st.pending q, around_new new m parent desc h) refl;
      since = λ q. st.since q ∙ sym (counts.since q);
      gone = λ t made none. gone_now t made (new == t) refl (sym (row_now t) ∙ none);
      complete = λ t r is. complete_now t r (new == t) refl (sym (row_now t) ∙ is);
      needed = λ t r is. needed_now t r (new == t) (sym (row_now t) ∙ is);
      parent = λ t r is p. parent_now t r (new == t) refl (sym (row_now t) ∙ is) p;
      children = λ p.
          open_created (λ u. is_child p u h) (λ u. is_child p u event) m parent desc h incomplete (λ u le. rw (other_number new u (λ e. omega (arith, e, le))) refl)
          ∙ rw (same_number new, st.children p, seat_now p) (children_now p (same_task (Explicit new) p) refl);
      around = λ p now. rw (seat_now p) (around_now p (same_task (Explicit new) p) refl (seated_before p now));
      last = λ p now. rw (seat_now p) (last_now p (same_task (Explicit new) p) refl (seated_before p now));
      rule = subst (λ (n : ℕ). Always (TaskRule n) event) (sym re.members_len) (may, st.rule);
    }
  where
    new : ℕ
    new = suc (tasks_created h)

    event : List Event
    event = Create (suc (tasks_created h)) m parent desc ∷ h

    with_child : GroupSeat
    with_child = record { children = (seat_at tasks members parent).children + 1; around = (seat_at tasks members parent).around; last = (seat_at tasks members parent).last }

    row : SeatedTask
    row = record { parent = parent; seat = record { children = 0; around = (seat_at tasks members parent).last; last = (seat_at tasks members parent).last }; complete = false }

    incomplete : is_complete (suc (tasks_created h)) h ≡ false
    incomplete = (uncreated_not_started (length members) h st.rule (suc (tasks_created h)) (omega arith)).1

    place : length tasks_now ≡ tasks_created h
    place = re.tasks_len ∙ sym st.created

    seat_now : (p : Task) → seat_at (tasks_now ++ Some row ∷ []) members_now p ≡ (if same_task (Explicit (suc (tasks_created h))) p then row.seat else if same_task parent p then with_child else seat_at tasks members p)
    seat_now p = seat_at-push tasks_now members_now row p ∙ rw (place, re.seat_is p) refl

    row_now : (t : ℕ) → row_no (tasks_now ++ Some row ∷ []) t ≡ (if suc (tasks_created h) == t then Some row else row_no tasks_now t)
    row_now t = row_at-push tasks_now row t ∙ rw place refl

    seated : IsSeatedIn tasks members parent
    seated = executed_task_has_seat groups tasks members h m parent st may.member (sym may.current)

    away : same_task parent (Explicit (suc (tasks_created h))) ≡ false
    away = not_the_next_task tasks members parent (tasks_created h) st.created seated

    -- who has a seat is the new task, or had one before
    seated_before : (p : Task) → IsSeatedIn (tasks_now ++ Some row ∷ []) members_now p → same_task (Explicit (suc (tasks_created h))) p ≡ false → IsSeatedIn tasks members p
    seated_before (Implicit x) now other = was_seated tasks members parent with_child tasks_now members_now re (Implicit x) now
    seated_before (Explicit t) now other =
        let found = row_of_seated (tasks_now ++ Some row ∷ []) t now in
        let kept : row_no tasks_now t ≡ Some found.0 = rw other at (sym (row_now t) ∙ found.1) in
        was_seated tasks members parent with_child tasks_now members_now re (Explicit t) (seated_by_row tasks_now t found.0 kept)

    gone_now : (t : ℕ) → is_created t event ≡ true → (b : Bool) → (suc (tasks_created h) == t) ≡ b → (if b then Some row else row_no tasks_now t) ≡ None → is_complete t h ≡ true
    gone_now t made true here none = absurd (cc)
    gone_now t made false other none = st.gone t (old_created t (suc (tasks_created h)) h refl other made) (re.gone t none)

    complete_now : (t : ℕ) (r : SeatedTask) (b : Bool) → (suc (tasks_created h) == t) ≡ b → (if b then Some row else row_no tasks_now t) ≡ Some r → is_complete t h ≡ r.complete
    complete_now t r true here is =
        let same : row ≡ r = cc in
        rw (← is_equal (suc (tasks_created h)) t here, ← same) incomplete
    complete_now t r false other is = complete_still tasks members parent with_child tasks_now members_now h re st.complete t r is

    needed_now : (t : ℕ) (r : SeatedTask) (b : Bool) → (if b then Some row else row_no tasks_now t) ≡ Some r → r.complete ≡ true → 0 < r.seat.children
    needed_now t r true is complete = absurd (let same : row ≡ r = cc in let e : false ≡ true = rw (← same) at complete in cc)
    needed_now t r false is complete = needed_still tasks members parent with_child tasks_now members_now re (omega arith) st.needed t r is complete

    parent_now : (t : ℕ) (r : SeatedTask) (b : Bool) → (suc (tasks_created h) == t) ≡ b → (if b then Some row else row_no tasks_now t) ≡ Some r → (p : Task) → (if b then same_task parent p else is_child p t h) ≡ same_task r.parent p
    parent_now t r true here is p = ap (λ (x : SeatedTask). same_task x.parent p) (let same : row ≡ r = cc in same)
    parent_now t r false other is p = parent_still tasks members parent with_child tasks_now members_now h re st.parent t r is p

    stays : (first : Option ℕ) (qs : List ℕ) → IsChain groups first qs → IsChain groups_now first qs
    stays first qs chain = chain_on groups groups_now first qs (let len = counts.len in omega (arith, len)) (λ q lt. counts.outer q) chain

    children_now : (p : Task) (b : Bool) → same_task (Explicit (suc (tasks_created h))) p ≡ b → (if same_task parent p then (seat_at tasks members p).children + 1 else (seat_at tasks members p).children) ≡ (if b then row.seat else if same_task parent p then with_child else seat_at tasks members p).children
    children_now p true same =
        let here = same_is_one (Explicit (suc (tasks_created h))) p same in
        let none : (seat_at tasks members (Explicit (suc (tasks_created h)))).children ≡ 0 = ap (λ (s : GroupSeat). s.children) (none_yet tasks members (tasks_created h) st.created) in
        rw (← here, away) none
    children_now p false other = with_one (same_task parent p) refl
      where
        with_one : (b : Bool) → same_task parent p ≡ b → (if b then (seat_at tasks members p).children + 1 else (seat_at tasks members p).children) ≡ (if b then with_child else seat_at tasks members p).children
        with_one true same = rw (same_is_one parent p same) refl
        with_one false differ = refl

    around_now : (p : Task) (b : Bool) → same_task (Explicit (suc (tasks_created h))) p ≡ b → (same_task (Explicit (suc (tasks_created h))) p ≡ false → IsSeatedIn tasks members p) → IsChain groups_now (if b then row.seat else if same_task parent p then with_child else seat_at tasks members p).around (groups_over p event)
    around_now p true same before =
        rw (← same_is_one (Explicit (suc (tasks_created h))) p same, around_new (suc (tasks_created h)) m parent desc h) (stays (seat_at tasks members parent).last (open_groups parent h ++ groups_over parent h) (st.last parent seated))
    around_now p false other before = rw (over_old p (suc (tasks_created h)) m parent desc h other) (by (same_task parent p) refl)
      where
        by : (b : Bool) → same_task parent p ≡ b → IsChain groups_now (if b then with_child else seat_at tasks members p).around (groups_over p h)
        by true same = rw (same_is_one parent p same) (stays (seat_at tasks members p).around (groups_over p h) (st.around p (before other)))
        by false differ = stays (seat_at tasks members p).around (groups_over p h) (st.around p (before other))

    last_now : (p : Task) (b : Bool) → same_task (Explicit (suc (tasks_created h))) p ≡ b → (same_task (Explicit (suc (tasks_created h))) p ≡ false → IsSeatedIn tasks members p) → IsChain groups_now (if b then row.seat else if same_task parent p then with_child else seat_at tasks members p).last (open_groups p h ++ groups_over p event)
    last_now p true same before =
        let none = none_opened (length members) h st.rule (suc (tasks_created h)) (omega arith) in
        rw (← same_is_one (Explicit (suc (tasks_created h))) p same, none, around_new (suc (tasks_created h)) m parent desc h) (stays (seat_at tasks members parent).last (open_groups parent h ++ groups_over parent h) (st.last parent seated))
    last_now p false other before = rw (over_old p (suc (tasks_created h)) m parent desc h other) (by (same_task parent p) refl)
      where
        by : (b : Bool) → same_task parent p ≡ b → IsChain groups_now (if b then with_child else seat_at tasks members p).last (open_groups p h ++ groups_over p h)
        by true same = rw (same_is_one parent p same) (stays (seat_at tasks members p).last (open_groups p h ++ groups_over p h) (st.last p (before other)))
        by false differ = stays (seat_at tasks members p).last (open_groups p h ++ groups_over p h) (st.last p (before other))

-- Tasks that are complete

over_done : (p : Task) (t m : ℕ) (h : List Event) → groups_over p (Done t m ∷ h) ≡ groups_over p h
over_done (Implicit x) t m h = refl
over_done (Explicit u) t m h = refl

-- one that is completed was so before
pub completed_was_open : (members t : ℕ) (event : Event) (h : List Event) → Always (TaskRule members) h → MayComplete members t event h → StillOpen t h
completed_was_open members t (Done u m) h all may = rw (← may.completes) (let was = current_open members m u h all may.rule.current in record { made = was.0; incomplete = was.1 })
completed_was_open members t (Discard u m) h all may = rw (← may.completes) (let was = unstarted_is_fresh u h may.rule.unstarted in record { made = was.0; incomplete = was.2 })
completed_was_open members t event h all may = absurd may.completes

-- all that the rows and seats say, without the rule of the events: of this many children of a task, besides the open ones, they do not know that they are complete
record RowsTell (ended : Task → ℕ) (groups : List GroupRow) (tasks : List (Option SeatedTask)) (members : List GroupSeat) (h : List Event) : Type 0 where
  pub opened : groups_opened h ≡ length groups
  pub created : tasks_created h ≡ length tasks
  pub nested : IsNested groups
  pub pending : (q : ℕ) → open_tasks (λ t. in_group q t h) h ≡ pending_at groups q
  pub since : (q : ℕ) → tasks_before q h ≡ since_at groups q
  pub gone : (t : ℕ) → is_created t h ≡ true → row_no tasks t ≡ None → is_complete t h ≡ true
  pub complete : (t : ℕ) (row : SeatedTask) → row_no tasks t ≡ Some row → is_complete t h ≡ row.complete
  pub needed : (t : ℕ) (row : SeatedTask) → row_no tasks t ≡ Some row → row.complete ≡ true → 0 < row.seat.children
  pub parent : (t : ℕ) (row : SeatedTask) → row_no tasks t ≡ Some row → (p : Task) → is_child p t h ≡ same_task row.parent p
  pub children : (p : Task) → open_tasks (λ t. is_child p t h) h + ended p ≡ (seat_at tasks members p).children
  pub around : (p : Task) → IsSeatedIn tasks members p → IsChain groups (seat_at tasks members p).around (groups_over p h)
  pub last : (p : Task) → IsSeatedIn tasks members p → IsChain groups (seat_at tasks members p).last (groups_within p h)

-- one of the parent's children is not known to be complete
abbrev pub one_of : Task → Task → ℕ
one_of parent p = if same_task parent p then 1 else 0

-- what they say once a member has ended the task, and its own row is written or taken out
own_row_tells : (groups : List GroupRow) (tasks : List (Option SeatedTask)) (members : List GroupSeat) (t : ℕ) (row : SeatedTask) (groups_now : List GroupRow) (h : List Event) (m : ℕ) → GroupsStand groups tasks members h → StillOpen t h → row_no tasks t ≡ Some row →
    CountsOneMore (groups_around t h) groups_now groups →
    RowsTell (one_of row.parent) groups_now (with_row tasks t (needed_row (ended_row row))) members (Done t m ∷ h)
own_row_tells groups tasks members t row groups_now h m st open' found counts =
    record {
      opened = st.opened ∙ counts.len;
      created = st.created ∙ sym (length-with_row tasks t (needed_row (ended_row row)));
      nested = λ q. rw (← counts.outer q) (st.nested q);
      pending = λ q. pending_now q (contains q (groups_around t h)) refl;
      since = λ q. st.since q ∙ counts.since q;
      gone = λ u made none. gone_now u made (t == u) (sym (row_now u) ∙ none);
      complete = λ u r is. complete_now u r (t == u) (sym (row_now u) ∙ is);
      needed = λ u r is. needed_now u r (t == u) (sym (row_now u) ∙ is);
      parent = λ u r is. parent_now u r (t == u) refl (sym (row_now u) ∙ is);
      children = λ p. children_now p (same_task row.parent p) refl;
      around = λ p now. rw (over_done p t m h, seat_now p now) (stays (seat_at tasks members p).around (groups_over p h) (st.around p (seated_before p now)));
      last = λ p now. rw (over_done p t m h, seat_now p now) (stays (seat_at tasks members p).last (open_groups p h ++ groups_over p h) (st.last p (seated_before p now)));
    }
  where
    row_now : (u : ℕ) → row_no (with_row tasks t (needed_row (ended_row row))) u ≡ (if t == u then needed_row (ended_row row) else row_no tasks u)
    row_now u = row_at-with tasks t (needed_row (ended_row row)) (seated_by_row tasks t row found) u

    stays : (first : Option ℕ) (qs : List ℕ) → IsChain groups first qs → IsChain groups_now first qs
    stays first qs chain = chain_on groups groups_now first qs (let len = counts.len in omega (arith, len)) (λ q lt. sym (counts.outer q)) chain

    pending_now : (q : ℕ) (b : Bool) → contains q (groups_around t h) ≡ b → open_tasks (λ u. in_group q u h) (Done t m ∷ h) ≡ pending_at groups_now q
    pending_now q true there =
        let more = counts.pending q in
        let here : pending_at groups q ≡ pending_at groups_now q + 1 = rw there at more in
        let was = st.pending q in
        let done = open_done (λ u. in_group q u h) t m h open'.made there open'.incomplete in
        omega (arith, here, was, done)
    pending_now q false away =
        let more = counts.pending q in
        let here : pending_at groups q ≡ pending_at groups_now q + 0 = rw away at more in
        let was = st.pending q in
        let done = open_done_other (λ u. in_group q u h) t m h away in
        omega (arith, here, was, done)

    gone_now : (u : ℕ) → is_created u h ≡ true → (b : Bool) → (if b then needed_row (ended_row row) else row_no tasks u) ≡ None → (b || is_complete u h) ≡ true
    gone_now u made true none = refl
    gone_now u made false none = st.gone u made none

    complete_now : (u : ℕ) (r : SeatedTask) (b : Bool) → (if b then needed_row (ended_row row) else row_no tasks u) ≡ Some r → (b || is_complete u h) ≡ r.complete
    complete_now u r true is = ap (λ (x : SeatedTask). x.complete) (kept_is (ended_row row) r is)
    complete_now u r false is = st.complete u r is

    needed_now : (u : ℕ) (r : SeatedTask) (b : Bool) → (if b then needed_row (ended_row row) else row_no tasks u) ≡ Some r → r.complete ≡ true → 0 < r.seat.children
    needed_now u r true is complete = kept_has_child (ended_row row) r is complete
    needed_now u r false is complete = st.needed u r is complete

    parent_now : (u : ℕ) (r : SeatedTask) (b : Bool) → (t == u) ≡ b → (if b then needed_row (ended_row row) else row_no tasks u) ≡ Some r → (p : Task) → is_child p u h ≡ same_task r.parent p
    parent_now u r true here is p =
        rw (← is_equal t u here) (st.parent t row found p ∙ ap (λ (x : SeatedTask). same_task x.parent p) (kept_is (ended_row row) r is))
    parent_now u r false other is p = st.parent u r is p

    -- who has a seat has the one that it had
    seat_now : (p : Task) → IsSeatedIn (with_row tasks t (needed_row (ended_row row))) members p → seat_at (with_row tasks t (needed_row (ended_row row))) members p ≡ seat_at tasks members p
    seat_now (Implicit x) now = refl
    seat_now (Explicit u) now =
        let kept = row_of_seated (with_row tasks t (needed_row (ended_row row))) u now in
        seat_of_row (with_row tasks t (needed_row (ended_row row))) members u kept.0 kept.1 ∙ by kept.0 (t == u) refl (sym (row_now u) ∙ kept.1)
      where
        by : (r : SeatedTask) (b : Bool) → (t == u) ≡ b → (if b then needed_row (ended_row row) else row_no tasks u) ≡ Some r → r.seat ≡ seat_at tasks members (Explicit u)
        by r true here is = rw (← is_equal t u here) (ap (λ (x : SeatedTask). x.seat) (sym (kept_is (ended_row row) r is)) ∙ sym (seat_of_row tasks members t row found))
        by r false other is = sym (seat_of_row tasks members u r is)

    seated_before : (p : Task) → IsSeatedIn (with_row tasks t (needed_row (ended_row row))) members p → IsSeatedIn tasks members p
    seated_before (Implicit x) now = now
    seated_before (Explicit u) now =
        let kept = row_of_seated (with_row tasks t (needed_row (ended_row row))) u now in
        by kept.0 (t == u) refl (sym (row_now u) ∙ kept.1)
      where
        by : (r : SeatedTask) (b : Bool) → (t == u) ≡ b → (if b then needed_row (ended_row row) else row_no tasks u) ≡ Some r → HasRow tasks u
        by r true here is = rw (← is_equal t u here) (seated_by_row tasks t row found)
        by r false other is = seated_by_row tasks u r is

    children_now : (p : Task) (b : Bool) → same_task row.parent p ≡ b → open_tasks (λ u. is_child p u h) (Done t m ∷ h) + (if b then 1 else 0) ≡ (seat_at (with_row tasks t (needed_row (ended_row row))) members p).children
    children_now p true same =
        let was = st.children p in
        let done = open_done (λ u. is_child p u h) t m h open'.made (st.parent t row found p ∙ same) open'.incomplete in
        let now = own_row_count tasks members t row found p in
        omega (arith, was, done, now)
    children_now p false other =
        let was = st.children p in
        let done = open_done_other (λ u. is_child p u h) t m h (st.parent t row found p ∙ other) in
        let now = own_row_count tasks members t row found p in
        omega (arith, was, done, now)

-- a discarded task is complete as one that was ended, and nothing else is said of either
tell_discarded : (ended : Task → ℕ) (groups : List GroupRow) (tasks : List (Option SeatedTask)) (members : List GroupSeat) (t m : ℕ) (h : List Event) → RowsTell ended groups tasks members (Done t m ∷ h) → RowsTell ended groups tasks members (Discard t m ∷ h)
tell_discarded ended groups tasks members t m h tell = record {
  opened = tell.opened;
  created = tell.created;
  nested = tell.nested;
  pending = tell.pending;
  since = tell.since;
  gone = tell.gone;
  complete = tell.complete;
  needed = tell.needed;
  parent = tell.parent;
  children = tell.children;
  around = λ p now. rw (same_over p) (tell.around p now);
  last = λ p now. rw (same_over p) (tell.last p now);
}
  where
    same_over : (p : Task) → groups_over p (Discard t m ∷ h) ≡ groups_over p (Done t m ∷ h)
    same_over (Implicit x) = refl
    same_over (Explicit u) = refl

-- what they say once the parent's count is lowered too
parent_told : (groups : List GroupRow) (tasks : List (Option SeatedTask)) (members : List GroupSeat) (parent : Task) (h : List Event) → IsSeatedIn tasks members parent → Always (TaskRule (length members)) h → RowsTell (one_of parent) groups tasks members h → GroupsStand groups (after_child tasks parent) (members_after_child members parent) h
parent_told groups tasks members parent h seated all tell =
    let less = child_less tasks members parent seated in
    record {
      opened = tell.opened;
      created = tell.created ∙ sym less.tasks_len;
      nested = tell.nested;
      pending = tell.pending;
      since = tell.since;
      gone = λ t made none. elim (less.gone t none) [
        | inl old ↦ tell.gone t made old
        | inr over ↦ tell.complete t over.0 over.1 ∙ over.2
      ];
      complete = λ t row is. let old = less.row t row is in tell.complete t old.was old.is ∙ sym old.complete;
      needed = λ t row is complete. elim (less.needed t row is complete) [
        | inl some ↦ some
        | inr old ↦ tell.needed t row old complete
      ];
      parent = λ t row is p. let old = less.row t row is in tell.parent t old.was old.is p ∙ ap (λ (x : Task). same_task x p) (sym old.parent);
      children = λ p. let was = tell.children p in let now = less.children p in omega (arith, was, now);
      around = λ p now. let old = less.seat p now in rw old.around (tell.around p old.seated);
      last = λ p now. let old = less.seat p now in rw old.last (tell.last p old.seated);
      rule = subst (λ (n : ℕ). Always (TaskRule n) h) (sym less.members_len) all;
    }

pub complete_keeps : (groups : List GroupRow) (tasks : List (Option SeatedTask)) (members : List GroupSeat) (t : ℕ) (row : SeatedTask) (groups_now : List GroupRow) (h : List Event) (event : Event) → GroupsStand groups tasks members h → MayComplete (length members) t event h → row_no tasks t ≡ Some row →
    CountsOneMore (groups_around t h) groups_now groups →
    IsSeatedIn (with_row tasks t (needed_row (ended_row row))) members row.parent →
    GroupsStand groups_now (after_child (with_row tasks t (needed_row (ended_row row))) row.parent) (members_after_child members row.parent) (event ∷ h)
complete_keeps groups tasks members t row groups_now h (Done u m) st may found counts seated =
    let open' = completed_was_open (length members) t (Done u m) h st.rule may in
    let tell : RowsTell (one_of row.parent) groups_now (with_row tasks t (needed_row (ended_row row))) members (Done u m ∷ h) = rw may.completes (own_row_tells groups tasks members t row groups_now h m st open' found counts) in
    parent_told groups_now (with_row tasks t (needed_row (ended_row row))) members row.parent (Done u m ∷ h) seated (may.rule, st.rule) tell
complete_keeps groups tasks members t row groups_now h (Discard u m) st may found counts seated =
    let open' = completed_was_open (length members) t (Discard u m) h st.rule may in
    let tell : RowsTell (one_of row.parent) groups_now (with_row tasks t (needed_row (ended_row row))) members (Done u m ∷ h) = rw may.completes (own_row_tells groups tasks members t row groups_now h m st open' found counts) in
    parent_told groups_now (with_row tasks t (needed_row (ended_row row))) members row.parent (Discard u m ∷ h) seated (may.rule, st.rule) (tell_discarded (one_of row.parent) groups_now (with_row tasks t (needed_row (ended_row row))) members u m h tell)
complete_keeps groups tasks members t row groups_now h event st may found counts seated = absurd may.completes

-- who was seated before a task's own row was taken out, and has an open child, still is
pub parent_stays : (groups : List GroupRow) (tasks : List (Option SeatedTask)) (members : List GroupSeat) (t : ℕ) (row : SeatedTask) (h : List Event) → GroupsStand groups tasks members h → StillOpen t h → row_no tasks t ≡ Some row → 0 < (seat_at (with_row tasks t (needed_row (ended_row row))) members row.parent).children
parent_stays groups tasks members t row h st open' found =
    let done = open_done (λ u. is_child row.parent u h) t 0 h open'.made (st.parent t row found row.parent ∙ one_is_same row.parent) open'.incomplete in
    let was = st.children row.parent in
    let now = own_row_count tasks members t row found row.parent in
    omega (arith, done, was, now)
