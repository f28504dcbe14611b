-- What the fields of the groups say of the events, as the calls read and write them.
use Rattle.std.proofs.Common.{◌≡◌, ℕ, ◌+◌, ◌<◌, ◌≤◌, Bool, true, false, List, [], ◌∷◌, ◌++◌, Option, Some, None, IfSome, length, get_or, take, drop, replicate, refl, ap, ◌∙◌, sym, subst, arith, suc, zero}
use Rattle.std.specs.Prelude.{◌==◌, ◌&&◌, not, if◌then◌else◌}
use Rattle.std.proofs.Math.Seq.{take-append_seam}
use Rattle.std.proofs.lemmas.List.{get_or_read}
use Rattle.gomp_rows.specs.Rows.{row_no, with_row}
use Rattle.gomp_types.specs.declared.task.Task.{Task}
use Rattle.gomp_types.specs.declared.task.Task.TheVariants.{Implicit, Explicit}
use Rattle.gomp_types.specs.declared.task.TaskDesc.{TaskDesc}
use Rattle.gomp_events.specs.declared.event.Event.{Event}
use Rattle.gomp_events.specs.declared.event.Event.TheVariants.{Create, Group, GroupEnd}
use Rattle.gomp_events.specs.Tasks.{contains, tasks_created, is_complete, is_child}
use Rattle.gomp_events.specs.Groups.{open_groups, groups_around, in_group, group_complete}
use Rattle.gomp_events.specs.Goals.{children_complete}
use Rattle.gomp_events.proofs.OpenTasks.{open_done, created_low, created_high, how_many_most, none_open_is_complete}
use Rattle.gomp_groups.specs.declared.rows.GroupRow.{GroupRow}
use Rattle.gomp_groups.specs.declared.rows.GroupSeat.{GroupSeat}
use Rattle.gomp_groups.specs.declared.rows.SeatedTask.{SeatedTask}
use Rattle.gomp_groups.specs.Rows.{no_group, no_seat, or_no_task, outer_at, pending_at, seat_at, IsSeatedIn, IsChain, same_group, own_group, CountsOneMore, with_seat, members_with_seat, needed_row, ended_row, one_child_more, after_child, members_after_child}
use Rattle.gomp_events.specs.Cancels.{first_in, groups_over}
use Rattle.gomp_groups.specs.Stands.{GroupsView, GroupsStand, Stands, IsSeated}
use Rattle.gomp_groups.specs.Calls.{last_open, tasks_before, IsLastOf, Executes, MayClose, MayCreateIn, MayComplete}
use Rattle.gomp_groups.proofs.Chains.{chain_first, chain_starts, own_is}
use Rattle.gomp_groups.proofs.Marks.{begins_with_last}
use Rattle.gomp_groups.proofs.Older.{tasks_before_were_created, earlier_task_is_in_no_later_group}
use Rattle.gomp_groups.proofs.Seats.{Reseats, seat_is_put, seat_of_row, parent_seated, child_less}
use Rattle.gomp_groups.proofs.GroupsKeep.{StillOpen, open_task_has_row, executed_task_has_seat, completed_was_open, open_keeps, close_keeps, create_keeps, complete_keeps, parent_stays}

-- the value stands for what the fields do
pub view_stands : (view now : GroupsView) (h : List Event) → view ≡ now → Stands now h → Stands view h
view_stands view now h e st = subst (λ (v : GroupsView). Stands v h) (sym e) st

-- and has the same seats
pub view_seated : (view now : GroupsView) (task : Task) → view ≡ now → IsSeated now task → IsSeated view task
view_seated view now task e seated = subst (λ (v : GroupsView). IsSeated v task) (sym e) seated

-- New groups stand for no events

all_new : (n m : ℕ) → get_or (replicate n no_seat) m no_seat ≡ no_seat
all_new zero m = refl
all_new (suc n) zero = refl
all_new (suc n) (suc m) = all_new n m

gone_in_no_rows : (t : ℕ) → ◌≡◌ {A = Option SeatedTask} (row_no [] t) None
gone_in_no_rows zero = refl
gone_in_no_rows (suc k) = refl

new_seat : (n : ℕ) (p : Task) → seat_at [] (replicate n no_seat) p ≡ no_seat
new_seat n (Implicit m) = all_new n m
new_seat n (Explicit t) = ap (λ (kept : Option SeatedTask). (or_no_task kept).seat) (gone_in_no_rows t)

none_in_no_rows : (t : ℕ) (row : SeatedTask) → row_no [] t ≡ Some row → ⊥
none_in_no_rows t row is = absurd (let e : ◌≡◌ {A = Option SeatedTask} None (Some row) = sym (gone_in_no_rows t) ∙ is in cc)

no_group_over : (p : Task) → groups_over p [] ≡ []
no_group_over (Implicit m) = refl
no_group_over (Explicit t) = refl

new_stands : (n : ℕ) → GroupsStand [] [] (replicate n no_seat) []
new_stands n = record {
  opened = refl;
  created = refl;
  nested = λ q. tt;
  pending = λ q. refl;
  since = λ q. refl;
  gone = λ t made none. absurd (let low = created_low t [] made in let high = created_high t [] made in omega (arith, low, high));
  complete = λ t row is. absurd (none_in_no_rows t row is);
  needed = λ t row is. absurd (none_in_no_rows t row is);
  parent = λ t row is. absurd (none_in_no_rows t row is);
  children = λ p. rw (new_seat n p) refl;
  around = λ p seated. rw (new_seat n p, no_group_over p) refl;
  last = λ p seated. rw (new_seat n p, no_group_over p) refl;
  rule = tt;
}

pub made_stands : (groups : List GroupRow) (tasks : List (Option SeatedTask)) (members : List GroupSeat) (n : ℕ) → groups ≡ [] → tasks ≡ [] → members ≡ replicate n no_seat → GroupsStand groups tasks members []
made_stands groups tasks members n a b c = rw (a, b, c) (new_stands n)

-- What is read

pub seated_at : (tasks : List (Option SeatedTask)) (seats members : List GroupSeat) (task : Task) → seats ≡ members → IsSeatedIn tasks members task → IsSeatedIn tasks seats task
seated_at tasks seats members task same is = rw same is

pub seat_read : (tasks : List (Option SeatedTask)) (seats members : List GroupSeat) (task : Task) (seat : GroupSeat) → seats ≡ members → seat ≡ seat_at tasks seats task → seat ≡ seat_at tasks members task
seat_read tasks seats members task seat same is = is ∙ rw same refl

pub children_read : (groups : List GroupRow) (tasks : List (Option SeatedTask)) (members : List GroupSeat) (task : Task) (seat : GroupSeat) (h : List Event) → GroupsStand groups tasks members h → seat ≡ seat_at tasks members task → (seat.children == 0) ≡ children_complete task h
children_read groups tasks members task seat h st is = ap (λ (n : ℕ). n == 0) (ap (λ (s : GroupSeat). s.children) is ∙ sym (st.children task)) ∙ none_open_is_complete (λ t. is_child task t h) h

pub done_read : (groups : List GroupRow) (tasks : List (Option SeatedTask)) (members : List GroupSeat) (q : ℕ) (row : GroupRow) (h : List Event) → GroupsStand groups tasks members h → q < length groups → row ≡ get_or groups q row → (row.pending == 0) ≡ group_complete q h
done_read groups tasks members q row h st lt is = ap (λ (n : ℕ). n == 0) (ap (λ (r : GroupRow). r.pending) (get_or_read groups q row lt is no_group) ∙ sym (st.pending q)) ∙ none_open_is_complete (λ t. in_group q t h) h

pub open_read : (groups : List GroupRow) (tasks : List (Option SeatedTask)) (members : List GroupSeat) (task : Task) (seat : GroupSeat) (h : List Event) → GroupsStand groups tasks members h → IsSeatedIn tasks members task → seat ≡ seat_at tasks members task → own_group seat ≡ last_open task h
open_read groups tasks members task seat h st seated is = ap own_group is ∙ own_is groups (seat_at tasks members task) (open_groups task h) (groups_over task h) st.nested (st.last task seated) (st.around task seated)

pub own_within : (groups : List GroupRow) (tasks : List (Option SeatedTask)) (members : List GroupSeat) (task : Task) (seat : GroupSeat) (h : List Event) → GroupsStand groups tasks members h → IsSeatedIn tasks members task → seat ≡ seat_at tasks members task → IfSome (own_group seat) (λ q. q < length groups)
own_within groups tasks members task seat h st seated is =
    subst (λ (s : GroupSeat). IfSome (own_group s) (λ q. q < length groups)) (sym is)
    (by (same_group (seat_at tasks members task).last (seat_at tasks members task).around) (chain_starts groups (seat_at tasks members task).last (open_groups task h ++ groups_over task h) (st.last task seated)))
  where
    by : (b : Bool) → IfSome (seat_at tasks members task).last (λ q. q < length groups) → IfSome (if b then None else (seat_at tasks members task).last) (λ q. q < length groups)
    by true low = tt
    by false low = low

-- how many tasks were created before a group
pub since_read : (groups : List GroupRow) (tasks : List (Option SeatedTask)) (members : List GroupSeat) (q : ℕ) (row : GroupRow) (h : List Event) → GroupsStand groups tasks members h → q < length groups → row ≡ get_or groups q row → row.since ≡ tasks_before q h
since_read groups tasks members q row h st lt is = ap (λ (r : GroupRow). r.since) (get_or_read groups q row lt is no_group) ∙ sym (st.since q)

pub since_most : (groups : List GroupRow) (tasks : List (Option SeatedTask)) (members : List GroupSeat) (q : ℕ) (row : GroupRow) (h : List Event) → GroupsStand groups tasks members h → q < length groups → row ≡ get_or groups q row → row.since ≤ length tasks
since_most groups tasks members q row h st lt is = rw (since_read groups tasks members q row h st lt is, ← st.created) (tasks_before_were_created q h)

pub older_read : (groups : List GroupRow) (tasks : List (Option SeatedTask)) (members : List GroupSeat) (q t : ℕ) (row : GroupRow) (h : List Event) → GroupsStand groups tasks members h → q < length groups → row ≡ get_or groups q row → t ≤ row.since → in_group q t h ≡ false
older_read groups tasks members q t row h st lt is before =
    let since = since_read groups tasks members q row h st lt is in
    earlier_task_is_in_no_later_group (length members) q t h st.rule (omega (arith, before, since))

-- the innermost group around a task: it was opened last, and has a row
pub innermost_read : (groups : List GroupRow) (tasks : List (Option SeatedTask)) (members : List GroupSeat) (task : Task) (seat : GroupSeat) (h : List Event) → GroupsStand groups tasks members h → IsSeatedIn tasks members task → seat ≡ seat_at tasks members task → seat.around ≡ first_in (groups_over task h)
innermost_read groups tasks members task seat h st seated is = rw is (chain_first groups (seat_at tasks members task).around (groups_over task h) (st.around task seated))

pub innermost_is_last : (groups : List GroupRow) (tasks : List (Option SeatedTask)) (members : List GroupSeat) (task : Task) (seat : GroupSeat) (h : List Event) → GroupsStand groups tasks members h → IsSeatedIn tasks members task → seat ≡ seat_at tasks members task → IfSome seat.around (IsLastOf (groups_over task h))
innermost_is_last groups tasks members task seat h st seated is = rw is (begins_with_last groups (seat_at tasks members task).around (groups_over task h) st.nested (st.around task seated))

pub innermost_within : (groups : List GroupRow) (tasks : List (Option SeatedTask)) (members : List GroupSeat) (task : Task) (seat : GroupSeat) (h : List Event) → GroupsStand groups tasks members h → IsSeatedIn tasks members task → seat ≡ seat_at tasks members task → IfSome seat.around (λ q. q < length groups)
innermost_within groups tasks members task seat h st seated is = rw is (chain_starts groups (seat_at tasks members task).around (groups_over task h) (st.around task seated))

-- What is written

pub slice_written : {A : Type 0} → (new old : List A) (n : ℕ) → length new ≡ length old → n ≡ length old → take n (new ++ drop (length new) old) ≡ new
slice_written new old n same size = rw (size ∙ sym same) (take-append_seam new (drop (length new) old))

pub seat_written : (tasks new : List (Option SeatedTask)) (seats members others : List GroupSeat) (n : ℕ) (task : Task) (seat : GroupSeat) → seats ≡ members → new ≡ with_seat tasks task seat → others ≡ members_with_seat seats task seat → n ≡ length members → IsSeatedIn tasks members task →
    Reseats tasks members task seat new (take n (others ++ drop (length others) members))
seat_written tasks new seats members others n task seat same new_is others_is size seated =
    let put = seat_is_put tasks members task seat seated in
    let put_members : others ≡ members_with_seat members task seat = others_is ∙ rw same refl in
    rw (slice_written others members n (rw put_members put.members_len) size, new_is, put_members) put

-- one child more of a task
pub child_written : (tasks new : List (Option SeatedTask)) (seats members others : List GroupSeat) (n : ℕ) (task : Task) → seats ≡ members → new ≡ with_seat tasks task (one_child_more (seat_at tasks seats task)) → others ≡ members_with_seat seats task (one_child_more (seat_at tasks seats task)) → n ≡ length members → IsSeatedIn tasks members task →
    Reseats tasks members task (one_child_more (seat_at tasks members task)) new (take n (others ++ drop (length others) members))
child_written tasks new seats members others n task same new_is others_is size seated =
    let more : one_child_more (seat_at tasks seats task) ≡ one_child_more (seat_at tasks members task) = ap (λ (ms : List GroupSeat). one_child_more (seat_at tasks ms task)) same in
    seat_written tasks new seats members others n task (one_child_more (seat_at tasks members task)) same (new_is ∙ ap (with_seat tasks task) more) (others_is ∙ ap (members_with_seat seats task) more) size seated

-- a group that was opened
pub open_writes : (groups pushed : List GroupRow) (tasks : List (Option SeatedTask)) (members : List GroupSeat) (task : Task) (seat : GroupSeat) (group since : ℕ) (link : Option ℕ) (tasks_now : List (Option SeatedTask)) (members_now : List GroupSeat) (h : List Event) (m : ℕ) → GroupsStand groups tasks members h → Executes (length members) m task h →
    seat ≡ seat_at tasks members task → group ≡ length groups → since ≡ length tasks → link ≡ Some group → pushed ≡ groups ++ record { outer = seat.last; pending = 0; since = since } ∷ [] →
    Reseats tasks members task (record { children = seat.children; around = seat.around; last = link }) tasks_now members_now →
    GroupsStand pushed tasks_now members_now (Group group m ∷ h)
open_writes groups pushed tasks members task seat group since link tasks_now members_now h m st executes is number before to pushed_is re =
    rw (pushed_is, number, before, is) (open_keeps groups tasks members task tasks_now members_now h m st executes
    (subst (λ (s : GroupSeat). Reseats tasks members task (record { children = s.children; around = s.around; last = Some (length groups) }) tasks_now members_now) is
    (subst (λ (n : ℕ). Reseats tasks members task (record { children = seat.children; around = seat.around; last = Some n }) tasks_now members_now) number
    (subst (λ (o : Option ℕ). Reseats tasks members task (record { children = seat.children; around = seat.around; last = o }) tasks_now members_now) to re))))

-- the task that ends one has a seat
pub closes_seated : (groups : List GroupRow) (tasks : List (Option SeatedTask)) (members : List GroupSeat) (task : Task) (h : List Event) (q m : ℕ) → GroupsStand groups tasks members h → MayClose (length members) q m task h → IsSeatedIn tasks members task
closes_seated groups tasks members task h q m st may = executed_task_has_seat groups tasks members h m task st may.rule.member may.current

-- and one that was ended: the one that its task's children are in
pub close_first : (groups : List GroupRow) (tasks : List (Option SeatedTask)) (members : List GroupSeat) (task : Task) (h : List Event) (q m n : ℕ) → GroupsStand groups tasks members h → IsSeatedIn tasks members task → MayClose n q m task h → ((seat_at tasks members task).last ≡ Some q) × (q < length groups)
close_first groups tasks members task h q m n st seated may =
    let open' : open_groups task h ≡ q ∷ may.rule.outer = rw (← may.current) may.rule.last in
    let chain = rw open' at (st.last task seated) in
    (chain.0, chain.1)

pub close_writes : (groups : List GroupRow) (tasks : List (Option SeatedTask)) (members : List GroupSeat) (task : Task) (seat : GroupSeat) (group : ℕ) (row : GroupRow) (tasks_now : List (Option SeatedTask)) (members_now : List GroupSeat) (h : List Event) (q m : ℕ) → GroupsStand groups tasks members h → MayClose (length members) q m task h →
    seat ≡ seat_at tasks members task → seat.last ≡ Some group → row ≡ get_or groups group row →
    Reseats tasks members task (record { children = seat.children; around = seat.around; last = row.outer }) tasks_now members_now →
    GroupsStand groups tasks_now members_now (GroupEnd q m ∷ h)
close_writes groups tasks members task seat group row tasks_now members_now h q m st may is last row_is re =
    let seated = closes_seated groups tasks members task h q m st may in
    let first = close_first groups tasks members task h q m (length members) st seated may in
    let found : (seat_at tasks members task).last ≡ Some group = rw (← is) last in
    let same : q ≡ group = (let e : Some q ≡ Some group = sym first.0 ∙ found in cc) in
    let read : row ≡ get_or groups group no_group = get_or_read groups group row (rw (← same) first.1) row_is no_group in
    close_keeps groups tasks members task group tasks_now members_now h q m st may found
    (subst (λ (s : GroupSeat). Reseats tasks members task (record { children = s.children; around = s.around; last = outer_at groups group }) tasks_now members_now) is
    (subst (λ (r : GroupRow). Reseats tasks members task (record { children = seat.children; around = seat.around; last = r.outer }) tasks_now members_now) read re))

-- a task that was created
pub pending_most : (groups : List GroupRow) (tasks : List (Option SeatedTask)) (members : List GroupSeat) (h : List Event) (q : ℕ) → GroupsStand groups tasks members h → pending_at groups q ≤ length tasks
pending_most groups tasks members h q st = rw (← st.pending q, ← st.created) (how_many_most (tasks_created h) (λ t. in_group q t h && not (is_complete t h)))

pub children_most : (groups : List GroupRow) (tasks : List (Option SeatedTask)) (members : List GroupSeat) (h : List Event) (p : Task) → GroupsStand groups tasks members h → (seat_at tasks members p).children ≤ length tasks
children_most groups tasks members h p st = rw (← st.children p, ← st.created) (how_many_most (tasks_created h) (λ t. is_child p t h && not (is_complete t h)))

pub create_writes : (groups groups_new : List GroupRow) (tasks pushed : List (Option SeatedTask)) (members : List GroupSeat) (parent : Task) (group : Option ℕ) (n : ℕ) (tasks_now : List (Option SeatedTask)) (members_now : List GroupSeat) (h : List Event) (m : ℕ) (desc : TaskDesc) → GroupsStand groups tasks members h → MayCreateIn (length members) m parent h →
    group ≡ (seat_at tasks members parent).last → n ≡ length groups →
    ((qs : List ℕ) → IsChain groups group qs → CountsOneMore qs groups groups_new) →
    pushed ≡ tasks_now ++ Some (record { parent = parent; seat = record { children = 0; around = group; last = group }; complete = false }) ∷ [] →
    Reseats tasks members parent (one_child_more (seat_at tasks members parent)) tasks_now members_now →
    GroupsStand (take n (groups_new ++ drop (length groups_new) groups)) pushed members_now (Create (suc (tasks_created h)) m parent desc ∷ h)
create_writes groups groups_new tasks pushed members parent group n tasks_now members_now h m desc st may is size counts pushed_is re =
    let chain : IsChain groups group (open_groups parent h ++ groups_over parent h) = rw is (st.last parent (executed_task_has_seat groups tasks members h m parent st may.member (sym may.current))) in
    let counted = counts (open_groups parent h ++ groups_over parent h) chain in
    rw (slice_written groups_new groups n counted.len size, pushed_is, is) (create_keeps groups tasks members parent groups_new tasks_now members_now h m desc st may counted re)

-- a task that was completed

-- what its row says
pub record RowSays (groups : List GroupRow) (tasks : List (Option SeatedTask)) (members : List GroupSeat) (t : ℕ) (row : SeatedTask) (h : List Event) : Type 0 where
  -- its groups, in each of which it is open
  pub around : IsChain groups row.seat.around (groups_around t h)
  pub some : (q : ℕ) → (if contains q (groups_around t h) then 1 else 0) ≤ pending_at groups q
  -- its parent, of which it is an open child
  pub child : 0 < (seat_at (with_row tasks t (needed_row (ended_row row))) members row.parent).children

pub row_says : (groups : List GroupRow) (tasks : List (Option SeatedTask)) (members : List GroupSeat) (t : ℕ) (row : SeatedTask) (h : List Event) → GroupsStand groups tasks members h → StillOpen t h → row_no tasks t ≡ Some row → RowSays groups tasks members t row h
row_says groups tasks members t row h st open' found =
    record {
      around = rw (← seat_of_row tasks members t row found) (st.around (Explicit t) (open_task_has_row groups tasks members t h st open'));
      some = λ q. in_each q (contains q (groups_around t h)) refl;
      child = parent_stays groups tasks members t row h st open' found;
    }
  where
    in_each : (q : ℕ) (b : Bool) → contains q (groups_around t h) ≡ b → (if b then 1 else 0) ≤ pending_at groups q
    in_each q true there =
        let done = open_done (λ u. in_group q u h) t 0 h open'.made there open'.incomplete in
        let was = st.pending q in
        omega (arith, done, was)
    in_each q false away = omega arith

pub complete_writes : (groups groups_new : List GroupRow) (tasks kept tasks_now : List (Option SeatedTask)) (seats members others : List GroupSeat) (t : ℕ) (row : SeatedTask) (n k : ℕ) (h : List Event) (event : Event) → GroupsStand groups tasks members h → MayComplete (length members) t event h → row_no tasks t ≡ Some row →
    n ≡ length groups → k ≡ length members → seats ≡ members →
    ((qs : List ℕ) → IsChain groups row.seat.around qs → CountsOneMore qs groups_new groups) →
    kept ≡ with_row tasks t (needed_row (ended_row row)) → tasks_now ≡ after_child kept row.parent → others ≡ members_after_child seats row.parent →
    GroupsStand (take n (groups_new ++ drop (length groups_new) groups)) tasks_now (take k (others ++ drop (length others) members)) (event ∷ h)
complete_writes groups groups_new tasks kept tasks_now seats members others t row n k h event st may found size members_size same counts kept_is now_is others_is =
    let says = row_says groups tasks members t row h st (completed_was_open (length members) t event h st.rule may) found in
    let counted = counts (groups_around t h) says.around in
    let seated = parent_seated (with_row tasks t (needed_row (ended_row row))) members row.parent says.child in
    let less = child_less (with_row tasks t (needed_row (ended_row row))) members row.parent seated in
    let now : tasks_now ≡ after_child (with_row tasks t (needed_row (ended_row row))) row.parent = now_is ∙ ap (λ (xs : List (Option SeatedTask)). after_child xs row.parent) kept_is in
    let others_now : others ≡ members_after_child members row.parent = others_is ∙ ap (λ (xs : List GroupSeat). members_after_child xs row.parent) same in
    rw (slice_written groups_new groups n (sym counted.len) size, slice_written others members k (rw others_now less.members_len) members_size, now, others_now)
    (complete_keeps groups tasks members t row groups_new h event st may found counted seated)
