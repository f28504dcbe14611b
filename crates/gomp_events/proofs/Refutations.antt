-- What each part of each law of tasks, groups and arrivals forbids, of any member, task, group, barrier and list of events.
-- What is forbidden is said in events where a line does, so that a law is too weak, or a word of it, if one of these no longer holds.
use Rattle.std.proofs.Common.{◌≡◌, ◌≢◌, ℕ, ◌<◌, ◌≤◌, true, false, List, [], ◌∷◌, ◌++◌, refl, ap, arith, inl, inr}
use Rattle.std.specs.Prelude.{◌&&◌, ◌==◌}
use Rattle.std.proofs.lemmas.Bool.{cases_Bool}
use Rattle.gomp_types.specs.declared.task.Task.{Task}
use Rattle.gomp_types.specs.declared.task.Task.TheVariants.{Implicit, Explicit}
use Rattle.gomp_types.specs.declared.task.TaskDesc.{TaskDesc}
use Rattle.gomp_types.specs.declared.depend.Dep.{Dep}
use Rattle.gomp_types.specs.declared.cancel.Scope.{Scope}
use Rattle.gomp_types.specs.declared.cancel.Scope.TheVariants.{Region, OneShare, OneGroup}
use Rattle.gomp_events.specs.declared.event.Arrival.{Arrival}
use Rattle.gomp_events.specs.declared.event.Arrival.TheVariants.{Barrier, ShareEnd, RegionEnd}
use Rattle.gomp_events.specs.declared.event.Tag.{Tag}
use Rattle.gomp_events.specs.declared.event.Event.{Event}
use Rattle.gomp_events.specs.declared.event.Event.TheVariants.{Create, Start, Done, Discard, Group, GroupEnd, Waited, Arrive, Pass, Cancel}
use Rattle.gomp_events.specs.Events.{barriers_passed, at_barrier, at_region_end, is_region_end}
use Rattle.gomp_events.specs.Tasks.{contains, executed_task, epoch, is_child, is_ancestor, is_undeferred}
use Rattle.gomp_events.specs.Depends.{child_waits, waits_for}
use Rattle.gomp_events.specs.Groups.{open_groups, groups_around, in_group}
use Rattle.gomp_events.specs.Cancels.{same_scope, was_cancelled, is_cancelled, some_cancelled, groups_over, is_covered, would_be_covered}
use Rattle.gomp_events.specs.Laws.{Always, Happened}
use Rattle.gomp_events.specs.TaskLaws.{IsCreated, IsTaskDone, TaskLaws, BoundIsDone}
use Rattle.gomp_events.specs.Arrivals.{ArrivalLaws}
use Rattle.gomp_types.proofs.Booleans.{and_left, and_right, not_both, or_left, or_right, or_tells, same_number, is_equal}

-- What happened, and each event

-- an event happened if it stands anywhere in the list
pub happened_anywhere : (event : Event) (later earlier : List Event) → Happened event (later ++ event ∷ earlier)
happened_anywhere event [] earlier = inl refl
happened_anywhere event (other ∷ later) earlier = inr (happened_anywhere event later earlier)

-- and only then
pub happened_nowhere_else : (event : Event) (h : List Event) → Happened event h → (later : List Event) × (earlier : List Event) × (h ≡ later ++ event ∷ earlier)
happened_nowhere_else event [] never = absurd never
happened_nowhere_else event (other ∷ earlier) (inl e) = ([], earlier, ap (λ (x : Event). x ∷ earlier) e)
happened_nowhere_else event (other ∷ earlier) (inr was) =
    let at = happened_nowhere_else event earlier was in (other ∷ at.0, at.1, ap (λ (h : List Event). other ∷ h) at.2)

-- a law of a list holds of what came before
pub always_before : (Law : Event → List Event → Type 0) (later h : List Event) → Always Law (later ++ h) → Always Law h
always_before Law [] h all = all
always_before Law (event ∷ later) h all = always_before Law later h all.1

-- and of each event, wherever it stands
pub always_of_each : (Law : Event → List Event → Type 0) (later : List Event) (event : Event) (earlier : List Event) → Always Law (later ++ event ∷ earlier) → Law event earlier
always_of_each Law later event earlier all = (always_before Law later (event ∷ earlier) all).0

-- so all laws of tasks hold of what came before: what follows is forbidden wherever it stands
pub task_laws_before : (later h : List Event) → TaskLaws (later ++ h) → TaskLaws h
task_laws_before later h laws = record {
  created_once = always_before _ later h laws.created_once;
  created_in = always_before _ later h laws.created_in;
  started_once = always_before _ later h laws.started_once;
  after_named = always_before _ later h laws.after_named;
  own = always_before _ later h laws.own;
  descendants = always_before _ later h laws.descendants;
  ended_once = always_before _ later h laws.ended_once;
  started_uncovered = always_before _ later h laws.started_uncovered;
  created_uncovered = always_before _ later h laws.created_uncovered;
  discarded = always_before _ later h laws.discarded;
  waits = always_before _ later h laws.waits;
  opened_once = always_before _ later h laws.opened_once;
  groups_ended = always_before _ later h laws.groups_ended;
  passes = always_before _ later h laws.passes;
  later = always_before _ later h laws.later;
  region = always_before _ later h laws.region;
}

-- and so do those of arrivals
pub arrival_laws_before : (members : ℕ) (later h : List Event) → ArrivalLaws members (later ++ h) → ArrivalLaws members h
arrival_laws_before members later h laws = record {
  same_arrivals = record {
    one_by_one = always_before _ later h laws.same_arrivals.one_by_one;
    tags = always_before _ later h laws.same_arrivals.tags;
    ends = always_before _ later h laws.same_arrivals.ends;
  };
  passes = always_before _ later h laws.passes;
  ends = always_before _ later h laws.ends;
}

-- What did not happen

-- nobody created the task
abbrev NobodyCreated : ℕ → List Event → Type 0
NobodyCreated t h = (n : ℕ) (parent : Task) (desc : TaskDesc) → Happened (Create t n parent desc) h → ⊥

-- nobody ended it, and no cancellation discarded it
abbrev NobodyEnded : ℕ → List Event → Type 0
NobodyEnded t h = ((n : ℕ) → Happened (Done t n) h → ⊥) × ((n : ℕ) → Happened (Discard t n) h → ⊥)

-- nobody cancelled this
abbrev pub NobodyCancelled : Scope → List Event → Type 0
NobodyCancelled scope h = (n : ℕ) → Happened (Cancel n scope) h → ⊥

-- the member did not arrive at the region's end
abbrev pub NeverAtTheEnd : ℕ → List Event → Type 0
NeverAtTheEnd m h = (barrier : ℕ) (tag : Tag) → tag.kind ≡ RegionEnd → Happened (Arrive barrier m tag) h → ⊥

nobody_ended : (t : ℕ) (h : List Event) → NobodyEnded t h → IsTaskDone t h → ⊥
nobody_ended t h never (n, inl done) = never.0 n done
nobody_ended t h never (n, inr gone) = never.1 n gone

nobody_created : (t : ℕ) (h : List Event) → NobodyCreated t h → IsCreated t h → ⊥
nobody_created t h never made = never made.0 made.1 made.2 made.3

pub scope_as_itself : (scope : Scope) → same_scope scope scope ≡ true
scope_as_itself Region = refl
scope_as_itself (OneShare i) = same_number i
scope_as_itself (OneGroup q) = same_number q

pub scopes_are_one : (one other : Scope) → same_scope one other ≡ true → one ≡ other
scopes_are_one Region Region e = refl
scopes_are_one (OneShare i) (OneShare j) e = ap OneShare (is_equal i j e)
scopes_are_one (OneGroup p) (OneGroup q) e = ap OneGroup (is_equal p q e)
scopes_are_one Region (OneShare j) e = absurd (cc)
scopes_are_one Region (OneGroup q) e = absurd (cc)
scopes_are_one (OneShare i) Region e = absurd (cc)
scopes_are_one (OneShare i) (OneGroup q) e = absurd (cc)
scopes_are_one (OneGroup p) Region e = absurd (cc)
scopes_are_one (OneGroup p) (OneShare j) e = absurd (cc)

-- what any member cancelled is cancelled
pub cancelled_by_any : (scope : Scope) (n : ℕ) (h : List Event) → Happened (Cancel n scope) h → was_cancelled scope h ≡ true
cancelled_by_any scope n [] never = absurd never
cancelled_by_any scope n (Cancel member other ∷ earlier) (inl e) = let here : other ≡ scope = cc in rw (here, scope_as_itself scope) refl
cancelled_by_any scope n (Cancel member other ∷ earlier) (inr was) =
    or_right (same_scope other scope) (was_cancelled scope earlier) (cancelled_by_any scope n earlier was)
cancelled_by_any scope n (_ ∷ earlier) (inl e) = absurd (cc)
cancelled_by_any scope n (_ ∷ earlier) (inr was) = cancelled_by_any scope n earlier was

-- and what nobody cancelled is not
pub cancelled_by_none : (scope : Scope) (h : List Event) → NobodyCancelled scope h → was_cancelled scope h ≡ false
cancelled_by_none scope [] never = refl
cancelled_by_none scope (Cancel member other ∷ earlier) never = elim (cases_Bool (same_scope other scope)) [
  | inl same ↦ absurd (never member (inl (ap (Cancel member) (scopes_are_one other scope same))))
  | inr differs ↦ rw differs (cancelled_by_none scope earlier (λ n was. never n (inr was)))
]
cancelled_by_none scope (_ ∷ earlier) never = cancelled_by_none scope earlier (λ n was. never n (inr was))

-- the region's end is of one kind
pub ends_the_region : (kind : Arrival) → is_region_end kind ≡ true → kind ≡ RegionEnd
ends_the_region RegionEnd e = refl
ends_the_region Barrier e = absurd (cc)
ends_the_region ShareEnd e = absurd (cc)

-- a member is at the region's end if it has arrived there
pub at_the_end_once_arrived : (barrier m : ℕ) (tag : Tag) (h : List Event) → tag.kind ≡ RegionEnd → Happened (Arrive barrier m tag) h → at_region_end m h ≡ true
at_the_end_once_arrived barrier m tag [] kind never = absurd never
at_the_end_once_arrived barrier m tag (Arrive g member other ∷ earlier) kind (inl e) =
    let who : member ≡ m = cc in let same : other ≡ tag = cc in rw (who, same, kind, same_number m) refl
at_the_end_once_arrived barrier m tag (Arrive g member other ∷ earlier) kind (inr was) =
    or_right _ (at_region_end m earlier) (at_the_end_once_arrived barrier m tag earlier kind was)
at_the_end_once_arrived barrier m tag (_ ∷ earlier) kind (inl e) = absurd (cc)
at_the_end_once_arrived barrier m tag (_ ∷ earlier) kind (inr was) = at_the_end_once_arrived barrier m tag earlier kind was

-- and only then
pub at_the_end_never_arrived : (m : ℕ) (h : List Event) → NeverAtTheEnd m h → at_region_end m h ≡ false
at_the_end_never_arrived m [] never = refl
at_the_end_never_arrived m (Arrive g member tag ∷ earlier) never = elim (cases_Bool (member == m && is_region_end tag.kind)) [
  | inl is ↦
      let who = is_equal member m (and_left (member == m) (is_region_end tag.kind) is) in
      absurd (never g tag (ends_the_region tag.kind (and_right (member == m) (is_region_end tag.kind) is)) (inl (rw who refl)))
  | inr differs ↦ rw differs (at_the_end_never_arrived m earlier (λ barrier other kind was. never barrier other kind (inr was)))
]
at_the_end_never_arrived m (_ ∷ earlier) never = at_the_end_never_arrived m earlier (λ barrier tag kind was. never barrier tag kind (inr was))

-- a group that was cancelled is one of those in which it stands
pub group_reached : (q : ℕ) (qs : List ℕ) (h : List Event) → contains q qs ≡ true → was_cancelled (OneGroup q) h ≡ true → some_cancelled qs h ≡ true
group_reached q [] h there cancelled = absurd (cc)
group_reached q (p ∷ ps) h there cancelled = elim (or_tells (p == q) (contains q ps) there) [
  | inl here ↦ let same = is_equal p q here in rw same (or_left _ (some_cancelled ps h) cancelled)
  | inr within ↦ or_right (was_cancelled (OneGroup p) h) (some_cancelled ps h) (group_reached q ps h within cancelled)
]

pub none_reached : (qs : List ℕ) (h : List Event) → ((q : ℕ) → NobodyCancelled (OneGroup q) h) → some_cancelled qs h ≡ false
none_reached [] h never = refl
none_reached (q ∷ qs) h never = rw (cancelled_by_none (OneGroup q) h (never q)) (none_reached qs h never)

-- what is in one of two lists is in both together
pub contained_first : (q : ℕ) (ps qs : List ℕ) → contains q ps ≡ true → contains q (ps ++ qs) ≡ true
contained_first q [] qs there = absurd (cc)
contained_first q (p ∷ ps) qs there = elim (or_tells (p == q) (contains q ps) there) [
  | inl here ↦ or_left (p == q) (contains q (ps ++ qs)) here
  | inr within ↦ or_right (p == q) (contains q (ps ++ qs)) (contained_first q ps qs within)
]

pub contained_later : (q : ℕ) (ps qs : List ℕ) → contains q qs ≡ true → contains q (ps ++ qs) ≡ true
contained_later q [] qs there = there
contained_later q (p ∷ ps) qs there = or_right (p == q) (contains q (ps ++ qs)) (contained_later q ps qs there)

-- a cancellation of the region reaches every task
pub region_covers_each : (t n : ℕ) (h : List Event) → Happened (Cancel n Region) h → is_covered t h ≡ true
region_covers_each t n h cancelled = or_left _ (some_cancelled (groups_around t h) h) (cancelled_by_any Region n h cancelled)

-- and one of a group each task of the group
pub group_covers_each : (t q n : ℕ) (h : List Event) → in_group q t h ≡ true → Happened (Cancel n (OneGroup q)) h → is_covered t h ≡ true
group_covers_each t q n h there cancelled = or_right (is_cancelled h) _ (group_reached q (groups_around t h) h there (cancelled_by_any (OneGroup q) n h cancelled))

-- Tasks

-- no two members create tasks by one number, in whatever task
pub never_created_twice : (t m n : ℕ) (p r : Task) (desc other : TaskDesc) (h : List Event) → Happened (Create t n r other) h → TaskLaws (Create t m p desc ∷ h) → ⊥
never_created_twice t m n p r desc other h happened laws = laws.created_once.0 (n, r, other, happened)

-- no task is created in another than the one that the member executes
pub never_created_elsewhere : (t m : ℕ) (p : Task) (desc : TaskDesc) (h : List Event) → p ≢ executed_task m h → TaskLaws (Create t m p desc ∷ h) → ⊥
never_created_elsewhere t m p desc h differs laws = differs laws.created_in.0

-- no task is started that nobody created
pub never_started_uncreated : (t m : ℕ) (h : List Event) → NobodyCreated t h → TaskLaws (Start t m ∷ h) → ⊥
never_started_uncreated t m h never laws = nobody_created t h never laws.started_once.0.0

-- no task is started twice, by whichever members
pub never_started_twice : (t m n : ℕ) (h : List Event) → Happened (Start t n) h → TaskLaws (Start t m ∷ h) → ⊥
never_started_twice t m n h happened laws = laws.started_once.0.1 n happened

-- nor after some member ended it
pub never_started_when_ended : (t m n : ℕ) (h : List Event) → Happened (Done t n) h → TaskLaws (Start t m ∷ h) → ⊥
never_started_when_ended t m n h done laws = laws.started_once.0.2 (n, inl done)

-- nor after it was discarded
pub never_started_when_discarded : (t m n : ℕ) (h : List Event) → Happened (Discard t n) h → TaskLaws (Start t m ∷ h) → ⊥
never_started_when_discarded t m n h gone laws = laws.started_once.0.2 (n, inr gone)

-- nor before one for which it waits is done
pub never_started_before_named : (t m q : ℕ) (h : List Event) → waits_for t q h ≡ true → NobodyEnded q h → TaskLaws (Start t m ∷ h) → ⊥
never_started_before_named t m q h waits never laws = nobody_ended q h never (laws.after_named.0 q waits)

-- no undeferred task is started but by the member that created it, in the task that it executes
pub never_started_for_another :
    (t m : ℕ) (h : List Event) → is_undeferred t h ≡ true → ((desc : TaskDesc) → Happened (Create t m (executed_task m h) desc) h → ⊥) → TaskLaws (Start t m ∷ h) → ⊥
never_started_for_another t m h undeferred never laws = let own = laws.own.0 undeferred in never own.0 own.1

-- no member starts a task that does not descend from one that it has started and that is not done
pub never_started_beside : (t m s : ℕ) (h : List Event) → Happened (Start s m) h → NobodyEnded s h → is_ancestor (Explicit s) t h ≡ false → TaskLaws (Start t m ∷ h) → ⊥
never_started_beside t m s h started never apart laws = not_both (is_ancestor (Explicit s) t h) (laws.descendants.0.0 s started (nobody_ended s h never)) apart

-- nor one that does not descend from its implicit task, unless it waits at a barrier
pub never_started_of_others : (t m : ℕ) (h : List Event) → at_barrier m h ≡ false → is_ancestor (Implicit m) t h ≡ false → TaskLaws (Start t m ∷ h) → ⊥
never_started_of_others t m h away apart laws = not_both (is_ancestor (Implicit m) t h) (laws.descendants.0.1 away) apart

-- no member ends a task that it did not start
pub never_ended_unstarted : (t m : ℕ) (h : List Event) → (Happened (Start t m) h → ⊥) → TaskLaws (Done t m ∷ h) → ⊥
never_ended_unstarted t m h never laws = never laws.ended_once.0.0

-- no task ends twice, by whichever members
pub never_ended_twice : (t m n : ℕ) (h : List Event) → Happened (Done t n) h → TaskLaws (Done t m ∷ h) → ⊥
never_ended_twice t m n h done laws = laws.ended_once.0.1 n done

-- nor before another that the member has started and that is not done, unless that is its ancestor
pub never_ended_outer :
    (t m s : ℕ) (h : List Event) → Happened (Start s m) h → NobodyEnded s h → s ≢ t → is_ancestor (Explicit s) t h ≡ false → TaskLaws (Done t m ∷ h) → ⊥
never_ended_outer t m s h started never differs apart laws = elim (laws.ended_once.0.2 s started (nobody_ended s h never)) [
  | inl same ↦ differs same
  | inr above ↦ not_both (is_ancestor (Explicit s) t h) above apart
]

-- Cancellation

-- no task is started that a cancellation reaches
pub never_started_covered : (t m : ℕ) (h : List Event) → is_covered t h ≡ true → TaskLaws (Start t m ∷ h) → ⊥
never_started_covered t m h covered laws = not_both (is_covered t h) covered laws.started_uncovered.0

-- so none after the region was cancelled, by whichever member
pub never_started_in_cancelled_region : (t m n : ℕ) (h : List Event) → Happened (Cancel n Region) h → TaskLaws (Start t m ∷ h) → ⊥
never_started_in_cancelled_region t m n h cancelled = never_started_covered t m h (region_covers_each t n h cancelled)

-- and none of a group that was
pub never_started_in_cancelled_group : (t m q n : ℕ) (h : List Event) → in_group q t h ≡ true → Happened (Cancel n (OneGroup q)) h → TaskLaws (Start t m ∷ h) → ⊥
never_started_in_cancelled_group t m q n h there cancelled = never_started_covered t m h (group_covers_each t q n h there cancelled)

-- no task is created that a cancellation reaches
pub never_created_covered : (t m : ℕ) (p : Task) (desc : TaskDesc) (h : List Event) → would_be_covered p h ≡ true → TaskLaws (Create t m p desc ∷ h) → ⊥
never_created_covered t m p desc h covered laws = not_both (would_be_covered p h) covered laws.created_uncovered.0

-- so none after the region was cancelled
pub never_created_in_cancelled_region : (t m n : ℕ) (p : Task) (desc : TaskDesc) (h : List Event) → Happened (Cancel n Region) h → TaskLaws (Create t m p desc ∷ h) → ⊥
never_created_in_cancelled_region t m n p desc h cancelled = never_created_covered t m p desc h (or_left _ _ (cancelled_by_any Region n h cancelled))

-- none while a group of the task is open that was
pub never_created_in_cancelled_group :
    (t m q n : ℕ) (p : Task) (desc : TaskDesc) (h : List Event) → contains q (open_groups p h) ≡ true → Happened (Cancel n (OneGroup q)) h → TaskLaws (Create t m p desc ∷ h) → ⊥
never_created_in_cancelled_group t m q n p desc h there cancelled =
    never_created_covered t m p desc h (or_right (is_cancelled h) _ (group_reached q _ h (contained_first q (open_groups p h) (groups_over p h) there) (cancelled_by_any (OneGroup q) n h cancelled)))

-- and none in a task of such a group
pub never_created_below_cancelled_group :
    (t m q n p : ℕ) (desc : TaskDesc) (h : List Event) → in_group q p h ≡ true → Happened (Cancel n (OneGroup q)) h → TaskLaws (Create t m (Explicit p) desc ∷ h) → ⊥
never_created_below_cancelled_group t m q n p desc h there cancelled =
    never_created_covered t m (Explicit p) desc h (or_right (is_cancelled h) _ (group_reached q _ h (contained_later q (open_groups (Explicit p) h) (groups_around p h) there) (cancelled_by_any (OneGroup q) n h cancelled)))

-- no task is discarded that no cancellation reaches
pub never_discarded_uncovered : (t m : ℕ) (h : List Event) → is_covered t h ≡ false → TaskLaws (Discard t m ∷ h) → ⊥
never_discarded_uncovered t m h uncovered laws = not_both (is_covered t h) laws.discarded.0.0 uncovered

-- so none while nobody cancelled the region or a group
pub never_discarded_uncancelled : (t m : ℕ) (h : List Event) → NobodyCancelled Region h → ((q : ℕ) → NobodyCancelled (OneGroup q) h) → TaskLaws (Discard t m ∷ h) → ⊥
never_discarded_uncancelled t m h never none =
    never_discarded_uncovered t m h (rw (cancelled_by_none Region h never) (none_reached (groups_around t h) h none))

-- none that nobody created
pub never_discarded_uncreated : (t m : ℕ) (h : List Event) → NobodyCreated t h → TaskLaws (Discard t m ∷ h) → ⊥
never_discarded_uncreated t m h never laws = nobody_created t h never laws.discarded.0.1

-- none that some member has started
pub never_discarded_when_started : (t m n : ℕ) (h : List Event) → Happened (Start t n) h → TaskLaws (Discard t m ∷ h) → ⊥
never_discarded_when_started t m n h started laws = laws.discarded.0.2 n started

-- none that some member has ended
pub never_discarded_when_ended : (t m n : ℕ) (h : List Event) → Happened (Done t n) h → TaskLaws (Discard t m ∷ h) → ⊥
never_discarded_when_ended t m n h done laws = laws.discarded.0.3 (n, inl done)

-- and none twice
pub never_discarded_twice : (t m n : ℕ) (h : List Event) → Happened (Discard t n) h → TaskLaws (Discard t m ∷ h) → ⊥
never_discarded_twice t m n h gone laws = laws.discarded.0.3 (n, inr gone)

-- Waits

-- no taskwait ends before a child of the task that waits is done
pub never_waited_before_child : (t m : ℕ) (h : List Event) → is_child (executed_task m h) t h ≡ true → NobodyEnded t h → TaskLaws (Waited m [] ∷ h) → ⊥
never_waited_before_child t m h child never laws = nobody_ended t h never (laws.waits.0 t child)

-- none with items before a task is done for which a child with them waits
pub never_waited_before_named :
    (t m : ℕ) (item : Dep) (items : List Dep) (h : List Event) → child_waits (executed_task m h) (item ∷ items) t h ≡ true → NobodyEnded t h → TaskLaws (Waited m (item ∷ items) ∷ h) → ⊥
never_waited_before_named t m item items h waits never laws = nobody_ended t h never (laws.waits.0 t waits)

-- no group ends before a task in it is done
pub never_grouped_before_task : (t m q : ℕ) (h : List Event) → in_group q t h ≡ true → NobodyEnded t h → TaskLaws (GroupEnd q m ∷ h) → ⊥
never_grouped_before_task t m q h there never laws = nobody_ended t h never (laws.waits.0 t there)

-- no two members open groups by one number
pub never_opened_twice : (q m n : ℕ) (h : List Event) → Happened (Group q n) h → TaskLaws (Group q m ∷ h) → ⊥
never_opened_twice q m n h opened laws = laws.opened_once.0 n opened

-- no member ends a group that it did not open
pub never_ends_unopened_group : (q m : ℕ) (h : List Event) → (Happened (Group q m) h → ⊥) → TaskLaws (GroupEnd q m ∷ h) → ⊥
never_ends_unopened_group q m h never laws = never laws.groups_ended.0.0

-- nor another than the last that is open in the task that it executes
pub never_ends_outer_group : (q m : ℕ) (h : List Event) → ((outer : List ℕ) → open_groups (executed_task m h) h ≢ q ∷ outer) → TaskLaws (GroupEnd q m ∷ h) → ⊥
never_ends_outer_group q m h never laws = let last = laws.groups_ended.0.1 in never last.0 last.1

-- and no group ends twice, by whichever members
pub never_ends_group_twice : (q m n : ℕ) (h : List Event) → Happened (GroupEnd q n) h → TaskLaws (GroupEnd q m ∷ h) → ⊥
never_ends_group_twice q m n h ended laws = laws.groups_ended.0.2 n ended

-- Barriers

-- no member passes a barrier before a task is done that is bound to it, or to an earlier one
pub never_passed_before_task :
    (barrier t m n : ℕ) (p : Task) (desc : TaskDesc) (h : List Event) → Happened (Create t n p desc) h → epoch t h ≤ barrier → NobodyEnded t h → TaskLaws (Pass barrier m ∷ h) → ⊥
never_passed_before_task barrier t m n p desc h made early never laws = nobody_ended t h never (laws.passes.0 t (n, p, desc, made) early)

-- no task is created that is bound to a barrier that some member has passed, or to an earlier one
pub never_created_too_late :
    (barrier t m n : ℕ) (p : Task) (desc : TaskDesc) (h : List Event) → Happened (Pass barrier n) h → epoch t (Create t m p desc ∷ h) ≤ barrier → TaskLaws (Create t m p desc ∷ h) → ⊥
never_created_too_late barrier t m n p desc h passed early laws = let past = laws.later.0 barrier n passed in absurd (omega (arith, past, early))

-- no member passes a barrier once it is at the region's end before every task is done, to whichever barrier it is bound
pub never_left_before_task :
    (barrier g t m n : ℕ) (tag : Tag) (p : Task) (desc : TaskDesc) (h : List Event) →
    tag.kind ≡ RegionEnd → Happened (Arrive g m tag) h → Happened (Create t n p desc) h → NobodyEnded t h → TaskLaws (Pass barrier m ∷ h) → ⊥
never_left_before_task barrier g t m n tag p desc h kind arrived made never laws =
    nobody_ended t h never (laws.region.0 (at_the_end_once_arrived g m tag h kind arrived) t (n, p, desc, made))

-- no task of a whole list that is bound to a barrier, or to an earlier one, is still to be done when a member passes it, whenever it was created
pub never_bound_undone :
    (barrier t m n : ℕ) (p : Task) (desc : TaskDesc) (later earlier : List Event) → Happened (Create t n p desc) (later ++ Pass barrier m ∷ earlier) →
    epoch t (later ++ Pass barrier m ∷ earlier) ≤ barrier → NobodyEnded t earlier → BoundIsDone (later ++ Pass barrier m ∷ earlier) → ⊥
never_bound_undone barrier t m n p desc later earlier made early never bound = nobody_ended t earlier never (bound later earlier barrier m refl t (n, p, desc, made) early)

-- Arrivals

-- no member arrives at a barrier but its next one
pub never_arrives_out_of_order : (members barrier m : ℕ) (tag : Tag) (h : List Event) → barrier ≢ barriers_passed m h → ArrivalLaws members (Arrive barrier m tag ∷ h) → ⊥
never_arrives_out_of_order members barrier m tag h differs laws = differs laws.same_arrivals.one_by_one.0

-- nor passes another
pub never_passes_out_of_order : (members barrier m : ℕ) (h : List Event) → barrier ≢ barriers_passed m h → ArrivalLaws members (Pass barrier m ∷ h) → ⊥
never_passes_out_of_order members barrier m h differs laws = differs laws.same_arrivals.one_by_one.0

-- no member arrives at a barrier with another tag than one that has arrived there, unless the region is cancelled
pub never_arrives_with_another_tag :
    (members barrier m n : ℕ) (tag other : Tag) (h : List Event) → NobodyCancelled Region h → Happened (Arrive barrier n other) h → other ≢ tag → ArrivalLaws members (Arrive barrier m tag ∷ h) → ⊥
never_arrives_with_another_tag members barrier m n tag other h whole arrived differs laws =
    differs (laws.same_arrivals.tags.0 (cancelled_by_none Region h whole) n other arrived)

-- in a cancelled region no member arrives but at the region's end
pub never_arrives_when_cancelled :
    (members barrier m n : ℕ) (tag : Tag) (h : List Event) → Happened (Cancel n Region) h → tag.kind ≢ RegionEnd → ArrivalLaws members (Arrive barrier m tag ∷ h) → ⊥
never_arrives_when_cancelled members barrier m n tag h cancelled differs laws = differs (laws.same_arrivals.ends.0 (cancelled_by_any Region n h cancelled))

-- nor passes a barrier before it has arrived there
pub never_passes_when_cancelled : (members barrier m n : ℕ) (h : List Event) → Happened (Cancel n Region) h → NeverAtTheEnd m h → ArrivalLaws members (Pass barrier m ∷ h) → ⊥
never_passes_when_cancelled members barrier m n h cancelled never laws =
    not_both (at_region_end m h) (laws.same_arrivals.ends.0 (cancelled_by_any Region n h cancelled)) (at_the_end_never_arrived m h never)

-- no member passes a barrier before every member of the team has arrived there, unless the region is cancelled
pub never_passes_before_all :
    (members barrier m x : ℕ) (h : List Event) → NobodyCancelled Region h → x < members → ((tag : Tag) → Happened (Arrive barrier x tag) h → ⊥) → ArrivalLaws members (Pass barrier m ∷ h) → ⊥
never_passes_before_all members barrier m x h whole within never laws =
    let arrived = laws.passes.0 (cancelled_by_none Region h whole) x within in never arrived.0 arrived.1

-- none at the region's end passes a barrier before every member has arrived there, cancelled or not
pub never_leaves_before_all :
    (members barrier g m x : ℕ) (tag : Tag) (h : List Event) →
    tag.kind ≡ RegionEnd → Happened (Arrive g m tag) h → x < members → NeverAtTheEnd x h → ArrivalLaws members (Pass barrier m ∷ h) → ⊥
never_leaves_before_all members barrier g m x tag h kind arrived within never laws =
    not_both (at_region_end x h) (laws.ends.0 (at_the_end_once_arrived g m tag h kind arrived) x within) (at_the_end_never_arrived x h never)
