-- What each part of the rules of tasks, groups, arrivals and cancellations forbids, of any member, task and list of events; and what no fair deal of the pieces of a share does.
use Rattle.std.proofs.Common.{◌≡◌, ◌≢◌, ℕ, ◌<◌, ◌≤◌, Bool, true, false, List, [], ◌∷◌, ◌++◌, Some, None, Option, refl, ap, sym, ◌∙◌, arith, inl, inr, suc, length, slice_get}
use Rattle.std.specs.Prelude.{◌&&◌, if◌then◌else◌}
use Rattle.std.proofs.lemmas.Bool.Decides.{eqb_tells}
use Rattle.gomp_types.specs.declared.task.Task.{Task}
use Rattle.gomp_types.specs.declared.task.Task.TheVariants.{Implicit, Explicit}
use Rattle.gomp_types.specs.declared.task.TaskDesc.{TaskDesc}
use Rattle.gomp_types.specs.declared.depend.Dep.{Dep}
use Rattle.gomp_types.specs.declared.limits.TheConstants.{MAX_TASK_DEPTH}
use Rattle.gomp_types.specs.declared.cancel.CancelKind.{CancelKind}
use Rattle.gomp_types.specs.declared.cancel.CancelKind.TheVariants.{Parallel, Loop, Sections, Taskgroup}
use Rattle.gomp_types.specs.declared.cancel.Scope.{Scope}
use Rattle.gomp_types.specs.declared.cancel.Scope.TheVariants.{Region, OneShare, OneGroup}
use Rattle.gomp_events.specs.declared.event.Arrival.TheVariants.{RegionEnd}
use Rattle.gomp_types.specs.declared.shape.Shape.{Shape}
use Rattle.gomp_events.specs.declared.event.Tag.{Tag}
use Rattle.gomp_events.specs.declared.event.Event.{Event}
use Rattle.gomp_events.specs.declared.event.Event.TheVariants.{Create, Start, Done, Discard, Group, GroupEnd, Waited, Arrive, Pass, Cancel, See}
use Rattle.gomp_events.specs.Events.{barriers_passed, tag_at, at_barrier, at_region_end, has_left_region, open_share}
use Rattle.gomp_events.specs.Tasks.{tasks_created, executed_task, in_task, depth_of, is_undeferred}
use Rattle.gomp_events.specs.Groups.{groups_opened, open_groups, groups_around, group_complete}
use Rattle.gomp_events.specs.Goals.{region_met, may_pass, is_unstarted, may_start, is_own, taskwait_met}
use Rattle.gomp_events.specs.Cancels.{groups_over, is_covered, would_be_covered, first_in, share_scope, group_scope, scope_of, some_scope_cancelled, names_cancelled}
use Rattle.gomp_events.specs.Laws.{Happened}
use Rattle.gomp_events.specs.TaskRules.{TaskRule}
use Rattle.gomp_events.specs.Arrivals.{ArrivalRule}
use Rattle.gomp_events.specs.CancelRules.{CancelRule}
use Rattle.gomp_types.specs.Pieces.{Piece, Tiles}
use Rattle.gomp_types.specs.Deals.{Queues, FirstOfQueue, times, IsDealt}
use Rattle.gomp_types.proofs.Booleans.{not_both}
use Rattle.gomp_events.proofs.Refutations.{cancelled_by_any, cancelled_by_none, none_reached}

-- Creation

-- nobody but a member of the team creates a task
pub outsider_never_creates : (members t m : ℕ) (p : Task) (desc : TaskDesc) (h : List Event) → members ≤ m → TaskRule members (Create t m p desc) h → ⊥
outsider_never_creates members t m p desc h out rule = let within = rule.member in absurd (omega (arith, out, within))

-- no number is passed over, and none given twice
pub number_never_left_out : (members t m : ℕ) (p : Task) (desc : TaskDesc) (h : List Event) → t ≢ suc (tasks_created h) → TaskRule members (Create t m p desc) h → ⊥
number_never_left_out members t m p desc h differs rule = differs rule.number

-- no task is created in another than the one that the member executes
pub another_never_created_in : (members t m : ℕ) (p : Task) (desc : TaskDesc) (h : List Event) → p ≢ executed_task m h → TaskRule members (Create t m p desc) h → ⊥
another_never_created_in members t m p desc h differs rule = differs rule.current

-- none in an implicit task whose member waits at a barrier
pub implicit_never_creates_waiting : (members t m : ℕ) (p : Task) (desc : TaskDesc) (h : List Event) → in_task m h ≡ false → at_barrier m h ≡ true → TaskRule members (Create t m p desc) h → ⊥
implicit_never_creates_waiting members t m p desc h outside waits rule = not_both (at_barrier m h) waits (rule.away outside)

-- none below the deepest
pub deepest_never_creates : (members t m : ℕ) (p : Task) (desc : TaskDesc) (h : List Event) → MAX_TASK_DEPTH ≤ depth_of p h → TaskRule members (Create t m p desc) h → ⊥
deepest_never_creates members t m p desc h deep rule = let shallow = rule.shallow in absurd (omega (arith, deep, shallow))

-- and none that a cancellation would reach
pub covered_never_created : (members t m : ℕ) (p : Task) (desc : TaskDesc) (h : List Event) → would_be_covered p h ≡ true → TaskRule members (Create t m p desc) h → ⊥
covered_never_created members t m p desc h covered rule = not_both (would_be_covered p h) covered rule.uncovered

-- Start and end

-- nobody but a member of the team starts a task
pub outsider_never_starts : (members t m : ℕ) (h : List Event) → members ≤ m → TaskRule members (Start t m) h → ⊥
outsider_never_starts members t m h out rule = let within = rule.member in absurd (omega (arith, out, within))

-- nor a member one that it may not
pub forbidden_never_started : (members t m : ℕ) (h : List Event) → may_start m t h ≡ false → TaskRule members (Start t m) h → ⊥
forbidden_never_started members t m h never rule = not_both (may_start m t h) rule.may never

-- nor an undeferred one that it did not create in the task that it executes
pub undeferred_never_started_elsewhere : (members t m : ℕ) (h : List Event) → is_undeferred t h ≡ true → is_own m t h ≡ false → TaskRule members (Start t m) h → ⊥
undeferred_never_started_elsewhere members t m h undeferred never rule = not_both (is_own m t h) (rule.own undeferred) never

-- nobody but a member of the team ends a task
pub outsider_never_ends : (members t m : ℕ) (h : List Event) → members ≤ m → TaskRule members (Done t m) h → ⊥
outsider_never_ends members t m h out rule = let within = rule.member in absurd (omega (arith, out, within))

-- nor a member another than the one that it executes
pub another_never_ended : (members t m : ℕ) (h : List Event) → executed_task m h ≢ Explicit t → TaskRule members (Done t m) h → ⊥
another_never_ended members t m h differs rule = differs rule.current

-- nobody but a member of the team has a task discarded
pub outsider_never_discards : (members t m : ℕ) (h : List Event) → members ≤ m → TaskRule members (Discard t m) h → ⊥
outsider_never_discards members t m h out rule = let within = rule.member in absurd (omega (arith, out, within))

-- nor is one that is started or complete, or was not created
pub started_never_discarded : (members t m : ℕ) (h : List Event) → is_unstarted t h ≡ false → TaskRule members (Discard t m) h → ⊥
started_never_discarded members t m h never rule = not_both (is_unstarted t h) rule.unstarted never

-- nor one that no cancellation reaches
pub uncovered_never_discarded : (members t m : ℕ) (h : List Event) → is_covered t h ≡ false → TaskRule members (Discard t m) h → ⊥
uncovered_never_discarded members t m h never rule = not_both (is_covered t h) rule.covered never

-- Groups and waits

-- nobody but a member of the team opens a group
pub outsider_never_opens : (members q m : ℕ) (h : List Event) → members ≤ m → TaskRule members (Group q m) h → ⊥
outsider_never_opens members q m h out rule = let within = rule.member in absurd (omega (arith, out, within))

-- and no number of a group is passed over
pub group_never_left_out : (members q m : ℕ) (h : List Event) → q ≢ groups_opened h → TaskRule members (Group q m) h → ⊥
group_never_left_out members q m h differs rule = differs rule.number

-- nobody but a member of the team ends a group
pub outsider_never_ends_group : (members q m : ℕ) (h : List Event) → members ≤ m → TaskRule members (GroupEnd q m) h → ⊥
outsider_never_ends_group members q m h out rule = let within = rule.member in absurd (omega (arith, out, within))

-- nor a member another than the last that is open in the task that it executes
pub outer_group_never_ended : (members q m : ℕ) (h : List Event) → ((outer : List ℕ) → open_groups (executed_task m h) h ≢ q ∷ outer) → TaskRule members (GroupEnd q m) h → ⊥
outer_group_never_ended members q m h never rule = never rule.outer rule.last

-- nor one with a task that is not complete
pub incomplete_group_never_ended : (members q m : ℕ) (h : List Event) → group_complete q h ≡ false → TaskRule members (GroupEnd q m) h → ⊥
incomplete_group_never_ended members q m h never rule = not_both (group_complete q h) rule.complete never

-- nobody but a member of the team ends a taskwait
pub outsider_never_waits : (members m : ℕ) (items : List Dep) (h : List Event) → members ≤ m → TaskRule members (Waited m items) h → ⊥
outsider_never_waits members m items h out rule = let within = rule.member in absurd (omega (arith, out, within))

-- nor a member before the tasks are complete for which it waits
pub unmet_wait_never_ends : (members m : ℕ) (items : List Dep) (h : List Event) → taskwait_met (executed_task m h) items h ≡ false → TaskRule members (Waited m items) h → ⊥
unmet_wait_never_ends members m items h never rule = not_both (taskwait_met (executed_task m h) items h) rule.complete never

-- Barriers

-- no member arrives at a barrier but its next one
pub barrier_never_left_out : (members barrier m : ℕ) (tag : Tag) (h : List Event) → barrier ≢ barriers_passed m h → ArrivalRule members (Arrive barrier m tag) h → ⊥
barrier_never_left_out members barrier m tag h differs rule = differs rule.number

-- nor with another tag than was found there, unless the region is cancelled
pub tag_never_differs :
    (members barrier m : ℕ) (tag other : Tag) (h : List Event) → ((n : ℕ) → Happened (Cancel n Region) h → ⊥) → tag_at barrier h ≡ Some other → other ≢ tag → ArrivalRule members (Arrive barrier m tag) h → ⊥
tag_never_differs members barrier m tag other h whole there differs rule = differs (rule.same (cancelled_by_none Region h whole) other there)

-- nor in a cancelled region but at its end
pub cancelled_never_arrives : (members barrier m n : ℕ) (tag : Tag) (h : List Event) → Happened (Cancel n Region) h → tag.kind ≢ RegionEnd → ArrivalRule members (Arrive barrier m tag) h → ⊥
cancelled_never_arrives members barrier m n tag h cancelled differs rule = differs (rule.ends (cancelled_by_any Region n h cancelled))

-- no member passes a barrier but its next one
pub barrier_never_passed_over : (members barrier m : ℕ) (h : List Event) → barrier ≢ barriers_passed m h → ArrivalRule members (Pass barrier m) h → ⊥
barrier_never_passed_over members barrier m h differs rule = differs rule.number

-- nor before it may
pub unmet_barrier_never_passed : (members barrier m : ℕ) (h : List Event) → may_pass members m h ≡ false → ArrivalRule members (Pass barrier m) h → ⊥
unmet_barrier_never_passed members barrier m h never rule = not_both (may_pass members m h) rule.met never

-- and no member passes a cancelled region's end twice
pub cancelled_never_passes_twice : (members barrier m n : ℕ) (h : List Event) → Happened (Cancel n Region) h → has_left_region m h ≡ true → ArrivalRule members (Pass barrier m) h → ⊥
cancelled_never_passes_twice members barrier m n h cancelled left rule = left_once (at_region_end m h) (region_met members h) (rw (cancelled_by_any Region n h cancelled, left) at rule.met)
  where
    left_once : (a b : Bool) → (if a then b && false else false) ≡ true → ⊥
    left_once true true e = cc
    left_once true false e = cc
    left_once false b e = cc

-- Cancellation

-- nobody but a member of the team cancels anything
pub outsider_never_cancels : (members m : ℕ) (scope : Scope) (h : List Event) → members ≤ m → CancelRule members (Cancel m scope) h → ⊥
outsider_never_cancels members m scope h out rule = let within = rule.member in absurd (omega (arith, out, within))

-- nor a member what none of its constructs names
pub unnamed_never_cancelled : (members m : ℕ) (scope : Scope) (h : List Event) → ((kind : CancelKind) → scope_of kind m h ≢ Some scope) → CancelRule members (Cancel m scope) h → ⊥
unnamed_never_cancelled members m scope h never rule = never rule.kind rule.named

in_group_scope : (found : Option ℕ) (i : ℕ) → group_scope found ≡ Some (OneShare i) → ⊥
in_group_scope None i e = cc
in_group_scope (Some q) i e = cc

in_share_scope : (is : Shape → Bool) (own : Option (ℕ × Shape)) (q : ℕ) → share_scope is own ≡ Some (OneGroup q) → ⊥
in_share_scope is None q e = cc
in_share_scope is (Some share) q e = by (is share.1) e
  where
    by : (b : Bool) → (if b then Some (OneShare share.0) else None) ≡ Some (OneGroup q) → ⊥
    by true same = cc
    by false same = cc

other_share_scope : (is : Shape → Bool) (own : Option (ℕ × Shape)) (i : ℕ) → ((share : ℕ × Shape) → own ≡ Some share → share.0 ≢ i) → share_scope is own ≡ Some (OneShare i) → ⊥
other_share_scope is None i differs e = cc
other_share_scope is (Some share) i differs e = by (is share.1) e
  where
    by : (b : Bool) → (if b then Some (OneShare share.0) else None) ≡ Some (OneShare i) → ⊥
    by true same = differs share refl (cc)
    by false same = cc

-- so no share but the one that the member is in
pub another_share_never_cancelled : (members m i : ℕ) (h : List Event) → ((share : ℕ × Shape) → open_share m h ≡ Some share → share.0 ≢ i) → CancelRule members (Cancel m (OneShare i)) h → ⊥
another_share_never_cancelled members m i h differs = unnamed_never_cancelled members m (OneShare i) h by
  where
    by : (kind : CancelKind) → scope_of kind m h ≢ Some (OneShare i)
    by Parallel = λ e. cc
    by Loop = λ e. other_share_scope _ (open_share m h) i differs e
    by Sections = λ e. other_share_scope _ (open_share m h) i differs e
    by Taskgroup = λ e. in_group_scope (first_in (groups_over (executed_task m h) h)) i e

-- and no group from an implicit task
pub implicit_never_cancels_group : (members m q x : ℕ) (h : List Event) → executed_task m h ≡ Implicit x → CancelRule members (Cancel m (OneGroup q)) h → ⊥
implicit_never_cancels_group members m q x h implicit = unnamed_never_cancelled members m (OneGroup q) h by
  where
    by : (kind : CancelKind) → scope_of kind m h ≢ Some (OneGroup q)
    by Parallel = λ e. cc
    by Loop = λ e. in_share_scope _ (open_share m h) q e
    by Sections = λ e. in_share_scope _ (open_share m h) q e
    by Taskgroup = λ e. let none = rw implicit at e in cc

-- nor from an explicit one another than the innermost around it
pub another_group_never_cancelled : (members m q t : ℕ) (h : List Event) → executed_task m h ≡ Explicit t → first_in (groups_around t h) ≢ Some q → CancelRule members (Cancel m (OneGroup q)) h → ⊥
another_group_never_cancelled members m q t h explicit differs = unnamed_never_cancelled members m (OneGroup q) h by
  where
    group_found : (found : Option ℕ) → found ≢ Some q → group_scope found ≡ Some (OneGroup q) → ⊥
    group_found None other e = cc
    group_found (Some g) other e = other (let same : g ≡ q = cc in ap Some same)

    by : (kind : CancelKind) → scope_of kind m h ≢ Some (OneGroup q)
    by Parallel = λ e. cc
    by Loop = λ e. in_share_scope _ (open_share m h) q e
    by Sections = λ e. in_share_scope _ (open_share m h) q e
    by Taskgroup = λ e. group_found (first_in (groups_around t h)) differs (rw explicit at e)

-- nobody but a member of the team sees a cancellation
pub outsider_never_sees : (members m : ℕ) (kind : CancelKind) (h : List Event) → members ≤ m → CancelRule members (See m kind) h → ⊥
outsider_never_sees members m kind h out rule = let within = rule.member in absurd (omega (arith, out, within))

-- nor a member one of what its construct does not name
pub unnamed_never_seen : (members m : ℕ) (kind : CancelKind) (h : List Event) → names_cancelled kind m h ≡ false → CancelRule members (See m kind) h → ⊥
unnamed_never_seen members m kind h never rule = not_both (names_cancelled kind m h) rule.cancelled never

nothing_named : (found : Option Scope) (h : List Event) → ((scope : Scope) (n : ℕ) → Happened (Cancel n scope) h → ⊥) → some_scope_cancelled found h ≡ false
nothing_named None h never = refl
nothing_named (Some scope) h never = cancelled_by_none scope h (never scope)

-- so none while nothing was cancelled
pub uncancelled_never_seen : (members m : ℕ) (kind : CancelKind) (h : List Event) → ((scope : Scope) (n : ℕ) → Happened (Cancel n scope) h → ⊥) → CancelRule members (See m kind) h → ⊥
uncancelled_never_seen members m kind h never = unnamed_never_seen members m kind h (by kind)
  where
    by : (kind : CancelKind) → names_cancelled kind m h ≡ false
    by Parallel = cancelled_by_none Region h (never Region)
    by Loop = nothing_named (scope_of Loop m h) h never
    by Sections = nothing_named (scope_of Sections m h) h never
    by Taskgroup = rw (cancelled_by_none Region h (never Region)) (none_reached (groups_over (executed_task m h) h) h (λ q. never (OneGroup q)))

-- Deals

-- no iteration lies in the queues of two members, unless these are one queue
pub never_in_two_queues :
    (queues : Queues) (members k m n : ℕ) (shape : Shape) → m < members → n < members → queues.queue_of shape m ≢ queues.queue_of shape n →
    0 < times k (queues.queue shape (queues.queue_of shape m)) → 0 < times k (queues.queue shape (queues.queue_of shape n)) → IsDealt queues members shape → ⊥
never_in_two_queues queues members k m n shape first second differs one other dealt = elim (eqb_tells (queues.queue_of shape m) (dealt.queue_with k)) [
  | inl here ↦ elim (eqb_tells (queues.queue_of shape n) (dealt.queue_with k)) [
    | inl too ↦ differs (here.1 ∙ sym too.1)
    | inr away ↦ let none = dealt.not_in_another k n second away.1 in absurd (omega (arith, none, other))
  ]
  | inr away ↦ let none = dealt.not_in_another k m first away.1 in absurd (omega (arith, none, one))
]

-- nor twice in one
pub never_dealt_twice :
    (queues : Queues) (members k m : ℕ) (shape : Shape) → m < members → 1 < times k (queues.queue shape (queues.queue_of shape m)) → IsDealt queues members shape → ⊥
never_dealt_twice queues members k m shape first twice dealt = elim (eqb_tells (queues.queue_of shape m) (dealt.queue_with k)) [
  | inl here ↦ let most = dealt.most k in let same : times k (queues.queue shape (queues.queue_of shape m)) ≤ 1 = rw here.1 most in absurd (omega (arith, same, twice))
  | inr away ↦ let none = dealt.not_in_another k m first away.1 in absurd (omega (arith, none, twice))
]

-- none is left out
pub never_left_undealt :
    (queues : Queues) (members k : ℕ) (shape : Shape) → k < shape.trips → ((m : ℕ) → m < members → times k (queues.queue shape (queues.queue_of shape m)) ≡ 0) → IsDealt queues members shape → ⊥
never_left_undealt queues members k shape within none dealt =
    let taker = dealt.taker k within in
    let one = dealt.one k within in
    let zero : times k (queues.queue shape (dealt.queue_with k)) ≡ 0 = rw (← taker.2) (none taker.0 taker.1) in
    absurd (omega (arith, zero, one))

-- no piece of a member is empty
pub never_an_empty_piece :
    (queues : Queues) (members m n : ℕ) (shape : Shape) (piece : Piece) → m < members → slice_get (queues.queue shape (queues.queue_of shape m)) n ≡ Some piece → piece.1 ≤ piece.0 → IsDealt queues members shape → ⊥
never_an_empty_piece queues members m n shape piece first at empty dealt = let some = dealt.some m n piece first at in absurd (omega (arith, some, empty))

-- and none leads past the last iteration
pub never_past_the_last :
    (queues : Queues) (members m n : ℕ) (shape : Shape) (piece : Piece) → m < members → slice_get (queues.queue shape (queues.queue_of shape m)) n ≡ Some piece → shape.trips < piece.1 → IsDealt queues members shape → ⊥
never_past_the_last queues members m n shape piece first at past dealt = let within = dealt.within m n piece first at in absurd (omega (arith, within, past))

-- the pieces of a share leave no gap and do not overlap
pub never_a_gap : (low high : ℕ) (first later : List Piece) (one other : Piece) → other.0 ≢ one.1 → Tiles low (first ++ one ∷ other ∷ later) high → ⊥
never_a_gap low high [] later one other differs tiles = differs tiles.2.0
never_a_gap low high (piece ∷ first) later one other differs tiles = never_a_gap piece.1 high first later one other differs tiles.2

-- nor is one empty
pub never_tiled_by_none : (low high : ℕ) (first later : List Piece) (piece : Piece) → piece.1 ≤ piece.0 → Tiles low (first ++ piece ∷ later) high → ⊥
never_tiled_by_none low high [] later piece empty tiles = let begin = tiles.0 in let some = tiles.1 in absurd (omega (arith, begin, some, empty))
never_tiled_by_none low high (other ∷ first) later piece empty tiles = never_tiled_by_none other.1 high first later piece empty tiles.2

-- the first begins at the beginning
pub never_begins_elsewhere : (low high : ℕ) (piece : Piece) (later : List Piece) → piece.0 ≢ low → Tiles low (piece ∷ later) high → ⊥
never_begins_elsewhere low high piece later differs tiles = differs tiles.0

-- and the last ends at the end
pub never_ends_elsewhere : (low high : ℕ) (first : List Piece) (piece : Piece) → piece.1 ≢ high → Tiles low (first ++ piece ∷ []) high → ⊥
never_ends_elsewhere low high [] piece differs tiles = differs tiles.2
never_ends_elsewhere low high (other ∷ first) piece differs tiles = never_ends_elsewhere other.1 high first piece differs tiles.2

-- if there is none, there is nothing to tile
pub never_without_a_piece : (low high : ℕ) → low ≢ high → Tiles low [] high → ⊥
never_without_a_piece low high differs tiles = differs tiles

-- no piece is the first of a queue that does not stand there behind those that were taken
pub never_out_of_turn : (queue taken : List Piece) (piece : Piece) → slice_get queue (length taken) ≢ Some piece → FirstOfQueue queue taken piece → ⊥
never_out_of_turn queue taken piece differs first = differs (rw first.1 (stands_behind taken first.0))
  where
    stands_behind : (front rest : List Piece) → slice_get (front ++ piece ∷ rest) (length front) ≡ Some piece
    stands_behind [] rest = refl
    stands_behind (other ∷ front) rest = stands_behind front rest

-- nor behind other pieces than those
pub never_behind_others : (queue taken : List Piece) (piece : Piece) → ((rest : List Piece) → queue ≢ taken ++ rest) → FirstOfQueue queue taken piece → ⊥
never_behind_others queue taken piece differs first = differs (piece ∷ first.0) first.1
