-- What holds of every list of events for which a cancellation stands: the laws that the crates above cite.
use Rattle.std.proofs.Common.{◌≡◌, ℕ, false, List, [], ◌∷◌, length, refl, ap, sym, ◌∙◌}
use Rattle.std.specs.Prelude.{◌==◌, ◌||◌, ◌&&◌, Bool}
use Rattle.gomp_types.specs.declared.cancel.CancelKind.TheVariants.{Taskgroup}
use Rattle.gomp_types.specs.declared.cancel.Scope.{Scope}
use Rattle.gomp_types.specs.declared.cancel.Scope.TheVariants.{Region, OneShare, OneGroup}
use Rattle.gomp_types.specs.declared.task.Task.TheVariants.{Explicit}
use Rattle.gomp_events.specs.declared.event.Event.{Event}
use Rattle.gomp_events.specs.declared.event.Event.TheVariants.{Cancel, Group}
use Rattle.gomp_events.specs.Tasks.{contains, executed_task}
use Rattle.gomp_events.specs.Groups.{groups_around, in_group}
use Rattle.gomp_events.specs.Goals.{is_unstarted}
use Rattle.gomp_events.specs.Cancels.{is_cancelled, some_cancelled, is_covered, names_cancelled}
use Rattle.gomp_types.proofs.Booleans.{or_false, other_number, unequal_numbers, neither_left}
use Rattle.gomp_groups.specs.Stands.{GroupsView, Stands}
use Rattle.gomp_cancel.specs.Cancellations.{CancelView, CancelStands, task_cancelled, IsNoCancelEvent}

-- an event that neither cancels the region or a group nor opens a group changes nothing of what is cancelled
pub events_aside_keep_cancelled : (cancelled : CancelView) (h : List Event) (event : Event) → IsNoCancelEvent event → CancelStands cancelled h → CancelStands cancelled (event ∷ h)
events_aside_keep_cancelled cancelled h (Group q m) is st = absurd is
events_aside_keep_cancelled cancelled h (Cancel m Region) is st = absurd is
events_aside_keep_cancelled cancelled h (Cancel m (OneGroup q)) is st = absurd is
events_aside_keep_cancelled cancelled h (Cancel m (OneShare i)) is st = record { region = st.region; opened = st.opened; marked = st.marked }
events_aside_keep_cancelled cancelled h event is st = record { region = st.region; opened = st.opened; marked = st.marked }

-- if the groups stand for the events too, there is a mark for each
pub each_group_has_a_mark : (cancelled : CancelView) (groups : GroupsView) (h : List Event) → CancelStands cancelled h → Stands groups h → length cancelled.marks ≡ length groups.groups
each_group_has_a_mark cancelled groups h st stands = sym st.opened ∙ stands.opened

-- what a cancellation point of a taskgroup asks is whether the task is cancelled that the member executes
pub point_asks_the_task : (m : ℕ) (h : List Event) → names_cancelled Taskgroup m h ≡ task_cancelled (executed_task m h) h
point_asks_the_task m h = refl

-- an explicit task is cancelled exactly if a cancellation reaches it
pub covered_is_cancelled : (t : ℕ) (h : List Event) → is_covered t h ≡ task_cancelled (Explicit t) h
covered_is_cancelled t h = refl

-- a cancellation of a group cancels no other
other_groups_stay_uncancelled : (q m : ℕ) (h : List Event) (qs : List ℕ) → contains q qs ≡ false → some_cancelled qs (Cancel m (OneGroup q) ∷ h) ≡ some_cancelled qs h
other_groups_stay_uncancelled q m h [] away = refl
other_groups_stay_uncancelled q m h (x ∷ qs) away =
    let differ = unequal_numbers x q (neither_left (x == q) (contains q qs) away) in
    let other : (q == x) ≡ false = other_number q x (λ e. differ (sym e)) in
    rw (other, other_groups_stay_uncancelled q m h qs (or_false (x == q) (contains q qs) away)) refl

-- so it reaches no task that is not in the group
pub cancelled_group_reaches_no_other_task : (t q m : ℕ) (h : List Event) → in_group q t h ≡ false → is_covered t (Cancel m (OneGroup q) ∷ h) ≡ is_covered t h
cancelled_group_reaches_no_other_task t q m h away = ap (λ (some : Bool). is_cancelled h || some) (other_groups_stay_uncancelled q m h (groups_around t h) away)

-- and no cancellation starts or ends a task
pub unstarted_once_cancelled : (t m : ℕ) (scope : Scope) (h : List Event) → is_unstarted t (Cancel m scope ∷ h) ≡ is_unstarted t h
unstarted_once_cancelled t m scope h = refl

-- so nothing is to be discarded that is not in the group, unless it was before
pub other_tasks_discarded_as_before : (t q m : ℕ) (h : List Event) → in_group q t h ≡ false → (is_unstarted t (Cancel m (OneGroup q) ∷ h) && is_covered t (Cancel m (OneGroup q) ∷ h)) ≡ (is_unstarted t h && is_covered t h)
other_tasks_discarded_as_before t q m h away = ap (λ (covered : Bool). is_unstarted t h && covered) (cancelled_group_reaches_no_other_task t q m h away)
