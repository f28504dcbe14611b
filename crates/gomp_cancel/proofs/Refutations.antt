-- What no cancellation point asks, and which task is not cancelled, of any member, task and list of events.
use Rattle.std.proofs.Common.{◌≡◌, ℕ, true, false, List, ◌∷◌, sym, ◌∙◌}
use Rattle.gomp_types.specs.declared.cancel.CancelKind.TheVariants.{Taskgroup}
use Rattle.gomp_types.specs.declared.cancel.Scope.{Scope}
use Rattle.gomp_types.specs.declared.cancel.Scope.TheVariants.{OneGroup}
use Rattle.std.specs.Prelude.{◌&&◌}
use Rattle.gomp_types.specs.declared.task.Task.TheVariants.{Explicit}
use Rattle.gomp_events.specs.declared.event.Event.{Event}
use Rattle.gomp_events.specs.declared.event.Event.TheVariants.{Cancel}
use Rattle.gomp_events.specs.Tasks.{executed_task}
use Rattle.gomp_events.specs.Groups.{in_group}
use Rattle.gomp_events.specs.Goals.{is_unstarted}
use Rattle.gomp_events.specs.Cancels.{is_covered, names_cancelled}
use Rattle.gomp_types.proofs.Booleans.{not_both}
use Rattle.gomp_cancel.specs.Cancellations.{task_cancelled}
use Rattle.gomp_cancel.proofs.Laws.{point_asks_the_task, covered_is_cancelled, cancelled_group_reaches_no_other_task, unstarted_once_cancelled, other_tasks_discarded_as_before}

-- no cancellation point of a taskgroup asks anything but whether the task is cancelled that the member executes
pub never_asked_of_another_task : (m : ℕ) (h : List Event) → (names_cancelled Taskgroup m h ≡ task_cancelled (executed_task m h) h → ⊥) → ⊥
never_asked_of_another_task m h wrong = wrong (point_asks_the_task m h)

-- no explicit task is cancelled that no cancellation reaches, and none is not that one reaches
pub never_cancelled_unreached : (t : ℕ) (h : List Event) → (is_covered t h ≡ task_cancelled (Explicit t) h → ⊥) → ⊥
never_cancelled_unreached t h wrong = wrong (covered_is_cancelled t h)

-- no task outside of a group is reached by a cancellation of the group alone
pub never_reached_from_another_group : (t q m : ℕ) (h : List Event) → in_group q t h ≡ false → is_covered t h ≡ false → is_covered t (Cancel m (OneGroup q) ∷ h) ≡ true → ⊥
never_reached_from_another_group t q m h away uncovered covered = not_both (is_covered t h) (sym (cancelled_group_reaches_no_other_task t q m h away) ∙ covered) uncovered

-- nor is it discarded by it, unless it was to be before
pub never_discarded_from_another_group : (t q m : ℕ) (h : List Event) → in_group q t h ≡ false → (is_unstarted t h && is_covered t h) ≡ false → (is_unstarted t (Cancel m (OneGroup q) ∷ h) && is_covered t (Cancel m (OneGroup q) ∷ h)) ≡ true → ⊥
never_discarded_from_another_group t q m h away before discarded = not_both (is_unstarted t h && is_covered t h) (sym (other_tasks_discarded_as_before t q m h away) ∙ discarded) before

-- no cancellation starts or ends a task
pub never_started_by_a_cancellation : (t m : ℕ) (scope : Scope) (h : List Event) → is_unstarted t h ≡ true → is_unstarted t (Cancel m scope ∷ h) ≡ false → ⊥
never_started_by_a_cancellation t m scope h before after = not_both (is_unstarted t h) before (sym (unstarted_once_cancelled t m scope h) ∙ after)
