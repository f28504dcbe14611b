-- What a list of events says of cancellation. The newest event stands first. OpenMP API 5.2, chapter 16.
use Rattle.std.specs.Prelude.{ℕ, ◌==◌, ◌&&◌, ◌||◌, Bool, true, false, if◌then◌else◌, List, [], ◌∷◌, ◌++◌, Option, Some, None}
use Rattle.gomp_types.specs.declared.cancel.CancelKind.{CancelKind}
use Rattle.gomp_types.specs.declared.cancel.CancelKind.TheVariants.{Parallel, Loop, Sections, Taskgroup}
use Rattle.gomp_types.specs.declared.cancel.Scope.{Scope}
use Rattle.gomp_types.specs.declared.cancel.Scope.TheVariants.{Region, OneShare, OneGroup}
use Rattle.gomp_types.specs.declared.loop_desc.EndKind.TheVariants.{Cancellable}
use Rattle.gomp_types.specs.declared.shape.Shape.{Shape}
use Rattle.gomp_types.specs.declared.task.Task.{Task}
use Rattle.gomp_types.specs.declared.task.Task.TheVariants.{Implicit, Explicit}
use Rattle.gomp_events.specs.declared.event.Event.{Event}
use Rattle.gomp_events.specs.declared.event.Event.TheVariants.{Enter, Start, Done, End, Cancel, See}
use Rattle.gomp_events.specs.Events.{open_share}
use Rattle.gomp_types.specs.Shapes.{is_loop, is_sections, same_end}
use Rattle.gomp_events.specs.Tasks.{executed_task}
use Rattle.gomp_events.specs.Groups.{open_groups, groups_around}

-- two constructs name the same kind of region
abbrev pub same_cancel : CancelKind → CancelKind → Bool
same_cancel Parallel Parallel = true
same_cancel Loop Loop = true
same_cancel Sections Sections = true
same_cancel Taskgroup Taskgroup = true
same_cancel _ _ = false

-- two cancellations reach the same
abbrev pub same_scope : Scope → Scope → Bool
same_scope Region Region = true
same_scope (OneShare i) (OneShare j) = i == j
same_scope (OneGroup p) (OneGroup q) = p == q
same_scope _ _ = false

-- What is cancelled

-- whether this was cancelled
abbrev pub was_cancelled : Scope → List Event → Bool
was_cancelled scope [] = false
was_cancelled scope (Cancel member other ∷ earlier) = same_scope other scope || was_cancelled scope earlier
was_cancelled scope (_ ∷ earlier) = was_cancelled scope earlier

-- whether the region was
abbrev pub is_cancelled : List Event → Bool
is_cancelled h = was_cancelled Region h

-- whether the share was; a cancellation of the region is none of the share
abbrev pub share_cancelled : ℕ → List Event → Bool
share_cancelled i h = was_cancelled (OneShare i) h

-- whether this was, if there is one
abbrev pub some_scope_cancelled : Option Scope → List Event → Bool
some_scope_cancelled None h = false
some_scope_cancelled (Some scope) h = was_cancelled scope h

-- whether a share was, if there is one
abbrev pub inside_cancelled : Option (ℕ × Shape) → List Event → Bool
inside_cancelled None h = false
inside_cancelled (Some share) h = share_cancelled share.0 h

-- whether the share was that the member is in
abbrev pub own_cancelled : ℕ → List Event → Bool
own_cancelled m h = inside_cancelled (open_share m h) h

-- whether one of these groups was
abbrev pub some_cancelled : List ℕ → List Event → Bool
some_cancelled [] h = false
some_cancelled (q ∷ qs) h = was_cancelled (OneGroup q) h || some_cancelled qs h

-- the groups whose ends wait for this task: for an explicit one those around it, for an implicit one none
abbrev pub groups_over : Task → List Event → List ℕ
groups_over (Implicit m) h = []
groups_over (Explicit t) h = groups_around t h

-- those whose ends will wait for a task that is created in this one now
abbrev pub groups_within : Task → List Event → List ℕ
groups_within p h = open_groups p h ++ groups_over p h

-- Tasks that a cancellation reaches

-- whether the task is reached: the region is cancelled, or a group whose end waits for it
abbrev pub is_covered : ℕ → List Event → Bool
is_covered t h = is_cancelled h || some_cancelled (groups_around t h) h

-- whether a task would be that is created in this one now
abbrev pub would_be_covered : Task → List Event → Bool
would_be_covered p h = is_cancelled h || some_cancelled (groups_within p h) h

-- What a construct names

-- the first of these numbers
abbrev pub first_in : List ℕ → Option ℕ
first_in [] = None
first_in (q ∷ qs) = Some q

-- a share, of such a kind, by its number
abbrev pub share_scope : (Shape → Bool) → Option (ℕ × Shape) → Option Scope
share_scope is None = None
share_scope is (Some share) = if is share.1 then Some (OneShare share.0) else None

-- a group by its number
abbrev pub group_scope : Option ℕ → Option Scope
group_scope None = None
group_scope (Some q) = Some (OneGroup q)

-- what a cancellation of this kind by the member reaches, if there is such a thing: of the groups whose ends wait for its task the one that was opened last
abbrev pub scope_of : CancelKind → ℕ → List Event → Option Scope
scope_of Parallel m h = Some Region
scope_of Loop m h = share_scope (λ shape. is_loop shape.kind) (open_share m h)
scope_of Sections m h = share_scope (λ shape. is_sections shape.kind) (open_share m h)
scope_of Taskgroup m h = group_scope (first_in (groups_over (executed_task m h) h))

-- whether what it names is cancelled; a task is so by any group around it, and by the region (own)
abbrev pub names_cancelled : CancelKind → ℕ → List Event → Bool
names_cancelled Parallel m h = is_cancelled h
names_cancelled Loop m h = some_scope_cancelled (scope_of Loop m h) h
names_cancelled Sections m h = some_scope_cancelled (scope_of Sections m h) h
names_cancelled Taskgroup m h = is_cancelled h || some_cancelled (groups_over (executed_task m h) h) h

-- whether the member's share may be cancelled
abbrev pub may_be_cancelled : Option (ℕ × Shape) → Bool
may_be_cancelled None = false
may_be_cancelled (Some share) = same_end share.1.end_kind Cancellable

-- Members that leave (own)

-- whether the member has seen that the region is cancelled: it goes to the region's end
abbrev pub leaves_region : ℕ → List Event → Bool
leaves_region m [] = false
leaves_region m (See member kind ∷ earlier) = (member == m && same_cancel kind Parallel) || leaves_region m earlier
leaves_region m (_ ∷ earlier) = leaves_region m earlier

-- whether it has seen that of the share that it is in: it goes to the share's end
abbrev pub leaves_share : ℕ → List Event → Bool
leaves_share m [] = false
leaves_share m (See member kind ∷ earlier) = (member == m && (same_cancel kind Loop || same_cancel kind Sections)) || leaves_share m earlier
leaves_share m (Enter share member shape ∷ earlier) = if member == m then false else leaves_share m earlier
leaves_share m (End share member ∷ earlier) = if member == m then false else leaves_share m earlier
leaves_share m (_ ∷ earlier) = leaves_share m earlier

-- whether it has seen that of the task that it executes: it goes to the task's end
abbrev pub leaves_task : ℕ → List Event → Bool
leaves_task m [] = false
leaves_task m (See member kind ∷ earlier) = (member == m && same_cancel kind Taskgroup) || leaves_task m earlier
leaves_task m (Start task member ∷ earlier) = if member == m then false else leaves_task m earlier
leaves_task m (Done task member ∷ earlier) = if member == m then false else leaves_task m earlier
leaves_task m (_ ∷ earlier) = leaves_task m earlier

-- whether it leaves anything
abbrev pub is_leaving : ℕ → List Event → Bool
is_leaving m h = leaves_region m h || leaves_share m h || leaves_task m h
