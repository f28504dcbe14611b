-- What of a team is cancelled, by examples: for each line of a definition what it says, and what it alone refuses.
use Rattle.std.proofs.Common.{◌≡◌, ℕ, true, false, List, [], ◌∷◌, get_or, suc, zero, refl, arith}
use Rattle.std.specs.Prelude.{◌==◌}
use Rattle.gomp_types.specs.declared.cancel.CancelKind.{CancelKind}
use Rattle.gomp_types.specs.declared.cancel.Scope.TheVariants.{Region, OneShare, OneGroup}
use Rattle.gomp_types.specs.declared.refusal.Place.{Place}
use Rattle.gomp_types.specs.declared.key.Key.{Key}
use Rattle.gomp_types.specs.declared.shape.Shape.{Shape}
use Rattle.gomp_types.specs.declared.task.Task.{Task}
use Rattle.gomp_types.specs.declared.task.Task.TheVariants.{Implicit, Explicit}
use Rattle.gomp_events.specs.declared.event.Tag.{Tag}
use Rattle.gomp_events.specs.declared.event.Event.TheVariants.{Enter, Take, Drained, End, HandOn, Part, PartEnd, Put, Got, Arrive, Pass, Hold, Free, Create, Start, Done, Group, GroupEnd, Waited, Cancel, Discard, See, Break}
use Rattle.gomp_events.specs.Cancels.{was_cancelled}
use Rattle.gomp_types.proofs.Booleans.{other_number}
use Rattle.gomp_groups.specs.Examples.{some_desc}
use Rattle.gomp_cancel.specs.Cancellations.{CancelStands, task_cancelled, IsNoCancelEvent}
use Rattle.gomp_cancel.specs.Examples.{cancelled_with, two_groups, second_cancelled, region_cancelled}

-- What is cancelled

-- of two groups the second
pub second_cancellation_stands : CancelStands (cancelled_with false (false ∷ true ∷ [])) second_cancelled
second_cancellation_stands = record { region = refl; opened = refl; marked = marked }
  where
    marked : (q : ℕ) → was_cancelled (OneGroup q) second_cancelled ≡ get_or (false ∷ true ∷ []) q false
    marked zero = refl
    marked (suc zero) = refl
    marked (suc (suc q)) = let other : (1 == suc (suc q)) ≡ false = other_number 1 (suc (suc q)) (λ e. omega (arith, e)) in rw other refl

-- the region, and no group
pub region_stands : CancelStands (cancelled_with true (false ∷ false ∷ [])) region_cancelled
region_stands = record { region = refl; opened = refl; marked = marked }
  where
    marked : (q : ℕ) → was_cancelled (OneGroup q) region_cancelled ≡ get_or (false ∷ false ∷ []) q false
    marked zero = refl
    marked (suc zero) = refl
    marked (suc (suc q)) = refl

-- not the region, if a group was cancelled
pub region_for_a_group : CancelStands (cancelled_with true (false ∷ true ∷ [])) second_cancelled → ⊥
region_for_a_group stands = absurd (let region = stands.region in cc)

-- the region forgotten
pub region_is_forgotten : CancelStands (cancelled_with false (false ∷ false ∷ [])) region_cancelled → ⊥
region_is_forgotten stands = absurd (let region = stands.region in cc)

-- a group without its mark, and a mark without its group
pub mark_is_missing : CancelStands (cancelled_with true (false ∷ [])) region_cancelled → ⊥
mark_is_missing stands = absurd (let opened = stands.opened in omega (arith, opened))

pub mark_too_many : CancelStands (cancelled_with true (false ∷ false ∷ false ∷ [])) region_cancelled → ⊥
mark_too_many stands = absurd (let opened = stands.opened in omega (arith, opened))

-- the mark of the group around it, and none at all
pub mark_of_the_first : CancelStands (cancelled_with false (true ∷ true ∷ [])) second_cancelled → ⊥
mark_of_the_first stands = absurd (let marked = stands.marked 0 in cc)

pub mark_is_lost : CancelStands (cancelled_with false (false ∷ false ∷ [])) second_cancelled → ⊥
mark_is_lost stands = absurd (let marked = stands.marked 1 in cc)

-- a group that was cancelled, and not opened
pub cancelled_unopened : CancelStands (cancelled_with false []) (Cancel 0 (OneGroup 0) ∷ []) → ⊥
cancelled_unopened stands = absurd (let marked = stands.marked 0 in cc)

-- Tasks

-- the task in the second group is cancelled with it, not the one in the first alone
pub second_task_is_cancelled : task_cancelled (Explicit 2) second_cancelled ≡ true
second_task_is_cancelled = refl

pub first_task_is_not : task_cancelled (Explicit 1) second_cancelled ≡ false
first_task_is_not = refl

-- nor the task that opened both: no group's end waits for it
pub opener_is_not : task_cancelled (Implicit 0) second_cancelled ≡ false
opener_is_not = refl

-- both are with the first, in which the second lies
pub both_are_cancelled : (task_cancelled (Explicit 1) (Cancel 0 (OneGroup 0) ∷ two_groups) ≡ true) × (task_cancelled (Explicit 2) (Cancel 0 (OneGroup 0) ∷ two_groups) ≡ true)
both_are_cancelled = (refl, refl)

-- and all are with the region, but with no share
pub all_are_cancelled : (task_cancelled (Explicit 1) region_cancelled ≡ true) × (task_cancelled (Implicit 0) region_cancelled ≡ true)
all_are_cancelled = (refl, refl)

pub none_with_a_share : task_cancelled (Explicit 1) (Cancel 0 (OneShare 0) ∷ two_groups) ≡ false
none_with_a_share = refl

-- Events

-- groups that are opened, and cancellations of the region and of groups, are seen
pub cancels_are_seen : (q m : ℕ) → (IsNoCancelEvent (Group q m) → ⊥) × (IsNoCancelEvent (Cancel m Region) → ⊥) × (IsNoCancelEvent (Cancel m (OneGroup q)) → ⊥)
cancels_are_seen q m = (λ is. is, λ is. is, λ is. is)

-- a cancellation of a share is not, nor what cancellations bring about
pub share_cancels_are_aside : (i t m : ℕ) (kind : CancelKind) → IsNoCancelEvent (Cancel m (OneShare i)) × IsNoCancelEvent (Discard t m) × IsNoCancelEvent (See m kind)
share_cancels_are_aside i t m kind = (tt, tt, tt)

-- nor is what tasks, shares, barriers and locks see
pub task_events_are_aside : (t m : ℕ) (parent : Task) → IsNoCancelEvent (Create t m parent some_desc) × IsNoCancelEvent (Start t m) × IsNoCancelEvent (Done t m) × IsNoCancelEvent (GroupEnd t m) × IsNoCancelEvent (Waited m [])
task_events_are_aside t m parent = (tt, tt, tt, tt, tt)

pub loop_events_are_aside : (share m low high k : ℕ) (shape : Shape) → IsNoCancelEvent (Enter share m shape) × IsNoCancelEvent (Take share m low high) × IsNoCancelEvent (Drained share m) × IsNoCancelEvent (End share m) × IsNoCancelEvent (HandOn share m k) × IsNoCancelEvent (Part share m k) × IsNoCancelEvent (PartEnd share m)
loop_events_are_aside share m low high k shape = (tt, tt, tt, tt, tt, tt, tt)

pub other_events_are_aside : (n m : ℕ) (payload : List ℕ) (tag : Tag) (key : Key) (task : Task) (place : Place) → IsNoCancelEvent (Put n m payload) × IsNoCancelEvent (Got n m payload) × IsNoCancelEvent (Arrive n m tag) × IsNoCancelEvent (Pass n m) × IsNoCancelEvent (Hold key m task) × IsNoCancelEvent (Free key m task) × IsNoCancelEvent (Break m place)
other_events_are_aside n m payload tag key task place = (tt, tt, tt, tt, tt, tt, tt)
