-- What the calls on the tasks that may be taken keep, from their contracts alone: the laws that the crates above cite.
-- `put` leaves `with_task task ids`, `take` leaves what the task was added to, and `retain` leaves `filter test ids`.
use Rattle.std.proofs.Common.{◌≡◌, ◌≢◌, ℕ, Bool, true, false, List, refl}
use Rattle.std.specs.Prelude.{◌==◌, ◌||◌, ◌&&◌, filter}
use Rattle.gomp_events.specs.Tasks.{contains}
use Rattle.gomp_types.proofs.Booleans.{same_number, other_number}
use Rattle.gomp_ready.specs.Ready.{AreOnce, with_task}
use Rattle.gomp_ready.proofs.WithTask.{contains-with_task, once-with_task, once-without_task, contains-filter, once-filter}

-- a task that was put is there, and no other is that was not there before
pub contains_with_task : (t u : ℕ) (ids : List ℕ) → contains u (with_task t ids) ≡ (t == u || contains u ids)
contains_with_task = contains-with_task

-- if no task stands twice and one is put that is not there, none stands twice
pub once_with_task : (t : ℕ) (ids : List ℕ) → contains t ids ≡ false → AreOnce ids → AreOnce (with_task t ids)
once_with_task = once-with_task

-- if no task stands twice and one is taken, it is there no more, and none stands twice: a task that was put once comes out once at most
pub once_without : (t : ℕ) (ids : List ℕ) → AreOnce (with_task t ids) → (contains t ids ≡ false) × AreOnce ids
once_without = once-without_task

-- a task that was taken was there
pub taken_was_there : (before after : List ℕ) (task : ℕ) → before ≡ with_task task after → contains task before ≡ true
taken_was_there before after task taken = rw (taken, contains-with_task task task after, same_number task) refl

-- it is there no more, if none stood twice
pub taken_is_gone : (before after : List ℕ) (task : ℕ) → before ≡ with_task task after → AreOnce before → contains task after ≡ false
taken_is_gone before after task taken once = (once-without_task task after (rw taken at once)).0

-- nor does one stand twice after it
pub take_keeps_once : (before after : List ℕ) (task : ℕ) → before ≡ with_task task after → AreOnce before → AreOnce after
take_keeps_once before after task taken once = (once-without_task task after (rw taken at once)).1

-- and the others are there as before
pub others_are_kept : (before after : List ℕ) (task other : ℕ) → before ≡ with_task task after → task ≢ other → contains other after ≡ contains other before
others_are_kept before after task other taken differ = rw (taken, contains-with_task task other after, other_number task other differ) refl

-- a task is there after `retain` if it was there and passes the test
pub contains_filtered : (test : ℕ → Bool) (u : ℕ) (ids : List ℕ) → contains u (filter test ids) ≡ (contains u ids && test u)
contains_filtered = contains-filter

-- and none stands twice, if none did
pub filtered_are_once : (test : ℕ → Bool) (ids : List ℕ) → AreOnce ids → AreOnce (filter test ids)
filtered_are_once = once-filter
