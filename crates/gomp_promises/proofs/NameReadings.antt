-- How the events of a trace are named, of every number.
use Rattle.std.proofs.Common.{◌≡◌, ◌≢◌, ℕ, ◌++◌, codes, refl}
use Rattle.std.specs.Prelude.{decimal}
use Rattle.std.proofs.lemmas.Bool.{ne_eqb}
use Rattle.gomp_ompt.specs.declared.record.Point.TheVariants as point
use Rattle.gomp_ompt.specs.declared.record.Record.{Record}
use Rattle.gomp_trace.specs.Names.{share_word, wait_word, construct_word, mutex_words, name_by, event_name}

-- a record is named by its point and its numbers
pub record_is_named_by_its_numbers : (event : Record) → event_name event ≡ name_by event.point event.id event.extra
unfolding event_name
record_is_named_by_its_numbers event = refl

-- what has no number in its name
pub every_event_without_a_number_is_named : (id extra : ℕ) →
    (name_by point.ParallelBegin id extra ≡ codes "parallel region begins")
    × (name_by point.ParallelEnd id extra ≡ codes "parallel region ends")
    × (name_by point.Dispatch id extra ≡ codes "dispatch")
    × (name_by point.ImplicitTask id extra ≡ codes "implicit task")
every_event_without_a_number_is_named id extra = (refl, refl, refl, refl)

-- a task by its own
pub every_task_is_named : (id extra : ℕ) →
    (name_by point.TaskCreate id extra ≡ codes "create task " ++ decimal id) × (name_by point.Dependences id extra ≡ codes "dependences of task " ++ decimal id) × (name_by point.TaskSchedule id extra ≡ codes "task " ++ decimal id)
every_task_is_named id extra = (refl, refl, refl)

-- a nestable lock by its own and how often it is set
pub every_nestable_lock_is_named : (id extra : ℕ) → name_by point.NestLock id extra ≡ codes "nestable lock " ++ decimal id ++ codes " set " ++ decimal extra ++ codes " times"
every_nestable_lock_is_named id extra = refl

-- the others by what they are about
pub every_other_event_is_named : (id extra : ℕ) →
    (name_by point.Work id extra ≡ share_word id)
    × (name_by point.SyncRegion id extra ≡ wait_word id)
    × (name_by point.MutexAcquire id extra ≡ codes "acquire " ++ mutex_words id extra)
    × (name_by point.MutexAcquired id extra ≡ mutex_words id extra ++ codes " acquired")
    × (name_by point.MutexReleased id extra ≡ mutex_words id extra ++ codes " released")
    × (name_by point.Cancel id extra ≡ codes "cancel " ++ construct_word id)
every_other_event_is_named id extra = (refl, refl, refl, refl, refl, refl)

-- share 0 is a loop or sections, every other a single
pub other_share_is_a_single : (id : ℕ) → id ≢ 0 → share_word id ≡ codes "single"
other_share_is_a_single id other = rw (ne_eqb id 0 other) refl

-- any other wait is at the end of a region
pub other_wait_is_at_the_end : (id : ℕ) → id ≢ 1 → id ≢ 2 → id ≢ 3 → id ≢ 4 → wait_word id ≡ codes "end of region"
other_wait_is_at_the_end id barrier share taskwait group = rw (ne_eqb id 1 barrier, ne_eqb id 2 share, ne_eqb id 3 taskwait, ne_eqb id 4 group) refl

-- any other cancellation is of a taskgroup
pub other_cancellation_is_of_a_group : (id : ℕ) → id ≢ 1 → id ≢ 2 → id ≢ 4 → construct_word id ≡ codes "taskgroup"
other_cancellation_is_of_a_group id parallel loop sections = rw (ne_eqb id 1 parallel, ne_eqb id 2 loop, ne_eqb id 4 sections) refl

-- a name, a lock and an ordered part are named alike whatever the other number is, and any other is a nestable lock by that
pub mutex_is_named_by_what_it_is : (lock : ℕ) → (mutex_words 1 lock ≡ codes "critical") × (mutex_words 2 lock ≡ codes "lock") × (mutex_words 3 lock ≡ codes "ordered")
mutex_is_named_by_what_it_is lock = (refl, refl, refl)

pub other_mutex_is_a_nestable_lock : (id lock : ℕ) → id ≢ 1 → id ≢ 2 → id ≢ 3 → mutex_words id lock ≡ codes "nestable lock " ++ decimal lock
other_mutex_is_a_nestable_lock id lock critical simple ordered = rw (ne_eqb id 1 critical, ne_eqb id 2 simple, ne_eqb id 3 ordered) refl
