-- What a reader of a lane sees: the name of an event, and its category. (own; the categories are the names of OMPT's callbacks, OpenMP API 5.2, section 19.5.2)
use Rattle.std.specs.Prelude.{ℕ, ◌++◌, ◌==◌, if◌then◌else◌, List, codes, decimal}
use Rattle.gomp_ompt.specs.declared.record.Point.{Point}
use Rattle.gomp_ompt.specs.declared.record.Point.TheVariants.{ParallelBegin, ParallelEnd, Work, Dispatch, TaskCreate, Dependences, TaskSchedule, ImplicitTask, SyncRegion, MutexAcquire, MutexAcquired, MutexReleased, NestLock, Cancel}
use Rattle.gomp_ompt.specs.declared.record.Record.{Record}

-- a work-share, by its number
abbrev pub share_word : ℕ → List ℕ
share_word id = if id == 0 then codes "loop or sections" else codes "single"

-- what is waited at
abbrev pub wait_word : ℕ → List ℕ
wait_word id =
    if id == 1 then codes "barrier" else (if id == 2 then codes "end of work-share" else (if id == 3 then codes "taskwait" else (if id == 4 then codes "taskgroup" else codes "end of region")))

-- what is cancelled
abbrev pub construct_word : ℕ → List ℕ
construct_word id = if id == 1 then codes "parallel" else (if id == 2 then codes "loop" else (if id == 4 then codes "sections" else codes "taskgroup"))

-- what one task holds at a time, and the number of a nestable lock
abbrev pub mutex_words : ℕ → ℕ → List ℕ
mutex_words id lock = if id == 1 then codes "critical" else (if id == 2 then codes "lock" else (if id == 3 then codes "ordered" else codes "nestable lock " ++ decimal lock))

-- the name of an event, by its numbers
abbrev pub name_by : Point → ℕ → ℕ → List ℕ
name_by ParallelBegin id extra = codes "parallel region begins"
name_by ParallelEnd id extra = codes "parallel region ends"
name_by Work id extra = share_word id
name_by Dispatch id extra = codes "dispatch"
name_by TaskCreate id extra = codes "create task " ++ decimal id
name_by Dependences id extra = codes "dependences of task " ++ decimal id
name_by TaskSchedule id extra = codes "task " ++ decimal id
name_by ImplicitTask id extra = codes "implicit task"
name_by SyncRegion id extra = wait_word id
name_by MutexAcquire id extra = codes "acquire " ++ mutex_words id extra
name_by MutexAcquired id extra = mutex_words id extra ++ codes " acquired"
name_by MutexReleased id extra = mutex_words id extra ++ codes " released"
name_by NestLock id extra = codes "nestable lock " ++ decimal id ++ codes " set " ++ decimal extra ++ codes " times"
name_by Cancel id extra = codes "cancel " ++ construct_word id

-- the name of a record's event
unfoldable pub event_name : Record → List ℕ
event_name event = name_by event.point event.id event.extra

-- its category: the name of the callback that gets such records
unfoldable pub category : Point → List ℕ
category ParallelBegin = codes "parallel_begin"
category ParallelEnd = codes "parallel_end"
category Work = codes "work"
category Dispatch = codes "dispatch"
category TaskCreate = codes "task_create"
category Dependences = codes "dependences"
category TaskSchedule = codes "task_schedule"
category ImplicitTask = codes "implicit_task"
category SyncRegion = codes "sync_region"
category MutexAcquire = codes "mutex_acquire"
category MutexAcquired = codes "mutex_acquired"
category MutexReleased = codes "mutex_released"
category NestLock = codes "nest_lock"
category Cancel = codes "cancel"
