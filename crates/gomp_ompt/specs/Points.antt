-- The events of the OMPT interface in their order. OpenMP API 5.2, section 19.5.2.
use Rattle.std.specs.Prelude.{ℕ}
use Rattle.gomp_ompt.specs.declared.record.Point.{Point}
use Rattle.gomp_ompt.specs.declared.record.Point.TheVariants.{ParallelBegin, ParallelEnd, Work, Dispatch, TaskCreate, Dependences, TaskSchedule, ImplicitTask, SyncRegion, MutexAcquire, MutexAcquired, MutexReleased, NestLock, Cancel}

-- the place of an event among all of them, from 0
abbrev pub point_index : Point → ℕ
point_index ParallelBegin = 0
point_index ParallelEnd = 1
point_index Work = 2
point_index Dispatch = 3
point_index TaskCreate = 4
point_index Dependences = 5
point_index TaskSchedule = 6
point_index ImplicitTask = 7
point_index SyncRegion = 8
point_index MutexAcquire = 9
point_index MutexAcquired = 10
point_index MutexReleased = 11
point_index NestLock = 12
point_index Cancel = 13
