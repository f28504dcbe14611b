-- Which replies say that something was held or freed. (own)
use Rattle.std.specs.Prelude.{ℕ, nat_lt, if◌then◌else◌, true}
use Rattle.gomp_types.specs.declared.reply.Reply.{Reply}
use Rattle.gomp_types.specs.declared.reply.Reply.TheVariants.{Finished, Got, Count}

-- the call has done what it is for
abbrev pub one_if_finished : Reply → ℕ
one_if_finished Finished = 1
one_if_finished _ = 0

-- the test got the lock
abbrev pub one_if_got : Reply → ℕ
one_if_got (Got true) = 1
one_if_got _ = 0

-- a count was told, of a lock that was set once more or once less
abbrev pub one_if_counted : Reply → ℕ
one_if_counted (Count count) = 1
one_if_counted _ = 0

-- a count other than 0 was told, of a lock that was tested and set
abbrev pub one_if_set : Reply → ℕ
one_if_set (Count count) = if nat_lt 0 count then 1 else 0
one_if_set _ = 0
