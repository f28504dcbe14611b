use Rattle.std.proofs.Common.{◌≡◌, ◌++◌, take, drop}
use Rattle.std.specs.Prelude.{map}
use Rattle.std.specs.Option.{option_map}
use Rattle.gomp_locks.specs.Book.{unset_lock}
use Rattle.gomp_locks.proofs.book.unset_all.Given as goal

abbrev pub invariant-loop-place : goal.invariant-loop-place
invariant-loop-place l = l.locks ≡ map (option_map unset_lock) (take l.place-index l.initial.locks) ++ drop l.place-index l.initial.locks
