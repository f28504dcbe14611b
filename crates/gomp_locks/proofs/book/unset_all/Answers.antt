use Rattle.std.proofs.Common.{◌≡◌, ℕ, ◌+◌, ◌<◌, length, List, Option, None, ◌++◌, take, drop, ap, sym, ◌∙◌, get_or}
use Rattle.std.specs.Prelude.{map, slice_set}
use Rattle.std.specs.Option.{option_map}
use Rattle.std.proofs.lemmas.List.{get_or_default}
use Rattle.std.proofs.lemmas.List.Edits.{map_over_more}
use Rattle.gomp_locks.specs.declared.lock.Lock.{Lock}
use Rattle.gomp_locks.specs.Book.{unset_lock}
use Rattle.gomp_locks.proofs.book.unset_all.Goals as goal
use Rattle.gomp_locks.proofs.book.unset_all.Goals.{in-Some, in_default}

-- one lock more is unset
unset_one_more : (locks before after : List (Option Lock)) (i : ℕ) (x : Option Lock) → i < length locks → before ≡ map (option_map unset_lock) (take i locks) ++ drop i locks → length before ≡ length locks → get_or before i None ≡ x →
    after ≡ slice_set before i (option_map unset_lock x) → after ≡ map (option_map unset_lock) (take (i + 1) locks) ++ drop (i + 1) locks
unset_one_more locks before after i x within so len at is = is ∙ map_over_more (option_map unset_lock) locks before i x within so (sym at ∙ get_or_default before i None x (rw len within))

pub loop-place-preserved : goal.loop-place-preserved
loop-place-preserved c =
    elim c.match-place.branch [
      | in-Some w ↦ unset_one_more c.args.locks.now c.loop-place.locks c.match-place.locks c.loop-place.place-index _ c.loop-place-test.true c.loop-place.invariant c.loop-place.auto.locks w.in-Some.is w.locks-is
      | in_default w ↦ unset_one_more c.args.locks.now c.loop-place.locks c.match-place.locks c.loop-place.place-index None c.loop-place-test.true c.loop-place.invariant c.loop-place.auto.locks w.in_default.is
          (w.locks-is ∙ ap (λ (x : Option Lock). slice_set c.loop-place.locks c.loop-place.place-index x) w.in_default.is)
    ]
