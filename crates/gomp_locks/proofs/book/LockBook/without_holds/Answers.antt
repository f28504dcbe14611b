use Rattle.std.proofs.Common.{◌≡◌, ℕ, List, ◌++◌, Option, Some, None, length, take, drop, refl, ap, sym, ◌∙◌, arith}
use Rattle.std.proofs.lemmas.List.{length-map}
use Rattle.std.specs.Prelude.{map, slice_get}
use Rattle.std.specs.Option.{option_map}
use Rattle.std.proofs.Math.Seq.{take-append_seam}
use Rattle.std.proofs.lemmas.Option.{slice_get-map}
use Rattle.gomp_locks.specs.declared.lock.Lock.{Lock}
use Rattle.gomp_locks.specs.Book.{unset_lock}
use Rattle.gomp_locks.specs.Counts.{AreHeldOnce, IsHeldOnce}
use Rattle.std.specs.Ordering.{nat_cmp}
use Rattle.std.specs.Cmp.Lexicographic.{slice_cmp}
use Rattle.gomp_locks.proofs.OrderLemmas.{none_in_order}
use Rattle.gomp_locks.proofs.book.LockBook.without_holds.Goals as goal

-- a lock of the list is one that nobody holds
unset_held_once : (found : Option (Option Lock)) (lock : Lock) → option_map (option_map unset_lock) found ≡ Some (Some lock) → IsHeldOnce lock.held
unset_held_once None lock at = absurd (cc)
unset_held_once (Some None) lock at = absurd (cc)
unset_held_once (Some (Some other)) lock at = λ held is. absurd (let same : unset_lock other ≡ lock = cc in let none = ap (λ (one : Lock). one.held) same in let never = none ∙ is in cc)

are_held_once : (locks : List (Option Lock)) → AreHeldOnce (map (option_map unset_lock) locks)
are_held_once locks number lock at = unset_held_once (slice_get locks number) lock (sym (slice_get-map (option_map unset_lock) locks number) ∙ at)

-- a list that was written over another of the same length
written_over : {X : Type 0} (xs ys : List X) (n : ℕ) → length xs ≡ n → take n (xs ++ ys) ≡ xs
written_over xs ys n len = rw (← len) (take-append_seam xs ys)

pub invariant_of-result : goal.invariant_of-result
invariant_of-result c =
    let unset = c.unset_all.ensures ∙ ap (λ (locks : List (Option Lock)). map (option_map unset_lock) locks) c.deref_mut.ensures.value in
    let as_many = ap length c.unset_all.ensures ∙ length-map c.deref_mut.result.now (option_map unset_lock) ∙ c.deref_mut.ensures.len in
    let locks = written_over c.unset_all.new.locks (drop (length c.unset_all.new.locks) c.self.inside.locks.items) c.self.inside.locks.len as_many ∙ unset in
    let fewer = c.self.invariant.2 in
    rw locks (rw (c.clear-2.ensures.items, c.clear.ensures.empty) (record { counted = λ owner. refl; all = refl; fit = omega arith }), are_held_once c.self.inside.locks.items, rw (length-map c.self.inside.locks.items (option_map unset_lock)) fewer, rw c.clear.ensures.empty (none_in_order (slice_cmp nat_cmp)))
