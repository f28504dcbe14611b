use Rattle.std.proofs.Common.{◌≡◌, None, Some, ap, length, arith}
use Rattle.std.specs.Prelude.{bytes_eq}
use Rattle.std.specs.Option.{option_flatten}
use Rattle.std.specs.Map.{lookup}
use Rattle.gomp_locks.proofs.CountLemmas.{holders_more, holders_room, holds_within}
use Rattle.std.specs.Ordering.{nat_cmp}
use Rattle.std.specs.Cmp.Lexicographic.{slice_cmp, nat_list_cmp_total}
use Rattle.gomp_locks.proofs.OrderLemmas.{put_in_order}
use Rattle.gomp_locks.proofs.book.LockBook.hold_name.Goals as goal

pub put_name-requires-clause-fewer : goal.put_name-requires-clause-fewer
put_name-requires-clause-fewer c = let all = c.self.invariant.0.all in let few = holds_within c.self.inside.names.entries in omega (arith, all, few)

pub put_name-requires-clause-room : goal.put_name-requires-clause-room
put_name-requires-clause-room c = c.self.invariant.0.fit

pub invariant_of-self : goal.invariant_of-self
invariant_of-self c =
    let are = c.self.invariant.0 in
    (rw (c.put_name.ensures.holders, c.in_err-put_name.ensures.kept) (record { counted = are.counted; all = are.all; fit = rw c.in_err-put_name.ensures.kept at c.put_name.ensures.room }), c.self.invariant.1, c.self.invariant.2, rw c.in_err-put_name.ensures.kept c.self.invariant.3)

pub push_reserved-requires : goal.push_reserved-requires
push_reserved-requires c =
    let free : option_flatten (lookup (bytes_eq c.args.name.now) c.self.inside.names.entries) ≡ None = rw (← c.self.view_is) at c.requires.free in
    let few = holders_room c.args.owner c.args.name.now c.self.inside.holders.items c.self.inside.names.entries _ c.self.invariant.0 c.put_name.ensures.ordered free in
    let room = rw c.in_ok-put_name.ensures.put at c.put_name.ensures.room in let same = ap length c.put_name.ensures.holders in omega (arith, few, room, same)

pub invariant_of-self-2 : goal.invariant_of-self-2
invariant_of-self-2 c =
    let free : option_flatten (lookup (bytes_eq c.args.name.now) c.self.inside.names.entries) ≡ None = rw (← c.self.view_is) at c.requires.free in (
      rw (c.in_ok-put_name.ensures.put, c.push_reserved.ensures.items, c.push_reserved.ensures.capacity, c.put_name.ensures.holders)
          (holders_more c.args.owner c.args.name.now c.self.inside.holders.items c.self.inside.names.entries _ _ c.self.invariant.0 c.put_name.ensures.ordered free (rw c.in_ok-put_name.ensures.put at c.put_name.ensures.room)),
      c.self.invariant.1,
      c.self.invariant.2,
      rw c.in_ok-put_name.ensures.put (put_in_order (slice_cmp nat_cmp) nat_list_cmp_total c.args.name.now (Some c.args.owner) c.self.inside.names.entries c.self.invariant.3),
    )
