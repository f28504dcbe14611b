use Rattle.std.proofs.Common.{◌≡◌, true, None}
use Rattle.std.specs.Prelude.{bytes_eq}
use Rattle.std.specs.Option.{option_flatten}
use Rattle.std.specs.Map.{lookup}
use Rattle.gomp_locks.specs.Book.{owned_by}
use Rattle.gomp_locks.proofs.CountLemmas.{holders_less, holds_some}
use Rattle.std.specs.Ordering.{nat_cmp}
use Rattle.std.specs.Cmp.Lexicographic.{slice_cmp, nat_list_cmp_total}
use Rattle.gomp_locks.proofs.OrderLemmas.{put_in_order}
use Rattle.gomp_locks.proofs.book.LockBook.free_name.Goals as goal

pub take_out-requires : goal.take_out-requires
take_out-requires c =
    let owned : owned_by c.args.owner (option_flatten (lookup (bytes_eq c.args.name.now) c.self.inside.names.entries)) ≡ true = rw (← c.self.view_is) at c.requires.held in
    record { there = holds_some c.args.owner c.args.name.now c.self.inside.holders.items c.self.inside.names.entries _ c.self.invariant.0 c.leave_name.ensures.ordered owned }

pub invariant_of-self : goal.invariant_of-self
invariant_of-self c =
    let owned : owned_by c.args.owner (option_flatten (lookup (bytes_eq c.args.name.now) c.self.inside.names.entries)) ≡ true = rw (← c.self.view_is) at c.requires.held in
    (rw (c.leave_name.ensures.left, c.take_out.ensures.room) (holders_less c.args.owner c.args.name.now c.self.inside.holders.items c.take_out.new.holders.items c.self.inside.names.entries _ c.self.invariant.0 c.leave_name.ensures.ordered owned c.take_out.ensures.times c.take_out.ensures.len (rw c.leave_name.ensures.left at c.leave_name.ensures.len)), c.self.invariant.1, c.self.invariant.2, rw c.leave_name.ensures.left (put_in_order (slice_cmp nat_cmp) nat_list_cmp_total c.args.name.now None c.self.inside.names.entries c.self.invariant.3))
