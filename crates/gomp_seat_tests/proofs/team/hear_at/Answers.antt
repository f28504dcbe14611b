use Rattle.std.proofs.Common.{◌≡◌, length, slice_get, Some, refl, arith}
use Rattle.std.proofs.lemmas.Option.{slice_get_read}
use Rattle.gomp_seats.proofs.Kept.{kept_seats}
use Rattle.gomp_seat_tests.proofs.Seats.{same_member}
use Rattle.gomp_seat_tests.proofs.team.hear_at.Goals as goal

pub returns-then-member-len : goal.returns-then-member-len
returns-then-member-len c =
    let at : slice_get c.args.seats.now.items c.args.member ≡ Some c.index_mut.result.now = slice_get_read _ (length c.args.seats.now.items) _ _ refl (let inside = c.if-member-len.true in let count = c.len.ensures in omega arith) c.index_mut.ensures.value in
    record { all = kept_seats _ _ _ _ _ c.requires.all at (same_member _ _ c.hear.ensures.stays) }
