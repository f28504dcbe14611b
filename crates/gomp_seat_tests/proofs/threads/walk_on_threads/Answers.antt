use Rattle.std.proofs.Common.{◌≡◌, length, arith}
use Rattle.gomp_seats.proofs.Kept.{walked_seats}
use Rattle.gomp_seat_tests.proofs.Seats.{same_member}
use Rattle.gomp_seat_tests.proofs.threads.walk_on_threads.Goals as goal

pub gather-requires : goal.gather-requires
gather-requires g c =
    let walked = c.expect-walked.result in
    let from = c.args.team.seats.ok.0 in
    let to = walked.ok.0 in
    let len = rw c.expect-walked.ensures at c.walk_each.ensures.len in
    let each = rw c.expect-walked.ensures at c.walk_each.ensures.each in
    let count : length walked.items ≡ length c.args.team.seats.items = omega arith in
    record { seats = walked_seats _ c.args.team.seats.items walked.items c.args.team.all count (λ m d below. same_member _ _ (each m d (omega arith))) }
