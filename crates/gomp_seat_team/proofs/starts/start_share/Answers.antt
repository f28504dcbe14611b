use Rattle.std.proofs.Common.{Option, Some, None, sym, ◌∙◌, ap}
use Rattle.gomp_types.specs.declared.refusal.Refusal.{Refusal}
use Rattle.gomp_types.specs.Least.{lesser}
use Rattle.gomp_team_calls.proofs.Started.{reserves_some}
use Rattle.gomp_seat_team.specs.Starts.{seat_start}
use Rattle.gomp_seat_team.proofs.Entering.{starts_by_entering, starts_refused}
use Rattle.gomp_seat_team.proofs.starts.start_share.Goals as goal

pub enter-requires-clause-op : goal.enter-requires-clause-op
enter-requires-clause-op g c = let (more, is) = reserves_some c.args.start.now c.args.repeated in (more, c.reserve_op-op.ensures.value ∙ is)

pub refuse_start-requires : goal.refuse_start-requires
refuse_start-requires g c = let (more, is) = reserves_some c.args.start.now c.args.repeated in record { op = (more, c.reserve_op-op.ensures.value ∙ is) }

pub refuse_start-requires-in-Some-lesser : goal.refuse_start-requires-in-Some-lesser
refuse_start-requires-in-Some-lesser g c = let (more, is) = reserves_some c.args.start.now c.args.repeated in record { op = (more, c.reserve_op-op.ensures.value ∙ is) }

pub returns-in-None-clause-starts : goal.returns-in-None-clause-starts
returns-in-None-clause-starts g c =
    starts_by_entering (seat_start c.args.start.now c.args.repeated c.args.limits.now c.args.found) c.reserve_op-op.result c.args.seat.now c.compared_shape.new.seat c.enter.new.seat c.args.board.now c.enter.new.board c.enter.result.reply c.reserve_op-op.ensures.value
    c.in-None.is c.in-Ok.ensures.finds c.enter.ensures.refused c.enter.ensures.enters c.enter.ensures.cause

pub returns-in-Some-clause-starts : goal.returns-in-Some-clause-starts
returns-in-Some-clause-starts g c =
    starts_refused (seat_start c.args.start.now c.args.repeated c.args.limits.now c.args.found) c.reserve_op-op.result c.args.seat.now c.compared_shape.new.seat c.args.board.now c.refuse_start.new.board None c.in-Some.refusal c.refuse_start.result.reply
    c.reserve_op-op.ensures.value c.in-Ok.ensures.finds (ap (λ (found : Option Refusal). lesser found None) c.in-Some.is) (rw c.member.ensures at c.refuse_start.ensures.least) c.refuse_start.ensures.refused

pub returns-in-Some-lesser-clause-starts : goal.returns-in-Some-lesser-clause-starts
returns-in-Some-lesser-clause-starts g c =
    starts_refused (seat_start c.args.start.now c.args.repeated c.args.limits.now c.args.found) c.reserve_op-op.result c.args.seat.now c.compared_shape.new.seat c.args.board.now c.refuse_start-in-Some-lesser.new.board (Some c.in-Err.place)
    c.in-Some-lesser.refusal c.refuse_start-in-Some-lesser.result.reply c.reserve_op-op.ensures.value c.in-Err.ensures.finds (sym c.in-Some-lesser.ensures.value) (rw c.member-in-Some-lesser.ensures at c.refuse_start-in-Some-lesser.ensures.least)
    c.refuse_start-in-Some-lesser.ensures.refused
