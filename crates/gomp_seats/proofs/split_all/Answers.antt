use Rattle.std.proofs.Common.{◌+◌, List, ◌∷◌, [], ◌++◌, ap, sym, ◌∙◌, subst, arith}
use Rattle.gomp_ring.specs.RingSeats.{SeatView}
use Rattle.gomp_seats.specs.NewSeats.{AreNewSeats, IsSplit}
use Rattle.gomp_seats.proofs.Splits.{one_more_split, all_new_seats}
use Rattle.gomp_seats.proofs.split_all.Goals as goal

pub loop-preserved : goal.loop-preserved
loop-preserved c =
    subst (λ (xs : List SeatView). IsSplit c.args.ring.now c.args.members (c.loop.counter + 1) c.split.new.self xs) (sym c.in_ok-push.ensures.items) (one_more_split _ _ _ _ _ _ _ c.loop.invariant c.in-Some.ensures.split)

pub returns : goal.returns
returns c =
    let first = c.in_ok-push-2.ensures.items ∙ ap (λ (xs : List SeatView). xs ++ c.loop.first ∷ []) c.new-seats.ensures.items in
    let items = c.in_ok-append.ensures.items ∙ ap (λ (xs : List SeatView). xs ++ c.loop.others.items) first in
    record { seats = subst (λ (xs : List SeatView). AreNewSeats c.args.members c.args.ring.now xs) (sym items) (all_new_seats _ _ _ _ _ c.loop.invariant (let done = c.loop-test.false in omega arith)) }
