use Rattle.std.proofs.Common.{rules, ◌≡◌, refl, Some}
use Rattle.gomp_types.specs.Tests.{first_holding}
use Rattle.gomp_shares.specs.OrderedParts.{part_tests}
use Rattle.gomp_seat_calls.proofs.OwnPlace.{refused_first}
use Rattle.gomp_seat_calls.proofs.parts.ordered_start.Goals as goal

pub returns-in-Err-clause-answers : goal.returns-in-Err-clause-answers
returns-in-Err-clause-answers c =
    let found : Some c.in-Err.refusal ≡ first_holding (part_tests c.args.value c.seen.result) = search rules in
    let first : Some c.in-Err.refusal ≡ first_holding (part_tests c.args.value c.args.seat.now.seen) = rw c.seen.ensures.value at found in
    refused_first _ _ c.args.seat.now c.in-Err.refusal refl first
