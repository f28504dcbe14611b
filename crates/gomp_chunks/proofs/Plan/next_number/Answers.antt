use Rattle.std.proofs.Common.{◌≡◌, ◌+◌, ◌*◌, ◌<◌, None, slice_get, sym, subst, arith, rules}
use Rattle.gomp_chunks.specs.Plans.{PlanView, next_piece, pieces}
use Rattle.gomp_chunks.proofs.PieceAt.{chunks_within}
use Rattle.gomp_chunks.proofs.Queues.{own_chunked, own_chunked_none, own_even, own_even_none}
use Rattle.gomp_chunks.proofs.Plan.next_number.Goals as goal

pub returns-in-StaticChunked : goal.returns-in-StaticChunked
returns-in-StaticChunked c =
    let plan : PlanView = record { members = c.self.inside.members; shape = c.self.inside.shape } in
    let lt : c.args.member < plan.members = subst (λ (p : PlanView). c.args.member < p.members) (sym c.self.view_is) c.requires in
    let few = chunks_within plan.shape.trips plan.shape.chunk c.self.invariant.0.some in
    let past = c.if-own-self.true in
    subst (λ (p : PlanView). next_piece p c.args.member c.args.own c.args.all ≡ None) c.self.view_is (own_chunked_none plan c.args.member c.args.own c.args.all c.in-StaticChunked.is lt (omega arith))

pub returns-in-StaticChunked-2 : goal.returns-in-StaticChunked-2
returns-in-StaticChunked-2 c =
    let plan : PlanView = record { members = c.self.inside.members; shape = c.self.inside.shape } in
    let lt : c.args.member < plan.members = subst (λ (p : PlanView). c.args.member < p.members) (sym c.self.view_is) c.requires in
    subst (λ (p : PlanView). next_piece p c.args.member c.args.own c.args.all ≡ slice_get (pieces p) (c.args.own * c.self.inside.members + c.args.member)) c.self.view_is (own_chunked plan c.args.member c.args.own c.args.all c.in-StaticChunked-2.is lt)

pub returns-in-StaticEven : goal.returns-in-StaticEven
returns-in-StaticEven c =
    let plan : PlanView = record { members = c.self.inside.members; shape = c.self.inside.shape } in
    let later = c.if-own-gt0.true in
    subst (λ (p : PlanView). next_piece p c.args.member c.args.own c.args.all ≡ None) c.self.view_is (own_even_none plan c.args.member c.args.own c.args.all c.in-StaticEven.is (omega arith))

pub returns-in-StaticEven-2 : goal.returns-in-StaticEven-2
returns-in-StaticEven-2 c =
    let plan : PlanView = record { members = c.self.inside.members; shape = c.self.inside.shape } in
    let first = c.if-own-gt0.false in
    subst (λ (p : PlanView). next_piece p c.args.member c.args.own c.args.all ≡ slice_get (pieces p) c.args.member) c.self.view_is (own_even plan c.args.member c.args.own c.args.all c.in-StaticEven-2.is (omega arith))

pub returns-in_default : goal.returns-in_default
returns-in_default c = search rules
