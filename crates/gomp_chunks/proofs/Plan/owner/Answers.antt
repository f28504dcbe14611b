use Rattle.std.proofs.Common.{◌≡◌, length, sym, subst, arith, rules}
use Rattle.gomp_types.specs.Pieces.{even_pieces}
use Rattle.gomp_chunks.specs.Plans.{PlanView, pieces}
use Rattle.gomp_chunks.proofs.PieceAt.{length-even_pieces}
use Rattle.gomp_chunks.proofs.Plan.owner.Goals as goal

pub even_owner-requires : goal.even_owner-requires
even_owner-requires c =
    let count = length-even_pieces c.self.inside.shape.trips c.self.inside.members in
    let all : c.chunks.result ≡ length (pieces (record { members = c.self.inside.members; shape = c.self.inside.shape })) = subst (λ (p : PlanView). c.chunks.result ≡ length (pieces p)) (sym c.self.view_is) c.chunks.ensures.count in
    let even : c.chunks.result ≡ length (even_pieces c.self.inside.shape.trips c.self.inside.members) = rw c.in-StaticEven.is at all in
    let below = c.if-j-chunks.false in
    omega arith

pub overflow_cast-result-in-StaticChunked : goal.overflow_cast-result-in-StaticChunked
overflow_cast-result-in-StaticChunked c = search rules

pub returns-in-StaticChunked-clause-owner : goal.returns-in-StaticChunked-clause-owner
returns-in-StaticChunked-clause-owner c = search rules

pub returns-in-StaticChunked-clause-member : goal.returns-in-StaticChunked-clause-member
returns-in-StaticChunked-clause-member c = search rules
