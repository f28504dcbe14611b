use Rattle.std.proofs.Common.{◌≡◌, sym, subst, ◌∙◌}
use Rattle.std.specs.Prelude.{IfSome}
use Rattle.gomp_types.specs.declared.shape.Shape.{Shape}
use Rattle.gomp_types.specs.Pieces.{shape_of}
use Rattle.gomp_shares.specs.Calls.{IsIn}
use Rattle.gomp_shares.specs.declared.admission.Construct.TheVariants.{Loop as OfLoop}
use Rattle.gomp_team_shares.specs.declared.start.ShareStart.TheVariants.{Loop}
use Rattle.gomp_seat_calls.specs.Alone.{StaysOutside}
use Rattle.gomp_seat_calls.specs.Chunks.{reply_of_chunk}
use Rattle.gomp_seat_calls.specs.Next.{TakesPiece}
use Rattle.gomp_seat_calls.specs.Starts.{EntersAnd}
use Rattle.gomp_seat_calls.proofs.AnsweredAlone.{admitted_has_its_shape, shaped_is_admitted}
use Rattle.gomp_seat_calls.proofs.OwnPlace.{started_shape}
use Rattle.gomp_seat_calls.proofs.alone.start_loop_alone.Goals as goal

pub returns-clause-starts : goal.returns-clause-starts
returns-clause-starts c =
    let is : c.in-Ok.shape ≡ shape_of c.args.desc.now = started_shape (Loop c.args.desc.now) c.args.limits.now c.args.seat.now.seen c.in-Ok.shape (sym c.start_shape.ensures.first ∙ c.in-Ok.is) in
    subst (λ (shape : Shape). IfSome c.enter_loop_alone.result (λ chunk. EntersAnd (TakesPiece OfLoop) shape c.args.seat.now (reply_of_chunk chunk.first chunk.count) c.enter_loop_alone.new.seat)) is c.enter_loop_alone.ensures.enters

pub returns-clause-inside : goal.returns-clause-inside
returns-clause-inside c =
    let is : c.in-Ok.shape ≡ shape_of c.args.desc.now = started_shape (Loop c.args.desc.now) c.args.limits.now c.args.seat.now.seen c.in-Ok.shape (sym c.start_shape.ensures.first ∙ c.in-Ok.is) in
    subst (λ (shape : Shape). IfSome c.enter_loop_alone.result (λ chunk. IsIn shape c.enter_loop_alone.new.seat.seen)) is c.enter_loop_alone.ensures.inside

pub returns-in_default-clause-why : goal.returns-in_default-clause-why
returns-in_default-clause-why c = λ none admitted. absurd (c.in_default.not-Ok _ (c.start_shape.ensures.first ∙ admitted_has_its_shape _ _ admitted))

pub returns-clause-why : goal.returns-clause-why
returns-clause-why c = λ none admitted.
    let is : c.in-Ok.shape ≡ shape_of c.args.desc.now = started_shape (Loop c.args.desc.now) c.args.limits.now c.args.seat.now.seen c.in-Ok.shape (sym c.start_shape.ensures.first ∙ c.in-Ok.is) in
    subst (λ (shape : Shape). StaysOutside OfLoop shape c.args.seat.now c.enter_loop_alone.new.seat) is (c.enter_loop_alone.ensures.why none)

pub returns-clause-admitted : goal.returns-clause-admitted
returns-clause-admitted c = λ some. shaped_is_admitted _ _ _ (sym c.in-Ok.is ∙ c.start_shape.ensures.first)
