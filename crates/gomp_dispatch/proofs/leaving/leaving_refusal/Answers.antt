use Rattle.std.proofs.Common.{◌∙◌, sym}
use Rattle.gomp_events.specs.Cancels.{is_leaving}
use Rattle.gomp_model.specs.Calls.{row_of}
use Rattle.gomp_dispatch.proofs.LeavingTests.{leaves_alike, stays_unrefused, let_unrefused, bound_refused}
use Rattle.gomp_dispatch.proofs.leaving.leaving_refusal.Goals as goal

pub returns-then-not-is_leaving : goal.returns-then-not-is_leaving
returns-then-not-is_leaving g c = record {
  least = λ p st leaves.
      let m = c.args.member in
      let seen = c.look-seen.ensures.value ∙ g.met.S.Shares.agrees c.args.shares.now p.events m st c.requires.member in
      let stays = sym (leaves_alike c.args.leaving c.look-seen.result m p.events seen leaves) ∙ sym c.is_leaving.ensures ∙ c.if-not-is_leaving.true in
      rw c.if-repeated.false (stays_unrefused (is_leaving m p.events) ((row_of c.args.call.now).lets_leave m p.events) stays);
}

pub returns-then-lets_leave : goal.returns-then-lets_leave
returns-then-lets_leave g c = record {
  least = λ p st leaves.
      let m = c.args.member in
      let seen = c.look-seen.ensures.value ∙ g.met.S.Shares.agrees c.args.shares.now p.events m st c.requires.member in
      let lets = sym (c.lets_leave.ensures.lets m p.events seen leaves) ∙ c.if-lets_leave.true in
      rw c.if-repeated.false (let_unrefused (is_leaving m p.events) ((row_of c.args.call.now).lets_leave m p.events) lets);
}

pub returns : goal.returns
returns g c = record {
  least = λ p st leaves.
      let m = c.args.member in
      let seen = c.look-seen.ensures.value ∙ g.met.S.Shares.agrees c.args.shares.now p.events m st c.requires.member in
      let goes = sym (leaves_alike c.args.leaving c.look-seen.result m p.events seen leaves) ∙ sym c.is_leaving.ensures ∙ c.if-not-is_leaving.false in
      let bound = sym (c.lets_leave.ensures.lets m p.events seen leaves) ∙ c.if-lets_leave.false in
      rw c.if-repeated.false (bound_refused (is_leaving m p.events) ((row_of c.args.call.now).lets_leave m p.events) goes bound);
}
