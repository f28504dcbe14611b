use Rattle.std.proofs.Common.{◌≡◌, ◌<◌, refl, ap, ◌∙◌, sym, subst, List, ◌++◌, Some, None}
use Rattle.gomp_events.specs.declared.event.Event.{Event}
use Rattle.gomp_events.specs.declared.seen.Seen.{Seen}
use Rattle.gomp_events.specs.Events.{open_share}
use Rattle.gomp_types.specs.Least.{least}
use Rattle.gomp_shares.specs.Loops.{handed_on, next_tests}
use Rattle.gomp_types.proofs.Laws.{value_tells_its_iteration}
use Rattle.gomp_loops.proofs.LoopReplies.{Handed, piece_is_handed, piece_is_kept, handed_there, next_claims, next_reply, next_waits, next_wait_given, next_deals, next_adds, claim_within, piece_never_refuses, piece_never_waits}
use Rattle.gomp_loops.proofs.calls.loop_next_admitted.Given.{Over}
use Rattle.gomp_loops.proofs.calls.loop_next_admitted.Goals as goal
use Rattle.gomp_loops.proofs.calls.loop_next_admitted.Goals.{After-claim, else-shape-via-then-shape+else-not-hand_on, else-shape-via-else-shape}

pub returns-then-not-hand_on-clause-serves : goal.returns-then-not-hand_on-clause-serves
returns-then-not-hand_on-clause-serves g c = record {
  known = c.look.ensures.known;
  answer = λ h st.
      let e = c.look.ensures.value ∙ g.met.S.Shares.agrees c.args.shares.now h c.args.member st c.requires.member in
      let there : open_share c.args.member h ≡ Some (c.in-Some.field-0-0, c.in-Some.shape) = sym (ap (λ (s : Seen). s.current) e) ∙ c.in-Some.is in
      next_waits (g.S.Shares.members c.args.shares.now) c.args.member _ c.in-Some.shape h there c.if-shape.true (sym c.if-not-hand_on.true ∙ c.hand_on.ensures.answer h st);
  stands_for = λ h st.
      let e = c.look.ensures.value ∙ g.met.S.Shares.agrees c.args.shares.now h c.args.member st c.requires.member in
      let there : open_share c.args.member h ≡ Some (c.in-Some.field-0-0, c.in-Some.shape) = sym (ap (λ (s : Seen). s.current) e) ∙ c.in-Some.is in
      rw (next_wait_given (g.S.Shares.members c.args.shares.now) c.args.member _ c.in-Some.shape h there) (rw c.if-not-hand_on.true at (c.hand_on.ensures.stands h st));
  kept = λ refusal is. absurd (cc);
  waits = λ is. c.hand_on.ensures.kept c.if-not-hand_on.true;
}

-- the shares that are claimed of have the member's piece handed on
is_handed : (g : Over) (c : After-claim g) (h : List Event) → g.S.Shares.stands c.args.shares.now h →
    Handed (g.S.Shares.stands c.else-shape.shares) (g.S.Shares.members c.args.shares.now) (g.S.Shares.members c.else-shape.shares) c.args.member c.in-Some.field-0-0 c.in-Some.shape h
is_handed g c h st =
    let e = c.look.ensures.value ∙ g.met.S.Shares.agrees c.args.shares.now h c.args.member st c.requires.member in
    let there : open_share c.args.member h ≡ Some (c.in-Some.field-0-0, c.in-Some.shape) = sym (ap (λ (s : Seen). s.current) e) ∙ c.in-Some.is in
    elim c.else-shape.branch [
      | else-shape-via-then-shape+else-not-hand_on w ↦ rw w.shares-is (piece_is_handed (g.S.Shares.stands w.hand_on.new.self) (g.S.Shares.members c.args.shares.now) (g.S.Shares.members w.hand_on.new.self) c.args.member _ c.in-Some.shape h there w.if-shape.true
          (sym w.if-not-hand_on.false ∙ w.hand_on.ensures.answer h st) w.hand_on.ensures.members (rw w.if-not-hand_on.false at (w.hand_on.ensures.stands h st)))
      | else-shape-via-else-shape w ↦ rw w.shares-is (piece_is_kept (g.S.Shares.stands c.args.shares.now) (g.S.Shares.members c.args.shares.now) (g.S.Shares.members c.args.shares.now) c.args.member _ c.in-Some.shape h w.if-shape.false refl st)
    ]

pub claim-requires : goal.claim-requires
claim-requires g c =
    let (h, st) = c.look.ensures.known in
    let e = c.look.ensures.value ∙ g.met.S.Shares.agrees c.args.shares.now h c.args.member st c.requires.member in
    let there : open_share c.args.member h ≡ Some (c.in-Some.field-0-0, c.in-Some.shape) = sym (ap (λ (s : Seen). s.current) e) ∙ c.in-Some.is in
    let none = subst (λ (s : Seen). least (next_tests s) ≡ None) (g.met.S.Shares.agrees c.args.shares.now h c.args.member st c.requires.member) c.requires.place in
    let moved : Handed (g.S.Shares.stands c.else-shape.shares) (g.S.Shares.members c.args.shares.now) (g.S.Shares.members c.else-shape.shares) c.args.member c.in-Some.field-0-0 c.in-Some.shape h =
    elim c.else-shape.branch [
      | else-shape-via-then-shape+else-not-hand_on w ↦ rw w.shares-is (piece_is_handed (g.S.Shares.stands w.hand_on.new.self) (g.S.Shares.members c.args.shares.now) (g.S.Shares.members w.hand_on.new.self) c.args.member _ c.in-Some.shape h there w.if-shape.true
          (sym w.if-not-hand_on.false ∙ w.hand_on.ensures.answer h st) w.hand_on.ensures.members (rw w.if-not-hand_on.false at (w.hand_on.ensures.stands h st)))
      | else-shape-via-else-shape w ↦ rw w.shares-is (piece_is_kept (g.S.Shares.stands c.args.shares.now) (g.S.Shares.members c.args.shares.now) (g.S.Shares.members c.args.shares.now) c.args.member _ c.in-Some.shape h w.if-shape.false refl st)
    ] in
    let lt : c.args.member < g.S.Shares.members c.else-shape.shares = rw moved.same c.requires.member in
    record { place = next_claims (g.S.Shares.members c.args.shares.now) _ c.args.member _ c.in-Some.shape _ h lt (g.met.S.Shares.agrees c.else-shape.shares (handed_on (g.S.Shares.members c.args.shares.now) (c.in-Some.field-0-0, c.in-Some.shape) c.args.member h ++ h) c.args.member moved.stands lt) there none }

pub piece_reply-requires-clause-shape : goal.piece_reply-requires-clause-shape
piece_reply-requires-clause-shape g c =
    let (h, st) = c.look.ensures.known in
    let e = c.look.ensures.value ∙ g.met.S.Shares.agrees c.args.shares.now h c.args.member st c.requires.member in
    let there : open_share c.args.member h ≡ Some (c.in-Some.field-0-0, c.in-Some.shape) = sym (ap (λ (s : Seen). s.current) e) ∙ c.in-Some.is in
    g.met.S.Shares.valid c.args.shares.now h c.args.member _ c.in-Some.shape st there

pub piece_reply-requires-clause-within : goal.piece_reply-requires-clause-within
piece_reply-requires-clause-within g c =
    let (h, st) = c.look.ensures.known in
    let e = c.look.ensures.value ∙ g.met.S.Shares.agrees c.args.shares.now h c.args.member st c.requires.member in
    let there : open_share c.args.member h ≡ Some (c.in-Some.field-0-0, c.in-Some.shape) = sym (ap (λ (s : Seen). s.current) e) ∙ c.in-Some.is in
    let moved = is_handed g c h st in
    claim_within _ c.args.member _ c.in-Some.shape c.claim.result (handed_on (g.S.Shares.members c.args.shares.now) (c.in-Some.field-0-0, c.in-Some.shape) c.args.member h ++ h) (handed_there (g.S.Shares.members c.args.shares.now) c.args.member _ c.in-Some.shape h there) (c.claim.ensures.answer _ moved.stands)

pub returns-clause-serves : goal.returns-clause-serves
returns-clause-serves g c = record {
  known = c.look.ensures.known;
  answer = λ h st.
      let e = c.look.ensures.value ∙ g.met.S.Shares.agrees c.args.shares.now h c.args.member st c.requires.member in
      let there : open_share c.args.member h ≡ Some (c.in-Some.field-0-0, c.in-Some.shape) = sym (ap (λ (s : Seen). s.current) e) ∙ c.in-Some.is in
      let moved = is_handed g (goal.at.returns-clause-serves g c).After-claim h st in
      let claims = rw moved.same at (c.claim.ensures.answer _ moved.stands) in
      let dealt = next_deals (g.S.Shares.members c.args.shares.now) c.args.member _ c.in-Some.shape c.claim.result h there claims in
      rw c.piece_reply.ensures.answer (next_reply (g.S.Shares.members c.args.shares.now) c.args.member _ c.in-Some.shape c.claim.result h there moved.turn dealt);
  stands_for = λ h st.
      let e = c.look.ensures.value ∙ g.met.S.Shares.agrees c.args.shares.now h c.args.member st c.requires.member in
      let there : open_share c.args.member h ≡ Some (c.in-Some.field-0-0, c.in-Some.shape) = sym (ap (λ (s : Seen). s.current) e) ∙ c.in-Some.is in
      let moved = is_handed g (goal.at.returns-clause-serves g c).After-claim h st in
      let claims = rw moved.same at (c.claim.ensures.answer _ moved.stands) in
      let adds = next_adds (g.S.Shares.members c.args.shares.now) c.args.member _ c.in-Some.shape c.claim.result h value_tells_its_iteration there claims in
      rw (c.piece_reply.ensures.answer, adds) (c.claim.ensures.stands _ moved.stands);
  kept = λ refusal is. absurd (piece_never_refuses c.in-Some.shape c.claim.result refusal (sym c.piece_reply.ensures.answer ∙ is));
  waits = λ is. absurd (piece_never_waits c.in-Some.shape c.claim.result (sym c.piece_reply.ensures.answer ∙ is));
}
