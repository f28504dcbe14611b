use Rattle.std.proofs.Common.{rules, ◌≡◌, subst, sym, true, false, Bool, ℕ, [], ◌++◌, refl}
use Rattle.gomp_types.specs.declared.call.Server.TheVariants.{Shares as OfShares}
use Rattle.gomp_types.specs.Servers.{kind_served_by}
use Rattle.gomp_types.specs.declared.reply.Reply.{Reply}
use Rattle.gomp_events.specs.Cancels.{is_cancelled}
use Rattle.gomp_events.specs.CancelCalls.{TellsCancelled}
use Rattle.gomp_model.specs.Past.{Past}
use Rattle.gomp_types.specs.declared.loop_desc.EndKind.TheVariants.{Nowait}
use Rattle.gomp_events.specs.Events.{open_share}
use Rattle.gomp_types.specs.Iterations.{loop_tests}
use Rattle.gomp_types.specs.Pieces.{shape_of}
use Rattle.gomp_types.specs.Sections.{sections_shape, sections_tests}
use Rattle.gomp_types.specs.Singles.{single_shape}
use Rattle.gomp_shares.specs.Starts.{leaves}
use Rattle.gomp_shares.specs.Loops.{DealsOut, DealsNext, end_tests, next_given, piece_given}
use Rattle.gomp_dispatch.specs.Serves.{SharesStand}
use Rattle.gomp_shares.specs.Sections.{DealsSections, section_given, sections_end_tests}
use Rattle.gomp_shares.specs.Singles.{DealsSingle, single_given}
use Rattle.gomp_shares.specs.OrderedParts.{BeginsPart, part_given, part_end_tests, part_end_events}
use Rattle.gomp_shares.specs.declared.admission.Construct.TheVariants.{Loop, Sections}
use Rattle.gomp_shares.proofs.Admitted.{end_lets_leave}
use Rattle.gomp_dispatch.proofs.Refused.{start_has_its_share, opens_own}
use Rattle.gomp_dispatch.proofs.ShareEvents.{piece_share_events, section_share_events, single_share_events, next_share_events, section_next_share_events, part_share_events, cut_share_events, leave_share_events, tell_share_events}
use Rattle.gomp_dispatch.proofs.ShareRows.{start_serves, start_events, done_serves, done_events, piece_refuses, piece_cancels, next_refuses, next_cancels, section_refuses, section_cancels, single_refuses, single_cancels, part_refuses, part_cancels, cut_reply_may, cut_refuses, cut_waits, cut_given, sees_waiting}
use Rattle.gomp_dispatch.proofs.shares.share_reply.Goals as goal

-- Starts

pub loop_start_admitted-reply-requires : goal.loop_start_admitted-reply-requires
loop_start_admitted-reply-requires g c = record { place = opens_own c.args.starts.now _ c.in-Some.shape c.in-Some.is c.requires.starts.1 (g.S.Shares.members c.args.shares.now) c.args.member c.requires.member }

pub returns-in-Some-clause-serves : goal.returns-in-Some-clause-serves
returns-in-Some-clause-serves g c =
    let loop = c.in-LoopStart.field-0 in
    let is = start_has_its_share c.args.starts.now c.in-Some.shape (shape_of loop) c.in-Some.is (rw c.in-LoopStart.is at c.requires.starts.0) in
    let serves = rw (← is) at c.loop_start_admitted-reply.ensures.serves in
    rw (c.in-LoopStart.is, c.cut_reply.ensures) (start_serves (SharesStand g.S.Shares.stands c.args.shares.now c.args.team.cancelled) g.S.Shares.stands (g.S.Shares.members c.args.shares.now) c.args.team.allowed c.args.team.cancelled c.args.shares.now c.loop_start_admitted-reply.new.shares (loop_tests loop) (shape_of loop) DealsOut piece_given
    c.args.member c.loop_start_admitted-reply.result piece_refuses piece_cancels (g.met.S.Shares.aside c.args.shares.now) (λ h st. st.0) (λ h st. st.1) serves.waits (λ h st. serves.answer h st.0) (λ h st. serves.stands_for h st.0))

pub returns-in-Some-clause-events : goal.returns-in-Some-clause-events
returns-in-Some-clause-events g c =
    let loop = c.in-LoopStart.field-0 in
    rw c.in-LoopStart.is (start_events (loop_tests loop) (shape_of loop) DealsOut piece_given c.args.member c.cut_reply.result piece_share_events)

pub sections_start_admitted-reply-requires-clause-sections : goal.sections_start_admitted-reply-requires-clause-sections
sections_start_admitted-reply-requires-clause-sections g c =
    let is = start_has_its_share c.args.starts.now c.in-Some-starts.shape (sections_shape c.in-SectionsStart.count c.in-SectionsStart.end_kind) c.in-Some-starts.is (rw c.in-SectionsStart.is at c.requires.starts.0) in
    rw (← is) refl

pub sections_start_admitted-reply-requires-clause-place : goal.sections_start_admitted-reply-requires-clause-place
sections_start_admitted-reply-requires-clause-place g c = opens_own c.args.starts.now _ c.in-Some-starts.shape c.in-Some-starts.is c.requires.starts.1 (g.S.Shares.members c.args.shares.now) c.args.member c.requires.member

pub returns-in-Some-starts-clause-serves : goal.returns-in-Some-starts-clause-serves
returns-in-Some-starts-clause-serves g c =
    let count = c.in-SectionsStart.count in
    let end_kind = c.in-SectionsStart.end_kind in
    let is = start_has_its_share c.args.starts.now c.in-Some-starts.shape (sections_shape count end_kind) c.in-Some-starts.is (rw c.in-SectionsStart.is at c.requires.starts.0) in
    let serves = rw (← is) at c.sections_start_admitted-reply.ensures.serves in
    rw (c.in-SectionsStart.is, c.cut_reply-in-SectionsStart.ensures) (start_serves (SharesStand g.S.Shares.stands c.args.shares.now c.args.team.cancelled) g.S.Shares.stands (g.S.Shares.members c.args.shares.now) c.args.team.allowed c.args.team.cancelled c.args.shares.now c.sections_start_admitted-reply.new.shares (sections_tests count) (sections_shape count end_kind) DealsSections section_given
    c.args.member c.sections_start_admitted-reply.result section_refuses section_cancels (g.met.S.Shares.aside c.args.shares.now) (λ h st. st.0) (λ h st. st.1) serves.waits (λ h st. serves.answer h st.0) (λ h st. serves.stands_for h st.0))

pub returns-in-Some-starts-clause-events : goal.returns-in-Some-starts-clause-events
returns-in-Some-starts-clause-events g c =
    let count = c.in-SectionsStart.count in
    let end_kind = c.in-SectionsStart.end_kind in
    rw c.in-SectionsStart.is (start_events (sections_tests count) (sections_shape count end_kind) DealsSections section_given c.args.member c.cut_reply-in-SectionsStart.result section_share_events)

pub single_start_admitted-reply-requires : goal.single_start_admitted-reply-requires
single_start_admitted-reply-requires g c = record { place = opens_own c.args.starts.now _ (single_shape false) (rw c.in-SingleStart.is at c.requires.starts.0) c.requires.starts.1 (g.S.Shares.members c.args.shares.now) c.args.member c.requires.member }

pub returns-in-SingleStart-clause-serves : goal.returns-in-SingleStart-clause-serves
returns-in-SingleStart-clause-serves g c =
    let serves = c.single_start_admitted-reply.ensures.serves in
    rw (c.in-SingleStart.is, c.cut_reply-in-SingleStart.ensures) (start_serves (SharesStand g.S.Shares.stands c.args.shares.now c.args.team.cancelled) g.S.Shares.stands (g.S.Shares.members c.args.shares.now) c.args.team.allowed c.args.team.cancelled c.args.shares.now c.single_start_admitted-reply.new.shares [] (single_shape false) DealsSingle single_given
    c.args.member c.single_start_admitted-reply.result single_refuses single_cancels (g.met.S.Shares.aside c.args.shares.now) (λ h st. st.0) (λ h st. st.1) serves.waits (λ h st. serves.answer h st.0) (λ h st. serves.stands_for h st.0))

pub returns-in-SingleStart-clause-events : goal.returns-in-SingleStart-clause-events
returns-in-SingleStart-clause-events g c =
    let m = c.args.member in
    rw c.in-SingleStart.is (start_events [] (single_shape false) DealsSingle single_given c.args.member c.cut_reply-in-SingleStart.result single_share_events)

-- Nexts

pub loop_next_admitted-reply-requires-clause-place : goal.loop_next_admitted-reply-requires-clause-place
loop_next_admitted-reply-requires-clause-place g c = let (limits, none) = c.requires.place in rw c.in-LoopNext.is at none

pub returns-in-LoopNext-clause-serves : goal.returns-in-LoopNext-clause-serves
returns-in-LoopNext-clause-serves g c =
    let m = c.args.member in
    let stands = g.S.Shares.stands in
    let shares = c.args.shares.now in
    let after = c.loop_next_admitted-reply.new.shares in
    let reply = c.loop_next_admitted-reply.result in
    let cancelled = c.args.team.cancelled in
    let serves = c.loop_next_admitted-reply.ensures.serves in
    let deals : (p : Past) → Reply → Type 0 = λ p r. DealsNext p.terms.members m (open_share m p.events) r p.events in
    let may : (p : Past) → p.terms.members ≡ g.S.Shares.members shares → stands shares p.events → deals p reply = λ p size st. subst (λ (n : ℕ). DealsNext n m (open_share m p.events) reply p.events) (sym size) (serves.answer p.events st) in
    rw (c.in-LoopNext.is, c.cut_reply-in-LoopNext.ensures) (record {
      waits = λ wait. serves.waits (cut_waits cancelled reply wait);
      answer = λ repeated p size allows st goes. cut_reply_may (is_cancelled p.events) cancelled (deals p) reply st.1 (λ tells. next_cancels p.terms.members m (open_share m p.events) p.events tells) (may p size st.0);
      accepts = λ repeated p refusal gives. cut_refuses (is_cancelled p.events) (deals p) refusal (λ refuses. next_refuses p.terms.members m (open_share m p.events) refusal p.events refuses) gives;
      stands_for = λ repeated p size allows st goes. cut_given (stands after) cancelled m (λ (r : Reply). next_given p.terms.members (open_share m p.events) m p.events r) p.events reply (λ wait. sees_waiting stands shares after m p.events (g.met.S.Shares.aside shares p.events) st.0 (serves.waits wait))
          (λ tells. next_cancels p.terms.members m (open_share m p.events) p.events (subst (deals p) tells (may p size st.0))) (subst (λ (n : ℕ). stands after (next_given n (open_share m p.events) m p.events reply ++ p.events)) (sym size) (serves.stands_for p.events st.0));
    })

pub returns-in-LoopNext-clause-events : goal.returns-in-LoopNext-clause-events
returns-in-LoopNext-clause-events g c = rw c.in-LoopNext.is (λ repeated p sealed. (tt, cut_share_events c.args.member _ c.cut_reply-in-LoopNext.result _ (next_share_events p.terms.members c.args.member _ (open_share c.args.member p.events) p.events c.cut_reply-in-LoopNext.result)))

pub sections_next_admitted-requires-clause-place : goal.sections_next_admitted-requires-clause-place
sections_next_admitted-requires-clause-place g c = let (limits, none) = c.requires.place in rw c.in-SectionsNext.is at none

pub returns-in-SectionsNext-clause-serves : goal.returns-in-SectionsNext-clause-serves
returns-in-SectionsNext-clause-serves g c =
    let m = c.args.member in
    let serves = c.sections_next_admitted.ensures.serves in
    rw c.in-SectionsNext.is (record {
      waits = serves.waits;
      answer = λ repeated p size allows st goes. subst (λ (n : ℕ). DealsSections n m (open_share m p.events) c.sections_next_admitted.result p.events) (sym size) (serves.answer p.events st.0);
      accepts = λ repeated p refusal may. section_refuses p.terms.members m (open_share m p.events) refusal p.events may;
      stands_for = λ repeated p size allows st goes. serves.stands_for p.events st.0;
    })

pub returns-in-SectionsNext-clause-events : goal.returns-in-SectionsNext-clause-events
returns-in-SectionsNext-clause-events g c = rw c.in-SectionsNext.is (λ repeated p sealed. (tt, section_next_share_events c.args.member _ (open_share c.args.member p.events) c.sections_next_admitted.result))

-- Ends

pub leave_at_once-requires : goal.leave_at_once-requires
leave_at_once-requires g c =
    let (h, st) = c.requires.known in
    let e = g.met.S.Shares.agrees c.args.shares.now h c.args.member st c.requires.member in
    let (limits, none) = c.requires.place in
    record {
      place = end_lets_leave Loop Nowait (g.S.Shares.members c.args.shares.now) c.args.member _ h (g.met.S.Shares.ruled c.args.shares.now h st) e c.requires.member (rw c.in-LoopEndNowait.is at none);
      drained = c.requires.drained refl (rw c.in-LoopEndNowait.is refl);
    }

pub returns-in-LoopEndNowait-clause-serves : goal.returns-in-LoopEndNowait-clause-serves
returns-in-LoopEndNowait-clause-serves g c =
    rw c.in-LoopEndNowait.is (done_serves (SharesStand g.S.Shares.stands c.args.shares.now c.args.team.cancelled) g.S.Shares.stands (g.S.Shares.members c.args.shares.now) c.args.team.allowed c.args.shares.now c.leave_at_once.new.shares true (end_tests Nowait) leaves c.args.member c.leave_at_once.result (λ h st. st.0) c.leave_at_once.ensures.serves)

pub returns-in-LoopEndNowait-clause-events : goal.returns-in-LoopEndNowait-clause-events
returns-in-LoopEndNowait-clause-events g c = rw c.in-LoopEndNowait.is (done_events true (end_tests Nowait) leaves c.args.member c.leave_at_once.result (leave_share_events c.args.member))

pub leave_at_once-requires-in-SectionsEndNowait : goal.leave_at_once-requires-in-SectionsEndNowait
leave_at_once-requires-in-SectionsEndNowait g c =
    let (h, st) = c.requires.known in
    let e = g.met.S.Shares.agrees c.args.shares.now h c.args.member st c.requires.member in
    let (limits, none) = c.requires.place in
    record {
      place = end_lets_leave Sections Nowait (g.S.Shares.members c.args.shares.now) c.args.member _ h (g.met.S.Shares.ruled c.args.shares.now h st) e c.requires.member (rw c.in-SectionsEndNowait.is at none);
      drained = c.requires.drained refl (rw c.in-SectionsEndNowait.is refl);
    }

pub returns-in-SectionsEndNowait-clause-serves : goal.returns-in-SectionsEndNowait-clause-serves
returns-in-SectionsEndNowait-clause-serves g c =
    rw c.in-SectionsEndNowait.is (done_serves (SharesStand g.S.Shares.stands c.args.shares.now c.args.team.cancelled) g.S.Shares.stands (g.S.Shares.members c.args.shares.now) c.args.team.allowed c.args.shares.now c.leave_at_once-in-SectionsEndNowait.new.shares true (sections_end_tests Nowait) leaves c.args.member c.leave_at_once-in-SectionsEndNowait.result (λ h st. st.0)
    c.leave_at_once-in-SectionsEndNowait.ensures.serves)

pub returns-in-SectionsEndNowait-clause-events : goal.returns-in-SectionsEndNowait-clause-events
returns-in-SectionsEndNowait-clause-events g c = rw c.in-SectionsEndNowait.is (done_events true (sections_end_tests Nowait) leaves c.args.member c.leave_at_once-in-SectionsEndNowait.result (leave_share_events c.args.member))

-- Ordered parts

pub returns-in-OrderedStart-clause-serves : goal.returns-in-OrderedStart-clause-serves
returns-in-OrderedStart-clause-serves g c =
    let m = c.args.member in
    let stands = g.S.Shares.stands in
    let shares = c.args.shares.now in
    let after = c.ordered_start_admitted-reply.new.shares in
    let reply = c.ordered_start_admitted-reply.result in
    let cancelled = c.args.team.cancelled in
    let serves = c.ordered_start_admitted-reply.ensures.serves in
    let deals : (p : Past) → Reply → Type 0 = λ p r. BeginsPart p.terms.members m (open_share m p.events) r p.events in
    let may : (p : Past) → p.terms.members ≡ g.S.Shares.members shares → stands shares p.events → deals p reply = λ p size st. subst (λ (n : ℕ). BeginsPart n m (open_share m p.events) reply p.events) (sym size) (serves.answer p.events st) in
    let given : (p : Past) → stands shares p.events → stands after (part_given (open_share m p.events) m c.in-OrderedStart.value reply ++ p.events) = search rules in
    rw (c.in-OrderedStart.is, c.cut_reply-in-OrderedStart.ensures) (record {
      waits = λ wait. serves.waits (cut_waits cancelled reply wait);
      answer = λ repeated p size allows st goes. cut_reply_may (is_cancelled p.events) cancelled (deals p) reply st.1 (λ tells. part_cancels p.terms.members m (open_share m p.events) p.events tells) (may p size st.0);
      accepts = λ repeated p refusal gives. cut_refuses (is_cancelled p.events) (deals p) refusal (λ refuses. part_refuses p.terms.members m (open_share m p.events) refusal p.events refuses) gives;
      stands_for = λ repeated p size allows st goes. cut_given (stands after) cancelled m (λ (r : Reply). part_given (open_share m p.events) m c.in-OrderedStart.value r) p.events reply (λ wait. sees_waiting stands shares after m p.events (g.met.S.Shares.aside shares p.events) st.0 (serves.waits wait))
          (λ tells. part_cancels p.terms.members m (open_share m p.events) p.events (subst (deals p) tells (may p size st.0))) (given p st.0);
    })

pub returns-in-OrderedStart-clause-events : goal.returns-in-OrderedStart-clause-events
returns-in-OrderedStart-clause-events g c = rw c.in-OrderedStart.is (λ repeated p sealed. (tt, cut_share_events c.args.member _ c.cut_reply-in-OrderedStart.result _ (part_share_events c.args.member _ (open_share c.args.member p.events) c.in-OrderedStart.value c.cut_reply-in-OrderedStart.result)))

pub returns-in-OrderedEnd-clause-serves : goal.returns-in-OrderedEnd-clause-serves
returns-in-OrderedEnd-clause-serves g c =
    rw c.in-OrderedEnd.is (done_serves (SharesStand g.S.Shares.stands c.args.shares.now c.args.team.cancelled) g.S.Shares.stands (g.S.Shares.members c.args.shares.now) c.args.team.allowed c.args.shares.now c.ordered_end_admitted.new.shares false part_end_tests part_end_events c.args.member c.ordered_end_admitted.result (λ h st. st.0) c.ordered_end_admitted.ensures.serves)

pub returns-in-OrderedEnd-clause-events : goal.returns-in-OrderedEnd-clause-events
returns-in-OrderedEnd-clause-events g c = rw c.in-OrderedEnd.is (done_events false part_end_tests part_end_events c.args.member c.ordered_end_admitted.result (λ h. (tt, tt)))

-- Cancellation

pub cancel_share-requires : goal.cancel_share-requires
cancel_share-requires g c =
    let (limits, none) = c.requires.place in
    record { place = record { member = c.requires.member; share = rw c.in-Cancel.is at c.requires.served; place = rw c.in-Cancel.is at none } }

pub returns-in-Cancel-clause-serves : goal.returns-in-Cancel-clause-serves
returns-in-Cancel-clause-serves g c =
    let serves = c.cancel_share.ensures.serves in
    rw c.in-Cancel.is (record {
      waits = serves.waits;
      answer = λ repeated p size allows st goes. subst (λ (b : Bool). TellsCancelled b c.in-Cancel.kind c.in-Cancel.clause c.args.member p.events c.cancel_share.result) (sym allows) (serves.answer p.events st.0);
      accepts = λ repeated p refusal may. cc;
      stands_for = λ repeated p size allows st goes. serves.stands_for p.events st.0;
    })

pub returns-in-Cancel-clause-events : goal.returns-in-Cancel-clause-events
returns-in-Cancel-clause-events g c =
    let names : kind_served_by c.in-Cancel.kind ≡ OfShares = rw c.in-Cancel.is at c.requires.served in
    rw c.in-Cancel.is (λ repeated p sealed. (tt, tell_share_events c.in-Cancel.kind c.in-Cancel.clause c.args.member p.events c.cancel_share.result names sealed))

pub cancel_share-requires-in-Point : goal.cancel_share-requires-in-Point
cancel_share-requires-in-Point g c =
    let (limits, none) = c.requires.place in
    record { place = record { member = c.requires.member; share = rw c.in-Point.is at c.requires.served; place = rw c.in-Point.is at none } }

pub returns-in-Point-clause-serves : goal.returns-in-Point-clause-serves
returns-in-Point-clause-serves g c =
    let serves = c.cancel_share-in-Point.ensures.serves in
    rw c.in-Point.is (record {
      waits = serves.waits;
      answer = λ repeated p size allows st goes. subst (λ (b : Bool). TellsCancelled b c.in-Point.kind false c.args.member p.events c.cancel_share-in-Point.result) (sym allows) (serves.answer p.events st.0);
      accepts = λ repeated p refusal may. cc;
      stands_for = λ repeated p size allows st goes. serves.stands_for p.events st.0;
    })

pub returns-in-Point-clause-events : goal.returns-in-Point-clause-events
returns-in-Point-clause-events g c =
    let names : kind_served_by c.in-Point.kind ≡ OfShares = rw c.in-Point.is at c.requires.served in
    rw c.in-Point.is (λ repeated p sealed. (tt, tell_share_events c.in-Point.kind false c.args.member p.events c.cancel_share-in-Point.result names sealed))
