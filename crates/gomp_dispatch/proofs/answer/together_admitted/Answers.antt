use Rattle.std.proofs.Common.{◌<◌, ℕ, ap, refl, sym, subst, arith}
use Rattle.std.specs.Prelude.{not}
use Rattle.gomp_types.specs.declared.loop_desc.EndKind.TheVariants.{Wait as WaitEnd, Cancellable}
use Rattle.gomp_events.specs.declared.event.Arrival.TheVariants.{Barrier, RegionEnd}
use Rattle.gomp_events.specs.Tags.{tag_with}
use Rattle.gomp_events.specs.Events.{shares_entered}
use Rattle.gomp_shares.specs.declared.admission.Construct.TheVariants.{Loop, Sections}
use Rattle.gomp_shares.specs.Loops.{end_tests}
use Rattle.gomp_shares.specs.Sections.{sections_end_tests}
use Rattle.gomp_shares.proofs.Admitted.{end_lets_leave}
use Rattle.gomp_model.specs.Arrivals.{barrier_row, region_end_row}
use Rattle.gomp_model.specs.Singles.{single_copy_end_row}
use Rattle.gomp_dispatch.specs.Serves.{arrival_op}
use Rattle.gomp_dispatch.proofs.Refused.{opens_own}
use Rattle.gomp_dispatch.proofs.OpAnswers.{op_answers}
use Rattle.gomp_dispatch.proofs.CallOps.{made_once, barrier_is_op, barrier_is_admitted, region_end_is_op, region_end_is_admitted, arrival_goes_on}
use Rattle.gomp_dispatch.proofs.Answered.{end_answers, end_is_admitted, put_answers, put_is_admitted, loop_end_needs, sections_end_needs}
use Rattle.gomp_dispatch.proofs.answer.together_admitted.Goals as goal

-- The ends of constructs with a barrier

pub end_reply-requires-clause-place : goal.end_reply-requires-clause-place
end_reply-requires-clause-place g c = λ first.
    let (p, parts, ready, made) = c.requires.admitted in
    let own = rw c.in-LoopEnd.is at ready in
    let e = g.met.S.Shares.agrees c.args.shares.now p.events c.args.member parts.shares_are c.requires.member in
    end_lets_leave Loop WaitEnd (g.S.Shares.members c.args.shares.now) c.args.member _ p.events (g.met.S.Shares.ruled c.args.shares.now p.events parts.shares_are) e c.requires.member (rw e (own.admitted.place (ap not first) refl))

pub end_reply-requires-clause-drained : goal.end_reply-requires-clause-drained
end_reply-requires-clause-drained g c = λ first. c.requires.drained first (rw c.in-LoopEnd.is refl)

pub end_reply-requires-clause-admitted : goal.end_reply-requires-clause-admitted
end_reply-requires-clause-admitted g c =
    end_is_admitted g.S.Shares.stands c.args.shares.now (end_tests WaitEnd) c.args.manner c.args.member c.args.board.now (rw c.in-LoopEnd.is at c.requires.admitted) (λ p own. loop_end_needs WaitEnd c.args.manner.repeated c.args.member c.args.board.now p (omega arith) own)

pub returns-in-LoopEnd-clause-answers : goal.returns-in-LoopEnd-clause-answers
returns-in-LoopEnd-clause-answers g c =
    let ready = rw c.in-LoopEnd.is at c.requires.admitted in
    rw c.in-LoopEnd.is (end_answers g.S.Shares.stands c.args.shares.now c.end_reply.new.shares (g.met.S.Shares.aside c.end_reply.new.shares) (end_tests WaitEnd) c.args.manner c.args.member c.args.board.now c.end_reply.new.board c.end_reply.result
    (subst (λ (n : ℕ). c.args.member < n) (sym c.requires.team) c.requires.member) ready c.end_reply.ensures.left c.end_reply.ensures.kept c.end_reply.ensures.performs (λ p own. loop_end_needs WaitEnd c.args.manner.repeated c.args.member c.args.board.now p (omega arith) own))

pub end_reply-requires-in-LoopEndCancel-clause-place : goal.end_reply-requires-in-LoopEndCancel-clause-place
end_reply-requires-in-LoopEndCancel-clause-place g c = λ first.
    let (p, parts, ready, made) = c.requires.admitted in
    let own = rw c.in-LoopEndCancel.is at ready in
    let e = g.met.S.Shares.agrees c.args.shares.now p.events c.args.member parts.shares_are c.requires.member in
    end_lets_leave Loop Cancellable (g.S.Shares.members c.args.shares.now) c.args.member _ p.events (g.met.S.Shares.ruled c.args.shares.now p.events parts.shares_are) e c.requires.member (rw e (own.admitted.place (ap not first) refl))

pub end_reply-requires-in-LoopEndCancel-clause-drained : goal.end_reply-requires-in-LoopEndCancel-clause-drained
end_reply-requires-in-LoopEndCancel-clause-drained g c = λ first. c.requires.drained first (rw c.in-LoopEndCancel.is refl)

pub end_reply-requires-in-LoopEndCancel-clause-admitted : goal.end_reply-requires-in-LoopEndCancel-clause-admitted
end_reply-requires-in-LoopEndCancel-clause-admitted g c =
    end_is_admitted g.S.Shares.stands c.args.shares.now (end_tests Cancellable) c.args.manner c.args.member c.args.board.now (rw c.in-LoopEndCancel.is at c.requires.admitted) (λ p own. loop_end_needs Cancellable c.args.manner.repeated c.args.member c.args.board.now p (omega arith) own)

pub returns-in-LoopEndCancel-clause-answers : goal.returns-in-LoopEndCancel-clause-answers
returns-in-LoopEndCancel-clause-answers g c =
    let ready = rw c.in-LoopEndCancel.is at c.requires.admitted in
    rw c.in-LoopEndCancel.is (end_answers g.S.Shares.stands c.args.shares.now c.end_reply-in-LoopEndCancel.new.shares (g.met.S.Shares.aside c.end_reply-in-LoopEndCancel.new.shares) (end_tests Cancellable) c.args.manner c.args.member c.args.board.now c.end_reply-in-LoopEndCancel.new.board c.end_reply-in-LoopEndCancel.result
    (subst (λ (n : ℕ). c.args.member < n) (sym c.requires.team) c.requires.member) ready c.end_reply-in-LoopEndCancel.ensures.left c.end_reply-in-LoopEndCancel.ensures.kept c.end_reply-in-LoopEndCancel.ensures.performs (λ p own. loop_end_needs Cancellable c.args.manner.repeated c.args.member c.args.board.now p (omega arith) own))

pub end_reply-requires-in-SectionsEnd-clause-place : goal.end_reply-requires-in-SectionsEnd-clause-place
end_reply-requires-in-SectionsEnd-clause-place g c = λ first.
    let (p, parts, ready, made) = c.requires.admitted in
    let own = rw c.in-SectionsEnd.is at ready in
    let e = g.met.S.Shares.agrees c.args.shares.now p.events c.args.member parts.shares_are c.requires.member in
    end_lets_leave Sections WaitEnd (g.S.Shares.members c.args.shares.now) c.args.member _ p.events (g.met.S.Shares.ruled c.args.shares.now p.events parts.shares_are) e c.requires.member (rw e (own.admitted.place (ap not first) refl))

pub end_reply-requires-in-SectionsEnd-clause-drained : goal.end_reply-requires-in-SectionsEnd-clause-drained
end_reply-requires-in-SectionsEnd-clause-drained g c = λ first. c.requires.drained first (rw c.in-SectionsEnd.is refl)

pub end_reply-requires-in-SectionsEnd-clause-admitted : goal.end_reply-requires-in-SectionsEnd-clause-admitted
end_reply-requires-in-SectionsEnd-clause-admitted g c =
    end_is_admitted g.S.Shares.stands c.args.shares.now (sections_end_tests WaitEnd) c.args.manner c.args.member c.args.board.now (rw c.in-SectionsEnd.is at c.requires.admitted) (λ p own. sections_end_needs WaitEnd c.args.manner.repeated c.args.member c.args.board.now p (omega arith) own)

pub returns-in-SectionsEnd-clause-answers : goal.returns-in-SectionsEnd-clause-answers
returns-in-SectionsEnd-clause-answers g c =
    let ready = rw c.in-SectionsEnd.is at c.requires.admitted in
    rw c.in-SectionsEnd.is (end_answers g.S.Shares.stands c.args.shares.now c.end_reply-in-SectionsEnd.new.shares (g.met.S.Shares.aside c.end_reply-in-SectionsEnd.new.shares) (sections_end_tests WaitEnd) c.args.manner c.args.member c.args.board.now c.end_reply-in-SectionsEnd.new.board c.end_reply-in-SectionsEnd.result
    (subst (λ (n : ℕ). c.args.member < n) (sym c.requires.team) c.requires.member) ready c.end_reply-in-SectionsEnd.ensures.left c.end_reply-in-SectionsEnd.ensures.kept c.end_reply-in-SectionsEnd.ensures.performs (λ p own. sections_end_needs WaitEnd c.args.manner.repeated c.args.member c.args.board.now p (omega arith) own))

pub end_reply-requires-in-SectionsEndCancel-clause-place : goal.end_reply-requires-in-SectionsEndCancel-clause-place
end_reply-requires-in-SectionsEndCancel-clause-place g c = λ first.
    let (p, parts, ready, made) = c.requires.admitted in
    let own = rw c.in-SectionsEndCancel.is at ready in
    let e = g.met.S.Shares.agrees c.args.shares.now p.events c.args.member parts.shares_are c.requires.member in
    end_lets_leave Sections Cancellable (g.S.Shares.members c.args.shares.now) c.args.member _ p.events (g.met.S.Shares.ruled c.args.shares.now p.events parts.shares_are) e c.requires.member (rw e (own.admitted.place (ap not first) refl))

pub end_reply-requires-in-SectionsEndCancel-clause-drained : goal.end_reply-requires-in-SectionsEndCancel-clause-drained
end_reply-requires-in-SectionsEndCancel-clause-drained g c = λ first. c.requires.drained first (rw c.in-SectionsEndCancel.is refl)

pub end_reply-requires-in-SectionsEndCancel-clause-admitted : goal.end_reply-requires-in-SectionsEndCancel-clause-admitted
end_reply-requires-in-SectionsEndCancel-clause-admitted g c =
    end_is_admitted g.S.Shares.stands c.args.shares.now (sections_end_tests Cancellable) c.args.manner c.args.member c.args.board.now (rw c.in-SectionsEndCancel.is at c.requires.admitted) (λ p own. sections_end_needs Cancellable c.args.manner.repeated c.args.member c.args.board.now p (omega arith) own)

pub returns-in-SectionsEndCancel-clause-answers : goal.returns-in-SectionsEndCancel-clause-answers
returns-in-SectionsEndCancel-clause-answers g c =
    let ready = rw c.in-SectionsEndCancel.is at c.requires.admitted in
    rw c.in-SectionsEndCancel.is (end_answers g.S.Shares.stands c.args.shares.now c.end_reply-in-SectionsEndCancel.new.shares (g.met.S.Shares.aside c.end_reply-in-SectionsEndCancel.new.shares) (sections_end_tests Cancellable) c.args.manner c.args.member c.args.board.now c.end_reply-in-SectionsEndCancel.new.board c.end_reply-in-SectionsEndCancel.result
    (subst (λ (n : ℕ). c.args.member < n) (sym c.requires.team) c.requires.member) ready c.end_reply-in-SectionsEndCancel.ensures.left c.end_reply-in-SectionsEndCancel.ensures.kept c.end_reply-in-SectionsEndCancel.ensures.performs (λ p own. sections_end_needs Cancellable c.args.manner.repeated c.args.member c.args.board.now p (omega arith) own))

-- Barriers

pub arrival_reply-requires-clause-admitted : goal.arrival_reply-requires-clause-admitted
arrival_reply-requires-clause-admitted g c = barrier_is_admitted g.S.Shares.stands c.args.shares.now c.args.manner c.args.member c.args.board.now (rw c.in-Barrier.is at c.requires.admitted)

pub returns-in-Barrier-clause-answers : goal.returns-in-Barrier-clause-answers
returns-in-Barrier-clause-answers g c =
    let ready = rw c.in-Barrier.is at c.requires.admitted in
    let repeated = c.args.manner.repeated in let leaving = c.args.manner.leaving.region in let m = c.args.member in
    rw c.in-Barrier.is (op_answers g.S.Shares.stands c.args.shares.now (g.met.S.Shares.aside c.args.shares.now) (λ h. arrival_op repeated leaving (tag_with Barrier (shares_entered m h))) barrier_row c.args.manner m c.args.board.now c.arrival_reply.new.board c.arrival_reply.result
    (subst (λ (n : ℕ). m < n) (sym c.requires.team) c.requires.member) ready c.arrival_reply.ensures.performs (λ p parts ready_there made. barrier_is_op g.S.Shares.stands c.args.shares.now repeated leaving m c.args.board.now p parts ready_there) refl (arrival_goes_on Barrier m repeated leaving))

pub arrival_reply-requires-in-RegionEnd-clause-admitted : goal.arrival_reply-requires-in-RegionEnd-clause-admitted
arrival_reply-requires-in-RegionEnd-clause-admitted g c = region_end_is_admitted g.S.Shares.stands c.args.shares.now c.args.manner c.args.member c.args.board.now (rw c.in-RegionEnd.is at c.requires.admitted)

pub returns-in-RegionEnd-clause-answers : goal.returns-in-RegionEnd-clause-answers
returns-in-RegionEnd-clause-answers g c =
    let ready = rw c.in-RegionEnd.is at c.requires.admitted in
    let repeated = c.args.manner.repeated in let leaving = c.args.manner.leaving.region in let m = c.args.member in
    rw c.in-RegionEnd.is (op_answers g.S.Shares.stands c.args.shares.now (g.met.S.Shares.aside c.args.shares.now) (λ h. arrival_op repeated leaving (tag_with RegionEnd (shares_entered m h))) region_end_row c.args.manner m c.args.board.now c.arrival_reply-in-RegionEnd.new.board c.arrival_reply-in-RegionEnd.result
    (subst (λ (n : ℕ). m < n) (sym c.requires.team) c.requires.member) ready c.arrival_reply-in-RegionEnd.ensures.performs (λ p parts ready_there made. region_end_is_op g.S.Shares.stands c.args.shares.now repeated leaving m c.args.board.now p parts ready_there made.leaves.region) refl (arrival_goes_on RegionEnd m repeated leaving))

-- Words

pub put_words-requires-clause-place : goal.put_words-requires-clause-place
put_words-requires-clause-place g c =
    let (p, parts, ready, made) = c.requires.admitted in
    let own = rw c.in-SingleCopyEnd.is at ready in
    let once = made_once (single_copy_end_row c.in-SingleCopyEnd.words) c.args.manner.repeated c.args.member c.args.board.now p (λ q given may. rw may refl) own in
    rw (g.met.S.Shares.agrees c.args.shares.now p.events c.args.member parts.shares_are c.requires.member) (own.admitted.place (ap not once) refl)

pub put_words-requires-clause-admitted : goal.put_words-requires-clause-admitted
put_words-requires-clause-admitted g c = put_is_admitted g.S.Shares.stands c.args.shares.now c.in-SingleCopyEnd.words c.args.manner c.args.member c.args.board.now (rw c.in-SingleCopyEnd.is at c.requires.admitted)

pub returns-in-SingleCopyEnd-clause-answers : goal.returns-in-SingleCopyEnd-clause-answers
returns-in-SingleCopyEnd-clause-answers g c =
    let ready = rw c.in-SingleCopyEnd.is at c.requires.admitted in
    rw c.in-SingleCopyEnd.is (put_answers g.S.Shares.stands c.args.shares.now c.put_words.new.shares (g.met.S.Shares.aside c.args.shares.now) c.in-SingleCopyEnd.words c.args.manner c.args.member c.args.board.now c.put_words.new.board c.put_words.result
    (subst (λ (n : ℕ). c.args.member < n) (sym c.requires.team) c.requires.member) ready c.put_words.ensures.puts c.put_words.ensures.left)

pub start_copy-requires-clause-starts : goal.start_copy-requires-clause-starts
start_copy-requires-clause-starts g c = opens_own c.args.starts.now _ _ (rw c.in-SingleCopyStart.is at c.requires.starts.0) c.requires.starts.1

pub start_copy-requires-clause-admitted : goal.start_copy-requires-clause-admitted
start_copy-requires-clause-admitted g c = rw c.in-SingleCopyStart.is at c.requires.admitted

pub returns-in-SingleCopyStart-clause-answers : goal.returns-in-SingleCopyStart-clause-answers
returns-in-SingleCopyStart-clause-answers g c = rw c.in-SingleCopyStart.is c.start_copy.ensures.answers
