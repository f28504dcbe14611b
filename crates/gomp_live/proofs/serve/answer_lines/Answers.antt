use Rattle.std.proofs.Common.{◌≡◌, ◌≢◌, [], length, refl, ap, arith}
use Rattle.std.specs.Prelude.{IfSome, string_bytes}
use Rattle.std.specs.Io.BufRead.{take_through}
use Rattle.gomp_live.proofs.ServeLemmas.{talk_begins, talk_ends, talk_breaks, talk_unread, line_served, line_cut}
use Rattle.gomp_live.proofs.serve.answer_lines.Goals as goal

pub loop-init : goal.loop-init
loop-init g c = talk_begins g.S.Shares.stands g.S.Shares.members c.args.talk.now.icv (g.R.Read.remaining c.args.reader.now) (g.W.Write.contents c.args.writer.now) c.args.talk.now refl c.requires.begins

pub returns-in-Ok-eq0 : goal.returns-in-Ok-eq0
returns-in-Ok-eq0 g c = (talk_ends c.loop.invariant (c.in-Ok-eq0.ensures.end c.in-Ok-eq0.field-0-test), refl)

pub returns-in-Err : goal.returns-in-Err
returns-in-Err g c =
    rw c.read_fault.ensures (talk_unread c.args.talk.now.icv (g.R.Read.remaining c.args.reader.now) (g.W.Write.contents c.args.writer.now) (g.W.Write.contents c.loop.writer) _ (talk_breaks c.loop.invariant))

pub returns-in_default : goal.returns-in_default
returns-in_default g c = talk_breaks c.loop.invariant

pub loop-preserved : goal.loop-preserved
loop-preserved g c =
    let text = c.read_until.new.buf.items in
    let taken : IfSome (g.R.Read.remaining c.loop.reader) (λ xs. text ≡ take_through 10 xs) = rw c.clear.ensures.items at c.in-Ok.ensures.bytes in
    let some : text ≢ [] = λ none.
    let size = ap length none in
    let read = c.in-Ok.ensures.ok in
    let ok = c.read_until.new.buf.ok in
    let empty = c.clear.ensures.len in
    let test = c.in-Ok.field-0-test in
    absurd (omega arith) in
    line_served text (string_bytes c.in-Ok-answer.answer) c.loop.invariant some taken c.in-Ok.ensures.rest c.in-Ok-answer.ensures.icv
    (rw (c.cut_at.ensures.before, c.as_slice.ensures.value) at (c.in-Ok-answer.ensures.answer c.loop.invariant.lines c.loop.invariant.said c.loop.invariant.stands_for))
    (rw c.as_str.ensures.value at c.if-not-write_answer.ensures)

pub returns-then-not-write_answer : goal.returns-then-not-write_answer
returns-then-not-write_answer g c =
    let text = c.read_until.new.buf.items in
    let taken : IfSome (g.R.Read.remaining c.loop.reader) (λ xs. text ≡ take_through 10 xs) = rw c.clear.ensures.items at c.in-Ok.ensures.bytes in
    let some : text ≢ [] = λ none.
    let size = ap length none in
    let read = c.in-Ok.ensures.ok in
    let ok = c.read_until.new.buf.ok in
    let empty = c.clear.ensures.len in
    let test = c.in-Ok.field-0-test in
    absurd (omega arith) in
    line_cut _ text (string_bytes c.in-Ok-answer.answer) c.loop.invariant some taken c.in-Ok.ensures.rest c.in-Ok-answer.ensures.icv
    (rw (c.cut_at.ensures.before, c.as_slice.ensures.value) at (c.in-Ok-answer.ensures.answer c.loop.invariant.lines c.loop.invariant.said c.loop.invariant.stands_for))
    (rw c.as_str.ensures.value at c.if-not-write_answer.ensures)

pub returns : goal.returns
returns g c = talk_breaks c.loop.invariant
