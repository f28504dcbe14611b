use Rattle.std.proofs.Common.{sym, ◌∙◌}
use Rattle.gomp_member.proofs.Free.{next_moves_nothing}
use Rattle.gomp_member.proofs.state.MemberState.note.Goals as goal

pub returns-then-is_free : goal.returns-then-is_free
returns-then-is_free c = next_moves_nothing c.args.reply.now c.args.call c.args.self.now.own (sym c.is_next_reply.ensures ∙ c.if-is_next_reply.true) (sym c.is_free.ensures ∙ c.if-is_free.true)
