use Rattle.std.proofs.Common.{sym, ◌∙◌}
use Rattle.gomp_program.proofs.ExitLists.{no_share_at_all, no_share_left_at, share_left_at}
use Rattle.gomp_program.proofs.leaving.share_exit.Goals as goal

pub returns-then-is_of_share : goal.returns-then-is_of_share
returns-then-is_of_share c = sym (share_left_at c.args.script.now c.args.share c.args.frames.now c.loop-keep.keep c.groups_in.result _ c.loop-keep-test.true c.loop-keep.invariant.within c.loop-keep.invariant.once (sym c.is_of_share.ensures ∙ c.if-is_of_share.true) c.groups_in.ensures)

pub returns-then-not-is_once : goal.returns-then-not-is_once
returns-then-not-is_once c = sym (no_share_left_at c.args.script.now c.args.share c.args.frames.now c.loop-keep.keep _ c.loop-keep-test.true c.loop-keep.invariant.within c.loop-keep.invariant.once (sym c.is_of_share.ensures ∙ c.if-is_of_share.false) (sym c.is_once.ensures ∙ c.if-not-is_once.true))

pub returns : goal.returns
returns c = sym (no_share_at_all c.args.script.now c.args.share c.args.frames.now c.loop-keep.keep c.loop-keep-test.false c.loop-keep.invariant.once)
