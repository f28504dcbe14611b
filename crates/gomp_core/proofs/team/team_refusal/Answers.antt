use Rattle.std.proofs.Common.{◌∙◌}
use Rattle.gomp_board.specs.Boards.{members_of as board_members}
use Rattle.gomp_core.proofs.Refused.{member_before_wait, wait_alone}
use Rattle.gomp_core.proofs.team.team_refusal.Goals as goal

pub returns-in-Some : goal.returns-in-Some
returns-in-Some c = λ h st. member_before_wait (board_members c.args.board.now) c.args.member h c.args.call.now _ c.member_refusal.result c.in-Some.refusal (c.member_refusal.ensures h st) c.in-Some.is

pub returns-in-None : goal.returns-in-None
returns-in-None c = λ h st. c.wait_refusal.ensures ∙ wait_alone (board_members c.args.board.now) c.args.member h _ c.member_refusal.result (c.member_refusal.ensures h st) c.in-None.is
