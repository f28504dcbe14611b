use Rattle.std.proofs.Common.{List, reverse, subst}
use Rattle.gomp_events.specs.declared.event.Event.{Event}
use Rattle.gomp_board.specs.Boards.{Stands}
use Rattle.gomp_team_board.proofs.locked.LockedBoard.step_unless.Goals as goal

pub returns-then-member-members-clause-known : goal.returns-then-member-members-clause-known
returns-then-member-members-clause-known g c = subst (λ (es : List Event). Stands c.args.self.now.board (reverse es)) c.history.ensures.value c.history.ensures.known

pub returns-in-Some-clause-known : goal.returns-in-Some-clause-known
returns-in-Some-clause-known g c = subst (λ (es : List Event). Stands c.args.self.now.board (reverse es)) c.history.ensures.value c.history.ensures.known

pub returns-in_default-clause-known : goal.returns-in_default-clause-known
returns-in_default-clause-known g c = subst (λ (es : List Event). Stands c.args.self.now.board (reverse es)) c.history.ensures.value c.history.ensures.known

pub returns-in_default-clause-counts : goal.returns-in_default-clause-counts
returns-in_default-clause-counts g c = c.step_member.ensures.counts

pub returns-in_default-clause-part : goal.returns-in_default-clause-part
returns-in_default-clause-part g c = c.step_member.ensures.part
