use Rattle.std.proofs.Common.{◌∙◌, false, ap, inr, rules}
use Rattle.gomp_types.specs.declared.call.Call.TheVariants.{TaskCreate}
use Rattle.gomp_team.specs.Members.{MemberView, SharedView}
use Rattle.gomp_team.proofs.AnswerLaws.{answers_of_the_same}
use Rattle.gomp_team.proofs.member.Member.ask_creation.Goals as goal

pub returns-clause-moves : goal.returns-clause-moves
returns-clause-moves g c = record {
  events = search rules;
  held = search rules;
  freed = search rules;
  seat = search rules;
  stays = search rules;
  answers = inr (answers_of_the_same false (TaskCreate c.args.desc) c.ask_with_items.result.0 _ _ _ _ _ _
      (ap (λ (shared : SharedView). shared.team.icv.cancellation) c.deref-2.ensures ∙ ap (λ (m : MemberView g.row.T.Denot). m.icv.cancellation) c.self.view_is)
      (ap (λ (m : MemberView g.row.T.Denot). m.own) c.self.view_is)
      (c.itself_refusal-found.ensures.same ∙ ap (λ (m : MemberView g.row.T.Denot). m.seat) c.self.view_is) c.ask_with_items.ensures.answers);
  own = search rules;
  tool = search rules;
  icv = search rules;
  ring = search rules;
}
