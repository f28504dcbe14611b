use Rattle.std.proofs.Common.{◌≡◌, ◌∙◌, length, ap, arith, subst}
use Rattle.std.specs.Prelude.{vec_len}
use Rattle.std.proofs.lemmas.Result.{IfOk-weaker}
use Rattle.gomp_run.specs.Asks.{MakesPrograms}
use Rattle.gomp_run.proofs.ProgramCounts.{programs_counted}
use Rattle.gomp_run.proofs.program.RegionProgramProgram.fork.Goals as goal

pub returns : goal.returns
returns c = record {
  one_each = IfOk-weaker c.team_of.result (λ programs. programs.items ≡ c.in_ok-fork.field-0.items) (λ programs. vec_len programs ≡ c.args.count)
      (λ programs same.
      let size : length programs.items ≡ c.args.count = ap length same ∙ (ap length c.in_ok-fork.ensures ∙ programs_counted _ _ 0 c.args.count) in
      let ok = programs.ok in omega (arith, size)) c.team_of.ensures;
  programs = IfOk-weaker c.team_of.result (λ programs. programs.items ≡ c.in_ok-fork.field-0.items) (λ programs. MakesPrograms c.args.self.now c.args.count programs.items)
      (λ programs same. subst (λ program. MakesPrograms program c.args.count programs.items) c.self.view_is (same ∙ c.in_ok-fork.ensures)) c.team_of.ensures;
}
