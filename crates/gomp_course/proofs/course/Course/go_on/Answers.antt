use Rattle.std.proofs.Common.{Some, None, subst}
use Rattle.gomp_course.specs.Exchanges.{act_found}
use Rattle.gomp_course.specs.Runs.{ActsOn, Moves}
use Rattle.gomp_course.proofs.course.Course.go_on.Goals as goal

pub returns-in-Ok : goal.returns-in-Ok
returns-in-Ok g c =
    let inside = c.self.inside in
    let asked = c.ask.new.self.prog in
    record {
      moves = subst (λ before. Moves g.P.Program g.T.Tool before c.do_act.new.self c.do_act.result) c.self.view_is (record {
        act = Some c.in-Ok.act;
        prog = asked;
        asked = subst (λ found. g.P.Program.next_gives inside.runner.prog inside.last (act_found found) asked) c.in-Ok.is c.ask.ensures.asked;
        acts = subst (λ runner. ActsOn g.T.Tool (Some c.in-Ok.act) (record { runner = runner; last = inside.last; end_tasks = inside.end_tasks; taken = inside.taken }) c.do_act.new.self c.do_act.result)
            c.ask.ensures.else_same c.do_act.ensures.acts;
      });
    }

pub returns-in-Err : goal.returns-in-Err
returns-in-Err g c =
    let inside = c.self.inside in
    let asked = c.ask.new.self.prog in
    record {
      moves = subst (λ before. Moves g.P.Program g.T.Tool before c.stop.new.self c.stop.result) c.self.view_is (record {
        act = None;
        prog = asked;
        asked = subst (λ found. g.P.Program.next_gives inside.runner.prog inside.last (act_found found) asked) c.in-Err.is c.ask.ensures.asked;
        acts = subst (λ runner. ActsOn g.T.Tool None (record { runner = runner; last = inside.last; end_tasks = inside.end_tasks; taken = inside.taken }) c.stop.new.self c.stop.result)
            c.ask.ensures.else_same (rw c.stop.ensures.over c.stop.ensures.acts);
      });
    }
