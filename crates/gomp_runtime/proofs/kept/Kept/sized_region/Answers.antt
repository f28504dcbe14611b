use Rattle.std.proofs.Common.{inl, ◌≡◌, sym, subst, ◌∙◌, arith, take, drop, vec_len}
use Rattle.std.proofs.lemmas.Result.{IfOk-weaker}
use Rattle.gomp_fork.specs.Reports.{HasOthers, LeavesRegion}
use Rattle.gomp_fork.specs.Teams.{team_of}
use Rattle.gomp_levels.specs.Levels.{Forks}
use Rattle.gomp_fork.proofs.Rans.{as_many_of_a_fault, as_many_of_a_report, if_err_weaker, refused_leaves_all, region_left_of_all}
use Rattle.gomp_runtime.proofs.kept.Kept.sized_region.Goals as goal

pub with_others-requires-clause-report_room : goal.with_others-requires-clause-report_room
with_others-requires-clause-report_room g c =
    let part = c.in-Ok.ensures in
    let first = c.in-Ok.parted.first in
    let region = c.region-result.result in
    let many = as_many_of_a_report g.P.Program g.T.Tool (Forks g.P.Program g.T.Tool) (vec_len first.progs) (team_of c.args.terms) first.progs.items first.tools.items region
    c.region-result.ensures.region (sym first.progs.ok.0) (sym first.tools.ok.0 ∙ (part.first_len.1 ∙ sym part.first_len.0)) in
    IfOk-weaker region _ _ (λ report back. (
      omega (arith, back.0, report.progs.ok.0, part.first_len.0, part.others_len.0, part.room.0),
      omega (arith, back.1, report.tools.ok.0, part.first_len.0, part.others_len.1, part.room.1),
    )) many

pub with_others-requires-clause-fault_room : goal.with_others-requires-clause-fault_room
with_others-requires-clause-fault_room g c =
    let part = c.in-Ok.ensures in
    let first = c.in-Ok.parted.first in
    let region = c.region-result.result in
    let many = as_many_of_a_fault g.P.Program g.T.Tool (Forks g.P.Program g.T.Tool) (vec_len first.progs) (team_of c.args.terms) first.progs.items first.tools.items region
    c.region-result.ensures.region (sym first.progs.ok.0) (sym first.tools.ok.0 ∙ (part.first_len.1 ∙ sym part.first_len.0)) in
    if_err_weaker region _ _ (λ fault back. (
      omega (arith, back.0, fault.progs.ok.0, part.first_len.0, part.others_len.0, part.room.0),
      omega (arith, back.1, fault.tools.ok.0, part.first_len.0, part.others_len.1, part.room.1),
    )) many

pub returns-clause-region : goal.returns-clause-region
returns-clause-region g c =
    let program = g.P.Program in
    let tool = g.T.Tool in
    let team = team_of c.args.terms in
    let n = c.args.size in
    let progs = c.args.forked.progs.items in
    let tools = c.args.forked.tools.items in
    let part = c.in-Ok.ensures in
    let first = c.in-Ok.parted.first in
    let others = c.in-Ok.parted.others in
    let region = c.region-result.result in
    let all = c.with_others.result in
    let has = subst (λ ps. HasOthers ps (drop n tools) region all) part.others.0 (subst (λ ts. HasOthers others.progs.items ts region all) part.others.1 c.with_others.ensures) in
    let left = subst (λ k. LeavesRegion program tool (Forks program tool) k team (take n progs) (take n tools) region) part.first_len.0
    (subst (λ ps. LeavesRegion program tool (Forks program tool) (vec_len first.progs) team ps (take n tools) region) part.first.0
    (subst (λ ts. LeavesRegion program tool (Forks program tool) (vec_len first.progs) team first.progs.items ts region) part.first.1 c.region-result.ensures.region)) in
    region_left_of_all program tool (Forks program tool) n team progs tools region all has left

pub returns-then-size-len-clause-region : goal.returns-then-size-len-clause-region
returns-then-size-len-clause-region g c =
    let forked = c.args.forked in
    let all : forked.progs.len ≡ c.args.size = omega (arith, c.if-size-len.true, c.len.ensures) in
    subst (λ n. LeavesRegion g.P.Program g.T.Tool (Forks g.P.Program g.T.Tool) n (team_of c.args.terms) forked.progs.items forked.tools.items c.region.result) all c.region.ensures.region

pub returns-in-Err-clause-region : goal.returns-in-Err-clause-region
returns-in-Err-clause-region g c =
    refused_leaves_all g.P.Program g.T.Tool (Forks g.P.Program g.T.Tool) c.args.size (team_of c.args.terms) c.args.forked.progs.items c.args.forked.tools.items
    c.refused.result (c.refused.ensures.progs ∙ c.in-Err.ensures.progs) (c.refused.ensures.tools ∙ c.in-Err.ensures.tools) (inl c.refused.ensures.refusal)
