use Rattle.std.proofs.Common.{◌≡◌, map}
use Rattle.std.proofs.lemmas.Result.{IfOk-weaker}
use Rattle.clap.specs.Words.{HasMatchesOf, app_of}
use Rattle.gomp_command.specs.CommandLine.{AskFor, asked_of, faults_of, ompteam}
use Rattle.gomp_command.proofs.CommandLemmas.{asked_matched, fails_by_faults, fails_by_memory, has_request, nothing_given}
use Rattle.gomp_command.proofs.command.read_words.Goals as goal

pub returns-clause-faults : goal.returns-clause-faults
returns-clause-faults g c =
    let same : app_of c.in_ok-ompteam.field-0 ≡ ompteam = c.in_ok-ompteam.ensures in
    fails_by_faults (app_of c.in_ok-ompteam.field-0) (map g.S.AsStr.text c.args.words.now) c.try_get_matches_from.result same c.try_get_matches_from.ensures.kinds

pub returns-clause-asked : goal.returns-clause-asked
returns-clause-asked g c =
    let same : app_of c.in_ok-ompteam.field-0 ≡ ompteam = c.in_ok-ompteam.ensures in
    let words = map g.S.AsStr.text c.args.words.now in
    IfOk-weaker c.try_get_matches_from.result (HasMatchesOf (app_of c.in_ok-ompteam.field-0) words) (AskFor (asked_of words))
    (λ matches has. asked_matched (app_of c.in_ok-ompteam.field-0) words matches same has) c.try_get_matches_from.ensures.matches

pub returns-clause-found : goal.returns-clause-found
returns-clause-found g c =
    let same : app_of c.in_ok-ompteam.field-0 ≡ ompteam = c.in_ok-ompteam.ensures in
    has_request (app_of c.in_ok-ompteam.field-0) (map g.S.AsStr.text c.args.words.now) c.try_get_matches_from.result same c.try_get_matches_from.ensures.kinds c.try_get_matches_from.ensures.matches

pub returns-in_err-ompteam-clause-faults : goal.returns-in_err-ompteam-clause-faults
returns-in_err-ompteam-clause-faults g c = fails_by_memory (faults_of (map g.S.AsStr.text c.args.words.now)) c.from_residual.result c.from_residual.ensures.1

pub returns-in_err-ompteam-clause-asked : goal.returns-in_err-ompteam-clause-asked
returns-in_err-ompteam-clause-asked g c = nothing_given _ _ c.from_residual.result c.from_residual.ensures.1

pub returns-in_err-ompteam-clause-found : goal.returns-in_err-ompteam-clause-found
returns-in_err-ompteam-clause-found g c = nothing_given _ _ c.from_residual.result c.from_residual.ensures.1
