use Rattle.std.proofs.Common.{◌≡◌, refl}
use Rattle.std.proofs.lemmas.Result.{IfOk-weaker}
use Rattle.clap.specs.Words.{AddsSubcommand, app_of, new_app, with_rule, with_subcommand}
use Rattle.gomp_command.specs.CommandLine.{settings_rule}
use Rattle.gomp_command.proofs.CommandLemmas.{is_app_with}
use Rattle.gomp_command.proofs.command.with_service.Goals as goal

pub returns : goal.returns
returns c =
    let service = with_rule (new_app c.args.word.now) settings_rule in
    IfOk-weaker c.subcommand.result (AddsSubcommand c.args.command c.in_ok-service.service) (λ added. app_of added ≡ with_subcommand (app_of c.args.command) service.top)
    (λ added adds. is_app_with c.args.command c.in_ok-service.service added (app_of c.args.command) service refl c.in_ok-service.ensures.0 c.in_ok-service.ensures.1 adds) c.subcommand.ensures
