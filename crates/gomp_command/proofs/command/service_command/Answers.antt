use Rattle.std.proofs.Common.{rules, ◌≡◌, false}
use Rattle.std.proofs.lemmas.Result.{IfOk-weaker}
use Rattle.clap.specs.Words.{AddsArg, app_of, new_app}
use Rattle.clap.specs.declared.builder.command.Command.TheViews.{out-Command}
use Rattle.gomp_command.specs.CommandLine.{IsServiceCommand}
use Rattle.gomp_command.proofs.CommandLemmas.{is_service_app, is_service_local}
use Rattle.gomp_command.proofs.command.service_command.Goals as goal

pub returns : goal.returns
returns c =
    let named : app_of c.about.result ≡ new_app c.args.word.now = search rules in
    let own : (out-Command c.about.result).has_globals ≡ false = search rules in
    IfOk-weaker c.arg.result (AddsArg c.about.result c.settings_arg.result) (IsServiceCommand c.args.word.now)
    (λ command adds. (is_service_app c.args.word.now c.about.result c.settings_arg.result command named c.settings_arg.ensures.rule c.settings_arg.ensures.local adds, is_service_local c.about.result c.settings_arg.result command own c.settings_arg.ensures.local adds)) c.arg.ensures
