use Rattle.std.proofs.Common.{rules, ◌≡◌, ◌∙◌, ap}
use Rattle.std.proofs.lemmas.Result.{IfOk-weaker}
use Rattle.clap.specs.Words.{App, app_of, with_subcommand}
use Rattle.gomp_command.specs.CommandLine.{ompteam, ompteam_alone, service_app}
use Rattle.gomp_command.specs.declared.command.Service.TheVariants.{Steps, Live, Check, Trace, Run}
use Rattle.gomp_command.proofs.command.ompteam.Goals as goal

pub returns : goal.returns
returns c =
    let above : app_of c.subcommand_required-command.result ≡ ompteam_alone = search rules in
    let one = with_subcommand ompteam_alone (service_app Steps).top in
    let two = with_subcommand one (service_app Live).top in
    let three = with_subcommand two (service_app Check).top in
    let steps : app_of c.in_ok-command.command ≡ one = c.in_ok-command.ensures ∙ ap (λ (app : App). with_subcommand app (service_app Steps).top) above in
    let live : app_of c.in_ok-command-2.command ≡ two = c.in_ok-command-2.ensures ∙ ap (λ (app : App). with_subcommand app (service_app Live).top) steps in
    let check : app_of c.in_ok-command-3.command ≡ three = c.in_ok-command-3.ensures ∙ ap (λ (app : App). with_subcommand app (service_app Check).top) live in
    let four = with_subcommand (with_subcommand two (service_app Check).top) (service_app Trace).top in
    let trace : app_of c.in_ok-command-4.command ≡ four = c.in_ok-command-4.ensures ∙ ap (λ (app : App). with_subcommand app (service_app Trace).top) check in
    IfOk-weaker c.with_service-5.result (λ added. app_of added ≡ with_subcommand (app_of c.in_ok-command-4.command) (service_app Run).top) (λ command. app_of command ≡ ompteam)
    (λ command added. added ∙ ap (λ (app : App). with_subcommand app (service_app Run).top) trace) c.with_service-5.ensures
