use Rattle.std.proofs.Common.{◌≡◌, ◌∙◌, Some, ap, refl}
use Rattle.clap.specs.Lexer.{usize_max}
use Rattle.clap.specs.Words.{new_rule, rule_of}
use Rattle.clap.specs.declared.builder.arg.Arg.{Arg}
use Rattle.gomp_command.specs.CommandLine.{settings_name}
use Rattle.gomp_command.proofs.CommandLemmas.{rule_with_range, some_that}
use Rattle.gomp_command.proofs.command.settings_arg.Goals as goal

pub returns-clause-rule : goal.returns-clause-rule
returns-clause-rule c =
    let range : c.num_args.result.num_vals ≡ Some (record { start_inclusive = 0; end_inclusive = usize_max }) = some_that c.num_args.result.num_vals _ c.num_args.ensures.1 in
    ap rule_of c.num_args.ensures.0
    ∙ ap (λ (arg : Arg). rule_of (record arg { num_vals = c.num_args.result.num_vals })) c.help.ensures
    ∙ rule_with_range c.new.result c.help.result.help c.num_args.result.num_vals (new_rule settings_name) c.new.ensures.rule
    ∙ rw range refl
