-- Worked command lines: the definitions tell served words from refused ones, and find what they ask for.
use Rattle.std.proofs.Common.{◌≡◌, [], ◌∷◌, Some, refl, codes}
use Rattle.std.specs.Option.{option_and_then, option_map}
use Rattle.clap.specs.declared.error.kind.ErrorKind.TheVariants as kinds
use Rattle.clap.proofs.OnLiterals.{clap_on_literals}
use Rattle.gomp_types.specs.declared.refusal.Refusal.TheVariants.{BadEnv}
use Rattle.gomp_command.specs.CommandLine.{asked_of, faults_of}
use Rattle.gomp_command.specs.declared.command.Service.TheVariants.{Steps, Live, Check, Trace, Run}
use Rattle.gomp_command.specs.Examples.{with_another_command, with_check, with_live, with_run, with_settings, with_trace, with_two_faults, without_command}
use Rattle.gomp_command.specs.Settings.{first_without, read_settings}

-- words with two settings are served
pub two_settings_are_served : faults_of with_settings ≡ []
unfolding clap_on_literals
two_settings_are_served = refl

pub two_settings_are_found : asked_of with_settings ≡ Some (record { service = Steps; settings = codes "OMP_SCHEDULE=guided,7" ∷ codes "FOO=1" ∷ [] })
unfolding clap_on_literals
two_settings_are_found = refl

-- the second of them is that of no variable
pub second_setting_is_ignored : option_map (λ read. read.1) (option_and_then (λ asked. read_settings asked.settings) (asked_of with_settings)) ≡ Some (BadEnv (codes "FOO") ∷ [])
unfolding clap_on_literals
second_setting_is_ignored = refl

-- the other service is served too
pub live_is_served : faults_of with_live ≡ []
unfolding clap_on_literals
live_is_served = refl

pub live_is_found : asked_of with_live ≡ Some (record { service = Live; settings = codes "OMP_SCHEDULE=guided,7" ∷ [] })
unfolding clap_on_literals
live_is_found = refl

-- and the third
pub check_is_served : faults_of with_check ≡ []
unfolding clap_on_literals
check_is_served = refl

pub check_is_found : asked_of with_check ≡ Some (record { service = Check; settings = codes "OMP_SCHEDULE=guided,7" ∷ [] })
unfolding clap_on_literals
check_is_found = refl

-- and the fourth
pub trace_is_served : faults_of with_trace ≡ []
unfolding clap_on_literals
trace_is_served = refl

pub trace_is_found : asked_of with_trace ≡ Some (record { service = Trace; settings = codes "OMP_SCHEDULE=guided,7" ∷ [] })
unfolding clap_on_literals
trace_is_found = refl

-- and the fifth
pub run_is_served : faults_of with_run ≡ []
unfolding clap_on_literals
run_is_served = refl

pub run_is_found : asked_of with_run ≡ Some (record { service = Run; settings = codes "OMP_THREAD_LIMIT=3" ∷ [] })
unfolding clap_on_literals
run_is_found = refl

-- another command than those of the services
pub another_command_is_refused : faults_of with_another_command ≡ kinds.UnknownArgument ∷ kinds.InvalidSubcommand ∷ []
unfolding clap_on_literals
another_command_is_refused = refl

-- no command
pub missing_command_is_refused : faults_of without_command ≡ kinds.MissingSubcommand ∷ []
unfolding clap_on_literals
missing_command_is_refused = refl

-- of two settings that have no `=`
pub first_word_without_equals : option_and_then (λ asked. first_without asked.settings) (asked_of with_two_faults) ≡ Some (codes "FOO")
unfolding clap_on_literals
first_word_without_equals = refl
