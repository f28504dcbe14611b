-- The words of the command line: why they are refused, or what they ask for. (own)
use Rattle.std.specs.Prelude.{◌≡◌, ◌≢◌, true, false, if◌then◌else◌, List, [], ◌∷◌, Option, Some, codes, find, is_some, map}
use Rattle.std.specs.Borrow.{Bor}
use Rattle.std.specs.Option.{option_map, option_map_or}
use Rattle.std.specs.Str.{bytes_eq}
use Rattle.clap.specs.Lexer.{usize_max}
use Rattle.clap.specs.Words.{App, Kinds, Row, Rule, Text, app_of, fault_of, new_app, new_rule, subcommand_of, subcommand_rows_of, with_rule, with_subcommand}
use Rattle.clap.specs.declared.builder.command.Command.{Command}
use Rattle.clap.specs.declared.builder.command.Command.TheViews.{out-Command}
use Rattle.clap.specs.declared.parser.matches.ArgMatches.{ArgMatches}
use Rattle.gomp_command.specs.declared.command.Service.{Service}
use Rattle.gomp_command.specs.declared.command.Service.TheVariants.{Steps, Live, Check, Trace, Run}
use Rattle.gomp_command.specs.declared.command.Request.{Request}

-- by which the settings are found
abbrev pub settings_name : Text
settings_name = codes "NAME=VALUE"

-- the words `NAME=VALUE` behind a service, any number of them
abbrev pub settings_rule : Rule
settings_rule = record (new_rule settings_name) { range = Some (record { start_inclusive = 0; end_inclusive = usize_max }) }

-- the word of a service
abbrev pub word_of : Service → Text
word_of Steps = codes "steps"
word_of Live = codes "live"
word_of Check = codes "check"
word_of Trace = codes "trace"
word_of Run = codes "run"

-- the subcommand of a service
abbrev pub service_app : Service → App
service_app service = with_rule (new_app (word_of service)) settings_rule

-- a command as it is built has this name and the settings, and no argument that those below it share
abbrev pub IsServiceCommand : Text → Command → Type 0
IsServiceCommand word command = (app_of command ≡ with_rule (new_app word) settings_rule) × ((out-Command command).has_globals ≡ false)

-- the command `ompteam`, which has a version and wants a subcommand
abbrev pub ompteam_alone : App
ompteam_alone = record (new_app (codes "ompteam")) {
  top = record (new_app (codes "ompteam")).top { has_version = true; subcommand_required = true };
}

-- the command with its subcommands
abbrev pub ompteam : App
ompteam = with_subcommand (with_subcommand (with_subcommand (with_subcommand (with_subcommand ompteam_alone (service_app Steps).top) (service_app Live).top) (service_app Check).top) (service_app Trace).top) (service_app Run).top

-- why the words of a command line, of which the first is the program's name, are not served; none
-- where they are
abbrev pub faults_of : List Text → Kinds
faults_of words = fault_of ompteam words

-- what words ask for: a service, and the settings behind its word
pub record Asked : Type 0 where
  pub service : Service
  pub settings : List Text

-- the service that a subcommand names
abbrev pub service_of : Text → Service
service_of name = if bytes_eq name (codes "live") then Live else if bytes_eq name (codes "check") then Check else if bytes_eq name (codes "trace") then Trace else if bytes_eq name (codes "run") then Run else Steps

-- the values of the settings among these rows
abbrev pub settings_in : List Row → List Text
settings_in rows = option_map_or (λ row. row.values) (find (λ row. bytes_eq row.id settings_name) rows) []

-- what the subcommand that was found asks for, if there is one
abbrev pub asked_in : Option (Text × List Row) → Option Asked
asked_in found = option_map (λ (f : Text × List Row). record { service = service_of f.0; settings = settings_in f.1 }) found

-- what the words of a command line ask for
abbrev pub asked_of : List Text → Option Asked
asked_of words = asked_in (subcommand_of ompteam words)

-- words that were read ask for this
abbrev pub AskFor : Option Asked → ArgMatches → Type 0
AskFor asked matches = asked_in (subcommand_rows_of matches) ≡ asked

-- words that were read ask for something
abbrev pub HasRequest : ArgMatches → Type 0
HasRequest matches = is_some (subcommand_rows_of matches) ≡ true

-- the settings that are given, if there are any
abbrev pub values_given : Option (Bor (List (Bor Text))) → List Text
values_given given = option_map_or (λ words. map (λ word. word.now) words.now) given []

-- what a request says
abbrev pub asked_by : Request → Asked
asked_by request = record { service = request.service; settings = map (λ word. word.now) request.settings.now }

-- the word begins with no hyphen
abbrev pub IsPlain : Text → Type 0
IsPlain [] = Unit {0}
IsPlain (b ∷ word) = b ≢ 45

-- none of the words begins with a hyphen
abbrev pub ArePlain : List Text → Type 0
ArePlain [] = Unit {0}
ArePlain (word ∷ words) = IsPlain word × ArePlain words
