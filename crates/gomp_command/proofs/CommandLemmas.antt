-- The command `ompteam` over clap's clauses: when its words are refused, and what they ask for if they are not.
use Rattle.std.proofs.Common.{◌≡◌, ◌∙◌, Bool, true, false, List, [], ◌∷◌, Option, Some, None, refl, ap, sym, inl, inr, map}
use Rattle.std.specs.Prelude.{find, is_some, option_map, IsSomeAnd, Result, Ok, Err, IsErrAnd, IfOk}
use Rattle.std.specs.Option.{option_map_or}
use Rattle.std.specs.Borrow.{Bor}
use Rattle.std.specs.Str.{bytes_eq}
use Rattle.std.proofs.lemmas.Bool.{cases_Bool}
use Rattle.clap.specs.Walk.{Held, finished, nothing_held, settled, walk, walk_from}
use Rattle.clap.specs.Simple.{Shape, argument_words, built, entered, names_of}
use Rattle.clap.specs.Kinds.{check_kinds, or_else}
use Rattle.clap.specs.Faults.{built_fault, check_fault, defaults_fault, entered_fault, settle_fault, walk_fault}
use Rattle.clap.specs.Words.{AddsArg, AddsSubcommand, App, FailsBy, HasMatchesOf, Kinds, Row, Rule, Text, app_of, fault_of, found_of, is_simple, is_simple_and_free, kind_of, matched_of, new_app, raw_values, rows_of, rule_of, subcommand_name_of, subcommand_of, subcommand_rows_of, with_rule, with_subcommand}
use Rattle.clap.specs.declared.parser.matches.ArgMatches.{ArgMatches}
use Rattle.clap.specs.declared.parser.matches.ArgMatches.TheViews.{out-ArgMatches}
use Rattle.clap.specs.declared.builder.arg.Arg.{Arg}
use Rattle.clap.specs.declared.builder.command.Command.{Command}
use Rattle.clap.specs.declared.builder.command.Command.TheViews.{out-Command}
use Rattle.clap.specs.declared.builder.range.ValueRange.{ValueRange}
use Rattle.clap.specs.declared.error.Error.{Error}
use Rattle.clap.proofs.OnLiterals.{clap_on_literals}
use Rattle.clap.specs.declared.error.kind.ErrorKind.TheVariants as kinds
use Rattle.gomp_command.specs.CommandLine.{AskFor, Asked, HasRequest, asked_in, asked_of, faults_of, ompteam, service_of, settings_in, settings_name, settings_rule, values_given}

-- clap's clauses on the kinds of errors speak of such commands alone
pub is_covered : is_simple_and_free ompteam ≡ true
unfolding clap_on_literals
is_covered = refl

is_simple_command : is_simple ompteam ≡ true
unfolding clap_on_literals
is_simple_command = refl

-- The settings among what was found

find_map : {E R V : Type 0} (entries : List E) (p : E → Bool) (q : R → Bool) (f : E → R) (v : E → V) (w : R → V) → ((e : E) → p e ≡ q (f e)) → ((e : E) → v e ≡ w (f e)) →
    option_map v (find p entries) ≡ option_map w (find q (map f entries))
find_map [] p q f v w same value = refl
find_map (e ∷ entries) p q f v w same value = elim (cases_Bool (p e)) [
  | inl here ↦ rw (here, sym (same e) ∙ here) (ap Some (value e))
  | inr other ↦ rw (other, sym (same e) ∙ other) (find_map entries p q f v w same value)
]

by_second : {A B V : Type 0} (v : B → V) (found : Option (A × B)) → option_map v (option_map (λ e. e.1) found) ≡ option_map (λ e. v e.1) found
by_second v None = refl
by_second v (Some e) = refl

given_values : (given : Option (Bor (List (Bor Text)))) → values_given given ≡ option_map_or (λ values. values) (option_map (λ s. map (λ v. v.now) s.now) given) []
given_values None = refl
given_values (Some given) = refl

mapped_or : {A V : Type 0} (v : A → List V) (found : Option A) → option_map_or (λ x. x) (option_map v found) [] ≡ option_map_or v found []
mapped_or v None = refl
mapped_or v (Some a) = refl

settings_given : (found : ArgMatches) (given : Option (Bor (List (Bor Text)))) →
    option_map (λ s. map (λ v. v.now) s.now) given ≡ option_map raw_values (matched_of (found_of found) settings_name) →
    values_given given ≡ settings_in (rows_of (found_of found))
settings_given found given values =
    given_values given
    ∙ ap (λ (found : Option (List Text)). option_map_or (λ v. v) found []) (values ∙ by_second raw_values _ ∙ find_map {R = Row} (found_of found).entries.items
    (λ x. bytes_eq x.0.now settings_name) (λ row. bytes_eq row.id settings_name)
    (λ x. record { id = x.0.now; values = raw_values x.1; count = x.1.count; source = x.1.source; reading = x.1.reading }) (λ x. raw_values x.1) (λ row. row.values) (λ e. refl) (λ e. refl))
    ∙ mapped_or (λ row. row.values) (find (λ row. bytes_eq row.id settings_name) (rows_of (found_of found)))

-- What the subcommand that was found asks for

first_of_pairs : {B : Type 0} (name : B → Text) (rows : B → List Row) (found : Option B) → option_map name found ≡ option_map (λ (p : Text × List Row). p.0) (option_map (λ b. (name b, rows b)) found)
first_of_pairs name rows None = refl
first_of_pairs name rows (Some b) = refl

asked_by_rows : (found : Option (Text × List Row)) (name : Text) (rows : List Row) → Some name ≡ option_map (λ p. p.0) found → Some rows ≡ option_map (λ p. p.1) found →
    asked_in found ≡ Some (record { service = service_of name; settings = settings_in rows })
asked_by_rows None name rows named e = absurd (cc)
asked_by_rows (Some found) name rows named e =
    let first : found.0 ≡ name = cc in
    let second : found.1 ≡ rows = cc in
    rw (first, second) refl

-- a request of the name and the settings that were found says what the words ask for
pub request_asked : (matches found : ArgMatches) (name : Text) (given : Option (Bor (List (Bor Text)))) (asked : Asked) → Some name ≡ subcommand_name_of matches →
    Some (rows_of (found_of found)) ≡ option_map (λ p. p.1) (subcommand_rows_of matches) →
    option_map (λ s. map (λ v. v.now) s.now) given ≡ option_map raw_values (matched_of (found_of found) settings_name) →
    asked ≡ record { service = service_of name; settings = values_given given } → AskFor (Some asked) matches
request_asked matches found name given asked named rows values is =
    asked_by_rows (subcommand_rows_of matches) name (rows_of (found_of found)) (named ∙ first_of_pairs _ _ (out-ArgMatches matches).subcommand) rows
    ∙ ap Some (ap (λ (settings : List Text). record { service = service_of name; settings = settings }) (sym (settings_given found given values)) ∙ sym is)

-- The argument of the settings

pub some_that : {A : Type 0} (given : Option A) (value : A) → IsSomeAnd given (λ x. x ≡ value) → given ≡ Some value
some_that None value is = absurd is
some_that (Some x) value is = ap Some is

-- a rule with another range
pub rule_with_range : (arg : Arg) (help : Option (Bor Text)) (range : Option ValueRange) (rule : Rule) → rule_of arg ≡ rule → rule_of (record arg { help = help; num_vals = range }) ≡ record rule { range = range }
rule_with_range arg help range rule same = ap (λ (r : Rule). record r { range = range }) same

-- The words of this command, matched

-- the words of a command that is `ompteam` fail by their faults
pub fails_by_faults : {T : Type 0} (app : App) (words : List Text) (result : Result T Error) → app ≡ ompteam → (is_simple_and_free app ≡ true → FailsBy (fault_of app words) result) → FailsBy (faults_of words) result
fails_by_faults app words result same fails =
    let free : is_simple_and_free app ≡ true = ap is_simple_and_free same ∙ is_covered in
    rw same at (fails free)

subcommand_matched : (app : App) (words : List Text) (matches : ArgMatches) → app ≡ ompteam → HasMatchesOf app words matches → subcommand_rows_of matches ≡ subcommand_of ompteam words
subcommand_matched app words matches same has =
    let simple : is_simple app ≡ true = ap is_simple same ∙ is_simple_command in
    (has simple).1 ∙ ap (λ (a : App). subcommand_of a words) same

-- what it finds asks for what the words do
pub asked_matched : (app : App) (words : List Text) (matches : ArgMatches) → app ≡ ompteam → HasMatchesOf app words matches → AskFor (asked_of words) matches
asked_matched app words matches same has = ap asked_in (subcommand_matched app words matches same has)

-- an error for want of memory is among the ends of any words
pub fails_by_memory : {T : Type 0} (faults : Kinds) (result : Result T Error) → IsErrAnd result (λ error. kind_of error ≡ kinds.OutOfMemory) → FailsBy faults result
fails_by_memory faults (Ok value) memory = absurd memory
fails_by_memory faults (Err error) memory = inl memory

pub nothing_given : {T : Type 0} (P : T → Type 0) (Q : Error → Type 0) (result : Result T Error) → IsErrAnd result Q → IfOk result P
nothing_given P Q (Ok value) fails = absurd fails
nothing_given P Q (Err error) fails = tt

-- Words without a fault have a subcommand

no_later_fault : (faults later : Kinds) → or_else faults later ≡ [] → later ≡ []
no_later_fault [] later none = none
no_later_fault (fault ∷ faults) later none = absurd (cc)

wanted_is_missing : (help wants argument : Bool) → wants ≡ true → check_kinds help wants argument ≡ [] → ⊥
wanted_is_missing true wants argument wanted none = absurd (cc)
wanted_is_missing false true argument wanted none = absurd (cc)
wanted_is_missing false false argument wanted none = absurd (cc)

needs_subcommand : (shape : Shape) (rows : List Row) (has : Bool) → shape.subcommand_required ≡ true → check_fault shape rows has ≡ [] → has ≡ true
needs_subcommand shape rows true required none = refl
needs_subcommand shape rows false required none = absurd (wanted_is_missing _ shape.subcommand_required _ required none)

found_without_fault : (app : App) (held : Held) (words : List Text) → app.top.subcommand_required ≡ true → built_fault app held words ≡ [] →
    is_some (entered app (walk app.top.rules (names_of app) held words).stopped) ≡ true
found_without_fault app held words required none =
    let end = walk app.top.rules (names_of app) held words in
    let entering = no_later_fault (walk_fault app.top (names_of app) (walk_from held) words) _ none in
    let settling = no_later_fault (entered_fault app end.stopped) _ entering in
    let filling = no_later_fault (settle_fault app.top.rules app.top.args_override_self end.held) _ settling in
    let checking = no_later_fault (defaults_fault (settled app.top.rules end.held).rows app.top.rules) _ filling in
    needs_subcommand app.top (finished app.top.rules end.held) (is_some (entered app end.stopped)) required checking

subcommand_without_fault : (words : List Text) → faults_of words ≡ [] → is_some (subcommand_of ompteam words) ≡ true
subcommand_without_fault words none = found_without_fault (built ompteam) nothing_held (argument_words ompteam words) refl none

asks_if_found : (found : Option (Text × List Row)) → is_some found ≡ true → is_some (asked_in found) ≡ true
asks_if_found None none = none
asks_if_found (Some found) some = refl

-- words that are served ask for something
pub words_ask : (words : List Text) → faults_of words ≡ [] → is_some (asked_of words) ≡ true
words_ask words none = asks_if_found (subcommand_of ompteam words) (subcommand_without_fault words none)

-- words that were read ask for something
pub has_request : (app : App) (words : List Text) (result : Result ArgMatches Error) → app ≡ ompteam → (is_simple_and_free app ≡ true → FailsBy (fault_of app words) result) → IfOk result (HasMatchesOf app words) → IfOk result HasRequest
has_request app words (Ok matches) same fails has =
    ap is_some (subcommand_matched app words matches same has)
    ∙ subcommand_without_fault words (fails_by_faults app words (Ok matches) same fails)
has_request app words (Err error) same fails has = tt

-- The command, put together

-- a subcommand that is named so, with the argument of the settings
pub is_service_app : (word : Text) (named : Command) (settings : Arg) (whole : Command) → app_of named ≡ new_app word → rule_of settings ≡ settings_rule → settings.global ≡ false → AddsArg named settings whole → app_of whole ≡ with_rule (new_app word) settings_rule
is_service_app word named settings whole new rule local adds =
    adds.shape local ∙ ap (λ (app : App). with_rule app (rule_of settings)) new ∙ ap (with_rule (new_app word)) rule

-- its argument is its own
pub is_service_local : (named : Command) (settings : Arg) (whole : Command) → (out-Command named).has_globals ≡ false → settings.global ≡ false → AddsArg named settings whole → (out-Command whole).has_globals ≡ false
is_service_local named settings whole none local adds = adds.globals ∙ rw (none, local) refl

-- one more subcommand
pub is_app_with : (above below whole : Command) (app added : App) → app_of above ≡ app → app_of below ≡ added → (out-Command below).has_globals ≡ false → AddsSubcommand above below whole → app_of whole ≡ with_subcommand app added.top
is_app_with above below whole app added is is_added local adds =
    adds.shape local ∙ ap (λ (a : App). with_subcommand a (app_of below).top) is ∙ ap (λ (a : App). with_subcommand app a.top) is_added
