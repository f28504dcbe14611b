-- Settings of which none begins with a hyphen are served, however many they are: where the walk over their words stands after each.
use Rattle.std.proofs.Common.{◌≡◌, ◌∙◌, ◌≤◌, ◌<◌, ◌^◌, Bool, true, false, List, [], ◌∷◌, ◌++◌, Some, None, length, refl, ap, sym, append_assoc, arith}
use Rattle.std.specs.Prelude.{is_some, nat_lt}
use Rattle.std.specs.List.{fold}
use Rattle.std.specs.Str.{bytes_eq}
use Rattle.std.proofs.lemmas.Bool.{ne_eqb}
use Rattle.std.proofs.lemmas.Bool.Decides.{nat_tests}
use Rattle.std.proofs.lemmas.List.{append-nil}
use Rattle.clap.specs.Lexer.{long_of, short_of, usize_max}
use Rattle.clap.specs.Walk.{Text, Walk, idle, positional, finished, nothing_held, settled, walk, walk_from, walked}
use Rattle.clap.specs.Simple.{Shape, built, entered, names_of, new_shape, rows_at}
use Rattle.clap.specs.Kinds.{Kinds, or_else, values_kinds}
use Rattle.clap.specs.Faults.{check_fault, defaults_fault, entered_fault, level_fault, settle_fault, turn_fault, walk_fault}
use Rattle.clap.specs.declared.builder.value_parser.ValueParser.TheVariants as parser
use Rattle.clap.proofs.OnLiterals.{clap_on_literals}
use Rattle.gomp_command.specs.CommandLine.{ArePlain, IsPlain, asked_in, asked_of, faults_of, ompteam, service_of, settings_in, settings_name, word_of}
use Rattle.gomp_command.specs.declared.command.Service.{Service}
use Rattle.gomp_command.specs.declared.command.Service.TheVariants.{Steps, Live, Check, Trace, Run}

-- A word that begins with no hyphen is no option

no_long : (word : Text) → IsPlain word → long_of word ≡ None
no_long [] plain = refl
no_long (b ∷ word) plain = rw (ne_eqb b 45 plain) refl

no_short : (word : Text) → IsPlain word → short_of word ≡ None
no_short [] plain = refl
no_short (b ∷ word) plain = rw (ne_eqb b 45 plain) refl

no_hyphens : (word : Text) → IsPlain word → bytes_eq word (45 ∷ 45 ∷ []) ≡ false
no_hyphens [] plain = refl
no_hyphens (b ∷ word) plain = rw (ne_eqb b 45 plain) refl

-- The walk over the settings

-- the first of these commands
abbrev first_shape : List Shape → Shape
first_shape [] = new_shape []
first_shape (shape ∷ shapes) = shape

-- the subcommand of a service with its help: but for their names all are one
abbrev service_built : Service → Shape
service_built service = record (first_shape (built ompteam).subs) { name = word_of service }

-- where the walk stands after these settings, at least one
abbrev after_settings : List Text → Walk
after_settings settings = record {
  held = record { rows = []; pending = Some (settings_name, settings); skip = 0 };
  waiting = positional;
  position = 1;
  is_trailing = false;
  stopped = None;
}

first_step : (service : Service) (word : Text) → IsPlain word → walked (service_built service).rules [] (walk_from nothing_held) word ≡ after_settings (word ∷ [])
unfolding clap_on_literals
first_step service word plain = rw (no_hyphens word plain, no_long word plain, no_short word plain) refl

next_step : (service : Service) (before : List Text) (word : Text) → IsPlain word → walked (service_built service).rules [] (after_settings before) word ≡ after_settings (before ++ word ∷ [])
unfolding clap_on_literals
next_step service before word plain = rw (no_hyphens word plain, no_long word plain, no_short word plain) refl

walk_on : (service : Service) (before words : List Text) → ArePlain words → fold (walked (service_built service).rules []) (after_settings before) words ≡ after_settings (before ++ words)
walk_on service before [] plain = ap after_settings (sym (append-nil before))
walk_on service before (word ∷ words) plain =
    ap (λ (stand : Walk). fold (walked (service_built service).rules []) stand words) (next_step service before word plain.0)
    ∙ walk_on service (before ++ word ∷ []) words plain.1
    ∙ ap after_settings (append_assoc before (word ∷ []) words)

settings_walk : (service : Service) (word : Text) (words : List Text) → ArePlain (word ∷ words) → walk (service_built service).rules [] nothing_held (word ∷ words) ≡ after_settings (word ∷ words)
settings_walk service word words plain =
    ap (λ (stand : Walk). fold (walked (service_built service).rules []) stand words) (first_step service word plain.0)
    ∙ walk_on service (word ∷ []) words plain.1

-- Its faults

first_fault : (service : Service) (word : Text) → IsPlain word → turn_fault (service_built service) [] (walk_from nothing_held) word ≡ []
unfolding clap_on_literals
first_fault service word plain = rw (no_hyphens word plain, no_long word plain, no_short word plain) refl

next_fault : (service : Service) (before : List Text) (word : Text) → IsPlain word → turn_fault (service_built service) [] (after_settings before) word ≡ []
unfolding clap_on_literals
next_fault service before word plain = rw (no_hyphens word plain, no_long word plain, no_short word plain) refl

faults_on : (service : Service) (before words : List Text) → ArePlain words → walk_fault (service_built service) [] (after_settings before) words ≡ []
unfolding walk_fault
faults_on service before [] plain = refl
faults_on service before (word ∷ words) plain =
    ap (λ (faults : Kinds). or_else faults (walk_fault (service_built service) [] (walked (service_built service).rules [] (after_settings before) word) words)) (next_fault service before word plain.0)
    ∙ ap (λ (stand : Walk). walk_fault (service_built service) [] stand words) (next_step service before word plain.0)
    ∙ faults_on service (before ++ word ∷ []) words plain.1

settings_faults : (service : Service) (word : Text) (words : List Text) → ArePlain (word ∷ words) → walk_fault (service_built service) [] (walk_from nothing_held) (word ∷ words) ≡ []
unfolding walk_fault
settings_faults service word words plain =
    ap (λ (faults : Kinds). or_else faults (walk_fault (service_built service) [] (walked (service_built service).rules [] (walk_from nothing_held) word) words)) (first_fault service word plain.0)
    ∙ ap (λ (stand : Walk). walk_fault (service_built service) [] stand words) (first_step service word plain.0)
    ∙ faults_on service (word ∷ []) words plain.1

texts_accepted : (values : List Text) → values_kinds false parser.String values ≡ []
texts_accepted [] = refl
texts_accepted (value ∷ values) = texts_accepted values

-- the faults of one level of a command, by where its walk stands at the end
abbrev level_at : Shape → Walk → Kinds → Bool → Kinds → Kinds
level_at shape end faults has_subcommand below =
    or_else faults (or_else below (or_else (settle_fault shape.rules shape.args_override_self end.held)
    (or_else (defaults_fault (settled shape.rules end.held).rows shape.rules)
    (check_fault shape (finished shape.rules end.held) has_subcommand))))

end_fault : (service : Service) (word : Text) (words : List Text) → length (word ∷ words) ≤ usize_max → level_at (service_built service) (after_settings (word ∷ words)) [] false [] ≡ []
unfolding clap_on_literals
end_fault service word words few =
    let some : nat_lt (length (word ∷ words)) 0 ≡ false = grind (arith, nat_tests) in
    let most : nat_lt usize_max (length (word ∷ words)) ≡ false = grind (arith, nat_tests, few) in
    rw (some, most, texts_accepted words) refl

service_level : (service : Service) (settings : List Text) → ArePlain settings → length settings ≤ usize_max → level_fault (service_built service) [] nothing_held settings false [] ≡ []
unfolding clap_on_literals
service_level service [] plain few = refl
service_level service (word ∷ words) plain few =
    ap (λ (end : Walk). level_at (service_built service) end (walk_fault (service_built service) [] (walk_from nothing_held) (word ∷ words)) false []) (settings_walk service word words plain)
    ∙ ap (λ (faults : Kinds). level_at (service_built service) (after_settings (word ∷ words)) faults false []) (settings_faults service word words plain)
    ∙ end_fault service word words few

-- The walk over all words

-- where it stands after the word of a service and these
abbrev after_service : Service → List Text → Walk
after_service service settings = record { held = nothing_held; waiting = idle; position = 1; is_trailing = false; stopped = Some (word_of service, settings) }

service_on : (service : Service) (before words : List Text) → fold (walked (built ompteam).top.rules (names_of (built ompteam))) (after_service service before) words ≡ after_service service (before ++ words)
unfolding clap_on_literals
service_on service before [] = ap (after_service service) (sym (append-nil before))
service_on service before (word ∷ words) = service_on service (before ++ word ∷ []) words ∙ ap (after_service service) (append_assoc before (word ∷ []) words)

no_faults_on : (service : Service) (before words : List Text) → walk_fault (built ompteam).top (names_of (built ompteam)) (after_service service before) words ≡ []
unfolding clap_on_literals
no_faults_on service before [] = refl
no_faults_on service before (word ∷ words) = no_faults_on service (before ++ word ∷ []) words

service_walk : (service : Service) (settings : List Text) → walk (built ompteam).top.rules (names_of (built ompteam)) nothing_held (word_of service ∷ settings) ≡ after_service service settings
unfolding clap_on_literals
service_walk Steps settings = service_on Steps [] settings
service_walk Live settings = service_on Live [] settings
service_walk Check settings = service_on Check [] settings
service_walk Trace settings = service_on Trace [] settings
service_walk Run settings = service_on Run [] settings

service_faults : (service : Service) (settings : List Text) → walk_fault (built ompteam).top (names_of (built ompteam)) (walk_from nothing_held) (word_of service ∷ settings) ≡ []
unfolding clap_on_literals
service_faults Steps settings = no_faults_on Steps [] settings
service_faults Live settings = no_faults_on Live [] settings
service_faults Check settings = no_faults_on Check [] settings
service_faults Trace settings = no_faults_on Trace [] settings
service_faults Run settings = no_faults_on Run [] settings

-- the subcommand that is met
service_entered : (service : Service) (settings : List Text) → entered (built ompteam) (Some (word_of service, settings)) ≡ Some (rows_at (service_built service) settings)
unfolding clap_on_literals
service_entered Steps settings = refl
service_entered Live settings = refl
service_entered Check settings = refl
service_entered Trace settings = refl
service_entered Run settings = refl

service_entered_fault : (service : Service) (settings : List Text) → entered_fault (built ompteam) (Some (word_of service, settings)) ≡ level_fault (service_built service) [] nothing_held settings false []
unfolding clap_on_literals
service_entered_fault Steps settings = refl
service_entered_fault Live settings = refl
service_entered_fault Check settings = refl
service_entered_fault Trace settings = refl
service_entered_fault Run settings = refl

no_fault_above : (service : Service) (settings : List Text) → level_at (built ompteam).top (after_service service settings) [] true [] ≡ []
unfolding clap_on_literals
no_fault_above service settings = refl

-- what is found for it
service_named : (service : Service) → service_of (word_of service) ≡ service
unfolding clap_on_literals
service_named Steps = refl
service_named Live = refl
service_named Check = refl
service_named Trace = refl
service_named Run = refl

plain_settings_found : (service : Service) (settings : List Text) → ArePlain settings → settings_in (rows_at (service_built service) settings).1 ≡ settings
unfolding clap_on_literals
plain_settings_found service [] plain = refl
plain_settings_found service (word ∷ words) plain = ap (λ (end : Walk). settings_in (finished (service_built service).rules end.held)) (settings_walk service word words plain)

-- words of which the first is the program's name, then that of a service and settings that are plain ask for this service under these settings
pub plain_settings : (service : Service) (name : Text) (settings : List Text) → ArePlain settings → asked_of (name ∷ word_of service ∷ settings) ≡ Some (record { service = service; settings = settings })
plain_settings service name settings plain =
    ap (λ (end : Walk). asked_in (entered (built ompteam) end.stopped)) (service_walk service settings)
    ∙ ap asked_in (service_entered service settings)
    ∙ ap (λ (named : Service). Some (record { service = named; settings = settings_in (rows_at (service_built service) settings).1 })) (service_named service)
    ∙ ap (λ (found : List Text). Some (record { service = service; settings = found })) (plain_settings_found service settings plain)

-- they have no fault
pub plain_has_no_fault : (service : Service) (name : Text) (settings : List Text) → ArePlain settings → length settings ≤ usize_max → faults_of (name ∷ word_of service ∷ settings) ≡ []
plain_has_no_fault service name settings plain few =
    ap (λ (end : Walk). level_at (built ompteam).top end (walk_fault (built ompteam).top (names_of (built ompteam)) (walk_from nothing_held) (word_of service ∷ settings)) (is_some (entered (built ompteam) end.stopped)) (entered_fault (built ompteam) end.stopped)) (service_walk service settings)
    ∙ ap (λ (faults : Kinds). level_at (built ompteam).top (after_service service settings) faults (is_some (entered (built ompteam) (Some (word_of service, settings)))) (entered_fault (built ompteam) (Some (word_of service, settings)))) (service_faults service settings)
    ∙ ap (λ (found : Bool). level_at (built ompteam).top (after_service service settings) [] found (entered_fault (built ompteam) (Some (word_of service, settings)))) (ap is_some (service_entered service settings))
    ∙ ap (λ (faults : Kinds). level_at (built ompteam).top (after_service service settings) [] true faults) (service_entered_fault service settings ∙ service_level service settings plain few)
    ∙ no_fault_above service settings

-- the settings are fewer than the words
pub plain_length : (service : Service) (name : Text) (settings words : List Text) → words ≡ name ∷ word_of service ∷ settings → length words < 2 ^ 64 → length settings ≤ usize_max
plain_length service name settings words is few = let all : length (name ∷ word_of service ∷ settings) < 2 ^ 64 = rw is at few in omega (arith, all)
