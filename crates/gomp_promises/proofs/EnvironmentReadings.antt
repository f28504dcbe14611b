-- What words of the environment make of the control variables, of every name, every value and all variables.
use Rattle.std.proofs.Common.{◌≡◌, ◌≢◌, ℕ, ◌<◌, Bool, true, false, List, [], ◌∷◌, Option, Some, None, codes, refl, ap, arith}
use Rattle.std.specs.Prelude.{ℤ, pos, ◌==◌, ◌||◌, nat_le, take}
use Rattle.std.specs.Borrow.{Bor}
use Rattle.std.specs.List.{slice_split}
use Rattle.std.specs.Option.{option_map}
use Rattle.std.proofs.lemmas.Bool.Decides.{nat_tests}
use Rattle.gomp_types.specs.declared.loop_desc.Sched.{Sched}
use Rattle.gomp_types.specs.declared.loop_desc.Sched.TheVariants.{Static, Dynamic, Guided}
use Rattle.gomp_types.specs.declared.refusal.Refusal.TheVariants.{BadEnv}
use Rattle.gomp_text.specs.Blanks.{without_blanks, in_small_letters}
use Rattle.gomp_text.specs.Numbers.{unsigned}
use Rattle.gomp_text.specs.Words.{cut_at, same_word}
use Rattle.gomp_icv.specs.Variables.{Variables, initial}
use Rattle.gomp_icv.specs.EnvValues.{from_on, number_of, is_named, switch_of, with_size, sizes_of, threads_of, schedule_chosen, chosen_with, kind_and_chunk, is_modifier, after_modifier, schedule_of}
use Rattle.gomp_icv.specs.EnvWords.{variable_of, value_for, value_for_named, setting_of, with_setting, before, read_after, read_env, pairs}
use Rattle.gomp_icv.specs.declared.env.Variable.{Variable}
use Rattle.gomp_icv.specs.declared.env.Variable.TheVariants as var
use Rattle.gomp_icv.specs.declared.env.Setting.{Setting}
use Rattle.gomp_icv.specs.declared.env.Setting.TheVariants as sets
use Rattle.gomp_promises.proofs.WordReadings.{other_words_differ}

-- Numbers

-- a number is read without the blanks around it, from the least to the most
pub number_is_read_without_blanks : (least most : ℕ) (part : List ℕ) → number_of least most part ≡ from_on least (unsigned most (without_blanks part))
number_is_read_without_blanks least most part = refl

-- none below the least
pub number_below_the_least : (least number : ℕ) → number < least → from_on least (Some number) ≡ None
number_below_the_least least number few = let is : nat_le least number ≡ false = grind (arith, nat_tests, few) in rw is refl

pub no_number_is_none : (least : ℕ) → from_on least None ≡ None
no_number_is_none least = refl

-- Words

-- a part is a word if it is the same in small letters and without blanks
pub part_is_named_in_any_case : (part name : List ℕ) → is_named part name ≡ same_word (in_small_letters (without_blanks part)) (in_small_letters name)
part_is_named_in_any_case part name = refl

-- a switch is `true`, `false`, or none
pub switch_is_on : (value : List ℕ) → is_named value (codes "true") ≡ true → switch_of value ≡ Some true
switch_is_on value is = rw is refl

pub switch_is_off : (value : List ℕ) → is_named value (codes "true") ≡ false → is_named value (codes "false") ≡ true → switch_of value ≡ Some false
switch_is_off value other is = rw (other, is) refl

pub no_other_word_is_a_switch : (value : List ℕ) → is_named value (codes "true") ≡ false → is_named value (codes "false") ≡ false → switch_of value ≡ None
no_other_word_is_a_switch value on off = rw (on, off) refl

-- Sizes

-- each part of a list is a size, and one that is none spoils it
pub size_is_put_in_front : (size : ℕ) (sizes : List ℕ) (later : Option (List ℕ)) → (with_size (Some size) (Some sizes) ≡ Some (size ∷ sizes)) × (with_size (Some size) None ≡ None) × (with_size None later ≡ None)
size_is_put_in_front size sizes later = (refl, refl, refl)

pub each_part_is_a_size : (part : List ℕ) (parts : List (List ℕ)) → (sizes_of [] ≡ Some []) × (sizes_of (part ∷ parts) ≡ with_size (number_of 1 2147483647 part) (sizes_of parts))
each_part_is_a_size part parts = (refl, refl)

-- the first four between commas are kept
pub four_sizes_are_kept : (value : List ℕ) → threads_of value ≡ option_map (take 4) (sizes_of (slice_split (λ b. b == 44) value))
four_sizes_are_kept value = refl

-- Schedules

-- a kind keeps its chunk, save `auto`
pub static_keeps_its_chunk : (kind : List ℕ) (chunk : ℤ) → is_named kind (codes "static") ≡ true → schedule_chosen kind chunk ≡ Some (Static, chunk)
static_keeps_its_chunk kind chunk is = rw is refl

pub dynamic_keeps_its_chunk : (kind : List ℕ) (chunk : ℤ) → is_named kind (codes "static") ≡ false → is_named kind (codes "dynamic") ≡ true → schedule_chosen kind chunk ≡ Some (Dynamic, chunk)
dynamic_keeps_its_chunk kind chunk static is = rw (static, is) refl

pub guided_keeps_its_chunk : (kind : List ℕ) (chunk : ℤ) → is_named kind (codes "static") ≡ false → is_named kind (codes "dynamic") ≡ false → is_named kind (codes "guided") ≡ true → schedule_chosen kind chunk ≡ Some (Guided, chunk)
guided_keeps_its_chunk kind chunk static dynamic is = rw (static, dynamic, is) refl

pub auto_has_no_chunk : (kind : List ℕ) (chunk : ℤ) → is_named kind (codes "static") ≡ false → is_named kind (codes "dynamic") ≡ false → is_named kind (codes "guided") ≡ false → is_named kind (codes "auto") ≡ true → schedule_chosen kind chunk ≡ Some (Static, pos 0)
auto_has_no_chunk kind chunk static dynamic guided is = rw (static, dynamic, guided, is) refl

pub no_other_kind_is_chosen : (kind : List ℕ) (chunk : ℤ) → is_named kind (codes "static") ≡ false → is_named kind (codes "dynamic") ≡ false → is_named kind (codes "guided") ≡ false → is_named kind (codes "auto") ≡ false → schedule_chosen kind chunk ≡ None
no_other_kind_is_chosen kind chunk static dynamic guided auto = rw (static, dynamic, guided, auto) refl

-- a kind without a chunk has 0, and a bad chunk spoils it
pub kind_without_a_chunk_has_none : (kind : List ℕ) → kind_and_chunk (kind, None) ≡ schedule_chosen kind (pos 0)
kind_without_a_chunk_has_none kind = refl

pub kind_has_the_chunk_behind_it : (kind chunk : List ℕ) → kind_and_chunk (kind, Some chunk) ≡ chosen_with kind (number_of 1 549755813888 chunk)
kind_has_the_chunk_behind_it kind chunk = refl

pub chunk_is_kept_as_it_is : (kind : List ℕ) (chunk : ℕ) → (chosen_with kind (Some chunk) ≡ schedule_chosen kind (pos chunk)) × (chosen_with kind None ≡ None)
chunk_is_kept_as_it_is kind chunk = (refl, refl)

-- a modifier changes nothing, and nothing else stands before a colon
pub modifier_is_one_of_two : (part : List ℕ) → is_modifier part ≡ (is_named part (codes "monotonic") || is_named part (codes "nonmonotonic"))
modifier_is_one_of_two part = refl

pub modifier_changes_nothing : (modifier rest : List ℕ) → is_modifier modifier ≡ true → after_modifier (modifier, Some rest) ≡ kind_and_chunk (cut_at 44 rest)
modifier_changes_nothing modifier rest is = rw is refl

pub no_other_word_before_a_colon : (word rest : List ℕ) → is_modifier word ≡ false → after_modifier (word, Some rest) ≡ None
no_other_word_before_a_colon word rest other = rw other refl

pub schedule_without_a_colon : (whole value : List ℕ) → (after_modifier (whole, None) ≡ kind_and_chunk (cut_at 44 whole)) × (schedule_of value ≡ after_modifier (cut_at 58 value))
schedule_without_a_colon whole value = (refl, refl)

-- Settings

-- no variable has another name
pub no_variable_has_another_name : (name : List ℕ) → name ≢ codes "OMP_NUM_THREADS" → name ≢ codes "OMP_DYNAMIC" → name ≢ codes "OMP_SCHEDULE" → name ≢ codes "OMP_MAX_ACTIVE_LEVELS" → name ≢ codes "OMP_THREAD_LIMIT" → name ≢ codes "OMP_CANCELLATION" → variable_of name ≡ None
no_variable_has_another_name name threads dynamic schedule levels limit cancellation =
    rw (other_words_differ name _ threads, other_words_differ name _ dynamic, other_words_differ name _ schedule, other_words_differ name _ levels, other_words_differ name _ limit, other_words_differ name _ cancellation) refl

pub each_variable_has_its_name :
    (variable_of (codes "OMP_NUM_THREADS") ≡ Some var.NumThreads)
    × (variable_of (codes "OMP_DYNAMIC") ≡ Some var.Dynamic)
    × (variable_of (codes "OMP_SCHEDULE") ≡ Some var.Schedule)
    × (variable_of (codes "OMP_MAX_ACTIVE_LEVELS") ≡ Some var.MaxActiveLevels)
    × (variable_of (codes "OMP_THREAD_LIMIT") ≡ Some var.ThreadLimit)
    × (variable_of (codes "OMP_CANCELLATION") ≡ Some var.Cancellation)
each_variable_has_its_name = (refl, refl, refl, refl, refl, refl)

-- each variable takes its own kind of value
pub each_variable_takes_its_value : (value : List ℕ) →
    (value_for var.NumThreads value ≡ option_map sets.NumThreads (threads_of value))
    × (value_for var.Dynamic value ≡ option_map sets.Dynamic (switch_of value))
    × (value_for var.Schedule value ≡ option_map (λ schedule. sets.Schedule schedule.0 schedule.1) (schedule_of value))
    × (value_for var.MaxActiveLevels value ≡ option_map sets.MaxActiveLevels (number_of 0 2147483647 value))
    × (value_for var.ThreadLimit value ≡ option_map sets.ThreadLimit (number_of 1 2147483647 value))
    × (value_for var.Cancellation value ≡ option_map sets.Cancellation (switch_of value))
each_variable_takes_its_value value = (refl, refl, refl, refl, refl, refl)

pub value_is_that_of_the_name : (name value : List ℕ) (variable : Variable) → (setting_of name value ≡ value_for_named (variable_of name) value) × (value_for_named (Some variable) value ≡ value_for variable value) × (value_for_named None value ≡ None)
value_is_that_of_the_name name value variable = (refl, refl, refl)

-- a setting changes its own variable, and leaves all others as they were
pub each_setting_changes_its_own_variable : (icv : Variables) (sizes : List ℕ) (kind : Sched) (chunk : ℤ) (number : ℕ) (on : Bool) →
    (with_setting (sets.NumThreads sizes) icv ≡ record icv { nthreads = sizes })
    × (with_setting (sets.Dynamic on) icv ≡ record icv { dynamic = on })
    × (with_setting (sets.Schedule kind chunk) icv ≡ record icv { sched = kind; chunk = chunk })
    × (with_setting (sets.MaxActiveLevels number) icv ≡ record icv { max_active_levels = number })
    × (with_setting (sets.ThreadLimit number) icv ≡ record icv { thread_limit = number })
    × (with_setting (sets.Cancellation on) icv ≡ record icv { cancellation = on })
each_setting_changes_its_own_variable icv sizes kind chunk number on = (refl, refl, refl, refl, refl, refl)

-- words are read one by one: each sets its variable for the later ones, or is ignored and named before those that they ignore
pub word_sets_its_variable : (name value : List ℕ) (words : List (List ℕ × List ℕ)) (icv : Variables) (setting : Setting) → setting_of name value ≡ Some setting → read_after ((name, value) ∷ words) icv ≡ read_after words (with_setting setting icv)
word_sets_its_variable name value words icv setting is = ap (λ (found : Option Setting). before name found icv (read_after words)) is

pub bad_word_is_ignored_and_named : (name value : List ℕ) (words : List (List ℕ × List ℕ)) (icv : Variables) → setting_of name value ≡ None → read_after ((name, value) ∷ words) icv ≡ ((read_after words icv).0, BadEnv name ∷ (read_after words icv).1)
bad_word_is_ignored_and_named name value words icv none = ap (λ (found : Option Setting). before name found icv (read_after words)) none

pub no_words_change_nothing : (icv : Variables) (words : List (List ℕ × List ℕ)) → (read_after [] icv ≡ (icv, [])) × (read_env words ≡ read_after words initial)
no_words_change_nothing icv words = (refl, refl)

-- words are taken by what they refer to, each in its turn
pub words_are_taken_by_what_they_refer_to : (word : Bor (List ℕ) × Bor (List ℕ)) (words : List (Bor (List ℕ) × Bor (List ℕ))) → (pairs [] ≡ []) × (pairs (word ∷ words) ≡ (word.0.now, word.1.now) ∷ pairs words)
words_are_taken_by_what_they_refer_to word words = (refl, refl)
