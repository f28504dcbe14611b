-- Texts, line by line.
use Rattle.std.proofs.Common.{◌≡◌, ◌≢◌, ℕ, ◌<◌, ◌+◌, ◌-◌, ◌*◌, inl, inr, true, false, suc, List, [], ◌∷◌, ◌++◌, Option, Some, None, Result, Ok, Err, length, Bor, refl, ap, ◌∙◌, sym, append_assoc, arith}
use Rattle.std.specs.Prelude.{IfSome, IsSome, codes, option_copied, nat_lt, ◌==◌}
use Rattle.std.specs.List.{slice_split}
use Rattle.std.proofs.lemmas.Bool.{cases_Bool}
use Rattle.std.proofs.lemmas.Bool.Decides.{nat_tests}
use Rattle.gomp_text.specs.Numbers.{is_digit, digits_after, up_to}
use Rattle.gomp_types.specs.declared.call.Step.{Step}
use Rattle.gomp_script.specs.declared.parse.BadLine.{BadLine}
use Rattle.gomp_script.specs.declared.parse.ParseError.{ParseError}
use Rattle.gomp_script.specs.declared.parse.ParseError.TheVariants.{Memory, Bad}
use Rattle.gomp_text.specs.Words.{is_ascii, lines_of, same_word, words_of}
use Rattle.gomp_text.proofs.WordLemmas.{same_means}
use Rattle.gomp_types.specs.declared.call.Call.TheVariants.{LoopNext}
use Rattle.gomp_script.specs.declared.parse.Why.{Why}
use Rattle.gomp_script.specs.declared.parse.Why.TheVariants.{BadNumber}
use Rattle.gomp_script.specs.StepText.{IsNext, LineHasItems, bad_line, line_words, or_why, member_named, no_more_words, plain_step, fault_in, next_word, call_step, step_of, lines_left, with_front, step_line, steps_kept, with_team, Fails, HasStep, TeamHasStep, refused_by}

-- how much is left
abbrev pub left : Option (List ℕ) → ℕ
left None = 0
left (Some text) = suc (length text)

pub left_less : (rest : Option (Bor (List ℕ))) (n : ℕ) → IfSome rest (λ text. length text.now < n) → left (option_copied rest) < suc n
left_less None n less = omega arith
left_less (Some text) n less = omega (arith, less)

-- these steps, and those that are read later
abbrev pub with_fronts : List Step → Result (List Step) BadLine → Result (List Step) BadLine
with_fronts steps (Ok later) = Ok (steps ++ later)
with_fronts steps (Err bad) = Err bad

pub front_moved_behind : (steps : List Step) (step : Step) (read : Result (List Step) BadLine) → with_fronts steps (with_front step read) ≡ with_fronts (steps ++ step ∷ []) read
front_moved_behind steps step (Ok later) = ap (λ (all : List Step). Ok all) (sym (append_assoc steps (step ∷ []) later))
front_moved_behind steps step (Err bad) = refl

-- a line that is no fault is kept
pub line_kept : (steps : List Step) (number : ℕ) (said : Option Step) (later : Result (List Step) BadLine) → with_fronts steps (step_line number (Ok said) later) ≡ with_fronts (steps_kept steps said) later
line_kept steps number None later = refl
line_kept steps number (Some step) later = front_moved_behind steps step later

-- the lines of what is left of a text, by the first one and what is left after it
pub lines_here : (text line : List ℕ) (before rest : Option (List ℕ)) → before ≡ Some text → lines_of text ≡ line ∷ lines_left rest → lines_left before ≡ line ∷ lines_left rest
lines_here text line before rest is parts = ap lines_left is ∙ parts

-- an error of the steps is the text's
pub gives_team : (count : ℕ) (error : ParseError) (read : Result (List Step) BadLine) → Fails error read → Fails error (with_team count read)
gives_team count Memory read given = tt
gives_team count (Bad bad) read given = ap (with_team count) given

-- if the steps behind the team's line take memory, the text has a step
pub team_has_step : (count : ℕ) (read : Result (List Step) BadLine) → HasStep read → TeamHasStep (with_team count read)
team_has_step count (Ok steps) some = some
team_has_step count (Err bad) some = some

-- a list with a step in it
not_none : (steps : List Step) (step : Step) (later : List Step) → steps ++ step ∷ later ≢ []
not_none [] step later same = absurd (cc)
not_none (first ∷ steps) step later same = absurd (cc)

-- once memory was refused for a step, the first bad line of the lines behind it is the text's
pub fault_behind : (steps : List Step) (number : ℕ) (said : Option Step) (later : Result (List Step) BadLine) → IsSome said → Fails (refused_by later) (with_fronts steps (step_line number (Ok said) later))
fault_behind steps number None later some = absurd (cc)
fault_behind steps number (Some step) (Ok later) some = tt
fault_behind steps number (Some step) (Err bad) some = refl

-- and if none of them is bad, there is that step
pub has_refused_step : (steps : List Step) (number : ℕ) (said : Option Step) (later : Result (List Step) BadLine) → IsSome said → refused_by later ≡ Memory → HasStep (with_fronts steps (step_line number (Ok said) later))
has_refused_step steps number None later some memory = absurd (cc)
has_refused_step steps number (Some step) (Ok later) some memory = not_none steps step later
has_refused_step steps number (Some step) (Err bad) some memory = absurd (cc)

-- a line without a fault changes nothing once memory was refused
pub no_fault_here : (number : ℕ) (read : Result (Option Step) Why) (later : Result (List Step) BadLine) → fault_in read ≡ None → refused_by (step_line number read later) ≡ refused_by later
no_fault_here number (Ok None) later none = refl
no_fault_here number (Ok (Some step)) (Ok later) none = refl
no_fault_here number (Ok (Some step)) (Err bad) none = refl
no_fault_here number (Err why) later none = absurd (cc)

-- a line with a fault is bad
pub fault_here : (number : ℕ) (read : Result (Option Step) Why) (why : Why) (later : Result (List Step) BadLine) → fault_in read ≡ Some why → step_line number read later ≡ bad_line number why
fault_here number (Ok said) why later fault = absurd (cc)
fault_here number (Err other) why later fault =
    let same : other ≡ why = cc in
    ap (bad_line number) same

-- once memory was refused for the items of a line, the first bad line of the lines behind it is the text's
pub fault_behind_line : (steps : List Step) (number : ℕ) (read : Result (Option Step) Why) (later : Result (List Step) BadLine) → LineHasItems read → Fails (refused_by later) (with_fronts steps (step_line number read later))
fault_behind_line steps number (Ok None) later items = absurd items
fault_behind_line steps number (Ok (Some step)) later items = fault_behind steps number (Some step) later refl
fault_behind_line steps number (Err why) later items = absurd items

-- and if none of them is bad, there is the step of that line
pub has_unread_step : (steps : List Step) (number : ℕ) (read : Result (Option Step) Why) (later : Result (List Step) BadLine) → LineHasItems read → refused_by later ≡ Memory → HasStep (with_fronts steps (step_line number read later))
has_unread_step steps number (Ok None) later items memory = absurd items
has_unread_step steps number (Ok (Some step)) later items memory = has_refused_step steps number (Some step) later refl memory
has_unread_step steps number (Err why) later items memory = absurd items

-- a step whose call is taken
pub step_by_call : (member : List ℕ) (words : List (List ℕ)) (taken : List ℕ × List (List ℕ)) → next_word words ≡ Ok taken → step_of (member ∷ words) ≡ call_step member taken.0 taken.1
step_by_call member [] taken is = absurd (cc)
step_by_call member (word ∷ words) taken is =
    let here : (word, words) ≡ taken = cc in
    ap (λ (parts : List ℕ × List (List ℕ)). call_step member parts.0 parts.1) here

-- a line in which a member asks for its next chunk, by its words
next_read : (line member call : List ℕ) (words later : List (List ℕ)) (number : ℕ) → line_words line ≡ Ok (member ∷ words) → next_word words ≡ Ok (call, later) → same_word call (codes "next") ≡ true → no_more_words later ≡ Ok tt → member_named member ≡ Ok number → IsNext number line
unfolding plain_step
next_read line member call words later number first taken is done named =
    let made : step_of (member ∷ words) ≡ Ok (record { member = number; call = LoopNext }) = step_by_call member words (call, later) taken ∙ rw (same_means call (codes "next") is, named, done) refl in
    rw (first, made) refl

-- A number before `next`

-- the digits of a number that is read
digits_named : (found : Option ℕ) (most number : ℕ) → or_why BadNumber (up_to most found) ≡ Ok number → (k : ℕ) × (found ≡ Some k)
digits_named None most number e = absurd (cc)
digits_named (Some k) most number e = (k, refl)

digit_is_ascii : (b : ℕ) → is_digit b ≡ true → nat_lt b 128 ≡ true
digit_is_ascii b e = grind (arith, nat_tests)

digit_is_no_space : (b : ℕ) → is_digit b ≡ true → (b == 32) ≡ false
digit_is_no_space b e = grind (arith, nat_tests)

digit_is_no_comment : (b : ℕ) → is_digit b ≡ true → (b == 35) ≡ false
digit_is_no_comment b e = grind (arith, nat_tests)

-- the first of them, and the others
digits_by_one : (n b k : ℕ) (bytes : List ℕ) → digits_after n (b ∷ bytes) ≡ Some k → (is_digit b ≡ true) × (digits_after (n * 10 + (b - 48)) bytes ≡ Some k)
digits_by_one n b k bytes e =
    elim (cases_Bool (is_digit b)) [
      | inl is ↦ (is, rw is at e)
      | inr other ↦ absurd (let none : None ≡ Some k = rw other at e in cc)
    ]

digits_ascii : (n k : ℕ) (bytes tail : List ℕ) → digits_after n bytes ≡ Some k → is_ascii tail ≡ true → is_ascii (bytes ++ tail) ≡ true
digits_ascii n k [] tail e low = low
digits_ascii n k (b ∷ bytes) tail e low =
    let (digit, later) = digits_by_one n b k bytes e in
    rw (digit_is_ascii b digit) (digits_ascii (n * 10 + (b - 48)) k bytes tail later low)

-- a space behind them begins the next part
digits_split : (n k : ℕ) (bytes tail : List ℕ) → digits_after n bytes ≡ Some k → slice_split (λ c. c == 32) (bytes ++ 32 ∷ tail) ≡ bytes ∷ slice_split (λ c. c == 32) tail
digits_split n k [] tail e = refl
digits_split n k (b ∷ bytes) tail e =
    let (digit, later) = digits_by_one n b k bytes e in
    rw (digit_is_no_space b digit, digits_split (n * 10 + (b - 48)) k bytes tail later) refl

-- a line of a number and `next`
pub next_named : (line head : List ℕ) (number : ℕ) → line ≡ head ++ codes " next" → member_named head ≡ Ok number → IsNext number line
next_named line [] number is named = absurd (cc)
next_named line (b ∷ bytes) number is named =
    let (k, digits) = digits_named (digits_after 0 (b ∷ bytes)) 65535 number named in
    let (digit, later) = digits_by_one 0 b k bytes digits in
    let low : is_ascii line ≡ true = rw is (digits_ascii 0 k (b ∷ bytes) (codes " next") digits refl) in
    let words : words_of line ≡ (b ∷ bytes) ∷ codes "next" ∷ [] = rw (is, digits_split 0 k (b ∷ bytes) (codes "next") digits) refl in
    let first : line_words line ≡ Ok ((b ∷ bytes) ∷ codes "next" ∷ []) = rw (low, words, digit_is_no_comment b digit) refl in
    next_read line (b ∷ bytes) (codes "next") (codes "next" ∷ []) [] number first refl refl refl named
