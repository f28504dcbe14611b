-- Lists of tasks that differ.
use Rattle.std.proofs.Common.{◌≡◌, ℕ, ◌+◌, ◌<◌, Bool, true, false, List, [], ◌∷◌, ◌++◌, length, Option, Some, None, append-nil, refl, ap, ◌∙◌, sym, arith, inl, inr}
use Rattle.std.specs.Prelude.{◌==◌, ◌&&◌, ◌||◌, not, if◌then◌else◌, IfSome, option_to_list}
use Rattle.std.proofs.lemmas.Bool.{cases_Bool}
use Rattle.gomp_events.specs.Tasks.{contains}
use Rattle.gomp_types.proofs.Booleans.{is_equal, same_number, other_number, and_left, and_right, and_false, or_right, false_of_not, not_both}
use Rattle.gomp_events.proofs.TaskStacks.{contains_in_either}
use Rattle.gomp_depend.specs.FreeLists.{are_different}

-- A task at the end

pub contains_at_end : (u t : ℕ) (tasks : List ℕ) → contains u (tasks ++ t ∷ []) ≡ (contains u tasks || t == u)
contains_at_end u t [] = or_with_false (t == u)
  where
    or_with_false : (b : Bool) → (b || false) ≡ b
    or_with_false true = refl
    or_with_false false = refl
contains_at_end u t (v ∷ tasks) = ap (λ (b : Bool). v == u || b) (contains_at_end u t tasks) ∙ sym (or_grouped (v == u) (contains u tasks) (t == u))
  where
    or_grouped : (a b c : Bool) → ((a || b) || c) ≡ (a || (b || c))
    or_grouped true b c = refl
    or_grouped false b c = refl

pub different_with_end : (t : ℕ) (tasks : List ℕ) → are_different tasks ≡ true → contains t tasks ≡ false → are_different (tasks ++ t ∷ []) ≡ true
different_with_end t [] differ out = refl
different_with_end t (v ∷ tasks) differ out = elim (cases_Bool (v == t)) [
  | inl here ↦ absurd (let there : contains t (v ∷ tasks) ≡ true = rw here refl in cc)
  | inr away ↦
      let rest = different_with_end t tasks (and_right (not (contains v tasks)) (are_different tasks) differ) (rw away at out) in
      let first : contains v (tasks ++ t ∷ []) ≡ false = contains_at_end v t tasks ∙ rw (false_of_not (contains v tasks) (and_left (not (contains v tasks)) (are_different tasks) differ)) (turned t v away) in
      rw (first, rest) refl
]
  where
    turned : (a b : ℕ) → (b == a) ≡ false → (a == b) ≡ false
    turned a b differ = other_number a b (λ e. not_both (b == a) (rw e (same_number b)) differ)

-- without the task at the end the others differ, and it is none of them
pub different_before_end : (t : ℕ) (tasks : List ℕ) → are_different (tasks ++ t ∷ []) ≡ true → (are_different tasks ≡ true) × (contains t tasks ≡ false)
different_before_end t [] differ = (refl, refl)
different_before_end t (v ∷ tasks) differ =
    let rest = different_before_end t tasks (and_right (not (contains v (tasks ++ t ∷ []))) (are_different (tasks ++ t ∷ [])) differ) in
    let out : (contains v tasks || t == v) ≡ false = sym (contains_at_end v t tasks) ∙ false_of_not (contains v (tasks ++ t ∷ [])) (and_left (not (contains v (tasks ++ t ∷ []))) (are_different (tasks ++ t ∷ [])) differ) in
    let both = neither (contains v tasks) (t == v) out in
    let away : (v == t) ≡ false = other_number v t (λ e. not_both (t == v) (rw e (same_number t)) both.1) in
    (rw (both.0, rest.0) refl, rw (away, rest.1) refl)
  where
    neither : (a b : Bool) → (a || b) ≡ false → (a ≡ false) × (b ≡ false)
    neither true b e = absurd (cc)
    neither false b e = (refl, e)

-- Two lists in one

pub different_lists : (one other : List ℕ) → are_different one ≡ true → are_different other ≡ true → ((t : ℕ) → contains t one ≡ true → contains t other ≡ false) → are_different (one ++ other) ≡ true
different_lists [] other one_differs other_differs apart = other_differs
different_lists (u ∷ one) other one_differs other_differs apart =
    let rest = different_lists one other (and_right (not (contains u one)) (are_different one) one_differs) other_differs (λ t there. apart t (or_right (u == t) (contains t one) there)) in
    let out : contains u other ≡ false = apart u (rw (same_number u) refl) in
    let first : contains u (one ++ other) ≡ false = contains_in_either u one other ∙ rw (false_of_not (contains u one) (and_left (not (contains u one)) (are_different one) one_differs)) out in
    rw (first, rest) refl

-- One task less

abbrev pub without_task : ℕ → List ℕ → List ℕ
without_task t [] = []
without_task t (u ∷ tasks) = if u == t then tasks else u ∷ without_task t tasks

pub contains_without : (u t : ℕ) (tasks : List ℕ) → are_different tasks ≡ true → contains u (without_task t tasks) ≡ (contains u tasks && not (t == u))
contains_without u t [] differ = refl
contains_without u t (v ∷ tasks) differ = elim (cases_Bool (v == t)) [
  | inl here ↦
      let it = is_equal v t here in
      let out : contains t tasks ≡ false = ap (λ (w : ℕ). contains w tasks) (sym it) ∙ false_of_not (contains v tasks) (and_left (not (contains v tasks)) (are_different tasks) differ) in
      elim (cases_Bool (t == u)) [
        | inl same ↦
            let none : contains u tasks ≡ false = ap (λ (w : ℕ). contains w tasks) (sym (is_equal t u same)) ∙ out in
            rw (here, none, same) (sym (never (v == u || false)))
        | inr other ↦
            let away : (v == u) ≡ false = ap (λ (w : ℕ). w == u) it ∙ other in
            rw (here, away, other) (sym (and_with_true (contains u tasks)))
      ]
  | inr away ↦
      let rest = contains_without u t tasks (and_right (not (contains v tasks)) (are_different tasks) differ) in
      elim (cases_Bool (v == u)) [
        | inl first ↦
            let other : (t == u) ≡ false = ap (λ (w : ℕ). t == w) (sym (is_equal v u first)) ∙ other_number t v (λ e. not_both (v == t) (rw e (same_number v)) away) in
            rw (away, first, other) refl
        | inr later ↦ rw (away, later) rest
      ]
]
  where
    never : (b : Bool) → (b && false) ≡ false
    never true = refl
    never false = refl

    and_with_true : (b : Bool) → (b && true) ≡ b
    and_with_true true = refl
    and_with_true false = refl

pub different_without : (t : ℕ) (tasks : List ℕ) → are_different tasks ≡ true → are_different (without_task t tasks) ≡ true
different_without t [] differ = refl
different_without t (v ∷ tasks) differ = elim (cases_Bool (v == t)) [
  | inl here ↦ rw here (and_right (not (contains v tasks)) (are_different tasks) differ)
  | inr away ↦
      let later = and_right (not (contains v tasks)) (are_different tasks) differ in
      let out : contains v (without_task t tasks) ≡ false = contains_without v t tasks later ∙ rw (false_of_not (contains v tasks) (and_left (not (contains v tasks)) (are_different tasks) differ)) refl in
      rw (away, out) (different_without t tasks later)
]

pub one_less_without : (t : ℕ) (tasks : List ℕ) → contains t tasks ≡ true → length (without_task t tasks) + 1 ≡ length tasks
one_less_without t [] there = absurd (cc)
one_less_without t (v ∷ tasks) there = elim (cases_Bool (v == t)) [
  | inl here ↦ rw here (omega arith)
  | inr away ↦ let rest = one_less_without t tasks (rw away at there) in rw away (omega (arith, rest))
]

-- a list with a task is not empty
pub contained_is_some : (t : ℕ) (tasks : List ℕ) → contains t tasks ≡ true → 0 < length tasks
contained_is_some t [] there = absurd (cc)
contained_is_some t (v ∷ tasks) there = omega arith

-- Two lists of the same tasks

-- they have as many, if each has none twice
pub same_length : (one other : List ℕ) → are_different one ≡ true → are_different other ≡ true → ((t : ℕ) → contains t one ≡ contains t other) → length one ≡ length other
same_length [] [] one_differs other_differs same = refl
same_length [] (t ∷ other) one_differs other_differs same = absurd (let there : contains t (t ∷ other) ≡ true = rw (same_number t) refl in not_both (contains t (t ∷ other)) there (sym (same t)))
same_length (t ∷ one) other one_differs other_differs same =
    let out = false_of_not (contains t one) (and_left (not (contains t one)) (are_different one) one_differs) in
    let there : contains t other ≡ true = sym (same t) ∙ rw (same_number t) refl in
    let less = one_less_without t other there in
    let rest : length one ≡ length (without_task t other) = same_length one (without_task t other) (and_right (not (contains t one)) (are_different one) one_differs) (different_without t other other_differs)
    (λ u. each u t out (contains_without u t other other_differs) (same u)) in
    omega (arith, less, rest)
  where
    with_true : (b : Bool) → (b && true) ≡ b
    with_true true = refl
    with_true false = refl

    with_false : (b : Bool) → (b && false) ≡ false
    with_false true = refl
    with_false false = refl

    each : (u v : ℕ) → contains v one ≡ false → contains u (without_task v other) ≡ (contains u other && not (v == u)) → contains u (v ∷ one) ≡ contains u other → contains u one ≡ contains u (without_task v other)
    each u v out left is = elim (cases_Bool (v == u)) [
      | inl here ↦ (ap (λ (w : ℕ). contains w one) (sym (is_equal v u here)) ∙ out) ∙ sym (left ∙ rw here (with_false (contains u other)))
      | inr away ↦ rw away at is ∙ sym (left ∙ rw away (with_true (contains u other)))
    ]

-- The task at the end is taken

-- what is left of a list
abbrev pub Left : List ℕ → List ℕ → Option ℕ → Type 0
Left before after taken = before ≡ after ++ option_to_list taken

pub left_differ : (before after : List ℕ) (taken : Option ℕ) → Left before after taken → are_different before ≡ true → are_different after ≡ true
left_differ before after None is differ = ap are_different (sym (is ∙ append-nil after)) ∙ differ
left_differ before after (Some t) is differ = (different_before_end t after (sym (ap are_different is) ∙ differ)).0

pub last_was_there : (before after : List ℕ) (taken : Option ℕ) → Left before after taken → IfSome taken (λ t. contains t before ≡ true)
last_was_there before after None is = tt
last_was_there before after (Some t) is = ap (contains t) is ∙ contains_at_end t t after ∙ or_right (contains t after) (t == t) (same_number t)

pub others_are_left : (before after : List ℕ) (taken : Option ℕ) (is_left : ℕ → Bool) → Left before after taken → are_different before ≡ true → ((u : ℕ) → is_left u ≡ contains u after) → IfSome taken (λ t. (u : ℕ) → is_left u ≡ (contains u before && not (t == u)))
others_are_left before after None is_left is differ left = tt
others_are_left before after (Some t) is_left is differ left = λ u.
    let out = (different_before_end t after (sym (ap are_different is) ∙ differ)).1 in
    let had : contains u before ≡ (contains u after || t == u) = ap (contains u) is ∙ contains_at_end u t after in
    left u ∙ elim (cases_Bool (t == u)) [
      | inl here ↦
          let gone : contains u after ≡ false = ap (λ (w : ℕ). contains w after) (sym (is_equal t u here)) ∙ out in
          gone ∙ rw here (sym (and_false (contains u before) false refl))
      | inr away ↦ rw (had, away) (still (contains u after))
    ]
  where
    still : (b : Bool) → b ≡ ((b || false) && true)
    still true = refl
    still false = refl

pub if_any : {P : Type 0} (taken : Option ℕ) → P → IfSome taken (λ t. P)
if_any None p = tt
if_any (Some t) p = p
