-- Which tasks of the list were looked at: those at its front, those that came to its end, and what is left of them if one is taken out.
use Rattle.std.proofs.Common.{◌≡◌, ℕ, ◌+◌, ◌-◌, ◌<◌, ◌≤◌, Bool, true, false, None, Some, List, [], ◌∷◌, ◌++◌, length, take, drop, get_or, suc, zero, ap, sym, subst, ◌∙◌, arith, ◌⊎◌, inl, inr, length-drop}
use Rattle.std.specs.Prelude.{◌==◌, slice_range}
use Rattle.std.specs.List.{AllWithin, HoldsAt, remove}
use Rattle.std.proofs.lemmas.List.{take-take, take-append-le, take-append-drop, length-take, get_or-take, get_or-drop, get_or_default}
use Rattle.std.proofs.Math.Seq.{take-add, take-length}
use Rattle.gomp_events.specs.Tasks.{contains}
use Rattle.gomp_types.proofs.Booleans.{or_tells, or_left, or_right, is_equal}
use Rattle.gomp_events.proofs.TaskStacks.{contains_in_either}
use Rattle.gomp_ready.specs.Ready.{IsFirstBy}
use Rattle.gomp_ready.proofs.Passed.{StandsOr}

-- Tasks that come to the end

-- one more
pub looked_more : (Refused : ℕ → Type 0) (first list after : List ℕ) (x u : ℕ) → after ≡ list ++ x ∷ [] → Refused x → ((t : ℕ) → contains t list ≡ true → StandsOr Refused first t) → contains u after ≡ true → StandsOr Refused first u
looked_more Refused first list after x u is refused before there = elim (or_tells (contains u list) (contains u (x ∷ [])) (sym (contains_in_either u list (x ∷ [])) ∙ ap (contains u) (sym is) ∙ there)) [
  | inl old ↦ before u old
  | inr last ↦ elim (or_tells (x == u) false last) [ inl same ↦ inr (let e = is_equal x u same in rw (← e) refused) | inr none ↦ absurd (cc) ]
]

-- and more besides
pub looked_again : (Refused : ℕ → Type 0) (first list : List ℕ) (u : ℕ) → ((t : ℕ) → contains t list ≡ true → StandsOr Refused first t) → StandsOr Refused list u → StandsOr Refused first u
looked_again Refused first list u before (inl there) = before u there
looked_again Refused first list u before (inr refused) = inr refused

-- the front stays
pub front_again : (n : ℕ) (list after : List ℕ) → n ≤ length list → take (length list) after ≡ list → take n after ≡ take n list
front_again n list after within behind = sym (take-take n (length list) after within) ∙ ap (take n) behind

pub no_shorter : (list after : List ℕ) → take (length list) after ≡ list → length list ≤ length after
no_shorter list after behind = omega (arith, ap length behind, length-take (length list) after)

-- what stands at the front stands there
pub in_whole_list : (n : ℕ) (xs : List ℕ) (t : ℕ) → contains t (take n xs) ≡ true → contains t xs ≡ true
in_whole_list n xs t there =
    ap (contains t) (sym (take-append-drop n xs)) ∙ contains_in_either t (take n xs) (drop n xs) ∙ or_left (contains t (take n xs)) (contains t (drop n xs)) there

-- also further on
pub in_longer_front : (n more : ℕ) (xs : List ℕ) (t : ℕ) → n ≤ more → contains t (take n xs) ≡ true → contains t (take more xs) ≡ true
in_longer_front n more xs t le there = in_whole_list n (take more xs) t (ap (contains t) (take-take n more xs le) ∙ there)

-- If one is taken out

-- those before it stay
pub front_before : (xs : List ℕ) (i : ℕ) → i ≤ length xs → take i (remove xs i) ≡ take i xs
front_before xs i within =
    let short : i ≤ length (take i xs) = omega (arith, length-take i xs, within) in
    take-append-le i (take i xs) (drop (suc i) xs) short ∙ take-take i i xs (omega arith)

front_without : (xs : List ℕ) (i k t : ℕ) → contains t (take k (remove xs i)) ≡ true → contains t (take (suc k) xs) ≡ true
front_without xs i zero t there = absurd (let e : false ≡ true = there in cc)
front_without [] zero (suc k) t there = absurd (let e : false ≡ true = there in cc)
front_without [] (suc i) (suc k) t there = absurd (let e : false ≡ true = there in cc)
front_without (x ∷ xs) zero (suc k) t there = or_right (x == t) (contains t (take (suc k) xs)) there
front_without (x ∷ xs) (suc i) (suc k) t there = elim (or_tells (x == t) (contains t (take k (remove xs i))) there) [
  | inl here ↦ or_left (x == t) (contains t (take (suc k) xs)) here
  | inr further ↦ or_right (x == t) (contains t (take (suc k) xs)) (front_without xs i k t further)
]

-- at a lower mark none stands that did not before
pub lower_front : (xs : List ℕ) (i k t : ℕ) → contains t (take (k - 1) (remove xs i)) ≡ true → contains t (take k xs) ≡ true
lower_front xs i zero t there = absurd (let e : false ≡ true = there in cc)
lower_front xs i (suc k) t there = let less : suc k - 1 ≡ k = omega arith in front_without xs i k t (rw less at there)

pub length_removed : (xs : List ℕ) (i : ℕ) → i < length xs → length (remove xs i) + 1 ≡ length xs
length_removed [] i lt = absurd (omega arith)
length_removed (x ∷ xs) zero lt = omega arith
length_removed (x ∷ xs) (suc i) lt = let rest = length_removed xs i (omega arith) in omega (arith, rest)

-- The first that may be started

-- what holds at the first places holds of the tasks there
pub at_first_places : (P : ℕ → Type 0) (ids : List ℕ) (n : ℕ) → n ≤ length ids → AllWithin P ids 0 n → (u : ℕ) → contains u (take n ids) ≡ true → P u
at_first_places P ids zero within each u there = absurd (let e : false ≡ true = there in cc)
at_first_places P [] (suc n) within each u there = absurd (let e : false ≡ true = there in cc)
at_first_places P (x ∷ ids) (suc n) within each u there = elim (or_tells (x == u) (contains u (take n ids)) there) [
  | inl here ↦ let same = is_equal x u here in let first : P x = each 0 x (omega arith) (omega arith) in rw (← same) first
  | inr further ↦ at_first_places P ids n (omega arith) (λ k d low high. each (suc k) d (omega arith) (omega arith)) u further
]

-- and what holds at each place of each task
pub at_each_place : (P : ℕ → Type 0) (ids : List ℕ) → AllWithin P ids 0 (length ids) → (u : ℕ) → contains u ids ≡ true → P u
at_each_place P ids each u there = at_first_places P ids (length ids) (omega arith) each u (ap (contains u) (take-length ids) ∙ there)

-- those before one place, and those from there on
first_or_next : (xs : List ℕ) (from n t : ℕ) → contains t (take (from + n) xs) ≡ true → (contains t (take from xs) ≡ true) ⊎ (contains t (take n (drop from xs)) ≡ true)
first_or_next xs from n t there = or_tells (contains t (take from xs)) (contains t (take n (drop from xs))) (sym (contains_in_either t (take from xs) (take n (drop from xs))) ∙ ap (contains t) (sym (take-add from n xs)) ∙ there)

-- none is passed over that may be started: those before a place were seen, and so were the first of those from there up to another
pub seen_up_to : (Refused : ℕ → Type 0) (xs : List ℕ) (from to n : ℕ) → ((t : ℕ) → contains t (take from xs) ≡ true → Refused t) → n ≤ length (slice_range xs from to) → AllWithin Refused (slice_range xs from to) 0 n →
    (t : ℕ) → contains t (take (from + n) xs) ≡ true → Refused t
seen_up_to Refused xs from to n seen within each t there = elim (first_or_next xs from n t there) [
  | inl before ↦ seen t before
  | inr next ↦
      let few : n ≤ to - from = omega (arith, within, length-take (to - from) (drop from xs)) in
      at_first_places Refused (slice_range xs from to) n within each t (ap (contains t) (take-take n (to - from) (drop from xs) few) ∙ next)
]

-- how many they are
length_range : (xs : List ℕ) (from to : ℕ) → from ≤ to → to ≤ length xs → from + length (slice_range xs from to) ≡ to
length_range xs from to le within = omega (arith, le, within, length-take (to - from) (drop from xs), length-drop from xs)

-- if there is none, none of those before the other place may be started
pub none_listed : (Refused : ℕ → Type 0) (xs : List ℕ) (from to : ℕ) → from ≤ to → to ≤ length xs → ((t : ℕ) → contains t (take from xs) ≡ true → Refused t) → AllWithin Refused (slice_range xs from to) 0 (length (slice_range xs from to)) →
    (t : ℕ) → contains t (take to xs) ≡ true → Refused t
none_listed Refused xs from to le within seen each t there =
    seen_up_to Refused xs from to (length (slice_range xs from to)) seen (omega arith) each t (ap (λ n. contains t (take n xs)) (length_range xs from to le within) ∙ there)

-- if there is one, it is the task at its place
pub at_its_place : (xs : List ℕ) (from to i d : ℕ) → i < length (slice_range xs from to) → get_or (slice_range xs from to) i d ≡ get_or xs (from + i) d
at_its_place xs from to i d within =
    let few : i < to - from = omega (arith, within, length-take (to - from) (drop from xs)) in
    get_or-take (to - from) (drop from xs) i d few ∙ get_or-drop from xs i d

pub place_in_list : (xs : List ℕ) (from to i : ℕ) → i < length (slice_range xs from to) → from + i < length xs
place_in_list xs from to i within = omega (arith, within, length-take (to - from) (drop from xs), length-drop from xs)

-- The tasks looked at one after another

-- what holds of the task that was read holds at its place
pub holds_at_read : (P : ℕ → Type 0) (xs : List ℕ) (i x : ℕ) → i < length xs → x ≡ get_or xs i x → P x → HoldsAt P xs i
holds_at_read P xs i x lt is holds d = subst P (is ∙ get_or_default xs i x d lt) holds

-- and what holds from one place on holds of the first of those from there on
within_range : (P : ℕ → Type 0) (xs : List ℕ) (from to n : ℕ) → n ≤ length (slice_range xs from to) → AllWithin P xs from (from + n) → AllWithin P (slice_range xs from to) 0 n
within_range P xs from to n few each k d low high = rw (at_its_place xs from to k d (omega (arith, few, high))) (each (from + k) d (omega arith) (omega (arith, high)))

-- the first that may be started is found
pub found_in_range : (answers : ℕ → Bool → Type 0) (xs : List ℕ) (from to place x : ℕ) → from ≤ place → place < to → to ≤ length xs → x ≡ get_or xs place x → answers x true → AllWithin (λ t. answers t false) xs from place →
    IsFirstBy answers (slice_range xs from to) (Some (place - from))
found_in_range answers xs from to place x low high within is may each =
    let i = place - from in
    let whole : from + i ≡ place = omega (arith, low) in
    let long = length_range xs from to (omega (arith, low, high)) within in
    let lt : i < length (slice_range xs from to) = omega (arith, low, high, long) in
    let there = holds_at_read (λ t. answers t true) xs place x (omega (arith, high, within)) is may in (
      lt,
      (λ d. rw (at_its_place xs from to i d lt, whole) (there d)),
      within_range (λ t. answers t false) xs from to i (omega (arith, lt)) (rw whole each),
    )

-- or there is none
pub none_in_range : (answers : ℕ → Bool → Type 0) (xs : List ℕ) (from to place : ℕ) → from ≤ to → to ≤ length xs → to ≤ place → AllWithin (λ t. answers t false) xs from place → IsFirstBy answers (slice_range xs from to) None
none_in_range answers xs from to place le within past each =
    let n = length (slice_range xs from to) in
    let long = length_range xs from to le within in
    within_range (λ t. answers t false) xs from to n (omega arith) (λ k d low high. each k d low (omega (arith, high, long, past)))
