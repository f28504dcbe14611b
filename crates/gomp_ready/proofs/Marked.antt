-- The marks of members at their levels: how one is read, what changes one of them, and what changes all.
use Rattle.std.proofs.Common.{◌≡◌, ◌≢◌, ℕ, ◌+◌, ◌-◌, ◌<◌, ◌≤◌, Bool, true, false, Option, None, Some, List, [], ◌∷◌, ◌++◌, length, take, set, get_or, suc, zero, refl, ap, sym, ◌∙◌, arith, ◌⊎◌, inl, inr, length-set}
use Rattle.std.specs.Prelude.{map, replicate, if◌then◌else◌, is_some}
use Rattle.std.proofs.lemmas.List.{append-nil, get_or-set_same, get_or-set_other, get_or_default, length-map, length-take-le}
use Rattle.std.proofs.Math.Seq.{take-length}
use Rattle.std.proofs.Math.ListN.{get_or-map, get_or-eq_default}
use Rattle.std.proofs.lemmas.Bool.{cases_lt}
use Rattle.gomp_events.specs.Tasks.{contains}
use Rattle.gomp_ready.specs.Marks.{mark_at, without, lowered, fronts}
use Rattle.gomp_ready.specs.Ready.{AreAmong, in_order, with_taken}
use Rattle.gomp_types.proofs.Booleans.{or_left}
use Rattle.gomp_events.proofs.TaskStacks.{contains_in_either}
use Rattle.gomp_ready.proofs.InOrder.{contains-in_order}
use Rattle.gomp_ready.proofs.Looked.{in_whole_list, in_longer_front}

-- How they are read

pub mark_without : (gone : ℕ) (marks : List (List ℕ)) (m l : ℕ) → mark_at m l (without gone marks) ≡ mark_at m l marks - gone
mark_without gone marks m l =
    let lower : ℕ → ℕ = λ mark. mark - gone in
    let none : 0 ≡ 0 - gone = omega arith in
    ap (λ row. get_or row l 0) (get_or-map (map lower) marks m []) ∙ ap (get_or (map lower (get_or marks m [])) l) none ∙ get_or-map lower (get_or marks m []) l 0

pub length_without : (gone : ℕ) (marks : List (List ℕ)) → length (without gone marks) ≡ length marks
length_without gone marks = length-map marks (map (λ mark. mark - gone))

pub front_at : (list : List ℕ) (marks : List (List ℕ)) (m l : ℕ) → get_or (get_or (fronts list marks) m []) l [] ≡ take (mark_at m l marks) list
front_at list marks m l =
    let front : ℕ → List ℕ = λ mark. take mark list in
    ap (λ row. get_or row l []) (get_or-map (map front) marks m []) ∙ get_or-map front (get_or marks m []) l 0

-- If one is set

pub mark_if_set : (marks : List (List ℕ)) (m l number : ℕ) (row : List ℕ) → m < length marks → l < length row → mark_at m l (set marks m (set row l number)) ≡ number
mark_if_set marks m l number row within there = ap (λ r. get_or r l 0) (get_or-set_same marks m (set row l number) [] within) ∙ get_or-set_same row l number 0 there

pub set_past : (marks : List (List ℕ)) (m l number : ℕ) (row : List ℕ) → m < length marks → length row ≤ l → mark_at m l (set marks m (set row l number)) ≡ 0
set_past marks m l number row within past =
    let long : length (set row l number) ≤ l = omega (arith, length-set row l number, past) in
    ap (λ r. get_or r l 0) (get_or-set_same marks m (set row l number) [] within) ∙ get_or-eq_default (set row l number) 0 long

-- the other marks of the same member
set_beside : (marks : List (List ℕ)) (m l k number : ℕ) (row : List ℕ) → m < length marks → row ≡ get_or marks m row → k ≢ l → mark_at m k (set marks m (set row l number)) ≡ mark_at m k marks
set_beside marks m l k number row within is apart =
    ap (λ r. get_or r k 0) (get_or-set_same marks m (set row l number) [] within) ∙ get_or-set_other row l k number 0 apart ∙ ap (λ r. get_or r k 0) (is ∙ get_or_default marks m row [] within)

same_or_other : (a b : ℕ) → (a ≡ b) ⊎ (a ≢ b)
same_or_other a b = elim (cases_lt a b) [
  | inl lt ↦ inr (λ e. absurd (omega (arith, e, lt)))
  | inr ge ↦ elim (cases_lt b a) [
    | inl lt ↦ inr (λ e. absurd (omega (arith, e, lt)))
    | inr le ↦ inl (omega arith)
  ]
]

pub set_others : (marks : List (List ℕ)) (m l number : ℕ) (row : List ℕ) → m < length marks → row ≡ get_or marks m row → (n k : ℕ) → (n ≢ m) ⊎ (k ≢ l) → mark_at n k (set marks m (set row l number)) ≡ mark_at n k marks
set_others marks m l number row within is n k (inl apart) = ap (λ r. get_or r k 0) (get_or-set_other marks m n (set row l number) [] apart)
set_others marks m l number row within is n k (inr apart) = elim (same_or_other n m) [
  | inl same ↦ rw same (set_beside marks m l k number row within is apart)
  | inr other ↦ ap (λ r. get_or r k 0) (get_or-set_other marks m n (set row l number) [] other)
]

-- either it is this mark, or another
pub this_or_another : (m l n k : ℕ) → ((n ≡ m) × (k ≡ l)) ⊎ ((n ≢ m) ⊎ (k ≢ l))
this_or_another m l n k = elim (same_or_other n m) [
  | inl same ↦ elim (same_or_other k l) [ inl too ↦ inl (same, too) | inr apart ↦ inr (inr apart) ]
  | inr apart ↦ inr (inl apart)
]

-- If all are

pub one_lower : (gone : ℕ) (marks : List (List ℕ)) (m l : ℕ) → mark_at m l (without (gone + 1) marks) ≡ mark_at m l (without gone marks) - 1
one_lower gone marks m l = omega (arith, mark_without gone marks m l, mark_without (gone + 1) marks m l)

zero_of_row : (n l : ℕ) → ◌≡◌ {A = ℕ} (get_or (replicate n 0) l 0) 0
zero_of_row zero l = refl
zero_of_row (suc n) zero = refl
zero_of_row (suc n) (suc l) = zero_of_row n l

zero_of_rows : (n levels m l : ℕ) → ◌≡◌ {A = ℕ} (mark_at m l (replicate n (replicate levels 0))) 0
zero_of_rows zero levels m l = refl
zero_of_rows (suc n) levels zero l = zero_of_row levels l
zero_of_rows (suc n) levels (suc m) l = zero_of_rows n levels m l

pub zero_at_each : (marks : List (List ℕ)) (n levels gone : ℕ) → marks ≡ replicate n (replicate levels 0) → (m l : ℕ) → mark_at m l (without gone marks) ≡ 0
zero_at_each marks n levels gone all m l = let none = ap (mark_at m l) all ∙ zero_of_rows n levels m l in omega (arith, mark_without gone marks m l, none)

-- The tasks up to them

row_same : (row : List ℕ) (list after : List ℕ) → ((l : ℕ) → take (get_or row l 0) after ≡ take (get_or row l 0) list) → map (λ mark. take mark after) row ≡ map (λ mark. take mark list) row
row_same [] list after same = refl
row_same (mark ∷ row) list after same = ap (λ front. front ∷ map (λ k. take k after) row) (same 0) ∙ ap (λ rest. take mark list ∷ rest) (row_same row list after (λ l. same (suc l)))

pub fronts_same : (marks : List (List ℕ)) (list after : List ℕ) → ((m l : ℕ) → take (mark_at m l marks) after ≡ take (mark_at m l marks) list) → fronts after marks ≡ fronts list marks
fronts_same [] list after same = refl
fronts_same (row ∷ marks) list after same =
    ap (λ r. r ∷ fronts after marks) (row_same row list after (same 0)) ∙ ap (λ rest. map (λ mark. take mark list) row ∷ rest) (fronts_same marks list after (λ m. same (suc m)))

-- all are within a list of so many tasks, once a member has started a task at a level
pub entered_within : (before after : List (List ℕ)) (member level below most bound : ℕ) → ((m l : ℕ) → mark_at m l before ≤ bound) → below ≤ bound → (level ≤ most → mark_at member level after ≡ below) →
    (most < level → mark_at member level after ≡ 0) → ((m l : ℕ) → (m ≢ member) ⊎ (l ≢ level) → mark_at m l after ≡ mark_at m l before) → (m l : ℕ) → mark_at m l after ≤ bound
entered_within before after member level below most bound within low mark past others m l = elim (this_or_another member level m l) [
  | inl same ↦ rw (same.0, same.1) this
  | inr other ↦ let e = others m l other in let w = within m l in omega (arith, e, w)
]
  where
    this : mark_at member level after ≤ bound
    this = elim (cases_lt most level) [
      | inl deep ↦ let e = past deep in omega (arith, e)
      | inr there ↦ let e = mark (omega (arith, there)) in omega (arith, e, low)
    ]

-- none has passed over more than one that has passed over the whole list
pub furthest_front : (list : List ℕ) (before after : List (List ℕ)) (member level m l : ℕ) → mark_at m l before ≤ length list → mark_at member level after ≡ length list → length (get_or (get_or (fronts list before) m []) l []) ≤ length (get_or (get_or (fronts list after) member []) level [])
furthest_front list before after member level m l within whole =
    let some = ap length (front_at list before m l) ∙ length-take-le (mark_at m l before) list within in
    let all = ap length (front_at list after member level ∙ ap (λ n. take n list) whole ∙ take-length list) in
    omega (arith, within, some, all)

-- each task up to a mark is one of those that there are
pub front_among : (list others : List ℕ) (marks : List (List ℕ)) (m l t : ℕ) → contains t (get_or (get_or (fronts list marks) m []) l []) ≡ true → contains t (in_order (list ++ others)) ≡ true
front_among list others marks m l t there =
    contains-in_order t (list ++ others) ∙ contains_in_either t list others ∙ or_left (contains t list) (contains t others) (in_whole_list (mark_at m l marks) list t (ap (contains t) (sym (front_at list marks m l)) ∙ there))

-- A mark of a level, if there is one

pub at_within : (level : Option ℕ) (marks : List (List ℕ)) (member from bound : ℕ) → ((l : ℕ) → level ≡ Some l → from ≡ mark_at member l marks) → (level ≡ None → from ≡ 0) → ((m l : ℕ) → mark_at m l marks ≤ bound) → from ≤ bound
at_within None marks member from bound some none within = let e = none refl in omega (arith, e)
at_within (Some l) marks member from bound some none within = let e = some l refl in let w = within member l in omega (arith, e, w)

pub at_seen : (Refused : ℕ → Type 0) (level : Option ℕ) (list : List ℕ) (marks : List (List ℕ)) (member from : ℕ) → ((l : ℕ) → level ≡ Some l → from ≡ mark_at member l marks) → (level ≡ None → from ≡ 0) →
    ((l t : ℕ) → level ≡ Some l → contains t (get_or (get_or (fronts list marks) member []) l []) ≡ true → Refused t) → (t : ℕ) → contains t (take from list) ≡ true → Refused t
at_seen Refused None list marks member from some none seen t there = absurd (let e : false ≡ true = ap (λ n. contains t (take n list)) (sym (none refl)) ∙ there in cc)
at_seen Refused (Some l) list marks member from some none seen t there = seen l t refl (ap (contains t) (front_at list marks member l) ∙ ap (λ n. contains t (take n list)) (sym (some l refl)) ∙ there)

-- If a member has looked for a task

-- each mark after it is one from before, lower by one if a task has gone out of the list, or counts what the member has looked at in vain
abbrev pub AreNoted : (before after : List (List ℕ)) (member : ℕ) (level : Option ℕ) (listed : Bool) (passed : ℕ) → Type 0
AreNoted before after member level listed passed =
    (m l : ℕ) → (mark_at m l after ≡ lowered listed (mark_at m l before)) ⊎ ((m ≡ member) × (level ≡ Some l) × (mark_at m l after ≡ passed))

pub noted_within : (before after : List (List ℕ)) (member : ℕ) (level : Option ℕ) (listed : Bool) (passed old new : ℕ) → AreNoted before after member level listed passed → ((m l : ℕ) → mark_at m l before ≤ old) → passed ≤ new →
    ((mark : ℕ) → mark ≤ old → lowered listed mark ≤ new) → (m l : ℕ) → mark_at m l after ≤ new
noted_within before after member level listed passed old new each within few longer m l = elim (each m l) [
  | inl low ↦ let long = longer (mark_at m l before) (within m l) in omega (arith, low, long)
  | inr (_, _, is) ↦ omega (arith, is, few)
]

pub passed_noted : (Refused : ℕ → Type 0) (list rest : List ℕ) (before after : List (List ℕ)) (member : ℕ) (level : Option ℕ) (listed : Bool) (passed : ℕ) → AreNoted before after member level listed passed → ((m l : ℕ) → mark_at m l before ≤ length list) →
    ((mark : ℕ) → mark ≤ length list → AreAmong (take (lowered listed mark) rest) (take mark list)) → ((t : ℕ) → contains t (take passed rest) ≡ true → Refused t) →
    (m l t : ℕ) → contains t (get_or (get_or (fronts rest after) m []) l []) ≡ true → (contains t (get_or (get_or (fronts list before) m []) l []) ≡ true) ⊎ ((m ≡ member) × (level ≡ Some l) × Refused t)
passed_noted Refused list rest before after member level listed passed each within fewer looked m l t there =
    let front : contains t (take (mark_at m l after) rest) ≡ true = ap (contains t) (sym (front_at rest after m l)) ∙ there in
    elim (each m l) [
      | inl low ↦ inl (ap (contains t) (front_at list before m l) ∙ fewer (mark_at m l before) (within m l) t (in_longer_front (mark_at m l after) (lowered listed (mark_at m l before)) rest t (omega (arith, low)) front))
      | inr (this, of_level, is) ↦ inr (this, of_level, looked t (ap (λ n. contains t (take n rest)) (sym is) ∙ front))
    ]

-- no mark is lowered by more than one, and none if it has found none
pub fewer_noted : (list rest : List ℕ) (before after : List (List ℕ)) (member : ℕ) (level : Option ℕ) (listed : Bool) (from passed : ℕ) (found : Option ℕ) → AreNoted before after member level listed passed → ((m l : ℕ) → mark_at m l before ≤ length list) →
    ((m l : ℕ) → mark_at m l after ≤ length rest) → (found ≡ None → listed ≡ false) → ((l : ℕ) → level ≡ Some l → from ≡ mark_at member l before) → from ≤ passed → (m l : ℕ) →
    length (get_or (get_or (fronts list before) m []) l []) ≤ length (get_or (get_or (fronts rest after) m []) l []) + (if is_some found then 1 else 0)
fewer_noted list rest before after member level listed from passed found each within left none some further m l =
    let long = ap length (front_at list before m l) ∙ length-take-le (mark_at m l before) list (within m l) in
    let short = ap length (front_at rest after m l) ∙ length-take-le (mark_at m l after) rest (left m l) in
    let marks = fewer found listed none (each m l) in
    omega (arith, long, short, marks)
  where
    fewer : (taken : Option ℕ) (gone : Bool) → (taken ≡ None → gone ≡ false) → (mark_at m l after ≡ lowered gone (mark_at m l before)) ⊎ ((m ≡ member) × (level ≡ Some l) × (mark_at m l after ≡ passed)) →
        mark_at m l before ≤ mark_at m l after + (if is_some taken then 1 else 0)
    fewer taken gone may_be (inr (this, of_level, is)) = let first = some l of_level ∙ ap (λ n. mark_at n l before) (sym this) in omega (arith, is, first, further)
    fewer None false may_be (inl is) = omega (arith, is)
    fewer None true may_be (inl is) = absurd (let e = may_be refl in cc)
    fewer (Some t) false may_be (inl is) = omega (arith, is)
    fewer (Some t) true may_be (inl is) = omega (arith, is)

-- if it has found none, it has passed over all
pub all_passed : (list others rest left : List ℕ) (found : Option ℕ) (passed t : ℕ) → found ≡ None → in_order (list ++ others) ≡ with_taken found (in_order (rest ++ left)) → left ≡ [] → passed ≡ length rest → contains t (in_order (list ++ others)) ≡ true → contains t (take passed rest) ≡ true
all_passed list others rest left found passed t none same empty all there =
    let in_rest : contains t rest ≡ true =
    ap (contains t) (sym (append-nil rest) ∙ ap (λ xs. rest ++ xs) (sym empty)) ∙ sym (contains-in_order t (rest ++ left)) ∙ ap (λ o. contains t (with_taken o (in_order (rest ++ left)))) (sym none) ∙ ap (contains t) (sym same) ∙ there in
    ap (λ n. contains t (take n rest)) all ∙ ap (contains t) (take-length rest) ∙ in_rest
