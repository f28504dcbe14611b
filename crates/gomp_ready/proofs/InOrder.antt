-- Tasks by their numbers, the lowest first: whatever the order in which they are put, the same list.
use Rattle.std.proofs.Common.{◌≡◌, ℕ, ◌+◌, ◌<◌, Bool, true, false, List, [], ◌∷◌, ◌++◌, Option, Some, None, length, set, get_or, refl, ap, sym, ◌∙◌, arith, suc, zero, inl, inr, append_assoc}
use Rattle.std.specs.Prelude.{◌==◌, ◌||◌, nat_le, if◌then◌else◌}
use Rattle.std.specs.List.{concat}
use Rattle.std.proofs.lemmas.List.{append-nil, set-get_or}
use Rattle.std.proofs.lemmas.Bool.{cases_Bool, cases_lt}
use Rattle.std.proofs.lemmas.Bool.Decides.{nat_tests}
use Rattle.gomp_events.specs.Tasks.{contains}
use Rattle.gomp_ready.specs.Ready.{with_task, with_taken, in_order}
use Rattle.gomp_ready.proofs.WithTask.{contains-with_task}

-- Two tasks in either order

lower_first : (a b : ℕ) (ids : List ℕ) → nat_le a b ≡ true → nat_le b a ≡ false → ((x : ℕ) → nat_le a x ≡ false → nat_le b x ≡ false) → with_task a (with_task b ids) ≡ with_task b (with_task a ids)
lower_first a b [] up down past = rw (up, down) refl
lower_first a b (x ∷ ids) up down past = elim (cases_Bool (nat_le a x)) [
  | inl ax ↦ elim (cases_Bool (nat_le b x)) [
    | inl bx ↦ rw (ax, bx, up, down) refl
    | inr bx ↦ rw (ax, bx, ax, down) refl
  ]
  | inr ax ↦ let bx = past x ax in rw (ax, bx, ax) (ap (λ xs. x ∷ xs) (lower_first a b ids up down past))
]

lower_than : (a b : ℕ) (ids : List ℕ) → a < b → with_task a (with_task b ids) ≡ with_task b (with_task a ids)
lower_than a b ids lt = lower_first a b ids (grind (arith, nat_tests, lt)) (grind (arith, nat_tests, lt)) (λ x past. grind (arith, nat_tests, lt, past))

pub with_task-with_task : (a b : ℕ) (ids : List ℕ) → with_task a (with_task b ids) ≡ with_task b (with_task a ids)
with_task-with_task a b ids = elim (cases_lt a b) [
  | inl lt ↦ lower_than a b ids lt
  | inr ge ↦ elim (cases_lt b a) [
    | inl lt ↦ sym (lower_than b a ids lt)
    | inr le ↦ let same : a ≡ b = omega arith in rw same refl
  ]
]

-- One list after another

-- some tasks, and others
abbrev pub with_tasks : List ℕ → List ℕ → List ℕ
with_tasks [] ids = ids
with_tasks (t ∷ ts) ids = with_task t (with_tasks ts ids)

in_order-append : (xs ys : List ℕ) → in_order (xs ++ ys) ≡ with_tasks xs (in_order ys)
in_order-append [] ys = refl
in_order-append (x ∷ xs) ys = ap (with_task x) (in_order-append xs ys)

with_tasks-with_task : (xs : List ℕ) (t : ℕ) (ids : List ℕ) → with_tasks xs (with_task t ids) ≡ with_task t (with_tasks xs ids)
with_tasks-with_task [] t ids = refl
with_tasks-with_task (x ∷ xs) t ids = ap (with_task x) (with_tasks-with_task xs t ids) ∙ with_task-with_task x t (with_tasks xs ids)

with_tasks-with_taken : (xs : List ℕ) (taken : Option ℕ) (ids : List ℕ) → with_tasks xs (with_taken taken ids) ≡ with_taken taken (with_tasks xs ids)
with_tasks-with_taken xs None ids = refl
with_tasks-with_taken xs (Some t) ids = with_tasks-with_task xs t ids

-- one task more, wherever it stands
pub in_order-between : (xs : List ℕ) (t : ℕ) (ys : List ℕ) → in_order (xs ++ t ∷ ys) ≡ with_task t (in_order (xs ++ ys))
in_order-between xs t ys = in_order-append xs (t ∷ ys) ∙ with_tasks-with_task xs t (in_order ys) ∙ ap (with_task t) (sym (in_order-append xs ys))

pub in_order-turned : (xs ys : List ℕ) → in_order (xs ++ ys) ≡ in_order (ys ++ xs)
in_order-turned [] ys = ap in_order (sym (append-nil ys))
in_order-turned (x ∷ xs) ys = ap (with_task x) (in_order-turned xs ys) ∙ sym (in_order-between ys x xs)

-- the same with others behind
pub more_behind : (xs ys others : List ℕ) (taken : Option ℕ) → in_order xs ≡ with_taken taken (in_order ys) → in_order (xs ++ others) ≡ with_taken taken (in_order (ys ++ others))
more_behind xs ys others taken same =
    in_order-turned xs others ∙ in_order-append others xs ∙ ap (with_tasks others) same ∙ with_tasks-with_taken others taken (in_order ys) ∙
    ap (with_taken taken) (sym (in_order-append others ys) ∙ in_order-turned others ys)

-- How many, and which

pub length-with_task : (t : ℕ) (ids : List ℕ) → length (with_task t ids) ≡ suc (length ids)
length-with_task t [] = refl
length-with_task t (x ∷ ids) = by (nat_le t x) (length-with_task t ids)
  where
    by : (b : Bool) → length (with_task t ids) ≡ suc (length ids) → length (if b then t ∷ x ∷ ids else x ∷ with_task t ids) ≡ suc (suc (length ids))
    by true rest = refl
    by false rest = ap suc rest

pub length-in_order : (xs : List ℕ) → length (in_order xs) ≡ length xs
length-in_order [] = refl
length-in_order (x ∷ xs) = length-with_task x (in_order xs) ∙ ap suc (length-in_order xs)

pub contains-in_order : (u : ℕ) (xs : List ℕ) → contains u (in_order xs) ≡ contains u xs
contains-in_order u [] = refl
contains-in_order u (x ∷ xs) = contains-with_task x u (in_order xs) ∙ ap (λ b. x == u || b) (contains-in_order u xs)

-- so many as before, if none was taken, and one less if one was
pub as_many : (xs ys : List ℕ) → in_order xs ≡ in_order ys → length xs ≡ length ys
as_many xs ys same = sym (length-in_order xs) ∙ ap length same ∙ length-in_order ys

pub one_task_less : (xs ys : List ℕ) (t : ℕ) → in_order xs ≡ with_task t (in_order ys) → length xs ≡ length ys + 1
one_task_less xs ys t same = let long = sym (length-in_order xs) ∙ ap length same ∙ length-with_task t (in_order ys) in let short = length-in_order ys in omega (arith, long, short)

-- A deque of a member

-- the tasks of one deque, and of the others
pub one_deque : (deques : List (List ℕ)) (m : ℕ) (deque : List ℕ) → m < length deques → in_order (concat (set deques m deque)) ≡ in_order (deque ++ concat (set deques m []))
one_deque [] m deque lt = absurd (omega arith)
one_deque (x ∷ deques) zero deque lt = refl
one_deque (x ∷ deques) (suc m) deque lt =
    let rest = one_deque deques m deque (omega arith) in
    let others = concat (set deques m []) in
    in_order-append x (concat (set deques m deque)) ∙ ap (with_tasks x) rest ∙ sym (in_order-append x (deque ++ others)) ∙ turned x deque others
  where
    turned : (x deque others : List ℕ) → in_order (x ++ (deque ++ others)) ≡ in_order (deque ++ (x ++ others))
    turned x deque others = ap in_order (sym (append_assoc x deque others)) ∙ more_behind (x ++ deque) (deque ++ x) others None (in_order-turned x deque) ∙ ap in_order (append_assoc deque x others)

list_and_deque : (list : List ℕ) (deques : List (List ℕ)) (m : ℕ) (deque : List ℕ) → m < length deques → in_order (list ++ concat (set deques m deque)) ≡ in_order ((list ++ deque) ++ concat (set deques m []))
list_and_deque list deques m deque lt =
    in_order-append list (concat (set deques m deque)) ∙ ap (with_tasks list) (one_deque deques m deque lt) ∙ sym (in_order-append list (deque ++ concat (set deques m []))) ∙
    ap in_order (sym (append_assoc list deque (concat (set deques m []))))

-- what changes in one deque and the list changes in all
pub in_all_deques : (list after : List ℕ) (deques : List (List ℕ)) (m : ℕ) (deque rest : List ℕ) (taken : Option ℕ) → m < length deques → in_order (list ++ deque) ≡ with_taken taken (in_order (after ++ rest)) →
    in_order (list ++ concat (set deques m deque)) ≡ with_taken taken (in_order (after ++ concat (set deques m rest)))
in_all_deques list after deques m deque rest taken lt same =
    list_and_deque list deques m deque lt ∙ more_behind (list ++ deque) (after ++ rest) (concat (set deques m [])) taken same ∙ ap (with_taken taken) (sym (list_and_deque after deques m rest lt))

-- what is there is written
pub written_there : {A : Type 0} (deques : List A) (m : ℕ) (deque : A) → deque ≡ get_or deques m deque → set deques m deque ≡ deques
written_there deques m deque is = ap (set deques m) is ∙ set-get_or deques m deque
