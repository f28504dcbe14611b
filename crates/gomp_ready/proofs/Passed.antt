-- A deque whose tasks are looked at one after another, and those that a member may not start.
use Rattle.std.proofs.Common.{◌≡◌, ℕ, ◌<◌, ◌≤◌, true, false, List, [], ◌∷◌, ◌++◌, Option, None, Some, length, take, drop, get_or, suc, ap, sym, ◌∙◌, ◌+◌, arith, length-append, ◌⊎◌, inl, inr, append_assoc}
use Rattle.std.specs.Prelude.{◌==◌}
use Rattle.std.specs.List.{remove}
use Rattle.std.proofs.lemmas.List.{append-nil, take-append-le, set_split}
use Rattle.gomp_events.specs.Tasks.{contains}
use Rattle.gomp_types.proofs.Booleans.{or_tells, is_equal}
use Rattle.gomp_events.proofs.TaskStacks.{contains_in_either}
use Rattle.gomp_ready.specs.declared.deque.End.{End}
use Rattle.gomp_ready.specs.declared.deque.End.TheVariants.{Newest, Oldest}
use Rattle.gomp_ready.specs.Ends.{with_at}
use Rattle.gomp_ready.specs.Ready.{with_task, with_taken, in_order}
use Rattle.gomp_ready.proofs.InOrder.{in_order-between, written_there}

-- The newest

pub newest_taken : (list deque rest : List ℕ) (t : ℕ) → deque ≡ rest ++ t ∷ [] → in_order (list ++ deque) ≡ with_task t (in_order (list ++ rest))
newest_taken list deque rest t is =
    ap (λ xs. in_order (list ++ xs)) is ∙ ap in_order (sym (append_assoc list rest (t ∷ []))) ∙ in_order-between (list ++ rest) t [] ∙ ap (λ xs. with_task t (in_order xs)) (append-nil (list ++ rest))

newest_passed : (list deque rest : List ℕ) (t : ℕ) → deque ≡ rest ++ t ∷ [] → in_order (list ++ deque) ≡ in_order ((list ++ t ∷ []) ++ rest)
newest_passed list deque rest t is = newest_taken list deque rest t is ∙ sym (in_order-between list t rest) ∙ ap in_order (sym (append_assoc list (t ∷ []) rest))

-- The oldest

oldest_taken : (list deque rest : List ℕ) (t : ℕ) → deque ≡ t ∷ rest → in_order (list ++ deque) ≡ with_task t (in_order (list ++ rest))
oldest_taken list deque rest t is = ap (λ xs. in_order (list ++ xs)) is ∙ in_order-between list t rest

oldest_passed : (list deque rest : List ℕ) (t : ℕ) → deque ≡ t ∷ rest → in_order (list ++ deque) ≡ in_order ((list ++ t ∷ []) ++ rest)
oldest_passed list deque rest t is = ap (λ xs. in_order (list ++ xs)) is ∙ ap in_order (sym (append_assoc list (t ∷ []) rest))

-- At either end

pub popped_taken : (end : End) (list deque rest : List ℕ) (t : ℕ) → deque ≡ with_at end (Some t) rest → in_order (list ++ deque) ≡ with_task t (in_order (list ++ rest))
popped_taken Newest list deque rest t is = newest_taken list deque rest t is
popped_taken Oldest list deque rest t is = oldest_taken list deque rest t is

pub popped_passed : (end : End) (list deque rest : List ℕ) (t : ℕ) → deque ≡ with_at end (Some t) rest → in_order (list ++ deque) ≡ in_order ((list ++ t ∷ []) ++ rest)
popped_passed Newest list deque rest t is = newest_passed list deque rest t is
popped_passed Oldest list deque rest t is = oldest_passed list deque rest t is

pub one_fewer : (end : End) (deque rest : List ℕ) (t : ℕ) → deque ≡ with_at end (Some t) rest → length deque ≡ length rest + 1
one_fewer Newest deque rest t is = ap length is ∙ length-append rest (t ∷ [])
one_fewer Oldest deque rest t is = let more : length deque ≡ suc (length rest) = ap length is in omega (arith, more)

-- Which are passed over

-- of some tasks each still stands in a deque, or a member may not start it
abbrev pub StandsOr : (ℕ → Type 0) → List ℕ → ℕ → Type 0
StandsOr Refused deque t = (contains t deque ≡ true) ⊎ Refused t

-- one less stands there
oldest_stands : (Refused : ℕ → Type 0) (rest : List ℕ) (t u : ℕ) → Refused t → contains u (t ∷ rest) ≡ true → StandsOr Refused rest u
oldest_stands Refused rest t u refused there = elim (or_tells (t == u) (contains u rest) there) [
  | inl same ↦ inr (let e = is_equal t u same in rw (← e) refused)
  | inr further ↦ inl further
]

newest_stands : (Refused : ℕ → Type 0) (rest : List ℕ) (t u : ℕ) → Refused t → contains u (rest ++ t ∷ []) ≡ true → StandsOr Refused rest u
newest_stands Refused rest t u refused there = elim (or_tells (contains u rest) (contains u (t ∷ [])) (rw (contains_in_either u rest (t ∷ [])) at there)) [
  | inl further ↦ inl further
  | inr same ↦ elim (oldest_stands Refused [] t u refused same) [ inl none ↦ absurd (let e : false ≡ true = none in cc) | inr is ↦ inr is ]
]

passes_newest : (Refused : ℕ → Type 0) (deque rest : List ℕ) (t u : ℕ) → deque ≡ rest ++ t ∷ [] → Refused t → StandsOr Refused deque u → StandsOr Refused rest u
passes_newest Refused deque rest t u is refused (inl there) = newest_stands Refused rest t u refused (rw is at there)
passes_newest Refused deque rest t u is refused (inr may_not) = inr may_not

passes_oldest : (Refused : ℕ → Type 0) (deque rest : List ℕ) (t u : ℕ) → deque ≡ t ∷ rest → Refused t → StandsOr Refused deque u → StandsOr Refused rest u
passes_oldest Refused deque rest t u is refused (inl there) = oldest_stands Refused rest t u refused (rw is at there)
passes_oldest Refused deque rest t u is refused (inr may_not) = inr may_not

pub passes_popped : (end : End) (Refused : ℕ → Type 0) (deque rest : List ℕ) (t u : ℕ) → deque ≡ with_at end (Some t) rest → Refused t → StandsOr Refused deque u → StandsOr Refused rest u
passes_popped Newest Refused deque rest t u is refused stands = passes_newest Refused deque rest t u is refused stands
passes_popped Oldest Refused deque rest t u is refused stands = passes_oldest Refused deque rest t u is refused stands

-- none stands there any more
pub refused_by_none : (Refused : ℕ → Type 0) (deque : List ℕ) (u : ℕ) → deque ≡ [] → StandsOr Refused deque u → Refused u
refused_by_none Refused deque u none (inl there) = absurd (let e : false ≡ true = rw none at there in cc)
refused_by_none Refused deque u none (inr may_not) = may_not

-- The list behind

pub behind_more : (first list : List ℕ) (t : ℕ) → length first ≤ length list → take (length first) list ≡ first → take (length first) (list ++ t ∷ []) ≡ first
behind_more first list t long is = take-append-le (length first) list (t ∷ []) long ∙ is

-- A task that is put

pub put_in_list : (list after deque : List ℕ) (t : ℕ) → after ≡ list ++ t ∷ [] → in_order (after ++ deque) ≡ with_task t (in_order (list ++ deque))
put_in_list list after deque t is = ap (λ xs. in_order (xs ++ deque)) is ∙ ap in_order (append_assoc list (t ∷ []) deque) ∙ in_order-between list t deque

-- A task of the list

-- a task at a place is taken out
taken_at : (ids : List ℕ) (i t : ℕ) → i < length ids → t ≡ get_or ids i t → in_order ids ≡ with_task t (in_order (remove ids i))
taken_at ids i t lt is = ap in_order (sym (written_there ids i t is) ∙ set_split ids i t lt) ∙ in_order-between (take i ids) t (drop (suc i) ids)

pub removed_at : (ids after : List ℕ) (i : ℕ) (found : Option ℕ) → i < length ids → ((d : ℕ) → found ≡ Some (get_or ids i d)) → after ≡ remove ids i → in_order ids ≡ with_taken found (in_order after)
removed_at ids after i None lt at is = absurd (let e : None ≡ Some (get_or ids i 0) = at 0 in cc)
removed_at ids after i (Some t) lt at is = let same : t ≡ get_or ids i t = (let e = at t in cc) in taken_at ids i t lt same ∙ ap (λ xs. with_task t (in_order xs)) (sym is)
