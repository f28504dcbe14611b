-- The deques of all members: what a change in one of them changes.
use Rattle.std.proofs.Common.{◌≡◌, ℕ, ◌+◌, ◌<◌, ◌≤◌, true, List, [], ◌∷◌, ◌++◌, Option, None, Some, length, take, drop, set, get_or, ap, sym, ◌∙◌, arith, suc, zero, ◌⊎◌, inl, inr, length-append}
use Rattle.std.specs.List.{concat}
use Rattle.std.proofs.lemmas.List.{append-nil, take-append-drop, take_more, take_more_set, get_or-drop, drop-drop, drop-set-lt}
use Rattle.std.proofs.lemmas.List.Folds.{concat-append}
use Rattle.gomp_events.specs.Tasks.{contains}
use Rattle.gomp_types.proofs.Booleans.{or_tells, or_right}
use Rattle.gomp_events.proofs.TaskStacks.{contains_in_either}
use Rattle.gomp_ready.specs.Ready.{with_task, with_taken, in_order}
use Rattle.gomp_ready.proofs.InOrder.{contains-in_order, as_many, one_task_less, one_deque, in_all_deques, written_there}

-- One deque among all

concat_push : (deques : List (List ℕ)) (deque : List ℕ) → concat (deques ++ deque ∷ []) ≡ concat deques ++ deque
concat_push deques deque = concat-append deques (deque ∷ []) ∙ ap (λ zs. concat deques ++ zs) (append-nil deque)

pub no_tasks_more : (deques : List (List ℕ)) (deque : List ℕ) → concat deques ≡ [] → deque ≡ [] → concat (deques ++ deque ∷ []) ≡ []
no_tasks_more deques deque none empty = concat_push deques deque ∙ ap (λ zs. zs ++ deque) none ∙ empty

pub deque_within : (deques : List (List ℕ)) (m : ℕ) (deque : List ℕ) → m < length deques → deque ≡ get_or deques m deque → length deque ≤ length (concat deques)
deque_within [] m deque lt is = absurd (omega arith)
deque_within (x ∷ deques) zero deque lt is = omega (arith, ap length is, length-append x (concat deques))
deque_within (x ∷ deques) (suc m) deque lt is = omega (arith, deque_within deques m deque (omega arith) is, length-append x (concat deques))

-- what changes in a deque that is there and the list changes in all
pub changed_deque : (list after : List ℕ) (deques : List (List ℕ)) (m : ℕ) (deque rest : List ℕ) (taken : Option ℕ) → m < length deques → deque ≡ get_or deques m deque →
    in_order (list ++ deque) ≡ with_taken taken (in_order (after ++ rest)) → in_order (list ++ concat deques) ≡ with_taken taken (in_order (after ++ concat (set deques m rest)))
changed_deque list after deques m deque rest taken lt is same =
    ap (λ ds. in_order (list ++ concat ds)) (sym (written_there deques m deque is)) ∙ in_all_deques list after deques m deque rest taken lt same

pub deque_with_task : (list after : List ℕ) (deques : List (List ℕ)) (m : ℕ) (deque rest : List ℕ) (t : ℕ) → m < length deques → deque ≡ get_or deques m deque →
    in_order (after ++ rest) ≡ with_task t (in_order (list ++ deque)) → in_order (after ++ concat (set deques m rest)) ≡ with_task t (in_order (list ++ concat deques))
deque_with_task list after deques m deque rest t lt is same =
    in_all_deques after list deques m rest deque (Some t) lt same ∙ ap (λ ds. with_task t (in_order (list ++ concat ds))) (written_there deques m deque is)

-- a task of all deques stands in this one, or in the others
pub in_deque_or_others : (deques : List (List ℕ)) (m : ℕ) (deque rest : List ℕ) (t : ℕ) → m < length deques → deque ≡ get_or deques m deque → contains t (concat deques) ≡ true →
    (contains t deque ≡ true) ⊎ (contains t (concat (set deques m rest)) ≡ true)
in_deque_or_others deques m deque rest t lt is there =
    let others = concat (set deques m []) in
    let all : contains t (deque ++ others) ≡ true = sym (apart deque) ∙ ap (λ ds. contains t (concat ds)) (written_there deques m deque is) ∙ there in
    elim (or_tells (contains t deque) (contains t others) (sym (contains_in_either t deque others) ∙ all)) [
      | inl here ↦ inl here
      | inr further ↦ inr (apart rest ∙ contains_in_either t rest others ∙ or_right (contains t rest) (contains t others) further)
    ]
  where
    apart : (xs : List ℕ) → contains t (concat (set deques m xs)) ≡ contains t (xs ++ concat (set deques m []))
    apart xs = sym (contains-in_order t (concat (set deques m xs))) ∙ ap (contains t) (one_deque deques m xs lt) ∙ contains-in_order t (xs ++ concat (set deques m []))

-- the list has room for all that may come into it
pub room_kept : (list after others rest : List ℕ) (room : ℕ) → in_order (list ++ others) ≡ in_order (after ++ rest) → length list + length others ≤ room → length after + length rest ≤ room
room_kept list after others rest room same fits = omega (arith, as_many (list ++ others) (after ++ rest) same, length-append list others, length-append after rest)

-- how many are left
pub counted_some : (xs ys : List ℕ) (found : Option ℕ) (t : ℕ) → found ≡ Some t → in_order xs ≡ with_taken found (in_order ys) → length xs ≡ length ys + 1
counted_some xs ys found t some same = one_task_less xs ys t (same ∙ ap (λ o. with_taken o (in_order ys)) some)

pub counted_none : (xs ys : List ℕ) (found : Option ℕ) → found ≡ None → in_order xs ≡ with_taken found (in_order ys) → length xs ≡ length ys
counted_none xs ys found none same = as_many xs ys (same ∙ ap (λ o. with_taken o (in_order ys)) none)

-- One deque after another

-- the deque that comes next is as it was
pub same_at : {A : Type 0} (xs ys : List A) (m : ℕ) (x : A) → drop m xs ≡ drop m ys → x ≡ get_or xs m x → x ≡ get_or ys m x
same_at {A} xs ys m x same is = is ∙ sym (at xs) ∙ ap (λ zs. get_or zs 0 x) same ∙ at ys
  where
    at : (zs : List A) → get_or (drop m zs) 0 x ≡ get_or zs m x
    at zs = get_or-drop m zs 0 x ∙ ap (λ n. get_or zs n x) (omega arith)

pub further_more : {A : Type 0} (xs ys : List A) (m : ℕ) (y : A) → drop m xs ≡ drop m ys → drop (m + 1) (set xs m y) ≡ drop (m + 1) ys
further_more xs ys m y same = drop-set-lt (m + 1) xs m y (omega arith) ∙ sym (drop-drop 1 m xs) ∙ ap (drop 1) same ∙ drop-drop 1 m ys

pub concat_more : (deques : List (List ℕ)) (m : ℕ) (deque : List ℕ) → m < length deques → deque ≡ get_or deques m deque → concat (take (m + 1) deques) ≡ concat (take m deques) ++ deque
concat_more deques m deque lt is = ap concat (take_more deques m deque lt) ∙ concat_push (take m deques) (get_or deques m deque) ∙ ap (λ d. concat (take m deques) ++ d) (sym is)

pub concat_more_set : (deques : List (List ℕ)) (m : ℕ) (deque : List ℕ) → m < length deques → concat (take (m + 1) (set deques m deque)) ≡ concat (take m deques) ++ deque
concat_more_set deques m deque lt = ap concat (take_more_set deques m deque lt) ∙ concat_push (take m deques) deque

pub taken_within : (deques : List (List ℕ)) (n : ℕ) → length (concat (take n deques)) ≤ length (concat deques)
taken_within deques n =
    let all = ap (λ ds. length (concat ds)) (take-append-drop n deques) in
    let parts = ap length (concat-append (take n deques) (drop n deques)) in
    omega (arith, all, parts, length-append (concat (take n deques)) (concat (drop n deques)))

-- what holds of each task of the first deques, and of those of the next
pub among_more : (P : ℕ → Type 0) (deques : List (List ℕ)) (m : ℕ) (deque : List ℕ) → m < length deques → deque ≡ get_or deques m deque →
    ((t : ℕ) → contains t (concat (take m deques)) ≡ true → P t) → ((t : ℕ) → contains t deque ≡ true → P t) → (t : ℕ) → contains t (concat (take (m + 1) deques)) ≡ true → P t
among_more P deques m deque lt is first next t there =
    let all = ap (contains t) (sym (concat_more deques m deque lt is)) ∙ there in
    elim (or_tells (contains t (concat (take m deques))) (contains t deque) (sym (contains_in_either t (concat (take m deques)) deque) ∙ all)) [
      | inl before ↦ first t before
      | inr here ↦ next t here
    ]
