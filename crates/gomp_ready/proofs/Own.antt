-- What is seen of the tasks once a member has looked through its own deque.
use Rattle.std.proofs.Common.{◌≡◌, ℕ, ◌<◌, ◌≤◌, true, List, ◌++◌, Option, None, Some, length, take, set, get_or, refl, ap, sym, ◌∙◌, ◌+◌, ◌-◌, false, arith, length-set}
use Rattle.std.specs.Prelude.{is_some, IfSome}
use Rattle.std.specs.List.{concat}
use Rattle.gomp_types.proofs.Booleans.{none_of}
use Rattle.gomp_ready.specs.Marks.{mark_at, fronts}
use Rattle.gomp_ready.specs.Ready.{ReadyView, in_order, with_task, with_taken}
use Rattle.gomp_ready.proofs.Deques.{changed_deque, counted_some}
use Rattle.gomp_ready.proofs.Looked.{front_again}
use Rattle.gomp_ready.proofs.Marked.{fronts_same}

-- what is seen of a list and deques
abbrev pub viewed : List ℕ → List (List ℕ) → List (List ℕ) → ℕ → ReadyView
viewed list deques marks room = record { members = length deques; ids = in_order (list ++ concat deques); room = room; passed = fronts list marks }

-- one view is another if each part is
pub same_ready_view : (one other : ReadyView) → one.members ≡ other.members → one.ids ≡ other.ids → one.room ≡ other.room → one.passed ≡ other.passed → one ≡ other
same_ready_view one other members ids room passed =
    ap (λ n. record one { members = n }) members ∙ ap (λ ts. record one { members = other.members; ids = ts }) ids ∙ ap (λ n. record one { members = other.members; ids = other.ids; room = n }) room ∙
    ap (λ fs. record one { members = other.members; ids = other.ids; room = other.room; passed = fs }) passed

-- up to the marks the same tasks stand, though others have come to the end
pub fronts_behind : (marks : List (List ℕ)) (list after : List ℕ) → ((m l : ℕ) → mark_at m l marks ≤ length list) → take (length list) after ≡ list → fronts after marks ≡ fronts list marks
fronts_behind marks list after within behind = fronts_same marks list after (λ m l. front_again (mark_at m l marks) list after (within m l) behind)

-- If it has found one

pub some_taken : (own : Option ℕ) (ids rest : List ℕ) → ids ≡ with_taken own rest → IfSome own (λ t. ids ≡ with_task t rest)
some_taken None ids rest same = tt
some_taken (Some t) ids rest same = same

pub counted_if_some : (xs ys : List ℕ) (own : Option ℕ) → is_some own ≡ true → in_order xs ≡ with_taken own (in_order ys) → length xs ≡ length ys + 1
counted_if_some xs ys None some same = absurd (cc)
counted_if_some xs ys (Some t) some same = counted_some xs ys (Some t) t refl same

-- If it has found none

pub own_none : (list after rest : List ℕ) (deques : List (List ℕ)) (m : ℕ) (deque : List ℕ) (own : Option ℕ) → m < length deques → deque ≡ get_or deques m deque → own ≡ None →
    in_order (list ++ deque) ≡ with_taken own (in_order (after ++ rest)) → in_order (list ++ concat deques) ≡ in_order (after ++ concat (set deques m rest))
own_none list after rest deques m deque own lt is none same =
    changed_deque list after deques m deque rest own lt is same ∙ ap (λ o. with_taken o (in_order (after ++ concat (set deques m rest)))) none

-- all is as it was
pub view_kept : (list after rest : List ℕ) (deques marks : List (List ℕ)) (m : ℕ) (deque : List ℕ) (own : Option ℕ) (capacity left count : ℕ) (view : ReadyView) → viewed list deques marks (capacity - count) ≡ view → m < view.members → deque ≡ get_or deques m deque → is_some own ≡ false →
    in_order (list ++ deque) ≡ with_taken own (in_order (after ++ rest)) → ((n l : ℕ) → mark_at n l marks ≤ length list) → take (length list) after ≡ list → left ≡ capacity → viewed after (set deques m rest) marks (left - count) ≡ view
view_kept list after rest deques marks m deque own capacity left count view seen member is none same within behind rooms =
    let lt : m < length deques = omega (arith, member, ap (λ (v : ReadyView). v.members) seen) in
    same_ready_view (viewed after (set deques m rest) marks (left - count)) (viewed list deques marks (capacity - count)) (length-set deques m rest) (sym (own_none list after rest deques m deque own lt is (none_of own none) same)) (ap (λ n. n - count) rooms) (fronts_behind marks list after within behind) ∙ seen
