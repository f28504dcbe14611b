-- A chain of groups in which one more task is open: each of its groups is counted once.
use Rattle.std.proofs.Common.{◌≡◌, ℕ, ◌+◌, ◌-◌, ◌<◌, ◌≤◌, Bool, true, false, List, [], ◌∷◌, Option, Some, None, length, set, refl, ap, ◌∙◌, sym, arith, inl, inr}
use Rattle.std.specs.Prelude.{◌==◌, if◌then◌else◌}
use Rattle.std.proofs.lemmas.Bool.{cases_eq}
use Rattle.std.proofs.lemmas.List.{length-set, get_or-set_same, get_or-set_other}
use Rattle.gomp_events.specs.Tasks.{contains}
use Rattle.gomp_types.proofs.Booleans.{same_number, other_number, is_equal}
use Rattle.gomp_groups.specs.declared.rows.GroupRow.{GroupRow}
use Rattle.gomp_groups.specs.Rows.{no_group, outer_at, pending_at, since_at, IsChain, IsNested, CountsOneMore}
use Rattle.gomp_groups.proofs.Chains.{chain_on, chain_once, chain_unique}

-- what the loops keep: of the groups of the chain, those from here on are still to be counted
pub record IsLeft (first next : Option ℕ) (was now less more : List GroupRow) : Type 0 where
  pub len : length now ≡ length was
  pub outer : (q : ℕ) → outer_at now q ≡ outer_at was q
  pub since : (q : ℕ) → since_at now q ≡ since_at was q
  pub all : List ℕ
  pub left : List ℕ
  pub all_is : IsChain was first all
  pub left_is : IsChain now next left
  pub counted : (q : ℕ) → pending_at more q + (if contains q left then 1 else 0) ≡ pending_at less q + (if contains q all then 1 else 0)

pub all_left : (first : Option ℕ) (groups : List GroupRow) → (qs : List ℕ) × IsChain groups first qs → IsLeft first first groups groups groups groups
all_left first groups (qs, chain) = record { len = refl; outer = λ q. refl; since = λ q. refl; all = qs; left = qs; all_is = chain; left_is = chain; counted = λ q. refl }

-- the row of a group, with another count
outer_at-set : (groups : List GroupRow) (q x n : ℕ) → q < length groups → outer_at (set groups q (record { outer = outer_at groups q; pending = n; since = since_at groups q })) x ≡ outer_at groups x
outer_at-set groups q x n lt =
    elim (cases_eq x q) [
      | inl here ↦ rw here (ap (λ (r : GroupRow). r.outer) (get_or-set_same groups q (record { outer = outer_at groups q; pending = n; since = since_at groups q }) no_group lt))
      | inr away ↦ ap (λ (r : GroupRow). r.outer) (get_or-set_other groups q x (record { outer = outer_at groups q; pending = n; since = since_at groups q }) no_group away)
    ]

pending_at-set : (groups : List GroupRow) (q x n : ℕ) → q < length groups → pending_at (set groups q (record { outer = outer_at groups q; pending = n; since = since_at groups q })) x ≡ (if q == x then n else pending_at groups x)
pending_at-set groups q x n lt =
    elim (cases_eq x q) [
      | inl here ↦ rw (here, same_number q) (ap (λ (r : GroupRow). r.pending) (get_or-set_same groups q (record { outer = outer_at groups q; pending = n; since = since_at groups q }) no_group lt))
      | inr away ↦ rw (other_number q x (λ e. away (sym e))) (ap (λ (r : GroupRow). r.pending) (get_or-set_other groups q x (record { outer = outer_at groups q; pending = n; since = since_at groups q }) no_group away))
    ]

since_at-set : (groups : List GroupRow) (q x n : ℕ) → q < length groups → since_at (set groups q (record { outer = outer_at groups q; pending = n; since = since_at groups q })) x ≡ since_at groups x
since_at-set groups q x n lt =
    elim (cases_eq x q) [
      | inl here ↦ rw here (ap (λ (r : GroupRow). r.since) (get_or-set_same groups q (record { outer = outer_at groups q; pending = n; since = since_at groups q }) no_group lt))
      | inr away ↦ ap (λ (r : GroupRow). r.since) (get_or-set_other groups q x (record { outer = outer_at groups q; pending = n; since = since_at groups q }) no_group away)
    ]

-- a chain that goes on begins with its next group, and that is not met again
pub record BeginsWith (groups : List GroupRow) (q : ℕ) (left : List ℕ) : Type 0 where
  pub rest : List ℕ
  pub is : left ≡ q ∷ rest
  pub within : q < length groups
  pub rest_is : IsChain groups (outer_at groups q) rest
  pub once : contains q rest ≡ false

chain_begins : (groups : List GroupRow) (q : ℕ) (left : List ℕ) → IsNested groups → IsChain groups (Some q) left → BeginsWith groups q left
chain_begins groups q [] nested chain = absurd (cc)
chain_begins groups q (x ∷ rest) nested chain =
    let same : x ≡ q = (let e = chain.0 in cc) in
    record { rest = rest; is = ap (λ y. y ∷ rest) same; within = rw (← same) chain.1; rest_is = rw (← same) chain.2; once = rw (← same) (chain_once groups (Some q) x rest nested chain) }

-- a chain after another count of one of its groups
rest_stays : (groups : List GroupRow) (q n : ℕ) (first : Option ℕ) (qs : List ℕ) → q < length groups → IsChain groups first qs → IsChain (set groups q (record { outer = outer_at groups q; pending = n; since = since_at groups q })) first qs
rest_stays groups q n first qs lt chain =
    let size = length-set groups q (record { outer = outer_at groups q; pending = n; since = since_at groups q }) in
    chain_on groups (set groups q (record { outer = outer_at groups q; pending = n; since = since_at groups q })) first qs (omega (arith, size)) (λ x low. outer_at-set groups q x n lt) chain

nested_now : (was now : List GroupRow) → ((q : ℕ) → outer_at now q ≡ outer_at was q) → IsNested was → IsNested now
nested_now was now same nested q = rw (same q) (nested q)

one_at_most : (b : Bool) → (if b then 1 else 0) ≤ 1
one_at_most true = omega arith
one_at_most false = omega arith

-- what is counted of the next group, and of another
next_left : (groups : List GroupRow) (q n : ℕ) (all left : List ℕ) (m : ℕ) → BeginsWith groups q left → n + (if contains q left then 1 else 0) ≡ m + (if contains q all then 1 else 0) → n + 1 ≡ m + (if contains q all then 1 else 0)
next_left groups q n all left m begin e = rw (begin.is, same_number q) at e

other_left : (groups : List GroupRow) (q x : ℕ) (left : List ℕ) (n m : ℕ) → (begin : BeginsWith groups q left) → (q == x) ≡ false → n + (if contains x left then 1 else 0) ≡ m → n + (if contains x begin.rest then 1 else 0) ≡ m
other_left groups q x left n m begin other e = rw (begin.is, other) at e

-- one more in the next group
pub adds_next : (first : Option ℕ) (was now : List GroupRow) (q : ℕ) → IsNested was → IsLeft first (Some q) was now was now → (q < length now) × (pending_at now q ≤ pending_at was q) ×
    IsLeft first (outer_at now q) was (set now q (record { outer = outer_at now q; pending = pending_at now q + 1; since = since_at now q })) was (set now q (record { outer = outer_at now q; pending = pending_at now q + 1; since = since_at now q }))
adds_next first was now q nested is =
    let left = chain_begins now q is.left (nested_now was now is.outer nested) is.left_is in (
      left.within,
      few left,
      record {
        len = length-set now q (record { outer = outer_at now q; pending = pending_at now q + 1; since = since_at now q }) ∙ is.len;
        outer = λ x. outer_at-set now q x (pending_at now q + 1) left.within ∙ is.outer x;
        since = λ x. since_at-set now q x (pending_at now q + 1) left.within ∙ is.since x;
        all = is.all;
        left = left.rest;
        all_is = is.all_is;
        left_is = rest_stays now q (pending_at now q + 1) (outer_at now q) left.rest left.within left.rest_is;
        counted = λ x. rw (pending_at-set now q x (pending_at now q + 1) left.within) (counted_now left x (q == x) refl);
      },
    )
  where
    few : BeginsWith now q is.left → pending_at now q ≤ pending_at was q
    few left =
        let here = next_left now q (pending_at now q) is.all is.left (pending_at was q) left (is.counted q) in
        let one = one_at_most (contains q is.all) in
        omega (arith, here, one)

    counted_now : (left : BeginsWith now q is.left) (x : ℕ) (b : Bool) → (q == x) ≡ b → (if b then pending_at now q + 1 else pending_at now x) + (if contains x left.rest then 1 else 0) ≡ pending_at was x + (if contains x is.all then 1 else 0)
    counted_now left x true same =
        let here = next_left now q (pending_at now q) is.all is.left (pending_at was q) left (is.counted q) in
        rw (← is_equal q x same, left.once) (omega (arith, here))
    counted_now left x false other = other_left now q x is.left (pending_at now x) _ left other (is.counted x)

-- one less in the next group
pub removes_next : (first : Option ℕ) (was now : List GroupRow) (q : ℕ) → IsNested was → ((qs : List ℕ) → IsChain was first qs → (x : ℕ) → (if contains x qs then 1 else 0) ≤ pending_at was x) → IsLeft first (Some q) was now now was → (q < length now) × (1 ≤ pending_at now q) ×
    IsLeft first (outer_at now q) was (set now q (record { outer = outer_at now q; pending = pending_at now q - 1; since = since_at now q })) (set now q (record { outer = outer_at now q; pending = pending_at now q - 1; since = since_at now q })) was
removes_next first was now q nested some is =
    let left = chain_begins now q is.left (nested_now was now is.outer nested) is.left_is in (
      left.within,
      enough left,
      record {
        len = length-set now q (record { outer = outer_at now q; pending = pending_at now q - 1; since = since_at now q }) ∙ is.len;
        outer = λ x. outer_at-set now q x (pending_at now q - 1) left.within ∙ is.outer x;
        since = λ x. since_at-set now q x (pending_at now q - 1) left.within ∙ is.since x;
        all = is.all;
        left = left.rest;
        all_is = is.all_is;
        left_is = rest_stays now q (pending_at now q - 1) (outer_at now q) left.rest left.within left.rest_is;
        counted = λ x. rw (pending_at-set now q x (pending_at now q - 1) left.within) (counted_now left x (q == x) refl);
      },
    )
  where
    enough : BeginsWith now q is.left → 1 ≤ pending_at now q
    enough left =
        let here = next_left now q (pending_at was q) is.all is.left (pending_at now q) left (is.counted q) in
        let was_some = some is.all is.all_is q in
        let one = one_at_most (contains q is.all) in
        omega (arith, here, was_some, one)

    counted_now : (left : BeginsWith now q is.left) (x : ℕ) (b : Bool) → (q == x) ≡ b → pending_at was x + (if contains x left.rest then 1 else 0) ≡ (if b then pending_at now q - 1 else pending_at now x) + (if contains x is.all then 1 else 0)
    counted_now left x true same =
        let here = next_left now q (pending_at was q) is.all is.left (pending_at now q) left (is.counted q) in
        let one = enough left in
        rw (← is_equal q x same, left.once) (omega (arith, here, one))
    counted_now left x false other = other_left now q x is.left (pending_at was x) _ left other (is.counted x)

-- the chain was counted to its end
pub all_counted : (first : Option ℕ) (was now less more : List GroupRow) (qs : List ℕ) → IsLeft first None was now less more → length more ≡ length less → ((q : ℕ) → outer_at more q ≡ outer_at less q) → ((q : ℕ) → since_at more q ≡ since_at less q) → IsChain was first qs → CountsOneMore qs less more
all_counted first was now less more qs is len outer since chain = record { len = len; outer = outer; pending = λ q. rw (chain_unique was first qs is.all chain is.all_is) (ended is.left is.left_is q (is.counted q)); since = since }
  where
    ended : (left : List ℕ) → IsChain now None left → (q : ℕ) → pending_at more q + (if contains q left then 1 else 0) ≡ pending_at less q + (if contains q is.all then 1 else 0) → pending_at more q ≡ pending_at less q + (if contains q is.all then 1 else 0)
    ended [] end q e = (let none : pending_at more q + 0 ≡ pending_at less q + (if contains q is.all then 1 else 0) = e in omega (arith, none))
    ended (x ∷ left) end q e = absurd (let no = end.0 in cc)
