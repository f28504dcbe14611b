-- Chains of groups: they lead outwards, to groups with smaller numbers, and a new row changes none of them.
use Rattle.std.proofs.Common.{◌≡◌, ℕ, ◌<◌, ◌≤◌, true, false, List, [], ◌∷◌, ◌++◌, Option, Some, None, IfSome, length, get_or, refl, ap, ◌∙◌, sym, subst, arith, suc, zero, inl, inr}
use Rattle.std.specs.Prelude.{◌==◌, ◌+◌}
use Rattle.std.proofs.lemmas.Bool.{cases_Bool, cases_lt}
use Rattle.std.proofs.lemmas.List.{length-append, get_or_append_left, get_or_past, get_or_push, get_or_read}
use Rattle.gomp_events.specs.Tasks.{contains}
use Rattle.gomp_events.specs.Cancels.{first_in}
use Rattle.gomp_types.proofs.Booleans.{or_tells, same_number, other_number, unequal_numbers, is_equal}
use Rattle.gomp_events.proofs.Refutations.{contained_later}
use Rattle.gomp_groups.specs.declared.rows.GroupRow.{GroupRow}
use Rattle.gomp_groups.specs.declared.rows.GroupSeat.{GroupSeat}
use Rattle.gomp_groups.specs.Rows.{no_group, outer_at, pending_at, since_at, IsChain, IsNested, same_group, own_group}

-- Chains

pub chain_first : (groups : List GroupRow) (first : Option ℕ) (qs : List ℕ) → IsChain groups first qs → first ≡ first_in qs
chain_first groups first [] chain = chain
chain_first groups first (q ∷ qs) chain = chain.0

pub chain_unique : (groups : List GroupRow) (first : Option ℕ) (qs rs : List ℕ) → IsChain groups first qs → IsChain groups first rs → qs ≡ rs
chain_unique groups first [] [] a b = refl
chain_unique groups first [] (r ∷ rs) a b = absurd (let e : ◌≡◌ {A = Option ℕ} None (Some r) = sym a ∙ b.0 in cc)
chain_unique groups first (q ∷ qs) [] a b = absurd (let e : ◌≡◌ {A = Option ℕ} None (Some q) = sym b ∙ a.0 in cc)
chain_unique groups first (q ∷ qs) (r ∷ rs) a b =
    let same : q ≡ r = (let e : Some q ≡ Some r = sym a.0 ∙ b.0 in cc) in
    let rest : qs ≡ rs = chain_unique groups (outer_at groups q) qs rs a.2 (subst (λ (x : ℕ). IsChain groups (outer_at groups x) rs) (sym same) b.2) in
    cc

-- where the rows of a chain's groups stay, so does the chain
pub chain_on : (old new : List GroupRow) (first : Option ℕ) (qs : List ℕ) → length old ≤ length new → ((q : ℕ) → q < length old → outer_at new q ≡ outer_at old q) → IsChain old first qs → IsChain new first qs
chain_on old new first [] longer same chain = chain
chain_on old new first (q ∷ qs) longer same chain =
    let lt = chain.1 in
    let rest = chain_on old new (outer_at old q) qs longer same chain.2 in
    (chain.0, omega (arith, lt, longer), subst (λ (o : Option ℕ). IsChain new o qs) (sym (same q lt)) rest)

-- a chain that begins below a number stays below it
pub chain_below : (groups : List GroupRow) (first : Option ℕ) (qs : List ℕ) (n x : ℕ) → IsNested groups → IfSome first (λ q. q < n) → IsChain groups first qs → contains x qs ≡ true → x < n
chain_below groups first [] n x nested low chain there = absurd (cc)
chain_below groups first (q ∷ qs) n x nested low chain there =
    let lt : q < n = subst (λ (o : Option ℕ). IfSome o (λ y. y < n)) chain.0 low in
    elim (or_tells (q == x) (contains x qs) there) [
      | inl here ↦ rw (← is_equal q x here) lt
      | inr further ↦
          let less : x < q = chain_below groups (outer_at groups q) qs q x nested (nested q) chain.2 further in
          omega (arith, lt, less)
    ]

-- so no group stands in it twice
pub chain_once : (groups : List GroupRow) (first : Option ℕ) (q : ℕ) (qs : List ℕ) → IsNested groups → IsChain groups first (q ∷ qs) → contains q qs ≡ false
chain_once groups first q qs nested chain =
    elim (cases_Bool (contains q qs)) [
      | inl there ↦ absurd (let less = chain_below groups (outer_at groups q) qs q q nested (nested q) chain.2 there in omega (arith, less))
      | inr away ↦ away
    ]

pub chain_in : (groups : List GroupRow) (first : Option ℕ) (qs : List ℕ) (x : ℕ) → IsChain groups first qs → contains x qs ≡ true → x < length groups
chain_in groups first [] x chain there = absurd (cc)
chain_in groups first (q ∷ qs) x chain there =
    elim (or_tells (q == x) (contains x qs) there) [
      | inl here ↦ rw (← is_equal q x here) chain.1
      | inr further ↦ chain_in groups (outer_at groups q) qs x chain.2 further
    ]

pub chain_starts : (groups : List GroupRow) (first : Option ℕ) (qs : List ℕ) → IsChain groups first qs → IfSome first (λ q. q < length groups)
chain_starts groups first [] chain = rw chain tt
chain_starts groups first (q ∷ qs) chain = rw chain.0 chain.1

-- Steps along a chain

-- a row as it is read: whatever stands for one that is not there
pub row_read : (groups : List GroupRow) (q : ℕ) (row : GroupRow) → q < length groups → row ≡ get_or groups q row → get_or groups q no_group ≡ get_or groups q row
row_read groups q row lt is = sym (get_or_read groups q row lt is no_group) ∙ is

-- so many steps are left at most where a chain goes on: the group's number, and one more
abbrev pub steps_left : Option ℕ → ℕ
steps_left None = 0
steps_left (Some q) = q + 1

-- fewer after each step
pub steps_fewer : (groups : List GroupRow) (q : ℕ) (next outer : Option ℕ) → IsNested groups → next ≡ Some q → outer ≡ outer_at groups q → steps_left outer < steps_left next
steps_fewer groups q next outer nested is outer_is = rw (is, outer_is) (by (outer_at groups q) (nested q))
  where
    by : (o : Option ℕ) → IfSome o (λ x. x < q) → steps_left o < q + 1
    by None low = omega arith
    by (Some x) low = omega (arith, low)

-- The group that a task has open itself

same_group_self : (a : Option ℕ) → same_group a a ≡ true
same_group_self None = refl
same_group_self (Some q) = same_number q

pub own_is : (groups : List GroupRow) (seat : GroupSeat) (own beyond : List ℕ) → IsNested groups → IsChain groups seat.last (own ++ beyond) → IsChain groups seat.around beyond → own_group seat ≡ first_in own
own_is groups seat [] beyond nested last around =
    let same : seat.last ≡ seat.around = chain_first groups seat.last beyond last ∙ sym (chain_first groups seat.around beyond around) in
    rw (same, same_group_self seat.around) refl
own_is groups seat (q ∷ own) [] nested last around = rw (around, last.0) refl
own_is groups seat (q ∷ own) (b ∷ beyond) nested last around =
    let there : contains b (own ++ b ∷ beyond) ≡ true = contained_later b own (b ∷ beyond) (rw (same_number b) refl) in
    let less : b < q = chain_below groups (outer_at groups q) (own ++ b ∷ beyond) q b nested (nested q) last.2 there in
    let other : (q == b) ≡ false = other_number q b (λ e. omega (arith, e, less)) in
    rw (around.0, last.0, other) refl

-- A row more

pub outer_at-push : (groups : List GroupRow) (row : GroupRow) (q : ℕ) → q < length groups → outer_at (groups ++ row ∷ []) q ≡ outer_at groups q
outer_at-push groups row q lt = ap (λ (r : GroupRow). r.outer) (get_or_append_left groups (row ∷ []) no_group q lt)

pub outer_at-pushed : (groups : List GroupRow) (row : GroupRow) → outer_at (groups ++ row ∷ []) (length groups) ≡ row.outer
outer_at-pushed groups row = ap (λ (r : GroupRow). r.outer) (get_or_push groups row no_group (length groups) refl)

pub outer_past : (groups : List GroupRow) (q : ℕ) → length groups ≤ q → outer_at groups q ≡ None
outer_past groups q le = ap (λ (r : GroupRow). r.outer) (get_or_past groups q no_group le)

pub pending_at-push : (groups : List GroupRow) (row : GroupRow) (q : ℕ) → row.pending ≡ 0 → pending_at (groups ++ row ∷ []) q ≡ pending_at groups q
pending_at-push [] row zero none = none
pending_at-push [] row (suc q) none = refl
pending_at-push (first ∷ groups) row zero none = refl
pending_at-push (first ∷ groups) row (suc q) none = pending_at-push groups row q none

pub since_at-pushed : (groups : List GroupRow) (row : GroupRow) → since_at (groups ++ row ∷ []) (length groups) ≡ row.since
since_at-pushed groups row = ap (λ (r : GroupRow). r.since) (get_or_push groups row no_group (length groups) refl)

pub since_at-push : (groups : List GroupRow) (row : GroupRow) (q : ℕ) → (length groups == q) ≡ false → since_at (groups ++ row ∷ []) q ≡ since_at groups q
since_at-push groups row q away =
    elim (cases_lt q (length groups)) [
      | inl lt ↦ ap (λ (r : GroupRow). r.since) (get_or_append_left groups (row ∷ []) no_group q lt)
      | inr le ↦
          let differ = unequal_numbers (length groups) q away in
          let size = length-append groups (row ∷ []) in
          ap (λ (r : GroupRow). r.since) (get_or_past (groups ++ row ∷ []) q no_group (omega (arith, size, le, differ)) ∙ sym (get_or_past groups q no_group le))
    ]

pub nested_push : (groups : List GroupRow) (row : GroupRow) → IsNested groups → IfSome row.outer (λ o. o < length groups) → IsNested (groups ++ row ∷ [])
nested_push groups row nested low q =
    elim (cases_lt q (length groups)) [
      | inl lt ↦ rw (outer_at-push groups row q lt) (nested q)
      | inr le ↦ elim (cases_lt (length groups) q) [
        | inl lt ↦ rw (outer_past (groups ++ row ∷ []) q (let size = length-append groups (row ∷ []) in omega (arith, size, lt))) tt
        | inr ge ↦ let here : q ≡ length groups = omega (arith, le, ge) in rw (here, outer_at-pushed groups row) low
      ]
    ]
