-- A walk along a chain of groups that looks for a mark, and which group of a chain was opened last.
use Rattle.std.proofs.Common.{◌≡◌, ℕ, ◌<◌, ◌≤◌, Bool, true, false, List, [], ◌∷◌, Option, Some, None, IfSome, length, get_or, refl, ap, ◌∙◌, arith, inl, inr}
use Rattle.std.specs.Prelude.{◌==◌}
use Rattle.gomp_events.specs.Tasks.{contains}
use Rattle.gomp_types.proofs.Booleans.{or_tells, same_number, is_equal}
use Rattle.gomp_groups.specs.declared.rows.GroupRow.{GroupRow}
use Rattle.gomp_groups.specs.Rows.{outer_at, IsChain, IsNested, some_marked}
use Rattle.gomp_groups.specs.Calls.{IsLastOf}
use Rattle.gomp_groups.proofs.Chains.{chain_unique, chain_below}

-- what the walk keeps: of the groups of the chain, those before here have no mark
pub record NoneYet (groups : List GroupRow) (marks : List Bool) (first next : Option ℕ) : Type 0 where
  pub left : List ℕ
  pub left_is : IsChain groups next left
  pub rest : (qs : List ℕ) → IsChain groups first qs → some_marked marks qs ≡ some_marked marks left

pub none_looked_at : (groups : List GroupRow) (marks : List Bool) (first : Option ℕ) → (qs : List ℕ) × IsChain groups first qs → NoneYet groups marks first first
none_looked_at groups marks first (qs, chain) = record { left = qs; left_is = chain; rest = λ rs other. ap (some_marked marks) (chain_unique groups first rs qs other chain) }

-- the walk at a group
pub record NextLooked (groups : List GroupRow) (marks : List Bool) (first : Option ℕ) (q : ℕ) : Type 0 where
  pub within : q < length groups
  pub found : get_or marks q false ≡ true → (qs : List ℕ) → IsChain groups first qs → some_marked marks qs ≡ true
  pub further : get_or marks q false ≡ false → NoneYet groups marks first (outer_at groups q)

pub looks_at_next : (groups : List GroupRow) (marks : List Bool) (first : Option ℕ) (q : ℕ) → NoneYet groups marks first (Some q) → NextLooked groups marks first q
looks_at_next groups marks first q is = by is.left is.left_is is.rest
  where
    by : (left : List ℕ) → IsChain groups (Some q) left → ((qs : List ℕ) → IsChain groups first qs → some_marked marks qs ≡ some_marked marks left) → NextLooked groups marks first q
    by [] chain rest = absurd (cc)
    by (x ∷ left) chain rest =
        let same : x ≡ q = (let e = chain.0 in cc) in
        record {
          within = rw (← same) chain.1;
          found = λ mark qs all. rest qs all ∙ rw (same, mark) refl;
          further = λ none. record { left = left; left_is = rw (← same) chain.2; rest = λ qs all. rest qs all ∙ rw (same, none) refl };
        }

-- the walk was at its end
pub none_found : (groups : List GroupRow) (marks : List Bool) (first : Option ℕ) (qs : List ℕ) → NoneYet groups marks first None → IsChain groups first qs → some_marked marks qs ≡ false
none_found groups marks first qs is chain = is.rest qs chain ∙ ended is.left is.left_is
  where
    ended : (left : List ℕ) → IsChain groups None left → some_marked marks left ≡ false
    ended [] end = refl
    ended (x ∷ left) end = absurd (let e : ◌≡◌ {A = Option ℕ} None (Some x) = end.0 in cc)

-- the group in which a chain begins was opened after the others
pub begins_with_last : (groups : List GroupRow) (first : Option ℕ) (qs : List ℕ) → IsNested groups → IsChain groups first qs → IfSome first (IsLastOf qs)
begins_with_last groups first [] nested chain = rw chain tt
begins_with_last groups first (q ∷ qs) nested chain = rw chain.0 (rw (same_number q) refl, later)
  where
    later : (x : ℕ) → contains x (q ∷ qs) ≡ true → x ≤ q
    later x there =
        elim (or_tells (q == x) (contains x qs) there) [
          | inl here ↦ let same = is_equal q x here in omega (arith, same)
          | inr further ↦ let less = chain_below groups (outer_at groups q) qs q x nested (nested q) chain.2 further in omega (arith, less)
        ]
