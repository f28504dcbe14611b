-- A new table keeps the rule: nothing has happened, and its one seat acts for all members.
use Rattle.std.proofs.Common.{◌≡◌, ℕ, zero, suc, ◌<◌, ◌≤◌, [], ◌∷◌, set, slice_index, None, refl, ap, sym, ◌∙◌, subst, arith}
use Rattle.std.specs.Prelude.{replicate}
use Rattle.std.proofs.lemmas.List.{get_or-set_other}
use Rattle.std.proofs.lemmas.Option.{none-some}
use mathlib.Core.Option.{some, some-injective, some-ne-none}
use lib.ListN.{get_elem?}
use Rattle.atomic_table.specs.Table.{opening}
use Rattle.gomp_slots.specs.declared.view.TeamSize.{TeamSize}
use Rattle.gomp_slots.specs.declared.view.View.{View}
use Rattle.gomp_slots.specs.Words.{gate_at}
use Rattle.gomp_slots.specs.Rule.{Knows, IsKept, first_view}

only_first : (size : TeamSize) (id : ℕ) (v : View) → get_elem? (first_view size ∷ []) id ≡ some v → (id ≡ 0) × (first_view size ≡ v)
only_first size zero v e = (refl, some-injective (first_view size) v e)
only_first size (suc id) v e = absurd (some-ne-none v (sym e))

zero_at : (n k : ℕ) → slice_index (replicate n 0) k ≡ 0
zero_at zero k = refl
zero_at (suc n) zero = refl
zero_at (suc n) (suc k) = zero_at n k

-- each gate is empty
empty_gate : (n i : ℕ) → slice_index (set (replicate 49 0) 0 n) (gate_at i) ≡ 0
empty_gate n i = get_or-set_other (replicate 49 0) 0 (gate_at i) n 0 (λ e. omega arith) ∙ zero_at 49 (gate_at i)

pub new_is_kept : (size : TeamSize) → 0 < size.members → size.members ≤ 64 → IsKept size (opening (set (replicate 49 0) 0 size.members) [] (first_view size))
new_is_kept size any few = record {
  events = [];
  busy = None;
  ring = record {
    team = record { some_member = any; few_members = few; rule = tt; once = tt; clean = refl; shapes = λ i s e. absurd (none-some s e) };
    table = record {
      long = refl;
      size = refl;
      gates = λ i s now. absurd (none-some s now.shape_is);
      shape_words = λ i s now. absurd (none-some s now.shape_is);
      turns = λ i s now. absurd (none-some s now.shape_is);
      taken = λ b e. absurd (none-some b e);
      stored = λ b e. absurd (none-some b e);
      empty = λ i low none idle. empty_gate size.members i;
    };
    opening = record { fresh = λ b e. absurd (none-some b e); room = λ b e. absurd (none-some b e); few = λ b e. absurd (none-some b e); reached = λ b e. absurd (none-some b e) };
    seats = record {
      knows = λ id v at. subst (λ (x : View). Knows x []) (only_first size id v at).1 (record { own = λ m is. refl; all = λ is. refl });
      apart = λ a b m v w at_a at_b is_a is_b. (only_first size a v at_a).0 ∙ sym (only_first size b w at_b).0;
      lonely = λ a b v w at_a at_b is. (only_first size a v at_a).0 ∙ sym (only_first size b w at_b).0;
      opener = λ id v s at o. absurd (none-some s (ap (λ (x : View). x.opening) (only_first size id v at).1 ∙ o));
      opens = λ b e. absurd (none-some b e);
      found = λ id v s at o. absurd (none-some s (ap (λ (x : View). x.found) (only_first size id v at).1 ∙ o));
    };
  };
}
