use Rattle.std.proofs.Common.{◌≡◌, ◌<◌, ◌∙◌, ℕ, Option, None, false, refl, sym, ap, arith, suc, zero}
use Rattle.gomp_types.specs.Singles.{single_shape}
use Rattle.std.proofs.lemmas.Option.{none-some}
use Rattle.gomp_types.specs.declared.shape.Shape.{Shape}
use Rattle.std.specs.Prelude.{slice_get}
use Rattle.gomp_chunks.specs.Plans.{PlanView, pieces}
use Rattle.gomp_ring.specs.RingSeats.{asks_by_ticket}
use Rattle.gomp_ring.proofs.SeatEntries.{seen_outside, seat_is_new, counts_are_new}
use Rattle.gomp_ring.proofs.SeatSingles.{never_below_none}
use Rattle.gomp_ring.proofs.ring_seat.fresh_seat.Goals as goal

abbrev plan_by : ℕ → Shape → PlanView
plan_by members shape = record { members = members; shape = shape }

-- a single has one piece
none_behind : (members number : ℕ) → 0 < number → slice_get (pieces (plan_by members (single_shape false))) number ≡ None
none_behind members zero low = absurd (omega (arith, low))
none_behind members (suc k) low = refl

pub invariant_of-result : goal.invariant_of-result
invariant_of-result c =
    let fresh = c.requires.fresh.1 in
    let none = c.outside.ensures in
    let lt : c.args.member < c.args.members = let above = fresh.acts.above in let within = fresh.acts.within in omega arith in (
      c.requires.fresh.0,
      seat_is_new _ _ _ _ _ lt fresh.few_members (seen_outside _ none) fresh.none fresh.idle,
      fresh.acts,
      counts_are_new _ _ _ _ _ (seen_outside _ none) fresh.none,
      λ number less. absurd (omega arith),
      λ share at. absurd (none-some share (sym none ∙ at)),
      λ some. absurd (omega arith),
      sym (ap (λ (o : Option (ℕ × Shape)). asks_by_ticket o false false) none),
      λ share at. absurd (none-some share (sym none ∙ at)),
      λ bare. absurd (cc),
      λ is. absurd (never_below_none 0 is),
      omega arith,
      c.passed_by_all.ensures.word,
      λ number past. ap (λ (p : PlanView). slice_get (pieces p) number) (c.new.ensures.plan ∙ c.of.ensures.plan ∙ ap (plan_by c.args.members) c.single_shape-planned.ensures.shape) ∙ none_behind c.args.members number (omega (arith, past)),
      c.new.ensures.plan ∙ c.of.ensures.plan,
    )
