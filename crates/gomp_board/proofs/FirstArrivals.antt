-- What the tests of an arrival tell of its member, and that the first arrival there is accepted.
use Rattle.std.proofs.Common.{◌≡◌, ℕ, Bool, true, false, List, refl, inl, inr}
use Rattle.std.specs.Prelude.{◌&&◌, not}
use Rattle.std.proofs.lemmas.Bool.{cases_Bool}
use Rattle.gomp_events.specs.declared.event.Tag.{Tag}
use Rattle.gomp_events.specs.declared.event.Event.{Event}
use Rattle.gomp_events.specs.Events.{at_barrier, at_region_end, has_left_region}
use Rattle.gomp_events.specs.Tasks.{in_task}
use Rattle.gomp_events.specs.Cancels.{is_cancelled}
use Rattle.gomp_types.proofs.Booleans.{not_both}
use Rattle.gomp_barrier.specs.Calls.{accepts_arrival}
use Rattle.gomp_events.proofs.EndsPassed.{left_came, end_waits}
use Rattle.gomp_board.specs.Boards.{ArrivesFirst}
use Rattle.gomp_board.specs.Ops.{awaits_barrier, goes_to_the_end}

-- what the tests of an arrival tell: in a region that is not cancelled the member waits at no barrier; it has not arrived at the region's end
pub arrives_first : (m : ℕ) (h : List Event) → has_left_region m h ≡ false → (awaits_barrier m h && not (goes_to_the_end m h)) ≡ false → in_task m h ≡ false → (is_cancelled h ≡ false → at_barrier m h ≡ false) × (at_region_end m h ≡ false)
arrives_first m h stays idle outside =
    let tells = by (at_barrier m h) (is_cancelled h) (at_region_end m h) (rw outside at idle) in (
      tells.0,
      elim (cases_Bool (at_region_end m h)) [
        | inl came ↦ absurd (not_both (at_region_end m h) came (tells.1 (end_waits m h stays came)))
        | inr never ↦ never
      ],
    )
  where
    by : (a b c : Bool) → ((a && true) && not (b && not c)) ≡ false → (b ≡ false → a ≡ false) × (a ≡ true → c ≡ false)
    by true true true e = absurd (cc)
    by true true false e = (λ whole. absurd (cc), λ waits. refl)
    by true false c e = absurd (cc)
    by false b c e = (λ whole. refl, λ waits. absurd (cc))

-- an arrival that comes first is accepted
pub first_is_accepted : (m : ℕ) (tag : Tag) (h : List Event) → ArrivesFirst m tag h → accepts_arrival m tag h ≡ true
first_is_accepted m tag h first = elim (cases_Bool (is_cancelled h)) [
  | inl cancelled ↦
      let stays : has_left_region m h ≡ false = elim (cases_Bool (has_left_region m h)) [
        | inl left ↦ absurd (not_both (at_region_end m h) (left_came m h left) first.before)
        | inr not_left ↦ not_left
      ] in
      rw (cancelled, first.ends cancelled, stays) refl
  | inr whole ↦ let alike = first.alike whole in rw (whole, alike) refl
]
