-- Whether a member has passed the region's end, and whether the region was cancelled, read from the oldest event on.
use Rattle.std.proofs.Common.{ℕ, ◌≡◌, ◌&&◌, ◌||◌, Bool, true, false, List, [], ◌∷◌, refl, sym, ◌∙◌, reverse}
use mathlib.Core.List.{reverse_aux}
use Rattle.gomp_events.specs.declared.event.Event.{Event}
use Rattle.gomp_events.specs.declared.event.Event.TheVariants.{Arrive, Pass, Cancel}
use Rattle.gomp_events.specs.Cancels.{is_cancelled}
use Rattle.gomp_events.specs.Events.{at_region_end, has_left_region}
use Rattle.gomp_team_board.specs.Parts.{is_pass}
use Rattle.gomp_team_region.specs.Settled.{comes_to_end, cancels_region}

-- whether the member passes a barrier in these events, the oldest first, once it has come to the region's end, before them or by one of them
abbrev pub leaves_in : ℕ → Bool → List Event → Bool
leaves_in m came [] = false
leaves_in m came (event ∷ later) = (came && is_pass m event) || leaves_in m (came || comes_to_end m event) later

comes_by : (m : ℕ) (event : Event) (earlier : List Event) → at_region_end m (event ∷ earlier) ≡ comes_to_end m event || at_region_end m earlier
comes_by m (Arrive barrier member tag) earlier = refl
comes_by m event earlier = refl

leaves_by : (m : ℕ) (event : Event) (earlier : List Event) → has_left_region m (event ∷ earlier) ≡ (is_pass m event && at_region_end m earlier) || has_left_region m earlier
leaves_by m (Pass barrier member) earlier = refl
leaves_by m event earlier = refl

or_swapped : (a b : Bool) → a || b ≡ b || a
or_swapped true true = refl
or_swapped true false = refl
or_swapped false true = refl
or_swapped false false = refl

pass_looked_first : (passes came left later : Bool) → ((passes && came) || left) || later ≡ left || ((came && passes) || later)
pass_looked_first true true true later = refl
pass_looked_first true true false later = refl
pass_looked_first true false true later = refl
pass_looked_first true false false later = refl
pass_looked_first false true true later = refl
pass_looked_first false true false later = refl
pass_looked_first false false true later = refl
pass_looked_first false false false later = refl

scanned_onto : (m : ℕ) (events earlier : List Event) → has_left_region m (reverse_aux events earlier) ≡ has_left_region m earlier || leaves_in m (at_region_end m earlier) events
scanned_onto m [] earlier = or_swapped false (has_left_region m earlier)
scanned_onto m (event ∷ later) earlier =
    let next = scanned_onto m later (event ∷ earlier) in
    let came = comes_by m event earlier ∙ or_swapped (comes_to_end m event) (at_region_end m earlier) in
    next ∙ rw (leaves_by m event earlier, came) (pass_looked_first (is_pass m event) (at_region_end m earlier) (has_left_region m earlier) (leaves_in m (at_region_end m earlier || comes_to_end m event) later))

-- of a whole history
pub scanned_history : (m : ℕ) (history : List Event) → leaves_in m false history ≡ has_left_region m (reverse history)
scanned_history m history = sym (scanned_onto m history [])

-- whether one of these events, the oldest first, cancels the region
abbrev pub cancels_in : List Event → Bool
cancels_in [] = false
cancels_in (event ∷ later) = cancels_region event || cancels_in later

cancelled_by : (event : Event) (earlier : List Event) → is_cancelled (event ∷ earlier) ≡ cancels_region event || is_cancelled earlier
cancelled_by (Cancel member scope) earlier = refl
cancelled_by event earlier = refl

earlier_looked_first : (cancels before later : Bool) → (cancels || before) || later ≡ before || (cancels || later)
earlier_looked_first true true later = refl
earlier_looked_first true false later = refl
earlier_looked_first false true later = refl
earlier_looked_first false false later = refl

cancelled_onto : (events earlier : List Event) → is_cancelled (reverse_aux events earlier) ≡ is_cancelled earlier || cancels_in events
cancelled_onto [] earlier = or_swapped false (is_cancelled earlier)
cancelled_onto (event ∷ later) earlier =
    let next = cancelled_onto later (event ∷ earlier) in
    next ∙ rw (cancelled_by event earlier) (earlier_looked_first (cancels_region event) (is_cancelled earlier) (cancels_in later))

-- of a whole history
pub cancelled_history : (history : List Event) → cancels_in history ≡ is_cancelled (reverse history)
cancelled_history history = sym (cancelled_onto history [])
