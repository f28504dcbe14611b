-- What a report never says of the work-shares of its team, of any members, numbers and histories.
use Rattle.std.proofs.Common.{ℕ, ◌≡◌, ◌≢◌, true, false, List, [], ◌∷◌, map, reverse, refl}
use Rattle.gomp_events.specs.declared.event.Event.{Event}
use Rattle.gomp_events.specs.declared.event.Event.TheVariants.{Arrive, Pass}
use Rattle.gomp_events.specs.declared.event.Arrival.{Arrival}
use Rattle.gomp_events.specs.Cancels.{is_cancelled}
use Rattle.gomp_events.specs.Tags.{tag_with}
use Rattle.gomp_ring.specs.Gathers.{loop_iterations}
use Rattle.gomp_team.specs.Members.{MemberView}
use Rattle.gomp_team_region.specs.Regions.{seats_of}
use Rattle.gomp_team_region.specs.Settled.{all_arrive_within}
use Rattle.gomp_fork.specs.Reports.{HaveTaken}

-- other numbers of iterations than the members' seats know
pub no_iterations_but_those_of_the_seats : {T : Type 0} (members : List (MemberView T)) (taken : List ℕ) (history : List Event) → HaveTaken members taken history
    → taken ≢ map (λ seat. loop_iterations seat.member seat.did) (seats_of members) → ⊥
no_iterations_but_those_of_the_seats members taken history took other = other took.gathered.taken_is

-- in a region that nobody cancelled, an arrival after more shares than all members have left
pub no_arrival_past_what_all_left : {T : Type 0} (members : List (MemberView T)) (taken : List ℕ) (history : List Event) (took : HaveTaken members taken history)
    → is_cancelled (reverse history) ≡ false → all_arrive_within took.shares history ≡ false → ⊥
no_arrival_past_what_all_left members taken history took stays past = let within = took.left stays in absurd (cc)

-- Histories that are handed out: with no arrival, and with arrivals after as many shares as all have left, and after fewer
no_arrival_is_within : (shares : ℕ) → all_arrive_within shares [] ≡ true
no_arrival_is_within shares = refl

pass_is_within : (shares barrier member : ℕ) → all_arrive_within shares (Pass barrier member ∷ []) ≡ true
pass_is_within shares barrier member = refl

arrivals_are_within : (barrier : ℕ) (kind : Arrival) → all_arrive_within 2 (Arrive barrier 0 (tag_with kind 2) ∷ Arrive barrier 1 (tag_with kind 1) ∷ Arrive barrier 2 (tag_with kind 0) ∷ []) ≡ true
arrivals_are_within barrier kind = refl

-- and one that is not
arrival_is_past : (barrier : ℕ) (kind : Arrival) → all_arrive_within 2 (Arrive barrier 0 (tag_with kind 2) ∷ Arrive barrier 1 (tag_with kind 3) ∷ []) ≡ false
arrival_is_past barrier kind = refl
