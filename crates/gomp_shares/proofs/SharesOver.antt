-- Which shares of a team are over: none that a member is in or comes to next, and every one eight or more before one that was entered.
use Rattle.std.proofs.Common.{◌≡◌, ℕ, ◌+◌, ◌*◌, ◌<◌, ◌≤◌, true, false, List, [], ◌∷◌, Some, refl, arith, suc, zero, inl, inr}
use Rattle.std.specs.Prelude.{◌==◌, ◌&&◌, ◌-◌, nat_lt}
use Rattle.std.proofs.lemmas.Bool.Decides.{nat_tests}
use Rattle.std.proofs.lemmas.Bool.{cases_Bool}
use Rattle.gomp_types.specs.declared.shape.Shape.{Shape}
use Rattle.gomp_types.specs.declared.limits.TheConstants.{OPEN_SHARES}
use Rattle.gomp_events.specs.declared.event.Event.{Event}
use Rattle.gomp_events.specs.declared.event.Event.TheVariants.{Enter, End}
use Rattle.gomp_events.specs.Events.{shares_entered, open_share, shape_at, has_ended, is_over}
use Rattle.gomp_types.specs.Deals.{Queues}
use Rattle.gomp_events.specs.Laws.{Always}
use Rattle.gomp_shares.specs.Rules.{ShareRule}
use Rattle.gomp_types.proofs.Booleans.{which_branch, is_equal, or_tells, or_right, not_both, every_tells, every_by}
use Rattle.gomp_shares.proofs.SharesKeep.{member_is_inside, ended_shape, ended_below, not_ended}

-- a member that has not left the share keeps it open
stays_open : (members i m : ℕ) (h : List Event) → m < members → has_ended i m h ≡ false → is_over members i h ≡ false
stays_open members i m h lt stays =
    elim (cases_Bool (is_over members i h)) [
      | inl over ↦ absurd (not_both (has_ended i m h) (every_tells members (λ x. has_ended i x h) m over lt) stays)
      | inr open_ ↦ open_
    ]

pub inside_is_open : (queues : Queues) (members m i : ℕ) (shape : Shape) (h : List Event) → Always (ShareRule queues members) h → open_share m h ≡ Some (i, shape) →
    (shape_at i h ≡ Some shape) × (is_over members i h ≡ false)
inside_is_open queues members m i shape h all at =
    let known = member_is_inside queues members m i shape h all at in
    (known.0, stays_open members i m h known.1 (not_ended queues members m i shape h all at))

pub next_is_open : (queues : Queues) (members m : ℕ) (h : List Event) → Always (ShareRule queues members) h → m < members → is_over members (shares_entered m h) h ≡ false
next_is_open queues members m h all lt =
    elim (cases_Bool (has_ended (shares_entered m h) m h)) [
      | inl ended ↦ absurd (let below = (ended_below queues members m (shares_entered m h) h all ended).0 in omega arith)
      | inr stays ↦ stays_open members (shares_entered m h) m h lt stays
    ]

-- what is over stays so
ended_stays : (i m : ℕ) (event : Event) (h : List Event) → has_ended i m h ≡ true → has_ended i m (event ∷ h) ≡ true
ended_stays i m (End share member) h e = or_right (share == i && member == m) (has_ended i m h) e
ended_stays i m _ h e = e

pub over_stays : (members i : ℕ) (event : Event) (h : List Event) → is_over members i h ≡ true → is_over members i (event ∷ h) ≡ true
over_stays members i event h over = every_by members (λ m. has_ended i m (event ∷ h)) (λ m lt. ended_stays i m event h (every_tells members (λ x. has_ended i x h) m over lt))

-- a share that was entered had room
room_was : (queues : Queues) (members i : ℕ) (shape : Shape) (h : List Event) → Always (ShareRule queues members) h → shape_at i h ≡ Some shape → OPEN_SHARES ≤ i → is_over members (i - OPEN_SHARES) h ≡ true
room_was queues members i shape [] all at far = absurd (cc)
room_was queues members i shape (Enter share member other ∷ earlier) all at far =
    elim (which_branch (share == i) (Some other) (shape_at i earlier) (Some shape) at) [
      | inl e ↦
          let number = is_equal share i e.0 in
          elim (or_tells (nat_lt share OPEN_SHARES) (is_over members (share - OPEN_SHARES) earlier) all.0.room) [
            | inl low ↦ absurd (grind (arith, nat_tests))
            | inr over ↦ over_stays members (i - OPEN_SHARES) (Enter share member other) earlier (rw number at over)
          ]
      | inr e ↦ over_stays members (i - OPEN_SHARES) (Enter share member other) earlier (room_was queues members i shape earlier all.1 e.1 far)
    ]
room_was queues members i shape (event ∷ earlier) all at far = over_stays members (i - OPEN_SHARES) event earlier (room_was queues members i shape earlier all.1 at far)

-- and so had those before it
over_before : (queues : Queues) (members most i j : ℕ) (shape : Shape) (h : List Event) → Always (ShareRule queues members) h → shape_at i h ≡ Some shape → i ≤ most → OPEN_SHARES + j ≤ i → (k : ℕ) → i ≡ OPEN_SHARES * k + j → is_over members j h ≡ true
over_before queues zero most i j shape h all at few far k number = refl
over_before queues (suc others) zero i j shape h all at few far k number = absurd (omega arith)
over_before queues (suc others) (suc most) i j shape h all at few far zero number = absurd (omega arith)
over_before queues (suc others) (suc most) i j shape h all at few far (suc zero) number =
    let eight : i - OPEN_SHARES ≡ j = omega arith in
    rw eight at (room_was queues (suc others) i shape h all at (omega arith))
over_before queues (suc others) (suc most) i j shape h all at few far (suc (suc k)) number =
    let over = room_was queues (suc others) i shape h all at (omega arith) in
    let ended = every_tells (suc others) (λ x. has_ended (i - OPEN_SHARES) x h) 0 over (omega arith) in
    let found = ended_shape queues (suc others) 0 (i - OPEN_SHARES) h all ended in
    over_before queues (suc others) most (i - OPEN_SHARES) j found.0 h all found.1 (omega arith) (omega arith) (suc k) (omega arith)

pub eight_before : (queues : Queues) (members i j k : ℕ) (shape : Shape) (h : List Event) → Always (ShareRule queues members) h → shape_at i h ≡ Some shape → i ≡ OPEN_SHARES * suc k + j → is_over members j h ≡ true
eight_before queues members i j k shape h all at number = over_before queues members i i j shape h all at (omega arith) (omega arith) (suc k) number
