-- The seats of a new ring, one after another split from the first one.
use Rattle.std.proofs.Common.{◌≡◌, ℕ, zero, suc, ◌+◌, ◌<◌, ◌≤◌, List, [], ◌∷◌, ◌++◌, length, slice_get, Some, None, inl, inr, refl, ap, sym, ◌∙◌, subst, arith}
use Rattle.std.proofs.lemmas.List.{length-append}
use Rattle.std.proofs.lemmas.Option.{same_Some, none-some}
use Rattle.gomp_ring.specs.declared.ring.Ring.{Ring}
use Rattle.gomp_ring.specs.Rings.{ring_table}
use Rattle.gomp_ring.specs.RingSeats.{SeatView, AreAllSeats, SeatSplits, IsNewRing, fresh_view}
use Rattle.gomp_seats.specs.NewSeats.{AreNewSeats, IsSplit}

-- what holds of each and its place holds still when one more is put behind
each_pushed : (P : ℕ → SeatView → Type 0) (xs : List SeatView) (x : SeatView) → ((k : ℕ) (s : SeatView) → slice_get xs k ≡ Some s → P k s) → P (length xs) x → (k : ℕ) (s : SeatView) → slice_get (xs ++ x ∷ []) k ≡ Some s → P k s
each_pushed P [] x each last zero s at = subst (P 0) (same_Some x s at) last
each_pushed P [] x each last (suc k) s at = absurd (none-some s at)
each_pushed P (y ∷ xs) x each last zero s at = each zero s at
each_pushed P (y ∷ xs) x each last (suc k) s at = each_pushed (λ n. P (suc n)) xs x (λ n. each (suc n)) last k s at

-- no seat is split from the first one yet
pub none_split : (ring : Ring) (members : ℕ) (first : SeatView) → 1 ≤ members → IsNewRing members ring first → IsSplit ring members 1 first []
none_split ring members first some new = record {
  size = new.size;
  first_is = new.seat_is;
  within = some;
  others_are = refl;
  each = λ k seat at. absurd (none-some seat at);
}

-- one more is
pub one_more_split : (ring : Ring) (members count : ℕ) (before now seat : SeatView) (others : List SeatView) → IsSplit ring members count before others → SeatSplits before (Some seat) now → IsSplit ring members (count + 1) now (others ++ seat ∷ [])
one_more_split ring members count before now seat others split gives =
    let table = ap (λ (s : SeatView). s.table) split.first_is in
    let size = ap (λ (s : SeatView). s.members) split.first_is in
    let seated = ap (λ (s : SeatView). s.seated) split.first_is in
    record {
      size = split.size;
      first_is = gives.2 ∙ ap (λ (s : SeatView). record s { seated = s.seated + 1 }) split.first_is;
      within = let below = gives.0 in omega arith;
      others_are = let more : length (others ++ seat ∷ []) ≡ length others + 1 = length-append others (seat ∷ []) in let before_are = split.others_are in omega arith;
      each = each_pushed (λ k s. s ≡ fresh_view (ring_table ring) members (suc k) members) others seat split.each
          (gives.3 ∙ ap (λ (s : SeatView). fresh_view s.table s.members s.seated s.members) split.first_is
          ∙ ap (λ (n : ℕ). fresh_view (ring_table ring) members n members) (sym split.others_are));
    }

-- a seat that gives none has given all
pub all_split : (ring : Ring) (members count : ℕ) (before now : SeatView) (others : List SeatView) → IsSplit ring members count before others → SeatSplits before None now → count < members → ⊥
all_split ring members count before now others split gives below = elim gives.1 [
  | inl all ↦ (let seated = ap (λ (s : SeatView). s.seated) split.first_is in let size = ap (λ (s : SeatView). s.members) split.first_is in omega arith)
  | inr entered ↦ entered (ap (λ (s : SeatView). s.seen.entered) split.first_is)
]

-- then each is at its number
split_seats_are_new : (ring : Ring) (members count : ℕ) (first : SeatView) (others : List SeatView) → IsSplit ring members count first others → count ≡ members → (m : ℕ) (seat : SeatView) → slice_get (first ∷ others) m ≡ Some seat → seat ≡ fresh_view (ring_table ring) members m members
split_seats_are_new ring members count first others split all zero seat at = sym (same_Some first seat at) ∙ split.first_is ∙ ap (fresh_view (ring_table ring) members 0) all
split_seats_are_new ring members count first others split all (suc k) seat at = split.each k seat at

-- and the seats are those of all members
pub all_new_seats : (ring : Ring) (members count : ℕ) (first : SeatView) (others : List SeatView) → IsSplit ring members count first others → members ≤ count → AreNewSeats members ring (first ∷ others)
all_new_seats ring members count first others split all =
    let within = split.within in
    let others_are = split.others_are in
    record {
      size = split.size;
      count = let here : length (first ∷ others) ≡ suc (length others) = refl in omega arith;
      fresh = split_seats_are_new ring members count first others split (omega arith);
    }

-- those of a new ring are the seats of all members
pub new_seats_are_all : (members : ℕ) (ring : Ring) (seats : List SeatView) → AreNewSeats members ring seats → AreAllSeats ring seats
new_seats_are_all members ring seats new = record {
  count = new.count ∙ sym new.size;
  on = λ m seat at. record {
    table = ap (λ (s : SeatView). s.table) (new.fresh m seat at);
    members = new.size ∙ sym (ap (λ (s : SeatView). s.members) (new.fresh m seat at));
  };
  place = λ m seat at. ap (λ (s : SeatView). s.member) (new.fresh m seat at);
  seated = λ m seat at. ap (λ (s : SeatView). s.seated) (new.fresh m seat at) ∙ sym (ap (λ (s : SeatView). s.members) (new.fresh m seat at));
}
