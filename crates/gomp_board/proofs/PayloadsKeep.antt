-- The places of words after each event: that of newly put words has them, the others stay.
use Rattle.std.proofs.Common.{◌≡◌, ◌≢◌, ℕ, true, ◌%◌, ◌<◌, List, [], ◌∷◌, Option, Some, None, length, slice_get, slice_set, replicate, refl, ap, ◌∙◌, sym, arith, suc, zero, inl, inr}
use Rattle.std.specs.Prelude.{◌==◌}
use Rattle.std.proofs.lemmas.Bool.{cases_Bool}
use Rattle.std.proofs.lemmas.List.{length-set}
use Rattle.gomp_types.specs.declared.limits.TheConstants.{OPEN_SHARES}
use Rattle.gomp_events.specs.declared.event.Event.{Event}
use Rattle.gomp_events.specs.declared.event.Event.TheVariants.{Put}
use Rattle.gomp_events.specs.Events.{payload_at}
use Rattle.gomp_types.proofs.Booleans.{is_equal, unequal_numbers, same_number}
use Rattle.gomp_types.proofs.Lists.{slice_get-set_same, slice_get-set_other}
use Rattle.gomp_board.specs.declared.payloads.Put.{Put as Kept}
use Rattle.gomp_board.specs.Payloads.{newest_put, words_of, words_at, PayloadsStand}

-- No words

empty_place : (count rest : ℕ) → rest < count → slice_get (replicate {A = Option Kept} count None) rest ≡ Some None
empty_place zero rest low = absurd (omega (arith, low))
empty_place (suc count) zero low = refl
empty_place (suc count) (suc rest) low = empty_place count rest (omega (arith, low))

pub no_words_stand : (places : List (Option Kept)) → places ≡ replicate OPEN_SHARES None → PayloadsStand places []
no_words_stand places is = rw is (record { size = refl; newest = λ rest low. empty_place OPEN_SHARES rest low })

-- An event that puts none

abbrev pub IsNoPut : Event → Type 0
IsNoPut (Put share m words) = ⊥
IsNoPut _ = Unit {0}

newest_stays : (rest : ℕ) (event : Event) (h : List Event) → IsNoPut event → newest_put rest h ≡ newest_put rest (event ∷ h)
newest_stays rest (Put share m words) h is = absurd is
newest_stays rest _ h is = refl

pub payloads_stay : (places : List (Option Kept)) (event : Event) (h : List Event) → IsNoPut event → PayloadsStand places h → PayloadsStand places (event ∷ h)
payloads_stay places event h is st = record { size = st.size; newest = λ rest low. st.newest rest low ∙ ap (λ put. Some put) (newest_stays rest event h is) }

-- Words that are put

pub payloads_with : (places : List (Option Kept)) (share m : ℕ) (words : List ℕ) (h : List Event) → PayloadsStand places h → PayloadsStand (slice_set places (share % OPEN_SHARES) (Some (record { share = share; words = words }))) (Put share m words ∷ h)
payloads_with places share m words h st = record {
  size = length-set places (share % OPEN_SHARES) _ ∙ st.size;
  newest = λ rest low. elim (cases_Bool (share % OPEN_SHARES == rest)) [
    | inl one ↦
        let same : share % OPEN_SHARES ≡ rest = is_equal (share % OPEN_SHARES) rest one in
        let within : share % OPEN_SHARES < length places = rw st.size (omega arith) in
        rw (← same, slice_get-set_same places (share % OPEN_SHARES) _ within) (rw (same_number (share % OPEN_SHARES)) refl)
    | inr two ↦
        let away : rest ≢ share % OPEN_SHARES = λ same. unequal_numbers (share % OPEN_SHARES) rest two (sym same) in
        rw (slice_get-set_other places (share % OPEN_SHARES) rest _ away, two) (st.newest rest low)
  ];
}

-- What a place tells

-- its words are the newest of all shares with its rest
pub words_at_place : (places : List (Option Kept)) (share : ℕ) (h : List Event) → PayloadsStand places h → words_at share (slice_get places (share % OPEN_SHARES)) ≡ words_of share (newest_put (share % OPEN_SHARES) h)
words_at_place places share h st = ap (words_at share) (st.newest (share % OPEN_SHARES) (omega arith))

-- so they are the words of share i, if they were put in it
pub newest_words_are_of_share : (i : ℕ) (words : List ℕ) (h : List Event) → words_of i (newest_put (i % OPEN_SHARES) h) ≡ Some words → payload_at i h ≡ Some words
newest_words_are_of_share i words [] e = absurd (cc)
newest_words_are_of_share i words (Put share m put ∷ earlier) e =
    elim (cases_Bool (share == i)) [
      | inl one ↦
          let same : share ≡ i = is_equal share i one in
          let its : share % OPEN_SHARES == i % OPEN_SHARES ≡ true = rw same (same_number (i % OPEN_SHARES)) in
          let found : Some put ≡ Some words = rw (its, one) at e in
          rw one found
      | inr two ↦
          elim (cases_Bool (share % OPEN_SHARES == i % OPEN_SHARES)) [
            | inl near ↦ absurd (let found : None ≡ Some words = rw (near, two) at e in cc)
            | inr far ↦ rw two (newest_words_are_of_share i words earlier (rw far at e))
          ]
    ]
newest_words_are_of_share i words (_ ∷ earlier) e = newest_words_are_of_share i words earlier e

-- and all of them, unless words were put later in another share with its rest
pub words_of_share_are_newest : (i : ℕ) (h : List Event) → ((j : ℕ) (words : List ℕ) → newest_put (i % OPEN_SHARES) h ≡ Some (record { share = j; words = words }) → j ≢ i → payload_at i h ≡ None) →
    words_of i (newest_put (i % OPEN_SHARES) h) ≡ payload_at i h
words_of_share_are_newest i [] never = refl
words_of_share_are_newest i (Put share m put ∷ earlier) never =
    elim (cases_Bool (share == i)) [
      | inl one ↦
          let same : share ≡ i = is_equal share i one in
          let its : share % OPEN_SHARES == i % OPEN_SHARES ≡ true = rw same (same_number (i % OPEN_SHARES)) in
          rw (its, one) refl
      | inr two ↦
          let differ : share ≢ i = unequal_numbers share i two in
          elim (cases_Bool (share % OPEN_SHARES == i % OPEN_SHARES)) [
            | inl near ↦
                let none : payload_at i earlier ≡ None = rw two at (never share put (rw near refl) differ) in
                rw (near, two) (sym none)
            | inr far ↦ rw (far, two) (words_of_share_are_newest i earlier (λ j words is other. rw two at (never j words (rw far is) other)))
          ]
    ]
words_of_share_are_newest i (_ ∷ earlier) never = words_of_share_are_newest i earlier never
