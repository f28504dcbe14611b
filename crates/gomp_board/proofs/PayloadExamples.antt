-- The words that lie ready for the members of a single: each line of a definition by an example that it alone decides.
use Rattle.std.proofs.Common.{◌≡◌, ℕ, List, [], ◌∷◌, Option, Some, None, slice_set, replicate, refl, arith}
use Rattle.std.specs.Prelude.{map}
use Rattle.gomp_events.specs.declared.event.Event.{Event}
use Rattle.gomp_events.specs.declared.event.Event.TheVariants.{Put, Got, Waited}
use Rattle.gomp_board.specs.declared.payloads.Put.{Put as Kept}
use Rattle.gomp_board.specs.Payloads.{newest_put, words_of, words_at, PayloadsStand}
use Rattle.gomp_board.specs.KeptPayload.{kept_payload}
use Rattle.gomp_board.specs.Examples.{words}
use Rattle.gomp_board.proofs.PayloadsKeep.{no_words_stand, payloads_with}

abbrev kept_in : ℕ → List ℕ → Option Kept
kept_in share put = Some (record { share = share; words = put })

-- the first member puts words in share 3
abbrev third_put : List Event
third_put = Put 3 0 words ∷ []

-- The newest words

-- of no events none
pub newest_of_none : newest_put 3 [] ≡ None
newest_of_none = refl

-- those of share 3 at the rest 3 alone, those of share 11 too
pub newest_by_rest : (map (λ rest. newest_put rest third_put) (2 ∷ 3 ∷ 4 ∷ []) ≡ None ∷ kept_in 3 words ∷ None ∷ []) × (newest_put 3 (Put 11 1 [] ∷ []) ≡ kept_in 11 [])
newest_by_rest = (refl, refl)

-- newer ones of another share take their place, and newer ones of the same
pub newer_take_the_place : (newest_put 3 (Put 11 1 [] ∷ third_put) ≡ kept_in 11 []) × (newest_put 3 (Put 3 1 (9 ∷ []) ∷ third_put) ≡ kept_in 3 (9 ∷ []))
newer_take_the_place = (refl, refl)

-- others do not, nor words that are given to a member, nor another event
pub others_leave_the_place : map (λ event. newest_put 3 (event ∷ third_put)) (Put 4 1 [] ∷ Got 11 1 [] ∷ Waited 0 [] ∷ []) ≡ kept_in 3 words ∷ kept_in 3 words ∷ kept_in 3 words ∷ []
others_leave_the_place = refl

-- The words of a share

-- its own alone
pub words_by_share : (words_of 3 None ≡ None) × (map (λ share. words_of share (kept_in 3 words)) (3 ∷ 11 ∷ 2 ∷ []) ≡ Some words ∷ None ∷ None ∷ [])
words_by_share = (refl, refl)

pub words_by_place : (words_at 3 None ≡ None) × (words_at 3 (Some None) ≡ None) × (words_at 3 (Some (kept_in 3 words)) ≡ Some words) × (words_at 3 (Some (kept_in 11 words)) ≡ None)
words_by_place = (refl, refl, refl, refl)

-- those that were put in it, until words of another share take their place
pub words_kept_of_a_share : (kept_payload 3 third_put ≡ Some words) × (kept_payload 3 (Put 11 1 [] ∷ third_put) ≡ None) × (kept_payload 11 (Put 11 1 [] ∷ third_put) ≡ Some [])
words_kept_of_a_share = (refl, refl, refl)

-- The places

abbrev empty_places : ℕ → List (Option Kept)
empty_places count = replicate count None

-- eight that are empty, and one with the words
pub places_of_words : PayloadsStand (empty_places 8) [] × PayloadsStand (slice_set (empty_places 8) 3 (kept_in 3 words)) third_put
places_of_words = (no_words_stand (empty_places 8) refl, payloads_with (empty_places 8) 3 0 words [] (no_words_stand (empty_places 8) refl))

-- neither seven nor nine are enough
pub seven_places_are_few : PayloadsStand (empty_places 7) [] → ⊥
seven_places_are_few st = let size : 7 ≡ 8 = st.size in omega (arith, size)

pub nine_places_are_many : PayloadsStand (empty_places 9) [] → ⊥
nine_places_are_many st = let size : 9 ≡ 8 = st.size in omega (arith, size)

-- words that were put lie there
pub dropped_words_are_missed : PayloadsStand (empty_places 8) third_put → ⊥
dropped_words_are_missed st = let at : Some None ≡ Some (kept_in 3 words) = st.newest 3 (omega arith) in cc

-- at their place, and nowhere else
pub words_at_another_place : PayloadsStand (slice_set (empty_places 8) 4 (kept_in 3 words)) third_put → ⊥
words_at_another_place st = let at : Some None ≡ Some (kept_in 3 words) = st.newest 3 (omega arith) in cc

pub words_of_nobody : PayloadsStand (slice_set (empty_places 8) 3 (kept_in 3 words)) [] → ⊥
words_of_nobody st = let at : Some (kept_in 3 words) ≡ Some None = st.newest 3 (omega arith) in cc
