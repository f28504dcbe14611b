-- What the laws of ordered parts forbid, of any team, member, loop, iteration, piece and list of events.
use Rattle.std.proofs.Common.{◌≡◌, ℕ, ◌+◌, ◌<◌, ◌≤◌, Bool, true, false, List, [], ◌∷◌, ◌++◌, Option, Some, None, slice_get, refl, ap, sym, ◌∙◌, arith, inl, inr}
use Rattle.std.specs.Prelude.{if◌then◌else◌, ◌==◌}
use Rattle.std.proofs.lemmas.List.{append-nil}
use Rattle.gomp_types.specs.declared.shape.Shape.{Shape}
use Rattle.gomp_events.specs.declared.event.Event.{Event}
use Rattle.gomp_events.specs.declared.event.Event.TheVariants.{Enter, Take, End, HandOn, Part, PartEnd}
use Rattle.gomp_events.specs.Events.{last_piece, turn, open_part}
use Rattle.gomp_events.specs.Laws.{Always, Happened}
use Rattle.gomp_types.specs.Pieces.{pieces_of}
use Rattle.gomp_types.proofs.Booleans.{is_equal, same_number}
use Rattle.gomp_shares.specs.Laws.{PartsRise, PartsInTurn, HandsOnInTurn, PartsApart, OrderedLaws}
use Rattle.gomp_shares.proofs.OrderedKeep.{pair_is, turn_grows}

-- By what happened

order_there : (Law : Event → List Event → Type 0) (event : Event) (later h : List Event) → Always Law (later ++ event ∷ h) → Law event h
order_there Law event [] h all = all.0
order_there Law event (first ∷ later) h all = order_there Law event later h all.1

order_before : (Law : Event → List Event → Type 0) (later h : List Event) → Always Law (later ++ h) → Always Law h
order_before Law [] h all = all
order_before Law (first ∷ later) h all = order_before Law later h all.1

-- a part that nobody ended, and behind which none began, is open
begun_stays_open : (share m iteration : ℕ) (between h : List Event) → ((n : ℕ) → Happened (PartEnd share n) between → ⊥) → ((n other : ℕ) → Happened (Part share n other) between → ⊥) →
    open_part share (between ++ Part share m iteration ∷ h) ≡ Some m
begun_stays_open share m iteration [] h unended alone = rw (same_number share) refl
begun_stays_open share m iteration (event ∷ between) h unended alone =
    step event (begun_stays_open share m iteration between h (λ n ended. unended n (inr ended)) (λ n other began. alone n other (inr began))) (λ n is. unended n (inl is)) (λ n other is. alone n other (inl is))
  where
    step : (event : Event) → open_part share (between ++ Part share m iteration ∷ h) ≡ Some m → ((n : ℕ) → event ≡ PartEnd share n → ⊥) → ((n other : ℕ) → event ≡ Part share n other → ⊥) →
        open_part share (event ∷ between ++ Part share m iteration ∷ h) ≡ Some m
    step (Part i n other) stays unended alone = by_share (i == share) refl
      where
        by_share : (b : Bool) → (i == share) ≡ b → open_part share (Part i n other ∷ between ++ Part share m iteration ∷ h) ≡ Some m
        by_share true e = absurd (alone n other (ap (λ (j : ℕ). Part j n other) (is_equal i share e)))
        by_share false e = rw e stays
    step (PartEnd i n) stays unended alone = by_share (i == share) refl
      where
        by_share : (b : Bool) → (i == share) ≡ b → open_part share (PartEnd i n ∷ between ++ Part share m iteration ∷ h) ≡ Some m
        by_share true e = absurd (unended n (ap (λ (j : ℕ). PartEnd j n) (is_equal i share e)))
        by_share false e = rw e stays
    step _ stays unended alone = stays

-- if no part of a share is open, and none begins, none is open
unopened_until_begun : (share : ℕ) (between h : List Event) → ((n iteration : ℕ) → Happened (Part share n iteration) between → ⊥) → open_part share h ≡ None → open_part share (between ++ h) ≡ None
unopened_until_begun share [] h never closed = closed
unopened_until_begun share (event ∷ between) h never closed = step event (unopened_until_begun share between h (λ n iteration began. never n iteration (inr began)) closed) (λ n iteration is. never n iteration (inl is))
  where
    stays_closed : (b : Bool) (own : Option ℕ) → own ≡ None → (if b then None else own) ≡ None
    stays_closed true own none = refl
    stays_closed false own none = none

    step : (event : Event) → open_part share (between ++ h) ≡ None → ((n iteration : ℕ) → event ≡ Part share n iteration → ⊥) → open_part share (event ∷ between ++ h) ≡ None
    step (Part i n iteration) none apart = by_share (i == share) refl
      where
        by_share : (b : Bool) → (i == share) ≡ b → open_part share (Part i n iteration ∷ between ++ h) ≡ None
        by_share true e = absurd (apart n iteration (ap (λ (j : ℕ). Part j n iteration) (is_equal i share e)))
        by_share false e = rw e none
    step (PartEnd i n) none apart = stays_closed (i == share) (open_part share (between ++ h)) none
    step _ none apart = none

-- of a share whose parts nobody began none is open
unbegun_not_open : (share : ℕ) (h : List Event) → ((n iteration : ℕ) → Happened (Part share n iteration) h → ⊥) → open_part share h ≡ None
unbegun_not_open share h never = ap (open_part share) (sym (append-nil h)) ∙ unopened_until_begun share h [] never refl

-- of a share whose pieces nobody handed on the first piece has the turn
none_handed : (share : ℕ) (h : List Event) → ((n piece : ℕ) → Happened (HandOn share n piece) h → ⊥) → turn share h ≡ 0
none_handed share [] never = refl
none_handed share (event ∷ h) never = step event (none_handed share h (λ n piece handed. never n piece (inr handed))) (λ n piece is. never n piece (inl is))
  where
    step : (event : Event) → turn share h ≡ 0 → ((n piece : ℕ) → event ≡ HandOn share n piece → ⊥) → turn share (event ∷ h) ≡ 0
    step (HandOn i n piece) none apart = by_share (i == share) refl
      where
        by_share : (b : Bool) → (i == share) ≡ b → turn share (HandOn i n piece ∷ h) ≡ 0
        by_share true e = absurd (apart n piece (ap (λ (j : ℕ). HandOn j n piece) (is_equal i share e)))
        by_share false e = rw e none
    step _ none apart = none

handed_below : (members share n piece : ℕ) (h : List Event) → Always (HandsOnInTurn members) h → Happened (HandOn share n piece) h → piece < turn share h
handed_below members share n piece [] all handed = absurd handed
handed_below members share n piece (HandOn i k other ∷ h) all (inl e) =
    let is : i ≡ share = cc in
    let which : other ≡ piece = cc in
    let (shape, low, high, ordered, entered, stays, last, number, own) = all.0 in
    let here : piece ≡ turn share h = sym which ∙ number ∙ ap (λ (j : ℕ). turn j h) is in
    rw (is, same_number share) (omega (arith, here))
handed_below members share n piece (_ ∷ h) all (inl e) = absurd (cc)
handed_below members share n piece (event ∷ h) all (inr handed) =
    let below = handed_below members share n piece h all.1 handed in
    let more = turn_grows share event h in omega (arith, below, more)

-- Parts rise

-- no part begins behind one of the same or of a later iteration
pub never_part_backwards : (members share m n iteration other : ℕ) (later h : List Event) → Happened (Part share n other) h → iteration ≤ other → OrderedLaws members (later ++ Part share m iteration ∷ h) → ⊥
never_part_backwards members share m n iteration other later h began backwards law =
    let rise = order_there PartsRise (Part share m iteration) later h law.rise n other began in omega (arith, rise, backwards)

-- Parts in turn

-- none begins in a share that is no ordered loop, or that its member has not entered
pub never_part_of_an_unordered_share : (members share m iteration : ℕ) (later h : List Event) → ((shape : Shape) → Happened (Enter share m shape) h → shape.ordered ≡ false) → OrderedLaws members (later ++ Part share m iteration ∷ h) → ⊥
never_part_of_an_unordered_share members share m iteration later h unordered law =
    let (shape, low, high, ordered, entered, taken, stays, last, from, before, own) = order_there (PartsInTurn members) (Part share m iteration) later h law.in_turn in
    let none = unordered shape entered in absurd (cc)

-- nor one whose iteration its member did not take
pub never_part_of_an_untaken_iteration : (members share m iteration : ℕ) (later h : List Event) → ((low high : ℕ) → Happened (Take share m low high) h → low ≤ iteration → iteration < high → ⊥) → OrderedLaws members (later ++ Part share m iteration ∷ h) → ⊥
never_part_of_an_untaken_iteration members share m iteration later h untaken law =
    let (shape, low, high, ordered, entered, taken, stays, last, from, before, own) = order_there (PartsInTurn members) (Part share m iteration) later h law.in_turn in untaken low high taken from before

-- nor one of a member that has left the loop
pub never_part_after_the_end : (members share m iteration : ℕ) (later h : List Event) → Happened (End share m) h → OrderedLaws members (later ++ Part share m iteration ∷ h) → ⊥
never_part_after_the_end members share m iteration later h left law =
    let (shape, low, high, ordered, entered, taken, stays, last, from, before, own) = order_there (PartsInTurn members) (Part share m iteration) later h law.in_turn in stays left

-- nor one outside of the piece that its member took last
pub never_part_outside_the_last_piece : (members share m iteration : ℕ) (later h : List Event) → ((low high : ℕ) → last_piece m h ≡ Some (low, high) → low ≤ iteration → iteration < high → ⊥) → OrderedLaws members (later ++ Part share m iteration ∷ h) → ⊥
never_part_outside_the_last_piece members share m iteration later h outside law =
    let (shape, low, high, ordered, entered, taken, stays, last, from, before, own) = order_there (PartsInTurn members) (Part share m iteration) later h law.in_turn in outside low high last from before

pub never_part_outside_the_newest_piece : (members share other m low high iteration : ℕ) (later h : List Event) → (low ≤ iteration → iteration < high → ⊥) → OrderedLaws members (later ++ Part share m iteration ∷ Take other m low high ∷ h) → ⊥
never_part_outside_the_newest_piece members share other m low high iteration later h outside law = never_part_outside_the_last_piece members share m iteration later (Take other m low high ∷ h) newest law
  where
    newest : (from to : ℕ) → last_piece m (Take other m low high ∷ h) ≡ Some (from, to) → from ≤ iteration → iteration < to → ⊥
    newest from to last above below =
        let same = pair_is low high from to (rw (same_number m) at last) in
        let first = same.0 in
        let past = same.1 in outside (omega (arith, first, above)) (omega (arith, past, below))

-- nor one before every earlier piece was handed on
pub never_part_before_its_turn : (members share m iteration : ℕ) (later h : List Event) →
    ((shape : Shape) (low high : ℕ) → Happened (Enter share m shape) h → slice_get (pieces_of members shape) (turn share h) ≡ Some (low, high) → low ≤ iteration → iteration < high → ⊥) → OrderedLaws members (later ++ Part share m iteration ∷ h) → ⊥
never_part_before_its_turn members share m iteration later h ahead law =
    let (shape, low, high, ordered, entered, taken, stays, last, from, before, own) = order_there (PartsInTurn members) (Part share m iteration) later h law.in_turn in ahead shape low high entered own from before

-- so none but in a piece of an ordered loop that its member took, and took last, and whose turn it is
pub never_part_but_in_the_piece_of_the_turn : (members share m iteration : ℕ) (later h : List Event) →
    ((shape : Shape) (low high : ℕ) → shape.ordered ≡ true → Happened (Enter share m shape) h → Happened (Take share m low high) h → last_piece m h ≡ Some (low, high) →
    slice_get (pieces_of members shape) (turn share h) ≡ Some (low, high) → low ≤ iteration → iteration < high → ⊥) → OrderedLaws members (later ++ Part share m iteration ∷ h) → ⊥
never_part_but_in_the_piece_of_the_turn members share m iteration later h apart law =
    let (shape, low, high, ordered, entered, taken, stays, last, from, before, own) = order_there (PartsInTurn members) (Part share m iteration) later h law.in_turn in
    apart shape low high ordered entered taken last own from before

-- so none but one of the first piece before any piece was handed on
pub never_part_ahead_of_the_first_piece : (members share m iteration : ℕ) (later h : List Event) → ((n piece : ℕ) → Happened (HandOn share n piece) h → ⊥) →
    ((shape : Shape) (low high : ℕ) → Happened (Enter share m shape) h → slice_get (pieces_of members shape) 0 ≡ Some (low, high) → low ≤ iteration → iteration < high → ⊥) → OrderedLaws members (later ++ Part share m iteration ∷ h) → ⊥
never_part_ahead_of_the_first_piece members share m iteration later h never ahead law =
    never_part_before_its_turn members share m iteration later h (λ shape low high entered own from before. ahead shape low high entered (let none = none_handed share h never in rw none at own) from before) law

-- Pieces handed on

-- no piece is handed on of a share that is no ordered loop, or that its member has not entered
pub never_handed_on_in_an_unordered_share : (members share m piece : ℕ) (later h : List Event) → ((shape : Shape) → Happened (Enter share m shape) h → shape.ordered ≡ false) → OrderedLaws members (later ++ HandOn share m piece ∷ h) → ⊥
never_handed_on_in_an_unordered_share members share m piece later h unordered law =
    let (shape, low, high, ordered, entered, stays, last, number, own) = order_there (HandsOnInTurn members) (HandOn share m piece) later h law.handed_on in
    let none = unordered shape entered in absurd (cc)

-- nor by a member that has left the loop
pub never_handed_on_after_the_end : (members share m piece : ℕ) (later h : List Event) → Happened (End share m) h → OrderedLaws members (later ++ HandOn share m piece ∷ h) → ⊥
never_handed_on_after_the_end members share m piece later h left law =
    let (shape, low, high, ordered, entered, stays, last, number, own) = order_there (HandsOnInTurn members) (HandOn share m piece) later h law.handed_on in stays left

-- nor one that its member did not take last
pub never_handed_on_but_the_last_piece : (members share m piece : ℕ) (later h : List Event) →
    ((shape : Shape) (low high : ℕ) → Happened (Enter share m shape) h → last_piece m h ≡ Some (low, high) → slice_get (pieces_of members shape) piece ≡ Some (low, high) → ⊥) → OrderedLaws members (later ++ HandOn share m piece ∷ h) → ⊥
never_handed_on_but_the_last_piece members share m piece later h apart law =
    let (shape, low, high, ordered, entered, stays, last, number, own) = order_there (HandsOnInTurn members) (HandOn share m piece) later h law.handed_on in apart shape low high entered last own

-- so none but a piece of an ordered loop that its member took last, and whose turn it is
pub never_handed_on_but_the_piece_of_the_turn : (members share m piece : ℕ) (later h : List Event) →
    ((shape : Shape) (low high : ℕ) → shape.ordered ≡ true → Happened (Enter share m shape) h → last_piece m h ≡ Some (low, high) → piece ≡ turn share h → slice_get (pieces_of members shape) piece ≡ Some (low, high) → ⊥) →
    OrderedLaws members (later ++ HandOn share m piece ∷ h) → ⊥
never_handed_on_but_the_piece_of_the_turn members share m piece later h apart law =
    let (shape, low, high, ordered, entered, stays, last, number, own) = order_there (HandsOnInTurn members) (HandOn share m piece) later h law.handed_on in apart shape low high ordered entered last number own

-- nor one before those before it
pub never_handed_on_out_of_turn : (members share m piece : ℕ) (later h : List Event) → (piece ≡ turn share h → ⊥) → OrderedLaws members (later ++ HandOn share m piece ∷ h) → ⊥
never_handed_on_out_of_turn members share m piece later h apart law =
    let (shape, low, high, ordered, entered, stays, last, number, own) = order_there (HandsOnInTurn members) (HandOn share m piece) later h law.handed_on in apart number

pub never_handed_on_before_the_first_piece : (members share m piece : ℕ) (later h : List Event) → ((n other : ℕ) → Happened (HandOn share n other) h → ⊥) → 0 < piece → OrderedLaws members (later ++ HandOn share m piece ∷ h) → ⊥
never_handed_on_before_the_first_piece members share m piece later h never some law =
    never_handed_on_out_of_turn members share m piece later h (λ number. let none = none_handed share h never in omega (arith, number, none, some)) law

-- nor one twice
pub never_handed_on_twice : (members share m n piece : ℕ) (later h : List Event) → Happened (HandOn share n piece) h → OrderedLaws members (later ++ HandOn share m piece ∷ h) → ⊥
never_handed_on_twice members share m n piece later h handed law =
    let all = order_before (HandsOnInTurn members) later (HandOn share m piece ∷ h) law.handed_on in
    let below = handed_below members share n piece h all.1 handed in
    let (shape, low, high, ordered, entered, stays, last, number, own) = all.0 in omega (arith, number, below)

-- Parts apart

-- no part of a loop begins while another is open
pub never_part_inside_a_part : (members share m n iteration other : ℕ) (later between h : List Event) → ((k : ℕ) → Happened (PartEnd share k) between → ⊥) → ((k j : ℕ) → Happened (Part share k j) between → ⊥) →
    OrderedLaws members (later ++ Part share m iteration ∷ (between ++ Part share n other ∷ h)) → ⊥
never_part_inside_a_part members share m n iteration other later between h unended alone law =
    let none = order_there PartsApart (Part share m iteration) later (between ++ Part share n other ∷ h) law.apart in
    let stays = begun_stays_open share n other between h unended alone in absurd (cc)

-- none ends that did not begin
pub never_part_ended_unbegun : (members share m : ℕ) (later h : List Event) → ((n iteration : ℕ) → Happened (Part share n iteration) h → ⊥) → OrderedLaws members (later ++ PartEnd share m ∷ h) → ⊥
never_part_ended_unbegun members share m later h never law =
    let own = order_there PartsApart (PartEnd share m) later h law.apart in
    let none = unbegun_not_open share h never in absurd (cc)

-- nor by another member
pub never_part_ended_by_another : (members share m n iteration : ℕ) (later between h : List Event) → (m ≡ n → ⊥) → ((k : ℕ) → Happened (PartEnd share k) between → ⊥) → ((k j : ℕ) → Happened (Part share k j) between → ⊥) →
    OrderedLaws members (later ++ PartEnd share m ∷ (between ++ Part share n iteration ∷ h)) → ⊥
never_part_ended_by_another members share m n iteration later between h apart unended alone law =
    let own = order_there PartsApart (PartEnd share m) later (between ++ Part share n iteration ∷ h) law.apart in
    let stays = begun_stays_open share n iteration between h unended alone in
    let same : Some n ≡ Some m = sym stays ∙ own in apart (cc)

-- nor twice
pub never_part_ended_twice : (members share m n : ℕ) (later h : List Event) → OrderedLaws members (later ++ PartEnd share m ∷ PartEnd share n ∷ h) → ⊥
never_part_ended_twice members share m n later h law =
    let own = order_there PartsApart (PartEnd share m) later (PartEnd share n ∷ h) law.apart in
    let none : None ≡ Some m = rw (same_number share) at own in absurd (cc)

-- nor again later, if none began in between
pub never_part_ended_again : (members share m n : ℕ) (later between h : List Event) → ((k iteration : ℕ) → Happened (Part share k iteration) between → ⊥) →
    OrderedLaws members (later ++ PartEnd share m ∷ (between ++ PartEnd share n ∷ h)) → ⊥
never_part_ended_again members share m n later between h alone law =
    let own = order_there PartsApart (PartEnd share m) later (between ++ PartEnd share n ∷ h) law.apart in
    let none = unopened_until_begun share between (PartEnd share n ∷ h) alone (rw (same_number share) refl) in absurd (cc)

-- no piece is handed on inside a part
pub never_handed_on_inside_a_part : (members share m n piece iteration : ℕ) (later between h : List Event) → ((k : ℕ) → Happened (PartEnd share k) between → ⊥) → ((k j : ℕ) → Happened (Part share k j) between → ⊥) →
    OrderedLaws members (later ++ HandOn share m piece ∷ (between ++ Part share n iteration ∷ h)) → ⊥
never_handed_on_inside_a_part members share m n piece iteration later between h unended alone law =
    let none = order_there PartsApart (HandOn share m piece) later (between ++ Part share n iteration ∷ h) law.apart in
    let stays = begun_stays_open share n iteration between h unended alone in absurd (cc)

-- and no member leaves a loop inside its part
pub never_left_inside_a_part : (members share m iteration : ℕ) (later between h : List Event) → ((k : ℕ) → Happened (PartEnd share k) between → ⊥) → ((k j : ℕ) → Happened (Part share k j) between → ⊥) →
    OrderedLaws members (later ++ End share m ∷ (between ++ Part share m iteration ∷ h)) → ⊥
never_left_inside_a_part members share m iteration later between h unended alone law =
    order_there PartsApart (End share m) later (between ++ Part share m iteration ∷ h) law.apart (begun_stays_open share m iteration between h unended alone)
