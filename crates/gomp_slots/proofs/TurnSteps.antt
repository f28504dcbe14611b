-- The steps by which a member begins and ends an ordered part, and hands its piece on.
use Rattle.std.proofs.Common.{◌≡◌, ℕ, ◌+◌, Bool, true, false, List, ◌∷◌, set, slice_get, Option, Some, None, inl, inr, refl, ap, sym, ◌∙◌, subst, slice_index}
use Rattle.std.specs.Prelude.{◌==◌}
use Rattle.std.proofs.lemmas.Bool.{cases_Bool}
use Rattle.std.proofs.lemmas.Bool.Decides.{eqb_tells}
use prog.Atomic.{either}
use Rattle.atomic_table.specs.Table.{Me, Act, Step, keeps, stepped, Allows, Valid, carried_after}
use Rattle.atomic_table.proofs.Lists.{set_again}
use Rattle.gomp_types.specs.declared.shape.Shape.{Shape}
use Rattle.gomp_events.specs.declared.event.Event.{Event}
use Rattle.gomp_types.specs.Pieces.{Piece, pieces_of, Tiles}
use Rattle.gomp_events.specs.Events.{open_share, open_number, share_number, last_piece, turn}
use Rattle.gomp_types.specs.Deals.{schedule}
use Rattle.gomp_events.specs.Seen.{seen_of}
use Rattle.gomp_events.specs.declared.seen.Seen.{Seen}
use Rattle.gomp_events.specs.declared.event.Event.TheVariants.{HandOn, Part, PartEnd}
use Rattle.gomp_events.specs.Ordered.{same_piece, has_turn, number_of_piece, is_ordered}
use Rattle.gomp_types.proofs.Booleans.{same_number, other_number, is_equal, not_both}
use Rattle.gomp_events.proofs.Numbering.{same_is, piece_same_as_itself, number_at}
use Rattle.gomp_shares.specs.Calls.{CanBeginPart, CanEndPart, CanHandOn, own_turn, number_in}
use Rattle.gomp_shares.specs.Rules.{MayPart, MayEndPart, MayHandOn}
use Rattle.gomp_shares.proofs.AnswerRules.{part_rule, part_end_follows_the_rule, hand_on_rule}
use Rattle.gomp_shares.proofs.OrderedKeep.{share_is_tiled}
use Rattle.gomp_slots.specs.declared.view.TeamSize.{TeamSize}
use Rattle.gomp_slots.specs.declared.view.View.{View}
use Rattle.gomp_slots.specs.Words.{gate_at, BusySlot}
use Rattle.gomp_slots.specs.Rule.{Knows, IsRing, IsKept}
use Rattle.gomp_slots.specs.Premises.{IsInShare, HasPieceNumber}
use Rattle.gomp_slots.specs.Plays.{BeginStep, EndPartStep, HandOnStep}
use Rattle.gomp_slots.proofs.WordSteps.{seat_sees, inside_is_current, ring_still, ring_turn, written_again, ring_again, ring_of_size, kept_still, kept_acted}
use Rattle.gomp_gate.specs.Gates.{is_bare_single}
use Rattle.gomp_types.specs.Singles.{single_shape}
use Rattle.gomp_types.proofs.Compared.{same_shape_is}

-- The end of a part

pub end_part_allowed : (members id m i w slots : ℕ) (me : Me Shape View) (team : TeamSize) (st : Step Shape) → team.members ≡ members → IsInShare members m i me.0 → CanEndPart members m (seen_of m me.0.did) →
    Allows (IsKept team) slots id me w (λ n. n) (EndPartStep members m i st me)
end_part_allowed members id m i w slots me team st same standing can s kept homes at bound =
    let v : View = me.0 in
    let h : List Event = kept.events in
    let ring : IsRing members s.words s.views h kept.busy = ring_of_size members team s.words s.views h kept.busy same kept.ring in
    let mine : Knows v h = ring.seats.knows id v at in
    let is : seen_of m v.did ≡ seen_of m h = seat_sees m v h mine standing.stands in
    let inside : open_share m h ≡ Some (i, standing.shape) = sym (ap (λ (x : Seen). x.current) is) ∙ standing.inside in
    let number : open_number m h ≡ i = ap share_number inside in
    let may : MayEndPart i m h = subst (λ (n : ℕ). MayEndPart n m h) number (part_end_follows_the_rule members m h ring.team.rule (subst (CanEndPart members m) is can)) in
    let u : View = record v { did = PartEnd i m ∷ v.did; found = None } in
    let after = ring_still members id m (PartEnd i m) s.words s.views v h kept.busy ring at standing.stands (record { who = refl; rule = may; once = tt; own = refl; shapes = λ j. refl }) (λ j t e. refl) (λ j. refl) in (
      u,
      keeps,
      tt,
      kept_acted members id w me.1 u team s (PartEnd i m ∷ h) kept.busy same after,
      (record { events = h; knows = mine; rule = after.team.rule; after = refl }, refl),
    )

-- Turns

-- an ordered loop is no single
ordered_shape : (shape : Shape) → shape.ordered ≡ true → is_bare_single shape ≡ false
ordered_shape shape ordered = elim (cases_Bool (is_bare_single shape)) [
  | inl bare ↦ absurd (let one = ap (λ (s : Shape). s.ordered) (same_shape_is shape (single_shape false) bare) in not_both (shape.ordered) ordered one)
  | inr other ↦ other
]

ordered_not_bare : (m i : ℕ) (shape : Shape) (v : View) → open_share m v.did ≡ Some (i, shape) → is_ordered (seen_of m v.did).current ≡ true → is_bare_single shape ≡ false
ordered_not_bare m i shape v inside ordered = ordered_shape shape (sym (ap is_ordered inside) ∙ ordered)

-- a piece is that of the turn if it has its number
turn_compares : (high : ℕ) (pieces : List Piece) (t p : ℕ) (piece : Piece) → Tiles 0 pieces high → slice_get pieces p ≡ Some piece → same_piece (slice_get pieces t) (Some piece) ≡ (t == p)
turn_compares high pieces t p piece tiles at = elim (eqb_tells t p) [
  | inl e ↦ ap (λ (n : ℕ). same_piece (slice_get pieces n) (Some piece)) e.1 ∙ ap (λ (o : Option Piece). same_piece o (Some piece)) at ∙ piece_same_as_itself piece ∙ sym (ap (λ (n : ℕ). t == n) (sym e.1) ∙ same_number t)
  | inr e ↦ elim (cases_Bool (same_piece (slice_get pieces t) (Some piece))) [
    | inl is ↦
        let own = same_is (slice_get pieces t) (Some piece) is in
        let one = number_at 0 high pieces t (own.0, own.1) tiles own.2 in
        let two = number_at 0 high pieces p piece tiles at in
        absurd (e.1 (sym one ∙ ap (number_of_piece pieces) (sym own.3) ∙ two))
    | inr differs ↦ differs ∙ sym (other_number t p e.1)
  ]
]

-- so the turn is the member's if the word of the turn is the number of its piece
own_turn_is : (members m i p : ℕ) (v : View) (words : List ℕ) (views : List View) (h : List Event) (busy : Option BusySlot) → IsRing members words views h busy → Knows v h → (hold : HasPieceNumber members m i p v) → is_bare_single hold.at.shape ≡ false → own_turn members m h ≡ (slice_index words (gate_at i + 5) == p)
own_turn_is members m i p v words views h busy ring mine hold told =
    let is : seen_of m v.did ≡ seen_of m h = seat_sees m v h mine hold.at.stands in
    let shape : Shape = hold.at.shape in
    let inside : open_share m h ≡ Some (i, shape) = sym (ap (λ (x : Seen). x.current) is) ∙ hold.at.inside in
    let last : last_piece m h ≡ Some hold.piece = sym (ap (λ (x : Seen). x.piece) is) ∙ hold.last in
    let now = inside_is_current members m i shape words views h busy ring inside in
    let tiles = share_is_tiled (schedule members) members i shape h ring.team.rule now.shape_is in
    let turn_is : slice_index words (gate_at i + 5) ≡ turn i h = ring.table.turns i shape now told in
    let by_share : own_turn members m h ≡ has_turn members (i, shape) m h = rw inside refl in
    by_share
    ∙ ap (same_piece (slice_get (pieces_of members shape) (turn i h))) last
    ∙ turn_compares shape.trips (pieces_of members shape) (turn i h) p hold.piece tiles hold.number_is
    ∙ ap (λ (n : ℕ). n == p) (sym turn_is)

own_number_is : (members m i p : ℕ) (v : View) (words : List ℕ) (views : List View) (h : List Event) (busy : Option BusySlot) → IsRing members words views h busy → Knows v h → (hold : HasPieceNumber members m i p v) → number_in members (open_share m h) m h ≡ p
own_number_is members m i p v words views h busy ring mine hold =
    let is : seen_of m v.did ≡ seen_of m h = seat_sees m v h mine hold.at.stands in
    let shape : Shape = hold.at.shape in
    let inside : open_share m h ≡ Some (i, shape) = sym (ap (λ (x : Seen). x.current) is) ∙ hold.at.inside in
    let last : last_piece m h ≡ Some hold.piece = sym (ap (λ (x : Seen). x.piece) is) ∙ hold.last in
    let now = inside_is_current members m i shape words views h busy ring inside in
    let tiles = share_is_tiled (schedule members) members i shape h ring.team.rule now.shape_is in
    ap (λ (o : Option (ℕ × Shape)). number_in members o m h) inside ∙ ap (number_of_piece (pieces_of members shape)) last ∙ number_at 0 shape.trips (pieces_of members shape) p hold.piece tiles hold.number_is

pub begin_part_allowed : (members id m i p iteration slots : ℕ) (me : Me Shape View) (team : TeamSize) (st : Step Shape) → team.members ≡ members → HasPieceNumber members m i p me.0 → CanBeginPart members m iteration (seen_of m me.0.did) →
    Allows (IsKept team) slots id me (gate_at i + 5) (λ n. n) (BeginStep members m i p iteration st me)
begin_part_allowed members id m i p iteration slots me team st same hold can s kept homes at bound =
    let ring : IsRing members s.words s.views kept.events kept.busy = ring_of_size members team s.words s.views kept.events kept.busy same kept.ring in
    let mine : Knows me.0 kept.events = ring.seats.knows id me.0 at in
    by_found ring mine (own_turn_is members m i p me.0 s.words s.views kept.events kept.busy ring mine hold (ordered_not_bare m i hold.at.shape me.0 hold.at.inside can.ordered)) (slice_index s.words (gate_at i + 5) == p) refl
  where
    by_found : IsRing members s.words s.views kept.events kept.busy → Knows me.0 kept.events → own_turn members m kept.events ≡ (slice_index s.words (gate_at i + 5) == p) → (c : Bool) → (slice_index s.words (gate_at i + 5) == p) ≡ c →
        (u : View) × (a : Act Shape) × Valid s.homes me.1 a × IsKept team (stepped s (gate_at i + 5) (slice_index s.words (gate_at i + 5)) id me.1 u a) × BeginStep members m i p iteration st me (slice_index s.words (gate_at i + 5)) (u, carried_after me.1 a)
    by_found ring mine turn_is_own true e =
        let h : List Event = kept.events in
        let is : seen_of m me.0.did ≡ seen_of m h = seat_sees m me.0 h mine hold.at.stands in
        let inside : open_share m h ≡ Some (i, hold.at.shape) = sym (ap (λ (x : Seen). x.current) is) ∙ hold.at.inside in
        let number : open_number m h ≡ i = ap share_number inside in
        let may : MayPart members i m iteration h = subst (λ (n : ℕ). MayPart members n m iteration h) number (part_rule members m iteration h (subst (CanBeginPart members m iteration) is can) (turn_is_own ∙ e)) in
        let u : View = record me.0 { did = Part i m iteration ∷ me.0.did; found = None } in
        let after = ring_still members id m (Part i m iteration) s.words s.views me.0 h kept.busy ring at hold.at.stands (record { who = refl; rule = may; once = tt; own = refl; shapes = λ j. refl }) (λ j t e. refl) (λ j. refl) in (
          u,
          keeps,
          tt,
          kept_acted members id (gate_at i + 5) me.1 u team s (Part i m iteration ∷ h) kept.busy same after,
          (record { acts = λ x. record { events = h; knows = mine; rule = after.team.rule; after = refl }; waits = λ x. absurd (not_both _ e x); events = h; knows = mine; rule = ring.team.rule; answer_is = sym turn_is_own }, refl),
        )
    by_found ring mine turn_is_own false e = (
      me.0,
      keeps,
      tt,
      kept_still id (gate_at i + 5) me.1 me.0 team s kept at,
      (record { acts = λ x. absurd (not_both _ x e); waits = λ x. refl; events = kept.events; knows = mine; rule = ring.team.rule; answer_is = sym turn_is_own }, refl),
    )

pub hand_on_allowed : (members id m i p slots : ℕ) (me : Me Shape View) (team : TeamSize) (st : Step Shape) → team.members ≡ members → HasPieceNumber members m i p me.0 → CanHandOn members m (seen_of m me.0.did) →
    Allows (IsKept team) slots id me (gate_at i + 5) (λ n. either (n == p) (p + 1) n) (HandOnStep members m i p st me)
hand_on_allowed members id m i p slots me team st same hold can s kept homes at bound =
    let ring : IsRing members s.words s.views kept.events kept.busy = ring_of_size members team s.words s.views kept.events kept.busy same kept.ring in
    let mine : Knows me.0 kept.events = ring.seats.knows id me.0 at in
    by_found ring mine (own_turn_is members m i p me.0 s.words s.views kept.events kept.busy ring mine hold (ordered_not_bare m i hold.at.shape me.0 hold.at.inside can.ordered)) (own_number_is members m i p me.0 s.words s.views kept.events kept.busy ring mine hold) (slice_index s.words (gate_at i + 5) == p) refl
  where
    by_found : IsRing members s.words s.views kept.events kept.busy → Knows me.0 kept.events → own_turn members m kept.events ≡ (slice_index s.words (gate_at i + 5) == p) → number_in members (open_share m kept.events) m kept.events ≡ p → (c : Bool) → (slice_index s.words (gate_at i + 5) == p) ≡ c →
        (u : View) × (a : Act Shape) × Valid s.homes me.1 a × IsKept team (stepped s (gate_at i + 5) (either (slice_index s.words (gate_at i + 5) == p) (p + 1) (slice_index s.words (gate_at i + 5))) id me.1 u a) × HandOnStep members m i p st me (slice_index s.words (gate_at i + 5)) (u, carried_after me.1 a)
    by_found ring mine turn_is_own piece_number true e =
        let h : List Event = kept.events in
        let is : seen_of m me.0.did ≡ seen_of m h = seat_sees m me.0 h mine hold.at.stands in
        let inside : open_share m h ≡ Some (i, hold.at.shape) = sym (ap (λ (x : Seen). x.current) is) ∙ hold.at.inside in
        let number : open_number m h ≡ i = ap share_number inside in
        let may : MayHandOn members i m p h = subst (λ (q : ℕ). MayHandOn members i m q h) piece_number (subst (λ (n : ℕ). MayHandOn members n m (number_in members (open_share m h) m h) h) number (hand_on_rule members m h (subst (CanHandOn members m) is can) (turn_is_own ∙ e))) in
        let now = inside_is_current members m i hold.at.shape s.words s.views h kept.busy ring inside in
        let turn_is : turn i h ≡ p = sym (ring.table.turns i hold.at.shape now (ordered_not_bare m i hold.at.shape me.0 hold.at.inside can.ordered)) ∙ is_equal _ _ e in
        let more : turn i (HandOn i m p ∷ h) ≡ turn i h + 1 = rw (same_number i) (refl {a = turn i h + 1}) in
        let u : View = record me.0 { did = HandOn i m p ∷ me.0.did; found = None } in
        let after = ring_turn members id m i (p + 1) hold.at.shape (HandOn i m p) s.words s.views me.0 h kept.busy ring at hold.at.stands (record { who = refl; rule = may; once = tt; own = refl; shapes = λ j. refl }) inside (λ j kind. refl) (λ j other. rw (other_number i j (λ x. other (sym x))) (refl {a = turn j h})) (ap (λ (n : ℕ). n + 1) (sym turn_is) ∙ sym more) in (
          u,
          keeps,
          tt,
          record {
            events = HandOn i m p ∷ h;
            busy = kept.busy;
            ring = ring_again members team (set s.words (gate_at i + 5) (p + 1)) (set s.words (gate_at i + 5) (either (slice_index s.words (gate_at i + 5) == p) (p + 1) (slice_index s.words (gate_at i + 5)))) (set s.views id u) (set s.views id u) (HandOn i m p ∷ h) kept.busy same
                (ap (λ (c : Bool). set s.words (gate_at i + 5) (either c (p + 1) (slice_index s.words (gate_at i + 5)))) e) refl after;
          },
          (record { acts = λ x. record { events = h; knows = mine; rule = after.team.rule; after = refl }; waits = λ x. absurd (not_both _ e x); events = h; knows = mine; rule = ring.team.rule; answer_is = sym turn_is_own }, refl),
        )
    by_found ring mine turn_is_own piece_number false e = (
      me.0,
      keeps,
      tt,
      record {
        events = kept.events;
        busy = kept.busy;
        ring = ring_again members team s.words (set s.words (gate_at i + 5) (either (slice_index s.words (gate_at i + 5) == p) (p + 1) (slice_index s.words (gate_at i + 5)))) s.views (set s.views id me.0) kept.events kept.busy same
            (ap (λ (c : Bool). set s.words (gate_at i + 5) (either c (p + 1) (slice_index s.words (gate_at i + 5)))) e ∙ written_again s.words (gate_at i + 5)) (set_again s.views id me.0 at) ring;
      },
      (record { acts = λ x. absurd (not_both _ x e); waits = λ x. refl; events = kept.events; knows = mine; rule = ring.team.rule; answer_is = sym turn_is_own }, refl),
    )
