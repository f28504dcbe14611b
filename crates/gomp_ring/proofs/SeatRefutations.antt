-- What no call of a member's seat tells: what each clause of what it tells forbids, of any ring, team, member, share, shape, piece, event and list.
use Rattle.std.proofs.Common.{◌≡◌, ℕ, ◌+◌, ◌<◌, ◌≤◌, Bool, true, false, List, [], ◌∷◌, slice_get, Option, Some, None, inl, inr, refl, ap, sym, ◌∙◌, subst, arith, length}
use Rattle.std.specs.Prelude.{nat_lt, option_map}
use Rattle.std.proofs.lemmas.Bool.{lt-ltb}
use Rattle.std.proofs.lemmas.Bool.Decides.{nat_tests}
use Rattle.std.proofs.lemmas.Option.{none-some, same_Some, slice_get-map}
use Rattle.gomp_types.specs.declared.shape.Shape.{Shape}
use Rattle.gomp_events.specs.declared.event.Event.{Event}
use Rattle.gomp_events.specs.declared.event.Event.TheVariants.{Enter, Take, Drained}
use Rattle.gomp_types.specs.Values.{IsShape}
use Rattle.gomp_types.specs.Pieces.{Piece, pieces_of}
use Rattle.gomp_events.specs.Events.{open_share, shape_at, has_room, is_over}
use Rattle.gomp_events.specs.Cancels.{share_cancelled}
use Rattle.gomp_types.specs.Compare.{shape_differs}
use Rattle.gomp_types.specs.Deals.{schedule}
use Rattle.gomp_events.specs.Takes.{next_for}
use Rattle.gomp_events.specs.Laws.{Always}
use Rattle.gomp_events.specs.Seen.{seen_of}
use Rattle.gomp_types.proofs.Booleans.{not_both}
use Rattle.gomp_types.proofs.Compared.{same_shapes}
use Rattle.gomp_types.proofs.LoopReadings.{shape_never_differs_from_itself}
use Rattle.gomp_shares.specs.Only.{shares_only, own_of}
use Rattle.gomp_shares.specs.Rules.{ShareRule}
use Rattle.gomp_slots.specs.declared.opening.Delay.TheVariants.{NoRoom, BeingOpened}
use Rattle.gomp_slots.specs.declared.opening.Entry.TheVariants.{Entered, NotYet, Differs}
use Rattle.gomp_ring.specs.declared.ring.Ring.{Ring}
use Rattle.gomp_slots.specs.declared.view.View.{View}
use Rattle.gomp_slots.specs.Calls.{claim_event, ClaimsTicket, Settles}
use Rattle.gomp_ring.specs.Gathers.{times_in, loop_iterations}
use Rattle.gomp_ring.specs.Rings.{ring_table, ring_members}
use Rattle.gomp_slots.specs.Rule.{FitsWords}
use Rattle.gomp_ring.specs.RingSeats.{SeatView, SeatActs, SeatClaims, may_claim, SeatClaimsNext, SeatWaits, SeatDiffers, SeatCompares, SeatOpens, SeatSplits, IsNewRing, pieces_of_seats, Gathers}
use Rattle.gomp_slots.proofs.SlotShares.{none_not_some}

-- What a member does

-- no event against the rule, and none after events that broke it
pub no_seat_act_against_the_rule : (event : Event) (b n : SeatView) (acts : SeatActs event b n) → (ShareRule (schedule b.members) b.members event acts.events → ⊥) → ⊥
no_seat_act_against_the_rule event b n acts broken = broken acts.rule.0

pub no_seat_act_after_a_broken_rule : (event : Event) (b n : SeatView) (acts : SeatActs event b n) → (Always (ShareRule (schedule b.members) b.members) acts.events → ⊥) → ⊥
no_seat_act_after_a_broken_rule event b n acts broken = broken acts.rule.1

-- none after other events of the member than its seat knows
pub no_seat_act_after_unknown_events : (event : Event) (b n : SeatView) (acts : SeatActs event b n) → (b.did ≡ own_of b.member acts.events → ⊥) → ⊥
no_seat_act_after_unknown_events event b n acts unknown = unknown acts.knows

-- none that the seat does not know then, or by which its member sees anything else than its events say
pub no_seat_act_is_forgotten : (event : Event) (b n : SeatView) → SeatActs event b n → (n.did ≡ event ∷ b.did → ⊥) → ⊥
no_seat_act_is_forgotten event b n acts forgotten = forgotten acts.did

pub no_seat_act_seen_otherwise : (event : Event) (b n : SeatView) → SeatActs event b n → (n.seen ≡ seen_of b.member (event ∷ b.did) → ⊥) → ⊥
no_seat_act_seen_otherwise event b n acts otherwise = otherwise (acts.sees ∙ ap (seen_of b.member) acts.did)

-- none by which the seat is one of another ring, team or member, or one from which another is still to be split
pub no_seat_act_changes_the_ring : (event : Event) (b n : SeatView) → SeatActs event b n → (n.table ≡ b.table → ⊥) → ⊥
no_seat_act_changes_the_ring event b n acts changed = changed acts.table

pub no_seat_act_changes_the_team : (event : Event) (b n : SeatView) → SeatActs event b n → (n.members ≡ b.members → ⊥) → ⊥
no_seat_act_changes_the_team event b n acts changed = changed acts.members

pub no_seat_act_changes_the_member : (event : Event) (b n : SeatView) → SeatActs event b n → (n.member ≡ b.member → ⊥) → ⊥
no_seat_act_changes_the_member event b n acts changed = changed acts.member

pub no_seat_act_splits_it : (event : Event) (b n : SeatView) → SeatActs event b n → (n.seated ≡ b.seated → ⊥) → ⊥
no_seat_act_splits_it event b n acts changed = changed acts.seated

-- Claims

-- no claim of a member that is in no share
pub no_claim_outside_of_a_share : (b n : SeatView) (answer : Option Piece) → SeatClaims b answer n → b.seen.current ≡ None → ⊥
no_claim_outside_of_a_share b n answer claims outside = none_not_some b.seen.current claims.share outside claims.inside

-- none whose event is not that of its answer, in the share that the member is in
claim_did : (b n : SeatView) (answer : Option Piece) (i : ℕ) (shape : Shape) → SeatClaims b answer n → b.seen.current ≡ Some (i, shape) → n.did ≡ claim_event i b.member answer ∷ b.did
claim_did b n answer i shape claims at = claims.acts.did ∙ ap (λ (s : ℕ × Shape). claim_event s.0 b.member answer ∷ b.did) (same_Some claims.share (i, shape) (sym claims.inside ∙ at))

pub no_piece_taken_of_another_share : (b n : SeatView) (i low high : ℕ) (shape : Shape) → SeatClaims b (Some (low, high)) n → b.seen.current ≡ Some (i, shape) → (n.did ≡ Take i b.member low high ∷ b.did → ⊥) → ⊥
no_piece_taken_of_another_share b n i low high shape claims at other = other (claim_did b n (Some (low, high)) i shape claims at)

pub no_end_told_of_another_share : (b n : SeatView) (i : ℕ) (shape : Shape) → SeatClaims b None n → b.seen.current ≡ Some (i, shape) → (n.did ≡ Drained i b.member ∷ b.did → ⊥) → ⊥
no_end_told_of_another_share b n i shape claims at other = other (claim_did b n None i shape claims at)

-- none whose answer is not the least piece that nobody took of those that are the member's to take
pub no_piece_but_the_least : (b n : SeatView) (answer : Option Piece) (i : ℕ) (shape : Shape) (claims : SeatClaims b answer n) → open_share b.member claims.acts.events ≡ Some (i, shape) → (answer ≡ next_for (schedule b.members) shape i b.member claims.acts.events → ⊥) → ⊥
no_piece_but_the_least b n answer i shape claims inside other =
    let same : claims.claims.share ≡ (i, shape) = same_Some claims.claims.share (i, shape) (sym claims.claims.there ∙ inside) in
    other (claims.claims.least ∙ ap (λ (s : ℕ × Shape). next_for (schedule b.members) s.1 s.0 b.member claims.acts.events) same)

-- so none is kept back, and none is given that is not there
pub no_piece_kept_back : (b n : SeatView) (i : ℕ) (shape : Shape) (piece : Piece) (claims : SeatClaims b None n) → open_share b.member claims.acts.events ≡ Some (i, shape) → next_for (schedule b.members) shape i b.member claims.acts.events ≡ Some piece → ⊥
no_piece_kept_back b n i shape piece claims inside left = no_piece_but_the_least b n None i shape claims inside (λ is. none-some piece (is ∙ left))

pub no_piece_given_of_none : (b n : SeatView) (i : ℕ) (shape : Shape) (piece : Piece) (claims : SeatClaims b (Some piece) n) → open_share b.member claims.acts.events ≡ Some (i, shape) → next_for (schedule b.members) shape i b.member claims.acts.events ≡ None → ⊥
no_piece_given_of_none b n i shape piece claims inside none = no_piece_but_the_least b n (Some piece) i shape claims inside (λ is. none-some piece (sym (is ∙ none)))

-- no piece without an iteration, or past the last one of the share
pub no_piece_without_iterations : (b n : SeatView) (low high : ℕ) → SeatClaims b (Some (low, high)) n → high ≤ low → ⊥
no_piece_without_iterations b n low high claims empty = let some = claims.claims.within.0 in omega arith

pub no_piece_past_the_last_iteration : (b n : SeatView) (low high i : ℕ) (shape : Shape) (claims : SeatClaims b (Some (low, high)) n) → open_share b.member claims.acts.events ≡ Some (i, shape) → shape.trips < high → ⊥
no_piece_past_the_last_iteration b n low high i shape claims inside past =
    let same : claims.claims.share ≡ (i, shape) = same_Some claims.claims.share (i, shape) (sym claims.claims.there ∙ inside) in
    let few : high ≤ shape.trips = subst (λ (s : ℕ × Shape). high ≤ s.1.trips) same claims.claims.within.1 in
    omega arith

-- and no claim of a share that is none of a construct
pub no_claim_of_no_construct : (b n : SeatView) (answer : Option Piece) (i : ℕ) (shape : Shape) (claims : SeatClaims b answer n) → open_share b.member claims.acts.events ≡ Some (i, shape) → (IsShape shape → ⊥) → ⊥
no_claim_of_no_construct b n answer i shape claims inside other =
    other (subst (λ (s : ℕ × Shape). IsShape s.1) (same_Some claims.claims.share (i, shape) (sym claims.claims.there ∙ inside)) claims.claims.valid)

-- a member that may not claim gets no piece, and nothing changes
pub no_piece_without_a_claim : (b n : SeatView) (piece : Piece) → may_claim b.seen ≡ false → SeatClaimsNext (may_claim b.seen) b (Some piece) n → ⊥
no_piece_without_a_claim b n piece not_now claims = none-some piece (sym (subst (λ (may : Bool). SeatClaimsNext may b (Some piece) n) not_now claims).0)

pub no_change_without_a_claim : (b n : SeatView) (answer : Option Piece) → may_claim b.seen ≡ false → SeatClaimsNext (may_claim b.seen) b answer n → (n ≡ b → ⊥) → ⊥
no_change_without_a_claim b n answer not_now claims changed = changed (subst (λ (may : Bool). SeatClaimsNext may b answer n) not_now claims).1

-- and one that may claims one
pub no_claim_left_out : (b n : SeatView) (answer : Option Piece) → may_claim b.seen ≡ true → SeatClaimsNext (may_claim b.seen) b answer n → (SeatClaims b answer n → ⊥) → ⊥
no_claim_left_out b n answer may claims out = out (subst (λ (is : Bool). SeatClaimsNext is b answer n) may claims)

-- so its seat does not stay as it was
pub no_claim_without_an_event : (b n : SeatView) (answer : Option Piece) → may_claim b.seen ≡ true → SeatClaimsNext (may_claim b.seen) b answer n → n.did ≡ b.did → ⊥
no_claim_without_an_event b n answer may claims same =
    let claimed : SeatClaims b answer n = subst (λ (is : Bool). SeatClaimsNext is b answer n) may claims in
    let more = ap length claimed.acts.did in
    let as_before = ap length same in
    omega arith

-- The ticket of a claim

-- no ticket gives another piece than that of its number, and none without a piece gives one
ticket_did : (members m i found : ℕ) (shape : Shape) (answer : Option Piece) (v w : View) → ClaimsTicket members m i found v w → open_share m v.did ≡ Some (i, shape) → slice_get (pieces_of members shape) found ≡ answer → w.did ≡ claim_event i m answer ∷ v.did
ticket_did members m i found shape answer v w claims inside is =
    let at = inside in
    let known : w.did ≡ claim_event i m (slice_get (pieces_of members shape) found) ∷ v.did = rw at at (ap (λ (z : View). z.did) claims.acts.after) in
    known ∙ ap (λ (a : Option Piece). claim_event i m a ∷ v.did) is

pub no_ticket_gives_another_piece : (members m i found low high : ℕ) (shape : Shape) (v w : View) → ClaimsTicket members m i found v w → open_share m v.did ≡ Some (i, shape) → slice_get (pieces_of members shape) found ≡ Some (low, high) → (w.did ≡ Take i m low high ∷ v.did → ⊥) → ⊥
no_ticket_gives_another_piece members m i found low high shape v w claims inside is other = other (ticket_did members m i found shape (Some (low, high)) v w claims inside is)

pub no_ticket_past_the_pieces_gives_one : (members m i found : ℕ) (shape : Shape) (v w : View) → ClaimsTicket members m i found v w → open_share m v.did ≡ Some (i, shape) → slice_get (pieces_of members shape) found ≡ None → (w.did ≡ Drained i m ∷ v.did → ⊥) → ⊥
no_ticket_past_the_pieces_gives_one members m i found shape v w claims inside none other = other (ticket_did members m i found shape None v w claims inside none)

-- The next share

-- no member waits for a share that others have entered, or for room that is not as it is told
pub no_seat_wait_for_an_entered_share : (b n : SeatView) (room : Bool) (other : Shape) (waits : SeatWaits b room n) → shape_at b.seen.entered waits.events ≡ Some other → ⊥
no_seat_wait_for_an_entered_share b n room other waits there = none_not_some (shape_at b.seen.entered waits.events) other waits.none there

pub no_seat_wait_of_another_room : (b n : SeatView) (room : Bool) (waits : SeatWaits b room n) → (has_room b.members b.seen.entered waits.events ≡ room → ⊥) → ⊥
no_seat_wait_of_another_room b n room waits other = other waits.room_is

-- none after events that broke the rule, or that its seat does not know
pub no_seat_wait_after_a_broken_rule : (b n : SeatView) (room : Bool) (waits : SeatWaits b room n) → (Always (ShareRule (schedule b.members) b.members) waits.events → ⊥) → ⊥
no_seat_wait_after_a_broken_rule b n room waits broken = broken waits.rule

pub no_seat_wait_after_unknown_events : (b n : SeatView) (room : Bool) (waits : SeatWaits b room n) → (b.did ≡ own_of b.member waits.events → ⊥) → ⊥
no_seat_wait_after_unknown_events b n room waits unknown = unknown waits.knows

-- and nothing changes
pub no_change_by_a_seat_that_waits : (b n : SeatView) (room : Bool) → SeatWaits b room n → (n ≡ b → ⊥) → ⊥
no_change_by_a_seat_that_waits b n room waits changed = changed waits.same

-- none is told that a share differs which nobody has entered, or that has its shape
pub no_seat_differs_of_an_unentered_share : (b n : SeatView) (shape : Shape) (apart : SeatDiffers b shape n) → shape_at b.seen.entered apart.events ≡ None → ⊥
no_seat_differs_of_an_unentered_share b n shape apart none = not_both (shape_differs shape None) (sym (ap (shape_differs shape) none) ∙ apart.differs) refl

pub no_seat_differs_of_one_shape : (b n : SeatView) (shape : Shape) (apart : SeatDiffers b shape n) → shape_at b.seen.entered apart.events ≡ Some shape → ⊥
no_seat_differs_of_one_shape b n shape apart there = not_both (shape_differs shape (Some shape)) (sym (ap (shape_differs shape) there) ∙ apart.differs) (shape_never_differs_from_itself shape).0

pub no_seat_differs_after_a_broken_rule : (b n : SeatView) (shape : Shape) (apart : SeatDiffers b shape n) → (Always (ShareRule (schedule b.members) b.members) apart.events → ⊥) → ⊥
no_seat_differs_after_a_broken_rule b n shape apart broken = broken apart.rule

pub no_seat_differs_after_unknown_events : (b n : SeatView) (shape : Shape) (apart : SeatDiffers b shape n) → (b.did ≡ own_of b.member apart.events → ⊥) → ⊥
no_seat_differs_after_unknown_events b n shape apart unknown = unknown apart.knows

pub no_change_by_a_seat_that_differs : (b n : SeatView) (shape : Shape) → SeatDiffers b shape n → (n ≡ b → ⊥) → ⊥
no_change_by_a_seat_that_differs b n shape apart changed = changed apart.same

-- no shape is told alike to that of the member's next share if that was entered in another one, or told to differ if it was entered in this one or by nobody
pub no_comparison_false_of_another_shape : (b n : SeatView) (shape other : Shape) (compares : SeatCompares b shape false n) → shape_at b.seen.entered compares.events ≡ Some other → (other ≡ shape → ⊥) → ⊥
no_comparison_false_of_another_shape b n shape other compares there apart = apart (same_shapes shape (shape_at b.seen.entered compares.events) (sym compares.answer_is) other there)

pub no_comparison_true_of_one_shape : (b n : SeatView) (shape : Shape) (compares : SeatCompares b shape true n) → shape_at b.seen.entered compares.events ≡ Some shape → ⊥
no_comparison_true_of_one_shape b n shape compares there =
    not_both (shape_differs shape (Some shape)) (ap (shape_differs shape) (sym there) ∙ sym compares.answer_is) (shape_never_differs_from_itself shape).0

pub no_comparison_true_of_an_unentered_share : (b n : SeatView) (shape : Shape) (compares : SeatCompares b shape true n) → shape_at b.seen.entered compares.events ≡ None → ⊥
no_comparison_true_of_an_unentered_share b n shape compares none =
    not_both (shape_differs shape None) (ap (shape_differs shape) (sym none) ∙ sym compares.answer_is) (shape_never_differs_from_itself shape).1

-- nor is one made after events that broke the rule, or that its seat does not know
pub no_comparison_after_a_broken_rule : (b n : SeatView) (shape : Shape) (answer : Bool) (compares : SeatCompares b shape answer n) → (Always (ShareRule (schedule b.members) b.members) compares.events → ⊥) → ⊥
no_comparison_after_a_broken_rule b n shape answer compares broken = broken compares.rule

pub no_comparison_after_unknown_events : (b n : SeatView) (shape : Shape) (answer : Bool) (compares : SeatCompares b shape answer n) → (b.did ≡ own_of b.member compares.events → ⊥) → ⊥
no_comparison_after_unknown_events b n shape answer compares unknown = unknown compares.knows

-- and nothing changes
pub no_change_by_a_comparison : (b n : SeatView) (shape : Shape) (answer : Bool) → SeatCompares b shape answer n → (n ≡ b → ⊥) → ⊥
no_change_by_a_comparison b n shape answer compares changed = changed compares.same

-- no member enters another share than its next one, in another shape than those before it, or one that has no room
pub no_seat_opening_but_of_the_next_share : (b n : SeatView) (shape : Shape) → SeatOpens b shape Entered n → (n.did ≡ Enter b.seen.entered b.member shape ∷ b.did → ⊥) → ⊥
no_seat_opening_but_of_the_next_share b n shape opens other = other opens.did

pub no_seat_opening_in_another_shape : (b n : SeatView) (shape other : Shape) (opens : SeatOpens b shape Entered n) → shape_at b.seen.entered opens.events ≡ Some other → (other ≡ shape → ⊥) → ⊥
no_seat_opening_in_another_shape b n shape other opens there differs = differs (opens.rule.0.same other there)

pub no_seat_opening_of_a_full_slot : (b n : SeatView) (shape : Shape) (opens : SeatOpens b shape Entered n) → has_room b.members b.seen.entered opens.events ≡ false → ⊥
no_seat_opening_of_a_full_slot b n shape opens full = not_both (has_room b.members b.seen.entered opens.events) opens.rule.0.room full

pub no_seat_opening_by_a_stranger : (b n : SeatView) (shape : Shape) → SeatOpens b shape Entered n → b.members ≤ b.member → ⊥
no_seat_opening_by_a_stranger b n shape opens past = let lt = opens.rule.0.member in omega arith

-- none is told that there is no room where there is some, or that the share is being opened where there is none
pub no_seat_delay_for_room_that_is_there : (b n : SeatView) (shape : Shape) (opens : SeatOpens b shape (NotYet NoRoom) n) → has_room b.members b.seen.entered opens.events ≡ true → ⊥
no_seat_delay_for_room_that_is_there b n shape opens room = not_both (has_room b.members b.seen.entered opens.events) room opens.room_is

pub no_seat_delay_by_an_opener_without_room : (b n : SeatView) (shape : Shape) (opens : SeatOpens b shape (NotYet BeingOpened) n) → has_room b.members b.seen.entered opens.0.events ≡ false → ⊥
no_seat_delay_by_an_opener_without_room b n shape opens full = not_both (has_room b.members b.seen.entered opens.0.events) opens.0.room_is full

-- nor waits for a share that is entered, and the only seat of the ring for no opener
pub no_seat_delay_of_an_entered_share : (b n : SeatView) (shape other : Shape) (opens : SeatOpens b shape (NotYet NoRoom) n) → shape_at b.seen.entered opens.events ≡ Some other → ⊥
no_seat_delay_of_an_entered_share b n shape other opens there = no_seat_wait_for_an_entered_share b n false other opens there

pub no_seat_delay_by_an_opener_of_an_entered_share : (b n : SeatView) (shape other : Shape) (opens : SeatOpens b shape (NotYet BeingOpened) n) → shape_at b.seen.entered opens.0.events ≡ Some other → ⊥
no_seat_delay_by_an_opener_of_an_entered_share b n shape other opens there = no_seat_wait_for_an_entered_share b n true other opens.0 there

pub no_seat_delay_by_an_opener_beside_the_only_seat : (b n : SeatView) (shape : Shape) → SeatOpens b shape (NotYet BeingOpened) n → b.seated ≡ 1 → ⊥
no_seat_delay_by_an_opener_beside_the_only_seat b n shape opens only = opens.1 only

-- and nothing changes unless it is entered
pub no_change_of_a_seat_without_room : (b n : SeatView) (shape : Shape) → SeatOpens b shape (NotYet NoRoom) n → (n ≡ b → ⊥) → ⊥
no_change_of_a_seat_without_room b n shape opens changed = changed opens.same

pub no_change_of_a_seat_beside_an_opener : (b n : SeatView) (shape : Shape) → SeatOpens b shape (NotYet BeingOpened) n → (n ≡ b → ⊥) → ⊥
no_change_of_a_seat_beside_an_opener b n shape opens changed = changed opens.0.same

pub no_change_of_a_seat_in_another_shape : (b n : SeatView) (shape : Shape) → SeatOpens b shape Differs n → (n ≡ b → ⊥) → ⊥
no_change_of_a_seat_in_another_shape b n shape opens changed = changed opens.same

pub no_seat_told_of_a_difference_of_one_shape : (b n : SeatView) (shape : Shape) (opens : SeatOpens b shape Differs n) → shape_at b.seen.entered opens.events ≡ Some shape → ⊥
no_seat_told_of_a_difference_of_one_shape b n shape opens there = no_seat_differs_of_one_shape b n shape opens there

-- Splitting

-- a seat is not refused that is still to be split, and whose member has entered no share
pub no_seat_refused_that_is_there : (b n : SeatView) → SeatSplits b None n → b.seated < b.members → b.seen.entered ≡ 0 → ⊥
no_seat_refused_that_is_there b n (same, inl all) lt none = omega arith
no_seat_refused_that_is_there b n (same, inr entered) lt none = entered none

pub no_change_by_a_refused_split : (b n : SeatView) → SeatSplits b None n → (n ≡ b → ⊥) → ⊥
no_change_by_a_refused_split b n splits changed = changed splits.0

-- none is given where all have one, or once its member has entered a share
pub no_seat_beyond_the_team : (b n other : SeatView) → SeatSplits b (Some other) n → b.members ≤ b.seated → ⊥
no_seat_beyond_the_team b n other splits all = let lt = splits.0 in omega arith

pub no_seat_split_after_an_entry : (b n other : SeatView) → SeatSplits b (Some other) n → 0 < b.seen.entered → ⊥
no_seat_split_after_an_entry b n other splits entered = let none = splits.1 in omega arith

-- none for another member than the next one, of another ring or team, from which others are to be split, or that did or sees anything
pub no_split_for_another_member : (b n other : SeatView) → SeatSplits b (Some other) n → (other.member ≡ b.seated → ⊥) → ⊥
no_split_for_another_member b n other splits wrong = wrong (ap (λ (s : SeatView). s.member) splits.3)

pub no_split_onto_another_ring : (b n other : SeatView) → SeatSplits b (Some other) n → (other.table ≡ b.table → ⊥) → ⊥
no_split_onto_another_ring b n other splits wrong = wrong (ap (λ (s : SeatView). s.table) splits.3)

pub no_split_into_another_team : (b n other : SeatView) → SeatSplits b (Some other) n → (other.members ≡ b.members → ⊥) → ⊥
no_split_into_another_team b n other splits wrong = wrong (ap (λ (s : SeatView). s.members) splits.3)

pub no_split_seat_is_to_be_split : (b n other : SeatView) → SeatSplits b (Some other) n → (other.seated ≡ other.members → ⊥) → ⊥
no_split_seat_is_to_be_split b n other splits wrong = wrong (ap (λ (s : SeatView). s.seated) splits.3 ∙ sym (ap (λ (s : SeatView). s.members) splits.3))

pub no_split_seat_did_anything : (b n other : SeatView) → SeatSplits b (Some other) n → (other.did ≡ [] → ⊥) → ⊥
no_split_seat_did_anything b n other splits wrong = wrong (ap (λ (s : SeatView). s.did) splits.3)

pub no_split_seat_sees_anything : (b n other : SeatView) (m : ℕ) → SeatSplits b (Some other) n → (other.seen ≡ seen_of m [] → ⊥) → ⊥
no_split_seat_sees_anything b n other m splits wrong = wrong (ap (λ (s : SeatView). s.seen) splits.3)

-- so no two seats of one member
pub no_split_for_the_member_itself : (b n other : SeatView) → SeatSplits b (Some other) n → b.member < b.seated → other.member ≡ n.member → ⊥
no_split_for_the_member_itself b n other splits below same = let who = ap (λ (s : SeatView). s.member) splits.3 in let own = ap (λ (s : SeatView). s.member) splits.2 in omega arith

-- no member is split from the seat twice, or passed over
pub no_member_split_again : (b n other : SeatView) → SeatSplits b (Some other) n → (n.seated ≡ other.member + 1 → ⊥) → ⊥
no_member_split_again b n other splits wrong = let next = ap (λ (s : SeatView). s.seated) splits.2 in let who = ap (λ (s : SeatView). s.member) splits.3 in wrong (omega arith)

-- and the seat stays as it was otherwise
pub no_split_changes_the_seat : (b n other : SeatView) → SeatSplits b (Some other) n → (record n { seated = b.seated } ≡ b → ⊥) → ⊥
no_split_changes_the_seat b n other splits changed = changed (ap (λ (s : SeatView). record s { seated = b.seated }) splits.2)

-- A new ring

-- no ring of another size, or with another seat than that of member 0, which has done nothing
pub no_new_ring_of_another_size : (members : ℕ) (ring : Ring) (seat : SeatView) → IsNewRing members ring seat → (ring_members ring ≡ members → ⊥) → ⊥
no_new_ring_of_another_size members ring seat made other = other made.size

pub no_new_ring_with_the_seat_of_another : (members : ℕ) (ring : Ring) (seat : SeatView) → IsNewRing members ring seat → (seat.member ≡ 0 → ⊥) → ⊥
no_new_ring_with_the_seat_of_another members ring seat made other = other (ap (λ (s : SeatView). s.member) made.seat_is)

pub no_new_ring_with_a_seat_of_another_ring : (members : ℕ) (ring : Ring) (seat : SeatView) → IsNewRing members ring seat → (seat.table ≡ ring_table ring → ⊥) → ⊥
no_new_ring_with_a_seat_of_another_ring members ring seat made other = other (ap (λ (s : SeatView). s.table) made.seat_is)

pub no_new_ring_with_a_seat_of_another_team : (members : ℕ) (ring : Ring) (seat : SeatView) → IsNewRing members ring seat → (seat.members ≡ members → ⊥) → ⊥
no_new_ring_with_a_seat_of_another_team members ring seat made other = other (ap (λ (s : SeatView). s.members) made.seat_is)

pub no_new_ring_with_a_split_seat : (members : ℕ) (ring : Ring) (seat : SeatView) → IsNewRing members ring seat → (seat.seated ≡ 1 → ⊥) → ⊥
no_new_ring_with_a_split_seat members ring seat made other = other (ap (λ (s : SeatView). s.seated) made.seat_is)

pub no_new_ring_with_events : (members : ℕ) (ring : Ring) (seat : SeatView) → IsNewRing members ring seat → (seat.did ≡ [] → ⊥) → ⊥
no_new_ring_with_events members ring seat made other = other (ap (λ (s : SeatView). s.did) made.seat_is)

pub no_new_ring_with_anything_seen : (members m : ℕ) (ring : Ring) (seat : SeatView) → IsNewRing members ring seat → (seat.seen ≡ seen_of m [] → ⊥) → ⊥
no_new_ring_with_anything_seen members m ring seat made other = other (ap (λ (s : SeatView). s.seen) made.seat_is)

-- The end

-- nothing is gathered from events that broke the rule, that are not of the work-shares, or of which a seat did not know its member's
pub nothing_gathered_against_the_rule : (members shares : ℕ) (seats : List SeatView) (taken : List ℕ) (all : Gathers members seats shares taken) → (Always (ShareRule (schedule members) members) all.events → ⊥) → ⊥
nothing_gathered_against_the_rule members shares seats taken all broken = broken all.rule

pub nothing_gathered_but_of_shares : (members shares : ℕ) (seats : List SeatView) (taken : List ℕ) (all : Gathers members seats shares taken) → (shares_only all.events ≡ all.events → ⊥) → ⊥
nothing_gathered_but_of_shares members shares seats taken all other = other all.clean

pub nothing_gathered_unknown : (members shares m : ℕ) (seats : List SeatView) (taken : List ℕ) (seat : SeatView) (all : Gathers members seats shares taken) → slice_get seats m ≡ Some seat → (seat.did ≡ own_of m all.events → ⊥) → ⊥
nothing_gathered_unknown members shares m seats taken seat all at unknown = unknown (all.own m seat at)

-- no share counts that some member has not left, and none is left out that all have left
pub no_share_gathered_that_is_not_over : (members shares i : ℕ) (seats : List SeatView) (taken : List ℕ) (all : Gathers members seats shares taken) → i < shares → is_over members i all.events ≡ false → ⊥
no_share_gathered_that_is_not_over members shares i seats taken all below stays = not_both (is_over members i all.events) (all.shares_is i ∙ lt-ltb i shares below) stays

pub no_share_left_out_that_is_over : (members shares i : ℕ) (seats : List SeatView) (taken : List ℕ) (all : Gathers members seats shares taken) → shares ≤ i → is_over members i all.events ≡ true → ⊥
no_share_left_out_that_is_over members shares i seats taken all past over = not_both (nat_lt i shares) (sym (all.shares_is i) ∙ over) (grind (arith, nat_tests))

-- no member's number of iterations is left out, and none is another than that of its takes
pub no_iterations_gathered_but_those_taken : (members shares m : ℕ) (seats : List SeatView) (taken : List ℕ) (seat : SeatView) → Gathers members seats shares taken → slice_get seats m ≡ Some seat → (slice_get taken m ≡ Some (loop_iterations seat.member seat.did) → ⊥) → ⊥
no_iterations_gathered_but_those_taken members shares m seats taken seat all at other =
    other (ap (λ (l : List ℕ). slice_get l m) all.taken_is ∙ slice_get-map (λ (s : SeatView). loop_iterations s.member s.did) seats m ∙ ap (option_map (λ (s : SeatView). loop_iterations s.member s.did)) at)

pub no_iterations_gathered_of_no_seat : (members shares m iterations : ℕ) (seats : List SeatView) (taken : List ℕ) → Gathers members seats shares taken → slice_get seats m ≡ None → slice_get taken m ≡ Some iterations → ⊥
no_iterations_gathered_of_no_seat members shares m iterations seats taken all none some =
    none_not_some (slice_get taken m) iterations (ap (λ (l : List ℕ). slice_get l m) all.taken_is ∙ slice_get-map (λ (s : SeatView). loop_iterations s.member s.did) seats m ∙ ap (option_map (λ (s : SeatView). loop_iterations s.member s.did)) none) some

-- of a share that all have left, and that nobody cancelled, no piece was left, and none was taken twice or invented
pub no_piece_gathered_too_seldom : (members shares i : ℕ) (seats : List SeatView) (taken : List ℕ) (shape : Shape) (piece : Piece) (all : Gathers members seats shares taken) → shape_at i all.events ≡ Some shape → i < shares → share_cancelled i all.events ≡ false →
    times_in piece (pieces_of_seats i seats) < times_in piece (pieces_of members shape) → ⊥
no_piece_gathered_too_seldom members shares i seats taken shape piece all at below whole fewer = let same = all.pieces i shape at below whole piece in omega arith

pub no_piece_gathered_too_often : (members shares i : ℕ) (seats : List SeatView) (taken : List ℕ) (shape : Shape) (piece : Piece) (all : Gathers members seats shares taken) → shape_at i all.events ≡ Some shape → i < shares → share_cancelled i all.events ≡ false →
    times_in piece (pieces_of members shape) < times_in piece (pieces_of_seats i seats) → ⊥
no_piece_gathered_too_often members shares i seats taken shape piece all at below whole more = let same = all.pieces i shape at below whole piece in omega arith

-- and none is settled that is not of the work-shares, or of a shape that is none of a construct
pub nothing_settled_but_of_shares : (members : ℕ) (v : View) (settled : Settles members v) → (shares_only settled.events ≡ settled.events → ⊥) → ⊥
nothing_settled_but_of_shares members v settled other = other settled.clean

pub nothing_settled_of_no_construct : (members i : ℕ) (shape : Shape) (v : View) (settled : Settles members v) → shape_at i settled.events ≡ Some shape → (FitsWords shape → ⊥) → ⊥
nothing_settled_of_no_construct members i shape v settled at other = other (settled.shapes i shape at)
