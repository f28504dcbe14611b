-- When no event of the work-shares may happen: what each field of each rule forbids, of any queues, team, member, share, shape, piece and list of events.
use Rattle.std.proofs.Common.{◌≡◌, ℕ, ◌+◌, ◌<◌, ◌≤◌, Bool, true, false, List, [], ◌∷◌, ◌++◌, Option, Some, None, refl, arith, inl, inr}
use Rattle.std.specs.Prelude.{pos, if◌then◌else◌}
use Rattle.gomp_types.specs.declared.cancel.CancelKind.TheVariants.{Loop, Sections}
use Rattle.gomp_types.specs.declared.cancel.Scope.TheVariants.{OneShare}
use Rattle.gomp_types.specs.declared.limits.TheConstants.{OPEN_SHARES}
use Rattle.gomp_types.specs.declared.loop_desc.EndKind.TheVariants.{Cancellable}
use Rattle.gomp_types.specs.declared.shape.Shape.{Shape}
use Rattle.gomp_events.specs.declared.event.Event.{Event}
use Rattle.gomp_events.specs.declared.event.Event.TheVariants.{Enter, Take, Drained, End, HandOn, Part, PartEnd, Cancel, See}
use Rattle.gomp_events.specs.Cancels.{share_scope, some_scope_cancelled, leaves_share}
use Rattle.gomp_types.specs.Deals.{Queues, IsDealt}
use Rattle.gomp_events.specs.Takes.{next_for}
use Rattle.gomp_events.specs.Events.{shares_entered, open_share, last_piece, next_part, in_part, shape_at}
use Rattle.gomp_events.specs.Laws.{Always, Happened}
use Rattle.gomp_events.specs.Ordered.{has_turn, last_number}
use Rattle.gomp_types.specs.Pieces.{Tiles, pieces_of}
use Rattle.gomp_types.specs.Shapes.{is_loop, is_sections}
use Rattle.gomp_types.proofs.Booleans.{same_number}
use Rattle.gomp_shares.specs.Rules.{ShareRule}
use Rattle.gomp_shares.proofs.CancelledShares.{cancel_stands}
use Rattle.gomp_shares.proofs.SharesKeep.{over_stands, room_over, inside_stands}

rule_there : (Rule : Event → List Event → Type 0) (event : Event) (later h : List Event) → Always Rule (later ++ event ∷ h) → Rule event h
rule_there Rule event [] h all = all.0
rule_there Rule event (first ∷ later) h all = rule_there Rule event later h all.1

-- Entries

-- no entry of a member that is not in the team
pub no_entry_of_a_stranger : (queues : Queues) (members share m : ℕ) (shape : Shape) (later h : List Event) → members ≤ m → Always (ShareRule queues members) (later ++ Enter share m shape ∷ h) → ⊥
no_entry_of_a_stranger queues members share m shape later h stranger rule = let member = (rule_there (ShareRule queues members) (Enter share m shape) later h rule).member in omega (arith, stranger, member)

-- of a share that is not the member's next
pub no_entry_out_of_order : (queues : Queues) (members share m : ℕ) (shape : Shape) (later h : List Event) → (share ≡ shares_entered m h → ⊥) → Always (ShareRule queues members) (later ++ Enter share m shape ∷ h) → ⊥
no_entry_out_of_order queues members share m shape later h apart rule = apart (rule_there (ShareRule queues members) (Enter share m shape) later h rule).number

-- inside another share
pub no_entry_inside_another : (queues : Queues) (members share m : ℕ) (shape : Shape) (own : ℕ × Shape) (later h : List Event) → open_share m h ≡ Some own → Always (ShareRule queues members) (later ++ Enter share m shape ∷ h) → ⊥
no_entry_inside_another queues members share m shape own later h inside rule = let outside = (rule_there (ShareRule queues members) (Enter share m shape) later h rule).outside in absurd (cc)

pub no_entry_behind_an_entry : (queues : Queues) (members share i m : ℕ) (shape other : Shape) (later h : List Event) → Always (ShareRule queues members) (later ++ Enter share m shape ∷ Enter i m other ∷ h) → ⊥
no_entry_behind_an_entry queues members share i m shape other later h rule = no_entry_inside_another queues members share m shape (i, other) later (Enter i m other ∷ h) (rw (same_number m) refl) rule

-- of a shape that is not dealt out fairly
pub no_entry_unfairly_dealt : (queues : Queues) (members share m : ℕ) (shape : Shape) (later h : List Event) → (IsDealt queues members shape → ⊥) → Always (ShareRule queues members) (later ++ Enter share m shape ∷ h) → ⊥
no_entry_unfairly_dealt queues members share m shape later h unfair rule = unfair (rule_there (ShareRule queues members) (Enter share m shape) later h rule).dealt

-- of pieces that do not lead from its first iteration to its last
pub no_entry_with_a_gap : (queues : Queues) (members share m : ℕ) (shape : Shape) (later h : List Event) → (Tiles 0 (pieces_of members shape) shape.trips → ⊥) → Always (ShareRule queues members) (later ++ Enter share m shape ∷ h) → ⊥
no_entry_with_a_gap queues members share m shape later h gap rule = gap (rule_there (ShareRule queues members) (Enter share m shape) later h rule).tiles

-- of a step that leads nowhere
pub no_entry_without_a_step : (queues : Queues) (members share m : ℕ) (shape : Shape) (later h : List Event) → shape.incr ≡ pos 0 → Always (ShareRule queues members) (later ++ Enter share m shape ∷ h) → ⊥
no_entry_without_a_step queues members share m shape later h still rule = (rule_there (ShareRule queues members) (Enter share m shape) later h rule).moves still

-- of an ordered share that is no loop
pub no_entry_ordered_but_no_loop : (queues : Queues) (members share m : ℕ) (shape : Shape) (later h : List Event) → shape.ordered ≡ true → is_loop shape.kind ≡ false → Always (ShareRule queues members) (later ++ Enter share m shape ∷ h) → ⊥
no_entry_ordered_but_no_loop queues members share m shape later h ordered other rule = let loop = (rule_there (ShareRule queues members) (Enter share m shape) later h rule).ordered ordered in absurd (cc)

-- or one that may be cancelled
pub no_entry_ordered_and_cancellable : (queues : Queues) (members share m : ℕ) (shape : Shape) (later h : List Event) → shape.ordered ≡ true → shape.end_kind ≡ Cancellable → Always (ShareRule queues members) (later ++ Enter share m shape ∷ h) → ⊥
no_entry_ordered_and_cancellable queues members share m shape later h ordered cancellable rule = let unordered = (rule_there (ShareRule queues members) (Enter share m shape) later h rule).unordered (rw cancellable refl) in absurd (cc)

-- in a shape that is not the team's
pub no_entry_in_another_shape : (queues : Queues) (members share m : ℕ) (shape other : Shape) (later h : List Event) → shape_at share h ≡ Some other → (other ≡ shape → ⊥) → Always (ShareRule queues members) (later ++ Enter share m shape ∷ h) → ⊥
no_entry_in_another_shape queues members share m shape other later h is apart rule = apart ((rule_there (ShareRule queues members) (Enter share m shape) later h rule).same other is)

pub no_entry_beside_another_shape : (queues : Queues) (members share m n : ℕ) (shape other : Shape) (later h : List Event) → (other ≡ shape → ⊥) → Always (ShareRule queues members) (later ++ Enter share m shape ∷ Enter share n other ∷ h) → ⊥
no_entry_beside_another_shape queues members share m n shape other later h apart rule = no_entry_in_another_shape queues members share m shape other later (Enter share n other ∷ h) (rw (same_number share) refl) apart rule

-- before every member has left the share that makes room for it
pub no_entry_without_room : (queues : Queues) (members old m n : ℕ) (shape : Shape) (later h : List Event) → n < members → (Happened (End old n) h → ⊥) → Always (ShareRule queues members) (later ++ Enter (old + OPEN_SHARES) m shape ∷ h) → ⊥
no_entry_without_room queues members old m n shape later h member inside rule =
    let room = (rule_there (ShareRule queues members) (Enter (old + OPEN_SHARES) m shape) later h rule).room in
    inside (over_stands members old h (room_over members (old + OPEN_SHARES) old h refl room) n member)

-- Takes

-- no take by a member outside of the share
pub no_take_outside : (queues : Queues) (members share m low high : ℕ) (later h : List Event) → ((shape : Shape) → open_share m h ≡ Some (share, shape) → ⊥) → Always (ShareRule queues members) (later ++ Take share m low high ∷ h) → ⊥
no_take_outside queues members share m low high later h outside rule = let may = rule_there (ShareRule queues members) (Take share m low high) later h rule in outside may.shape may.inside

pub no_take_without_an_entry : (queues : Queues) (members share m low high : ℕ) (later h : List Event) → ((shape : Shape) → Happened (Enter share m shape) h → ⊥) → Always (ShareRule queues members) (later ++ Take share m low high ∷ h) → ⊥
no_take_without_an_entry queues members share m low high later h never rule = no_take_outside queues members share m low high later h (λ shape inside. never shape (inside_stands m share shape h inside)) rule

pub no_take_behind_an_end : (queues : Queues) (members share i m low high : ℕ) (later h : List Event) → Always (ShareRule queues members) (later ++ Take share m low high ∷ End i m ∷ h) → ⊥
no_take_behind_an_end queues members share i m low high later h rule = no_take_outside queues members share m low high later (End i m ∷ h) left rule
  where
    left : (shape : Shape) → open_share m (End i m ∷ h) ≡ Some (share, shape) → ⊥
    left shape inside = let never : ◌≡◌ {A = Option (ℕ × Shape)} None (Some (share, shape)) = rw (same_number m) at inside in absurd (cc)

-- of a piece that is not the next
pub no_take_but_of_the_next_piece : (queues : Queues) (members share m low high : ℕ) (later h : List Event) → ((shape : Shape) → open_share m h ≡ Some (share, shape) → next_for queues shape share m h ≡ Some (low, high) → ⊥) →
    Always (ShareRule queues members) (later ++ Take share m low high ∷ h) → ⊥
no_take_but_of_the_next_piece queues members share m low high later h apart rule = let may = rule_there (ShareRule queues members) (Take share m low high) later h rule in apart may.shape may.inside may.next

-- inside an ordered part
pub no_take_inside_a_part : (queues : Queues) (members share m low high : ℕ) (later h : List Event) → in_part m h ≡ true → Always (ShareRule queues members) (later ++ Take share m low high ∷ h) → ⊥
no_take_inside_a_part queues members share m low high later h inside rule = let apart = (rule_there (ShareRule queues members) (Take share m low high) later h rule).apart in absurd (cc)

pub no_take_behind_a_part : (queues : Queues) (members share i m low high iteration : ℕ) (later h : List Event) → Always (ShareRule queues members) (later ++ Take share m low high ∷ Part i m iteration ∷ h) → ⊥
no_take_behind_a_part queues members share i m low high iteration later h rule = no_take_inside_a_part queues members share m low high later (Part i m iteration ∷ h) (rw (same_number m) refl) rule

-- Nothing left

-- nobody is answered that nothing is left of a share that it is not in
pub no_draining_outside : (queues : Queues) (members share m : ℕ) (later h : List Event) → ((shape : Shape) → open_share m h ≡ Some (share, shape) → ⊥) → Always (ShareRule queues members) (later ++ Drained share m ∷ h) → ⊥
no_draining_outside queues members share m later h outside rule = let may = rule_there (ShareRule queues members) (Drained share m) later h rule in outside may.shape may.inside

-- or of one with a piece left for it
pub no_draining_with_a_piece_left : (queues : Queues) (members share m : ℕ) (later h : List Event) → ((shape : Shape) → open_share m h ≡ Some (share, shape) → next_for queues shape share m h ≡ None → ⊥) → Always (ShareRule queues members) (later ++ Drained share m ∷ h) → ⊥
no_draining_with_a_piece_left queues members share m later h left rule = let may = rule_there (ShareRule queues members) (Drained share m) later h rule in left may.shape may.inside may.none

-- or inside an ordered part
pub no_draining_inside_a_part : (queues : Queues) (members share m : ℕ) (later h : List Event) → in_part m h ≡ true → Always (ShareRule queues members) (later ++ Drained share m ∷ h) → ⊥
no_draining_inside_a_part queues members share m later h inside rule = let apart = (rule_there (ShareRule queues members) (Drained share m) later h rule).apart in absurd (cc)

-- Ends

-- nobody leaves a share that it is not in
pub no_end_outside : (queues : Queues) (members share m : ℕ) (later h : List Event) → ((shape : Shape) → open_share m h ≡ Some (share, shape) → ⊥) → Always (ShareRule queues members) (later ++ End share m ∷ h) → ⊥
no_end_outside queues members share m later h outside rule = let may = rule_there (ShareRule queues members) (End share m) later h rule in outside may.shape may.inside

-- or one with a piece left for it, unless it has seen that it is cancelled
pub no_end_with_a_piece_left : (queues : Queues) (members share m : ℕ) (later h : List Event) → ((shape : Shape) → open_share m h ≡ Some (share, shape) → next_for queues shape share m h ≡ None → ⊥) → leaves_share m h ≡ false →
    Always (ShareRule queues members) (later ++ End share m ∷ h) → ⊥
no_end_with_a_piece_left queues members share m later h left unseen rule =
    let may = rule_there (ShareRule queues members) (End share m) later h rule in
    elim may.done [ inl none ↦ left may.shape may.inside none | inr seen ↦ absurd (cc) ]

-- or inside its part
pub no_end_inside_a_part : (queues : Queues) (members share m : ℕ) (later h : List Event) → in_part m h ≡ true → Always (ShareRule queues members) (later ++ End share m ∷ h) → ⊥
no_end_inside_a_part queues members share m later h inside rule = let apart = (rule_there (ShareRule queues members) (End share m) later h rule).apart in absurd (cc)

-- Cancellations

-- nobody cancels a share that it is not in
pub no_cancellation_outside : (queues : Queues) (members share m : ℕ) (later h : List Event) → ((shape : Shape) → open_share m h ≡ Some (share, shape) → ⊥) → Always (ShareRule queues members) (later ++ Cancel m (OneShare share) ∷ h) → ⊥
no_cancellation_outside queues members share m later h outside rule = let may = rule_there (ShareRule queues members) (Cancel m (OneShare share)) later h rule in outside may.shape may.inside

-- or one whose end kind does not allow that
pub no_cancellation_against_the_end_kind : (queues : Queues) (members share m : ℕ) (later h : List Event) → ((shape : Shape) → open_share m h ≡ Some (share, shape) → shape.end_kind ≡ Cancellable → ⊥) → Always (ShareRule queues members) (later ++ Cancel m (OneShare share) ∷ h) → ⊥
no_cancellation_against_the_end_kind queues members share m later h apart rule = let may = rule_there (ShareRule queues members) (Cancel m (OneShare share)) later h rule in apart may.shape may.inside may.cancellable

-- nobody sees that its loop is cancelled if nobody cancelled a share
pub no_sight_of_an_uncancelled_loop : (queues : Queues) (members m : ℕ) (later h : List Event) → ((n share : ℕ) (shape : Shape) → open_share m h ≡ Some (share, shape) → is_loop shape.kind ≡ true → Happened (Cancel n (OneShare share)) h → ⊥) →
    Always (ShareRule queues members) (later ++ See m Loop ∷ h) → ⊥
no_sight_of_an_uncancelled_loop queues members m later h never rule = by_share (open_share m h) refl (rule_there (ShareRule queues members) (See m Loop) later h rule)
  where
    by_share : (own : Option (ℕ × Shape)) → open_share m h ≡ own → some_scope_cancelled (share_scope (λ shape. is_loop shape.kind) own) h ≡ true → ⊥
    by_share None is seen = absurd (cc)
    by_share (Some share) is seen = by_kind (is_loop share.1.kind) refl seen
      where
        by_kind : (b : Bool) → is_loop share.1.kind ≡ b → some_scope_cancelled (if b then Some (OneShare share.0) else None) h ≡ true → ⊥
        by_kind true e seen = let by = cancel_stands (OneShare share.0) h seen in never by.0 share.0 share.1 is e by.1
        by_kind false e seen = absurd (cc)

-- nor its sections construct
pub no_sight_of_uncancelled_sections : (queues : Queues) (members m : ℕ) (later h : List Event) → ((n share : ℕ) (shape : Shape) → open_share m h ≡ Some (share, shape) → is_sections shape.kind ≡ true → Happened (Cancel n (OneShare share)) h → ⊥) →
    Always (ShareRule queues members) (later ++ See m Sections ∷ h) → ⊥
no_sight_of_uncancelled_sections queues members m later h never rule = by_share (open_share m h) refl (rule_there (ShareRule queues members) (See m Sections) later h rule)
  where
    by_share : (own : Option (ℕ × Shape)) → open_share m h ≡ own → some_scope_cancelled (share_scope (λ shape. is_sections shape.kind) own) h ≡ true → ⊥
    by_share None is seen = absurd (cc)
    by_share (Some share) is seen = by_kind (is_sections share.1.kind) refl seen
      where
        by_kind : (b : Bool) → is_sections share.1.kind ≡ b → some_scope_cancelled (if b then Some (OneShare share.0) else None) h ≡ true → ⊥
        by_kind true e seen = let by = cancel_stands (OneShare share.0) h seen in never by.0 share.0 share.1 is e by.1
        by_kind false e seen = absurd (cc)

-- Pieces handed on

-- no piece is handed on outside of its share
pub no_hand_on_outside : (queues : Queues) (members share m piece : ℕ) (later h : List Event) → ((shape : Shape) → open_share m h ≡ Some (share, shape) → ⊥) → Always (ShareRule queues members) (later ++ HandOn share m piece ∷ h) → ⊥
no_hand_on_outside queues members share m piece later h outside rule = let may = rule_there (ShareRule queues members) (HandOn share m piece) later h rule in outside may.shape may.inside

-- in a share that is no ordered loop
pub no_hand_on_unordered : (queues : Queues) (members share m piece : ℕ) (later h : List Event) → ((shape : Shape) → open_share m h ≡ Some (share, shape) → shape.ordered ≡ true → ⊥) → Always (ShareRule queues members) (later ++ HandOn share m piece ∷ h) → ⊥
no_hand_on_unordered queues members share m piece later h unordered rule = let may = rule_there (ShareRule queues members) (HandOn share m piece) later h rule in unordered may.shape may.inside may.ordered

-- inside a part
pub no_hand_on_inside_a_part : (queues : Queues) (members share m piece : ℕ) (later h : List Event) → in_part m h ≡ true → Always (ShareRule queues members) (later ++ HandOn share m piece ∷ h) → ⊥
no_hand_on_inside_a_part queues members share m piece later h inside rule = let apart = (rule_there (ShareRule queues members) (HandOn share m piece) later h rule).apart in absurd (cc)

-- by the number of another piece
pub no_hand_on_of_another_piece : (queues : Queues) (members share m piece : ℕ) (later h : List Event) → ((shape : Shape) → open_share m h ≡ Some (share, shape) → piece ≡ last_number members (share, shape) m h → ⊥) → Always (ShareRule queues members) (later ++ HandOn share m piece ∷ h) → ⊥
no_hand_on_of_another_piece queues members share m piece later h apart rule = let may = rule_there (ShareRule queues members) (HandOn share m piece) later h rule in apart may.shape may.inside may.number

-- or out of turn
pub no_hand_on_out_of_turn : (queues : Queues) (members share m piece : ℕ) (later h : List Event) → ((shape : Shape) → open_share m h ≡ Some (share, shape) → has_turn members (share, shape) m h ≡ true → ⊥) → Always (ShareRule queues members) (later ++ HandOn share m piece ∷ h) → ⊥
no_hand_on_out_of_turn queues members share m piece later h early rule = let may = rule_there (ShareRule queues members) (HandOn share m piece) later h rule in early may.shape may.inside may.next

-- Ordered parts

-- no part begins outside of its share
pub no_part_outside : (queues : Queues) (members share m iteration : ℕ) (later h : List Event) → ((shape : Shape) → open_share m h ≡ Some (share, shape) → ⊥) → Always (ShareRule queues members) (later ++ Part share m iteration ∷ h) → ⊥
no_part_outside queues members share m iteration later h outside rule = let may = rule_there (ShareRule queues members) (Part share m iteration) later h rule in outside may.shape may.inside

-- in a share that is no ordered loop
pub no_part_unordered : (queues : Queues) (members share m iteration : ℕ) (later h : List Event) → ((shape : Shape) → open_share m h ≡ Some (share, shape) → shape.ordered ≡ true → ⊥) → Always (ShareRule queues members) (later ++ Part share m iteration ∷ h) → ⊥
no_part_unordered queues members share m iteration later h unordered rule = let may = rule_there (ShareRule queues members) (Part share m iteration) later h rule in unordered may.shape may.inside may.ordered

-- inside another part
pub no_part_inside_a_part : (queues : Queues) (members share m iteration : ℕ) (later h : List Event) → in_part m h ≡ true → Always (ShareRule queues members) (later ++ Part share m iteration ∷ h) → ⊥
no_part_inside_a_part queues members share m iteration later h inside rule = let apart = (rule_there (ShareRule queues members) (Part share m iteration) later h rule).apart in absurd (cc)

-- out of turn
pub no_part_out_of_turn : (queues : Queues) (members share m iteration : ℕ) (later h : List Event) → ((shape : Shape) → open_share m h ≡ Some (share, shape) → has_turn members (share, shape) m h ≡ true → ⊥) → Always (ShareRule queues members) (later ++ Part share m iteration ∷ h) → ⊥
no_part_out_of_turn queues members share m iteration later h early rule = let may = rule_there (ShareRule queues members) (Part share m iteration) later h rule in early may.shape may.inside may.next

-- of an iteration that is not in the member's piece
pub no_part_outside_the_piece : (queues : Queues) (members share m iteration : ℕ) (later h : List Event) → ((low high : ℕ) → last_piece m h ≡ Some (low, high) → low ≤ iteration → iteration < high → ⊥) → Always (ShareRule queues members) (later ++ Part share m iteration ∷ h) → ⊥
no_part_outside_the_piece queues members share m iteration later h outside rule = let may = rule_there (ShareRule queues members) (Part share m iteration) later h rule in outside may.low may.high may.piece may.from may.before

-- or not after those whose parts the member has begun
pub no_part_backwards : (queues : Queues) (members share m iteration : ℕ) (later h : List Event) → iteration < next_part m h → Always (ShareRule queues members) (later ++ Part share m iteration ∷ h) → ⊥
no_part_backwards queues members share m iteration later h behind rule = let after = (rule_there (ShareRule queues members) (Part share m iteration) later h rule).after in omega (arith, behind, after)

-- no part ends outside of its share
pub no_part_end_outside : (queues : Queues) (members share m : ℕ) (later h : List Event) → ((shape : Shape) → open_share m h ≡ Some (share, shape) → ⊥) → Always (ShareRule queues members) (later ++ PartEnd share m ∷ h) → ⊥
no_part_end_outside queues members share m later h outside rule = let may = rule_there (ShareRule queues members) (PartEnd share m) later h rule in outside may.shape may.inside

-- or without one that its member began
pub no_part_end_without_a_part : (queues : Queues) (members share m : ℕ) (later h : List Event) → in_part m h ≡ false → Always (ShareRule queues members) (later ++ PartEnd share m ∷ h) → ⊥
no_part_end_without_a_part queues members share m later h none rule = let inside = (rule_there (ShareRule queues members) (PartEnd share m) later h rule).within in absurd (cc)

pub no_part_end_behind_a_part_end : (queues : Queues) (members share i m : ℕ) (later h : List Event) → Always (ShareRule queues members) (later ++ PartEnd share m ∷ PartEnd i m ∷ h) → ⊥
no_part_end_behind_a_part_end queues members share i m later h rule = no_part_end_without_a_part queues members share m later (PartEnd i m ∷ h) (rw (same_number m) refl) rule
