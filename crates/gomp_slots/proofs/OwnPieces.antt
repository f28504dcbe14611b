-- The pieces that a member took of a share, and its next piece of a static one.
use Rattle.std.proofs.Common.{◌≡◌, ℕ, ◌+◌, ◌<◌, ◌≤◌, Bool, true, false, List, [], ◌∷◌, slice_get, Option, Some, inl, inr, refl, ap, sym, ◌∙◌, arith}
use Rattle.std.specs.Prelude.{◌==◌, ◌&&◌}
use Rattle.std.proofs.lemmas.Bool.{cases_Bool}
use Rattle.gomp_types.specs.declared.shape.Shape.{Shape}
use Rattle.gomp_types.specs.declared.shape.ShareKind.{ShareKind}
use Rattle.gomp_types.specs.declared.shape.ShareKind.TheVariants.{StaticChunked, StaticEven}
use Rattle.gomp_events.specs.declared.event.Event.{Event}
use Rattle.gomp_events.specs.declared.event.Event.TheVariants.{Enter, Take}
use Rattle.gomp_types.specs.Pieces.{owner_by}
use Rattle.gomp_types.specs.Values.{IsShape}
use Rattle.gomp_types.specs.Shapes.{is_static}
use Rattle.gomp_events.specs.Events.{shares_entered}
use Rattle.gomp_types.specs.Deals.{schedule}
use Rattle.gomp_events.specs.Takes.{next_for, taken_in, takes_in}
use Rattle.gomp_types.specs.Limits.{shown_number}
use Rattle.gomp_events.specs.Laws.{Always}
use Rattle.gomp_types.proofs.Booleans.{is_equal, and_left, and_right, share_is}
use Rattle.gomp_types.proofs.Dealing.{pieces_tile_all}
use Rattle.gomp_chunks.specs.Plans.{PlanView, own_queue, count_for, next_piece}
use Rattle.gomp_chunks.proofs.NextPieces.{next_is_for, next_shown}
use Rattle.gomp_shares.specs.Rules.{ShareRule, MayTake}
use Rattle.gomp_shares.proofs.SharesKeep.{member_is_inside}

pub one_share : (i : ℕ) (shape : Shape) (share : ℕ × Shape) → ◌≡◌ {A = Option (ℕ × Shape)} (Some (i, shape)) (Some share) → share ≡ (i, shape)
one_share i shape share at = let p = share_is i share.0 shape share.1 at in rw (p.0, p.1) refl

-- a member took none of a share that it has not entered
pub record HasNoPieces (i m : ℕ) (h : List Event) : Type 0 where
  pub count : taken_in (λ k. k) i m h ≡ 0
  pub pieces : takes_in (λ k. k) i m h ≡ []

pub no_pieces_ahead : (members i m : ℕ) (h : List Event) → Always (ShareRule (schedule members) members) h → shares_entered m h ≤ i → HasNoPieces i m h
no_pieces_ahead members i m [] all ahead = record { count = refl; pieces = refl }
no_pieces_ahead members i m (Take share member low high ∷ earlier) all ahead =
    let before = no_pieces_ahead members i m earlier all.1 ahead in
    elim (cases_Bool (share == i && member == m)) [
      | inl e ↦ absurd (
          let may : MayTake (schedule members) i m low high earlier = rw (is_equal share i (and_left (share == i) (member == m) e), is_equal member m (and_right (share == i) (member == m) e)) at all.0 in
          let number = (member_is_inside (schedule members) members m i may.shape earlier all.1 may.inside).2 in omega arith)
      | inr e ↦ record { count = rw e before.count; pieces = rw e before.pieces }
    ]
no_pieces_ahead members i m (Enter share member shape ∷ earlier) all ahead =
    let before = no_pieces_ahead members i m earlier all.1 (grown (member == m) refl) in
    record { count = before.count; pieces = before.pieces }
  where
    grown : (b : Bool) → (member == m) ≡ b → shares_entered m earlier ≤ i
    grown true e = let more : shares_entered m (Enter share member shape ∷ earlier) ≡ shares_entered m earlier + 1 = rw e refl in omega arith
    grown false e = let same : shares_entered m (Enter share member shape ∷ earlier) ≡ shares_entered m earlier = rw e refl in omega arith
no_pieces_ahead members i m (event ∷ earlier) all ahead =
    let before = no_pieces_ahead members i m earlier all.1 ahead in record { count = before.count; pieces = before.pieces }

-- of a static share only the member's own takes count
own_counts : (members : ℕ) (kind : ShareKind) (own one other : ℕ) → is_static kind ≡ true → count_for (owner_by members kind) own one ≡ count_for (owner_by members kind) own other
own_counts members StaticChunked own one other e = refl
own_counts members StaticEven own one other e = refl
own_counts members _ own one other e = absurd (cc)

-- so its next piece is that after so many
pub next_assigned : (members m i own : ℕ) (shape : Shape) (h : List Event) → 0 < members → IsShape shape → is_static shape.kind ≡ true → own ≡ shown_number (taken_in (λ k. k) i m h) → next_piece (record { members = members; shape = shape }) m own 0 ≡ next_for (schedule members) shape i m h
next_assigned members m i own shape h any is static counted =
    let plan : PlanView = record { members = members; shape = shape } in
    let mine : ℕ = taken_in (λ k. k) i m h in
    let all : ℕ = taken_in (λ k. 0) i 0 h in
    ap (λ (n : ℕ). next_piece plan m n 0) counted
    ∙ ap (slice_get (own_queue plan m)) (own_counts members shape.kind (shown_number mine) 0 (shown_number all) static)
    ∙ next_shown members shape m mine all is (pieces_tile_all members shape any is)
    ∙ sym (next_is_for members shape i m h)
