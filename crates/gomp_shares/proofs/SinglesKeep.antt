-- Who took the piece of a single finds nothing left there.
use Rattle.std.proofs.Common.{◌≡◌, ℕ, ◌<◌, true, List, [], ◌∷◌, Some, None, slice_get, refl, ◌∙◌, sym, arith, suc, zero, inl, inr}
use Rattle.std.specs.Prelude.{◌==◌, ◌&&◌, is_some}
use Rattle.std.proofs.lemmas.Bool.{cases_Bool}
use Rattle.gomp_types.specs.declared.shape.Shape.{Shape}
use Rattle.gomp_types.specs.declared.shape.ShareKind.{ShareKind}
use Rattle.gomp_types.specs.declared.shape.ShareKind.TheVariants as kinds
use Rattle.gomp_events.specs.declared.event.Event.{Event}
use Rattle.gomp_events.specs.declared.event.Event.TheVariants.{Enter, Take, Drained, End}
use Rattle.gomp_types.specs.Shapes.{is_single}
use Rattle.gomp_types.specs.Pieces.{whole_piece}
use Rattle.gomp_events.specs.Events.{open_share, last_piece}
use Rattle.gomp_types.specs.Deals.{Queues, schedule}
use Rattle.gomp_events.specs.Takes.{taken_in, next_for}
use Rattle.gomp_events.specs.Laws.{Always}
use Rattle.gomp_shares.specs.Rules.{ShareRule}
use Rattle.gomp_types.proofs.Booleans.{is_equal, same_number, share_is, some_with_one_more}

-- a member with a piece of its share took one from its queue
pub piece_taken : (queues : Queues) (members m i : ℕ) (shape : Shape) (h : List Event) → Always (ShareRule queues members) h → open_share m h ≡ Some (i, shape) → is_some (last_piece m h) ≡ true →
    0 < taken_in (queues.queue_of shape) i (queues.queue_of shape m) h
piece_taken queues members m i shape [] all at piece = absurd (cc)
piece_taken queues members m i shape (Enter share member other ∷ earlier) all at piece =
    elim (cases_Bool (member == m)) [
      | inl e ↦ absurd (let none = rw e at piece in cc)
      | inr e ↦ piece_taken queues members m i shape earlier all.1 (rw e at at) (rw e at piece)
    ]
piece_taken queues members m i shape (Take share member low high ∷ earlier) all at piece =
    elim (cases_Bool (member == m)) [
      | inl e ↦
          let who = is_equal member m e in
          let there : open_share m earlier ≡ Some (share, all.0.shape) = rw (← who) all.0.inside in
          let number : share ≡ i = (share_is share i all.0.shape shape (sym there ∙ at)).0 in
          rw (who, number, same_number i, same_number (queues.queue_of shape m)) (omega arith)
      | inr e ↦ some_with_one_more (share == i && queues.queue_of shape member == queues.queue_of shape m) _ (piece_taken queues members m i shape earlier all.1 at (rw e at piece))
    ]
piece_taken queues members m i shape (Drained share member ∷ earlier) all at piece =
    elim (cases_Bool (member == m)) [
      | inl e ↦ absurd (let none = rw e at piece in cc)
      | inr e ↦ piece_taken queues members m i shape earlier all.1 at (rw e at piece)
    ]
piece_taken queues members m i shape (End share member ∷ earlier) all at piece =
    elim (cases_Bool (member == m)) [
      | inl e ↦ absurd (let none = rw e at at in cc)
      | inr e ↦ piece_taken queues members m i shape earlier all.1 (rw e at at) piece
    ]
piece_taken queues members m i shape (_ ∷ earlier) all at piece = piece_taken queues members m i shape earlier all.1 at piece

pub one_only : (trips taken : ℕ) → 0 < taken → slice_get (whole_piece trips) taken ≡ None
one_only zero taken lt = refl
one_only (suc most) zero lt = absurd (omega arith)
one_only (suc most) (suc taken) lt = refl

pub single_is_done : (members m i : ℕ) (shape : Shape) (h : List Event) → Always (ShareRule (schedule members) members) h → open_share m h ≡ Some (i, shape) → is_single shape.kind ≡ true → is_some (last_piece m h) ≡ true →
    next_for (schedule members) shape i m h ≡ None
single_is_done members m i shape h all at single piece = by_kind shape.kind refl
  where
    by_kind : (kind : ShareKind) → shape.kind ≡ kind → next_for (schedule members) shape i m h ≡ None
    by_kind kinds.Single e = let some = piece_taken (schedule members) members m i shape h all at piece in rw e (one_only shape.trips _ (rw e at some))
    by_kind kinds.SingleCopy e = let some = piece_taken (schedule members) members m i shape h all at piece in rw e (one_only shape.trips _ (rw e at some))
    by_kind kinds.StaticChunked e = absurd (let no = rw e at single in cc)
    by_kind kinds.StaticEven e = absurd (let no = rw e at single in cc)
    by_kind kinds.Dynamic e = absurd (let no = rw e at single in cc)
    by_kind kinds.Guided e = absurd (let no = rw e at single in cc)
    by_kind kinds.Sections e = absurd (let no = rw e at single in cc)
