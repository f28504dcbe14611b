-- A single has one piece: who is given it executes, and who is given none does not.
use Rattle.std.proofs.Common.{◌≡◌, ℕ, ◌<◌, zero, suc, Bool, true, false, List, ◌∷◌, Option, Some, None, slice_get, refl, ap, ◌∙◌, sym, arith}
use Rattle.std.specs.Prelude.{is_some, nat_lt, ◌||◌, ◌&&◌}
use Rattle.std.proofs.lemmas.Bool.Decides.{nat_tests}
use Rattle.gomp_types.specs.declared.reply.Reply.TheVariants.{Executor, Copied}
use Rattle.gomp_types.specs.declared.shape.ShareKind.TheVariants as kinds
use Rattle.gomp_types.specs.declared.shape.Shape.{Shape}
use Rattle.gomp_events.specs.declared.seen.Seen.{Seen}
use Rattle.gomp_events.specs.declared.event.Event.{Event}
use Rattle.gomp_events.specs.declared.event.Event.TheVariants.{Enter, Got}
use Rattle.gomp_types.specs.Pieces.{Piece, whole_piece}
use Rattle.gomp_types.specs.Singles.{single_shape}
use Rattle.gomp_types.specs.Deals.{schedule}
use Rattle.gomp_events.specs.Takes.{next_for}
use Rattle.gomp_types.specs.Shapes.{is_copy, is_single}
use Rattle.gomp_events.specs.Events.{shares_entered, open_share, in_kind, has_drained, last_piece}
use Rattle.gomp_types.specs.Least.{least}
use Rattle.gomp_events.specs.Cancels.{leaves_share}
use Rattle.gomp_events.specs.Seen.{seen_of}
use Rattle.gomp_shares.specs.Calls.{Claims, CanLeave, events_claimed, events_left, is_done, taken_of, was_taken}
use Rattle.gomp_shares.specs.Singles.{DealsSingle, single_started, copy_started, is_executor, put_tests}
use Rattle.gomp_types.proofs.Booleans.{or_left, same_number, not_false, and_left, and_right, copy_is_single}
use Rattle.gomp_types.proofs.LeastTests.{all_fail}
use Rattle.gomp_shares.proofs.PartsKeep.{copy_away}
use Rattle.gomp_sections.proofs.Tests.{claim_entered}
use Rattle.gomp_shares.proofs.Admitted.{PartInLoop, in_no_part, in_some_share}

-- what was given is what was there before the share was entered
pub single_least : (members m i : ℕ) (copies : Bool) (answer : Option Piece) (h : List Event) → Claims members m answer (Enter i m (single_shape copies) ∷ h) →
    next_for (schedule members) (single_shape copies) i m h ≡ answer
single_least members m i true answer h claims =
    sym (claims.least ∙ ap (λ (p : ℕ × Shape). next_for (schedule members) p.1 p.0 m (Enter i m (single_shape true) ∷ h)) (claim_entered members m i (single_shape true) answer h claims))
single_least members m i false answer h claims =
    sym (claims.least ∙ ap (λ (p : ℕ × Shape). next_for (schedule members) p.1 p.0 m (Enter i m (single_shape false) ∷ h)) (claim_entered members m i (single_shape false) answer h claims))

-- the one piece
the_piece : (n : ℕ) (piece : Piece) → slice_get (whole_piece 1) n ≡ Some piece → piece ≡ (0, 1)
the_piece zero piece e = let t = e in cc
the_piece (suc n) piece e = absurd (cc)

single_is : (members m i : ℕ) (copies : Bool) (piece : Piece) (h : List Event) → Claims members m (Some piece) (Enter i m (single_shape copies) ∷ h) → piece ≡ (0, 1)
single_is members m i true piece h claims = the_piece (taken_of i h) piece (single_least members m i true (Some piece) h claims)
single_is members m i false piece h claims = the_piece (taken_of i h) piece (single_least members m i false (Some piece) h claims)

-- none is given only if some member took it
taken_where_none : (n : ℕ) → slice_get (whole_piece 1) n ≡ None → nat_lt 0 n ≡ true
taken_where_none zero e = absurd (cc)
taken_where_none (suc n) e = grind (arith, nat_tests)

pub not_given : (members m i : ℕ) (answer : Option Piece) (h : List Event) → Claims members m answer (Enter i m (single_shape true) ∷ h) → false ≡ is_some answer → false ≡ was_taken i h → ⊥
not_given members m i (Some piece) h claims none untaken = absurd (cc)
not_given members m i None h claims none untaken =
    let was = taken_where_none (taken_of i h) (single_least members m i true None h claims) in
    let both : false ≡ true = untaken ∙ was in absurd (cc)

-- Leaving

pub may_leave : (members m i : ℕ) (copies : Bool) (answer : Option Piece) (seen : Seen) (h : List Event) → seen ≡ seen_of m (events_claimed m answer (Enter i m (single_shape copies) ∷ h)) → m < members → CanLeave members m seen
may_leave members m i copies answer seen h e lt = record {
  member = lt;
  inside = rw e (inside answer);
  done = rw e (or_left _ _ (done copies answer));
  apart = rw e (apart answer);
}
  where
    inside : (answer : Option Piece) → is_some (seen_of m (events_claimed m answer (Enter i m (single_shape copies) ∷ h))).current ≡ true
    inside None = rw (same_number m) refl
    inside (Some piece) = rw (same_number m) refl

    apart : (answer : Option Piece) → (seen_of m (events_claimed m answer (Enter i m (single_shape copies) ∷ h))).in_part ≡ false
    apart None = rw (same_number m) refl
    apart (Some piece) = rw (same_number m) refl

    done : (copies : Bool) (answer : Option Piece) → is_done (seen_of m (events_claimed m answer (Enter i m (single_shape copies) ∷ h))) ≡ true
    done copies None = rw (same_number m) refl
    done true (Some piece) = rw (same_number m) refl
    done false (Some piece) = rw (same_number m) refl

-- Without words

pub single_dealt : (members m i : ℕ) (answer : Option Piece) (h : List Event) → Claims members m answer (Enter i m (single_shape false) ∷ h) → DealsSingle members m (Some (i, single_shape false)) (Executor (is_some answer)) h
single_dealt members m i None h claims = single_least members m i false None h claims
single_dealt members m i (Some piece) h claims = single_least members m i false (Some piece) h claims ∙ ap (λ (p : Piece). Some p) (single_is members m i false piece h claims)

pub single_adds : (members m : ℕ) (answer : Option Piece) (h : List Event) → Claims members m answer (Enter (shares_entered m h) m (single_shape false) ∷ h) →
    single_started m (Executor (is_some answer)) h ≡ events_left m (events_claimed m answer (Enter (shares_entered m h) m (single_shape false) ∷ h))
single_adds members m None h claims = rw (same_number m) refl
single_adds members m (Some piece) h claims = rw (single_is members m (shares_entered m h) false piece h claims, same_number m) refl

-- With words for the others

pub given_no_piece : (answer : Option Piece) → false ≡ is_some answer → answer ≡ None
given_no_piece None e = refl
given_no_piece (Some piece) e = absurd (cc)

-- who is given the piece executes it, and is in the single
pub copy_dealt : (members m i : ℕ) (answer : Option Piece) (h : List Event) → true ≡ is_some answer → Claims members m answer (Enter i m (single_shape true) ∷ h) → next_for (schedule members) (single_shape true) i m h ≡ Some (0, 1)
copy_dealt members m i None h some claims = absurd (cc)
copy_dealt members m i (Some piece) h some claims = single_least members m i true (Some piece) h claims ∙ ap (λ (p : Piece). Some p) (single_is members m i true piece h claims)

pub executor_adds : (members m : ℕ) (answer : Option Piece) (h : List Event) → true ≡ is_some answer → Claims members m answer (Enter (shares_entered m h) m (single_shape true) ∷ h) →
    copy_started m (Executor true) h ≡ events_claimed m answer (Enter (shares_entered m h) m (single_shape true) ∷ h)
executor_adds members m None h some claims = absurd (cc)
executor_adds members m (Some piece) h some claims = rw (single_is members m (shares_entered m h) true piece h claims, same_number m) refl

-- who is given none is given the words, and has left it
pub copy_adds : (m : ℕ) (words : List ℕ) (answer : Option Piece) (h : List Event) → false ≡ is_some answer →
    copy_started m (Copied words) h ≡ events_left m (Got (shares_entered m h) m words ∷ events_claimed m answer (Enter (shares_entered m h) m (single_shape true) ∷ h))
copy_adds m words None h e = rw (same_number m) refl
copy_adds m words (Some piece) h e = absurd (cc)

-- The end

in_copy : (own : Option (ℕ × Shape)) → in_kind is_copy own ≡ true → in_kind is_single own ≡ true
in_copy None e = absurd (cc)
in_copy (Some share) e = copy_is_single share.1.kind e

done_or : (drained inside some : Bool) → inside ≡ true → some ≡ true → (drained || inside && some) ≡ true
done_or true inside some e one = refl
done_or false inside some e one = rw (e, one) refl

-- who executes took the piece, and may leave: it is in no ordered part, since a single has none
pub copy_may_leave : (members m : ℕ) (seen : Seen) (h : List Event) → m < members → seen ≡ seen_of m h → PartInLoop m h → least (put_tests (seen_of m h)) ≡ None → CanLeave members m seen
copy_may_leave members m seen h lt e law none =
    let tests = all_fail (put_tests (seen_of m h)) none in
    let executes = not_false (is_executor (seen_of m h)) tests.0 in
    let copies = and_left (in_kind is_copy (open_share m h)) (is_some (last_piece m h)) executes in
    let piece = and_right (in_kind is_copy (open_share m h)) (is_some (last_piece m h)) executes in
    record {
      member = lt;
      inside = rw e (in_some_share is_copy (open_share m h) copies);
      done = rw e (or_left _ (leaves_share m h) (done_or (has_drained m h) (in_kind is_single (open_share m h)) (is_some (last_piece m h)) (in_copy (open_share m h) copies) piece));
      apart = rw e (in_no_part m h law (copy_away (open_share m h) copies));
    }
