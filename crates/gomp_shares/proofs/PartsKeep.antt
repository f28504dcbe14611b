-- A member that is in an ordered part is in an ordered loop, and the part that it may begin lies in its piece.
use Rattle.std.proofs.Common.{◌≡◌, ℕ, ◌<◌, ◌≤◌, Bool, true, false, List, [], ◌∷◌, Option, Some, None, refl, arith, inl, inr}
use Rattle.std.specs.Prelude.{ℤ, pos, ◌==◌, ◌&&◌, nat_le, nat_lt, if◌then◌else◌}
use Rattle.std.specs.Ordering.{int_eq}
use Rattle.std.proofs.lemmas.Bool.Decides.{nat_tests}
use Rattle.std.proofs.lemmas.Bool.{cases_Bool}
use Rattle.gomp_types.specs.declared.shape.Shape.{Shape}
use Rattle.gomp_types.specs.declared.shape.ShareKind.{ShareKind}
use Rattle.gomp_types.specs.declared.shape.ShareKind.TheVariants as kinds
use Rattle.gomp_types.specs.declared.loop_desc.Sched.{Sched}
use Rattle.gomp_types.specs.declared.loop_desc.Sched.TheVariants.{Static, Guided}
use Rattle.gomp_events.specs.declared.event.Event.{Event}
use Rattle.gomp_events.specs.declared.event.Event.TheVariants.{Enter, End, Part, PartEnd}
use Rattle.gomp_types.specs.Shapes.{is_loop, is_sections, is_single, is_copy}
use Rattle.gomp_types.specs.Pieces.{Piece, share_kind_of}
use Rattle.gomp_types.specs.Values.{value_at, iteration_at, iteration_of}
use Rattle.gomp_events.specs.Events.{open_share, in_kind, in_part}
use Rattle.gomp_types.specs.Pieces.{has_iteration}
use Rattle.gomp_events.specs.Ordered.{is_in_rest}
use Rattle.gomp_types.specs.Deals.{Queues}
use Rattle.gomp_events.specs.Laws.{Always}
use Rattle.gomp_shares.specs.Rules.{ShareRule}
use Rattle.gomp_types.proofs.Booleans.{which_branch, is_equal, share_is, and_left, and_right, not_both}
use Rattle.gomp_types.proofs.LeastTests.{at_most}

-- What is ordered is a loop

pub loop_is_loop : (sched : Sched) (chunk : ℤ) → is_loop (share_kind_of sched chunk) ≡ true
loop_is_loop Static chunk = elim (cases_Bool (int_eq chunk (pos 0))) [ inl e ↦ rw e refl | inr e ↦ rw e refl ]
loop_is_loop Guided chunk = refl
loop_is_loop _ chunk = refl

pub ordered_loop : (queues : Queues) (members m i : ℕ) (shape : Shape) (h : List Event) → Always (ShareRule queues members) h → open_share m h ≡ Some (i, shape) → shape.ordered ≡ true → is_loop shape.kind ≡ true
ordered_loop queues members m i shape [] all at ordered = absurd (cc)
ordered_loop queues members m i shape (Enter share member other ∷ earlier) all at ordered =
    elim (which_branch (member == m) (Some (share, other)) (open_share m earlier) (Some (i, shape)) at) [
      | inl e ↦ let same : other ≡ shape = (share_is share i other shape e.1).1 in (rw same at all.0.ordered) ordered
      | inr e ↦ ordered_loop queues members m i shape earlier all.1 e.1 ordered
    ]
ordered_loop queues members m i shape (End share member ∷ earlier) all at ordered =
    elim (which_branch (member == m) None (open_share m earlier) (Some (i, shape)) at) [
      | inl e ↦ absurd (cc)
      | inr e ↦ ordered_loop queues members m i shape earlier all.1 e.1 ordered
    ]
ordered_loop queues members m i shape (_ ∷ earlier) all at ordered = ordered_loop queues members m i shape earlier all.1 at ordered

-- a member in an ordered part is in a loop
pub parts_in_loop : (queues : Queues) (members m : ℕ) (h : List Event) → Always (ShareRule queues members) h → in_part m h ≡ true → in_kind is_loop (open_share m h) ≡ true
parts_in_loop queues members m [] all within = absurd (cc)
parts_in_loop queues members m (Enter share member shape ∷ earlier) all within =
    elim (cases_Bool (member == m)) [
      | inl e ↦ absurd (let no = rw e at within in cc)
      | inr e ↦ rw e (parts_in_loop queues members m earlier all.1 (rw e at within))
    ]
parts_in_loop queues members m (End share member ∷ earlier) all within =
    elim (cases_Bool (member == m)) [
      | inl e ↦ absurd (not_both (in_part m earlier) within (rw (is_equal member m e) at all.0.apart))
      | inr e ↦ rw e (parts_in_loop queues members m earlier all.1 within)
    ]
parts_in_loop queues members m (Part share member iteration ∷ earlier) all within =
    elim (cases_Bool (member == m)) [
      | inl e ↦
          let there : open_share m earlier ≡ Some (share, all.0.shape) = rw (← is_equal member m e) all.0.inside in
          rw there (ordered_loop queues members m share all.0.shape earlier all.1 there all.0.ordered)
      | inr e ↦ parts_in_loop queues members m earlier all.1 (rw e at within)
    ]
parts_in_loop queues members m (PartEnd share member ∷ earlier) all within =
    elim (cases_Bool (member == m)) [
      | inl e ↦ absurd (let no = rw e at within in cc)
      | inr e ↦ parts_in_loop queues members m earlier all.1 (rw e at within)
    ]
parts_in_loop queues members m (_ ∷ earlier) all within = parts_in_loop queues members m earlier all.1 within

-- so one that is in none is in no part
pub apart_by : (queues : Queues) (members m : ℕ) (h : List Event) → Always (ShareRule queues members) h → in_kind is_loop (open_share m h) ≡ false → in_part m h ≡ false
apart_by queues members m h all away =
    elim (cases_Bool (in_part m h)) [
      | inl e ↦ absurd (not_both (in_kind is_loop (open_share m h)) (parts_in_loop queues members m h all e) away)
      | inr e ↦ e
    ]

no_sections_loop : (kind : ShareKind) → is_sections kind ≡ true → is_loop kind ≡ false
no_sections_loop kinds.Sections e = refl
no_sections_loop _ e = absurd (cc)

no_copy_loop : (kind : ShareKind) → is_copy kind ≡ true → is_loop kind ≡ false
no_copy_loop kinds.SingleCopy e = refl
no_copy_loop _ e = absurd (cc)

pub no_single_loop : (kind : ShareKind) → is_single kind ≡ true → is_loop kind ≡ false
no_single_loop kinds.Single e = refl
no_single_loop kinds.SingleCopy e = refl
no_single_loop _ e = absurd (cc)

pub sections_away : (own : Option (ℕ × Shape)) → in_kind is_sections own ≡ true → in_kind is_loop own ≡ false
sections_away None e = refl
sections_away (Some share) e = no_sections_loop share.1.kind e

pub copy_away : (own : Option (ℕ × Shape)) → in_kind is_copy own ≡ true → in_kind is_loop own ≡ false
copy_away None e = refl
copy_away (Some share) e = no_copy_loop share.1.kind e

-- The part that comes next

-- an iteration of the piece, after those whose parts were begun
pub record InRest (own : Option Piece) (after k : ℕ) : Type 0 where
  pub low : ℕ
  pub high : ℕ
  pub piece : own ≡ Some (low, high)
  pub from : low ≤ k
  pub before : k < high
  pub past : after ≤ k

below_by_test : (a b : ℕ) → nat_lt a b ≡ true → a < b
below_by_test a b e = grind (arith, nat_tests)

in_rest : (own : Option Piece) (after k : ℕ) (is : Bool) → is_in_rest own after (if is then Some k else None) ≡ true → InRest own after k
in_rest None after k true e = absurd (cc)
in_rest None after k false e = absurd (cc)
in_rest (Some piece) after k false e = absurd (cc)
in_rest (Some piece) after k true e =
    let has = and_left (has_iteration k piece.0 piece.1) (nat_le after k) e in
    record {
      low = piece.0;
      high = piece.1;
      piece = refl;
      from = at_most piece.0 k (and_left (nat_le piece.0 k) (nat_lt k piece.1) has);
      before = below_by_test k piece.1 (and_right (nat_le piece.0 k) (nat_lt k piece.1) has);
      past = at_most after k (and_right (has_iteration k piece.0 piece.1) (nat_le after k) e);
    }

-- and so for a value
pub value_in_rest : (shape : Shape) (own : Option Piece) (after : ℕ) (value : ℤ) → is_in_rest own after (iteration_of shape value) ≡ true → InRest own after (iteration_at shape value)
value_in_rest shape own after value e =
    in_rest own after (iteration_at shape value) (nat_lt (iteration_at shape value) shape.trips && int_eq (value_at shape (iteration_at shape value)) value) e

in_loop_found : (own : Option (ℕ × Shape)) → in_kind is_loop own ≡ true → (i : ℕ) × (shape : Shape) × (own ≡ Some (i, shape)) × (is_loop shape.kind ≡ true)
in_loop_found None e = absurd (cc)
in_loop_found (Some share) e = (share.0, share.1, refl, e)

pub part_inside : (queues : Queues) (members m : ℕ) (h : List Event) → Always (ShareRule queues members) h → in_part m h ≡ true →
    (i : ℕ) × (shape : Shape) × (open_share m h ≡ Some (i, shape)) × (is_loop shape.kind ≡ true)
part_inside queues members m h all within = in_loop_found (open_share m h) (parts_in_loop queues members m h all within)
