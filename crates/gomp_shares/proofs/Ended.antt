-- How a loop or a sections construct is ended, and a cancelled one seen: from what its member sees to what it may do, and which events that gives.
use Rattle.std.proofs.Common.{◌≡◌, ℕ, Bool, true, false, List, [], ◌∷◌, ◌++◌, Option, Some, None, refl, ap, inl, inr}
use Rattle.std.specs.Prelude.{◌&&◌, ◌||◌, not, is_some, if◌then◌else◌}
use Rattle.std.proofs.lemmas.Bool.{cases_Bool}
use Rattle.gomp_types.specs.declared.cancel.CancelKind.TheVariants.{Loop, Sections}
use Rattle.gomp_types.specs.declared.shape.Shape.{Shape}
use Rattle.gomp_events.specs.declared.seen.Seen.{Seen}
use Rattle.gomp_events.specs.declared.event.Event.{Event}
use Rattle.gomp_events.specs.declared.event.Event.TheVariants.{See}
use Rattle.gomp_types.specs.Shapes.{is_sections, is_single}
use Rattle.gomp_events.specs.Events.{open_share, has_drained, in_kind}
use Rattle.gomp_events.specs.Cancels.{same_cancel, own_cancelled, leaves_share}
use Rattle.gomp_events.specs.Seen.{seen_of}
use Rattle.gomp_types.proofs.Booleans.{same_number, and_false, or_tells, or_left, or_right}
use Rattle.gomp_shares.specs.Calls.{in_construct, kind_in, events_seen, events_left, is_done, CanEnd, CanLeave}
use Rattle.gomp_types.specs.declared.refusal.Refusal.TheVariants.{NotDrained}
use Rattle.gomp_types.specs.Deals.{Queues}
use Rattle.gomp_events.specs.Laws.{Always}
use Rattle.gomp_types.specs.Least.{least}
use Rattle.gomp_shares.specs.Rules.{ShareRule}
use Rattle.gomp_shares.specs.Starts.{is_drained, drained_tests, sees_at_end, leaves}
use Rattle.gomp_shares.proofs.CancelledShares.{leaving_is_cancelled}

-- what is seen of the share that a member is in names a loop or sections
pub names_a_construct : (own : Option (ℕ × Shape)) → (same_cancel (kind_in own) Loop || same_cancel (kind_in own) Sections) ≡ true
names_a_construct own = elim (cases_Bool (in_kind is_sections own)) [ inl e ↦ rw e refl | inr e ↦ rw e refl ]

-- so its member leaves it then
pub leaves_after_seeing : (m : ℕ) (h : List Event) → leaves_share m (events_seen m h) ≡ true
leaves_after_seeing m h = rw (same_number m, names_a_construct (open_share m h)) refl

construct_is_some : (own : Option (ℕ × Shape)) → in_construct own ≡ true → is_some own ≡ true
construct_is_some None e = absurd (cc)
construct_is_some (Some share) e = refl

-- a member that has just seen that its construct is cancelled may leave it
pub free_after_seeing : (members m : ℕ) (h : List Event) → CanEnd members m (seen_of m h) → CanLeave members m (seen_of m (events_seen m h))
free_after_seeing members m h can = record {
  member = can.member;
  inside = construct_is_some (open_share m h) can.inside;
  done = or_right (is_done (seen_of m (events_seen m h))) (leaves_share m (events_seen m h)) (leaves_after_seeing m h);
  apart = can.apart;
}

-- and so may one that was told that nothing is left, or has seen that before
pub free_before : (members m : ℕ) (seen : Seen) → CanEnd members m seen → (seen.drained || seen.leaving) ≡ true → CanLeave members m seen
free_before members m seen can told = record {
  member = can.member;
  inside = construct_is_some seen.current can.inside;
  done = elim (or_tells seen.drained seen.leaving told) [
    | inl drained ↦ or_left (is_done seen) seen.leaving (or_left seen.drained (in_kind is_single seen.current && is_some seen.piece) drained)
    | inr leaving ↦ or_right (is_done seen) seen.leaving leaving
  ];
  apart = can.apart;
}

-- a construct that is drained is cancelled if its member was not told that nothing is left
pub drained_or_cancelled : (m : ℕ) (h : List Event) → is_drained m h ≡ true → (has_drained m h || leaves_share m h) ≡ false → own_cancelled m h ≡ true
drained_or_cancelled m h drained told =
    elim (or_tells (has_drained m h) (own_cancelled m h) drained) [
      | inl is ↦ absurd (let no : (has_drained m h || leaves_share m h) ≡ true = or_left (has_drained m h) (leaves_share m h) is in cc)
      | inr cancelled ↦ cancelled
    ]

-- so of a construct that may be ended its member sees that, unless it was told or has seen that before
pub seen_unless_told : (m : ℕ) (h : List Event) → is_drained m h ≡ true → sees_at_end m h ≡ (if has_drained m h || leaves_share m h then [] else See m (kind_in (open_share m h)) ∷ [])
seen_unless_told m h drained =
    elim (cases_Bool (has_drained m h || leaves_share m h)) [
      | inl told ↦ rw (and_false (own_cancelled m h) (not (has_drained m h || leaves_share m h)) (ap not told), told) refl
      | inr untold ↦ rw (drained_or_cancelled m h drained untold, untold) refl
    ]

-- the events of the end, seen first or not
pub leaves_unseen : (m : ℕ) (h : List Event) → is_drained m h ≡ true → (has_drained m h || leaves_share m h) ≡ false → leaves m h ++ h ≡ events_left m (events_seen m h)
leaves_unseen m h drained told = rw (drained_or_cancelled m h drained told, told) refl

pub leaves_seen : (m : ℕ) (h : List Event) → (has_drained m h || leaves_share m h) ≡ true → leaves m h ++ h ≡ events_left m h
leaves_seen m h told = rw (and_false (own_cancelled m h) (not (has_drained m h || leaves_share m h)) (ap not told)) refl

-- a member that was told so, or has seen so, is in a construct that is drained
pub told_is_drained : (queues : Queues) (members m : ℕ) (h : List Event) → Always (ShareRule queues members) h → (has_drained m h || leaves_share m h) ≡ true → is_drained m h ≡ true
told_is_drained queues members m h all told =
    elim (or_tells (has_drained m h) (leaves_share m h) told) [
      | inl is ↦ or_left (has_drained m h) (own_cancelled m h) is
      | inr leaving ↦ or_right (has_drained m h) (own_cancelled m h) (leaving_is_cancelled queues members m h all leaving)
    ]

-- one that was neither, in a construct that is not cancelled, is not
pub untold_is_not_drained : (m : ℕ) (h : List Event) → (has_drained m h || leaves_share m h) ≡ false → own_cancelled m h ≡ false → Some NotDrained ≡ least (drained_tests m h)
untold_is_not_drained m h told whole = rw (first_false (has_drained m h) (leaves_share m h) told, whole) refl
  where
    first_false : (a b : Bool) → (a || b) ≡ false → a ≡ false
    first_false true b e = absurd (cc)
    first_false false b e = refl
