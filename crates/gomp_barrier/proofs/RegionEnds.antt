-- Where a member stands, by the rule of arrivals alone: whether it waits at a barrier, and whether it has come to the region's end.
use Rattle.std.proofs.Common.{◌≡◌, ℕ, ◌≤◌, true, false, List, [], ◌∷◌, Some, None, refl, ap, subst, arith, inl, inr}
use Rattle.std.specs.Prelude.{◌==◌, ◌&&◌, Option, is_some}
use Rattle.std.proofs.lemmas.Bool.{cases_Bool}
use Rattle.gomp_events.specs.declared.event.Tag.{Tag}
use Rattle.gomp_events.specs.declared.event.Event.{Event}
use Rattle.gomp_events.specs.declared.event.Event.TheVariants.{Arrive, Pass, Cancel}
use Rattle.gomp_events.specs.Cancels.{is_cancelled}
use Rattle.gomp_events.specs.Events.{barriers_passed, arrival, tag_at, at_barrier, is_region_end, at_region_end}
use Rattle.gomp_events.specs.Laws.{Always}
use Rattle.gomp_events.specs.Arrivals.{ArrivalRule}
use Rattle.gomp_events.proofs.ArrivalsKeep.{uncancelled_before, same_arrivals}
use Rattle.gomp_events.proofs.EndsPassed.{none_beyond}
use Rattle.gomp_types.proofs.Booleans.{which_branch, and_left, and_right, and_false, or_tells, or_right, is_equal, same_number}

-- a later arrival has the barrier's tag, while the region is not cancelled
tag_kept : (members g : ℕ) (tag : Tag) (barrier member : ℕ) (other : Tag) (earlier : List Event) → is_cancelled earlier ≡ false → ArrivalRule members (Arrive barrier member other) earlier → tag_at g earlier ≡ Some tag → tag_at g (Arrive barrier member other ∷ earlier) ≡ Some tag
tag_kept members g tag barrier member other earlier whole rule at =
    elim (cases_Bool (barrier == g)) [
      | inl here ↦ rw here (let same : tag ≡ other = rule.same whole tag (rw (is_equal barrier g here) at) in rw same refl)
      | inr away ↦ rw away at
    ]

-- so every arrival has it
arrival_tag : (members g m : ℕ) (tag : Tag) (h : List Event) → is_cancelled h ≡ false → Always (ArrivalRule members) h → arrival g m h ≡ Some tag → tag_at g h ≡ Some tag
arrival_tag members g m tag [] whole all at = absurd (cc)
arrival_tag members g m tag (Arrive barrier member other ∷ earlier) whole all at =
    elim (which_branch (barrier == g && member == m) (Some other) (arrival g m earlier) (Some tag) at) [
      | inl own ↦ rw (and_left (barrier == g) (member == m) own.0) own.1
      | inr old ↦ tag_kept members g tag barrier member other earlier whole all.0 (arrival_tag members g m tag earlier whole all.1 old.1)
    ]
arrival_tag members g m tag (Cancel member scope ∷ earlier) whole all at = arrival_tag members g m tag earlier (uncancelled_before (Cancel member scope) earlier whole) all.1 at
arrival_tag members g m tag (_ ∷ earlier) whole all at = arrival_tag members g m tag earlier whole all.1 at

-- what an arrival at the next barrier is, and none is at the one after it
arrival_now : (members m barrier member : ℕ) (tag : Tag) (h : List Event) → ArrivalRule members (Arrive barrier member tag) h → (member == m) ≡ true → arrival (barriers_passed m h) m (Arrive barrier member tag ∷ h) ≡ Some tag
arrival_now members m barrier member tag h rule who =
    let number : barrier ≡ barriers_passed m h = subst (λ (k : ℕ). barrier ≡ barriers_passed k h) (is_equal member m who) rule.number in
    rw (← number, same_number barrier, who) refl

arrival_then : (members m barrier member : ℕ) (h : List Event) → Always (ArrivalRule members) h → (member == m) ≡ true → arrival (barriers_passed m (Pass barrier member ∷ h)) m h ≡ None
arrival_then members m barrier member h all who = none_beyond (barriers_passed m (Pass barrier member ∷ h)) m h (same_arrivals members h all).one_by_one (rw who (omega arith))

arrival_as_before : (m barrier member : ℕ) (h : List Event) → (member == m) ≡ false → arrival (barriers_passed m (Pass barrier member ∷ h)) m h ≡ arrival (barriers_passed m h) m h
arrival_as_before m barrier member h other = ap (λ (n : ℕ). arrival n m h) (let e : barriers_passed m (Pass barrier member ∷ h) ≡ barriers_passed m h = rw other refl in e)

arrival_of_another : (g m barrier member : ℕ) (tag : Tag) (h : List Event) → (member == m) ≡ false → arrival g m (Arrive barrier member tag ∷ h) ≡ arrival g m h
arrival_of_another g m barrier member tag h other = rw (and_false (barrier == g) (member == m) other) refl

-- a member waits at a barrier exactly if it has arrived at its next one
pub waits_there : (members m : ℕ) (h : List Event) → Always (ArrivalRule members) h → at_barrier m h ≡ is_some (arrival (barriers_passed m h) m h)
waits_there members m [] all = refl
waits_there members m (Arrive barrier member tag ∷ earlier) all =
    elim (cases_Bool (member == m)) [
      | inl who ↦ rw (arrival_now members m barrier member tag earlier all.0 who, who) refl
      | inr other ↦ rw (arrival_of_another (barriers_passed m earlier) m barrier member tag earlier other, other) (waits_there members m earlier all.1)
    ]
waits_there members m (Pass barrier member ∷ earlier) all =
    elim (cases_Bool (member == m)) [
      | inl who ↦ rw (arrival_then members m barrier member earlier all.1 who, who) refl
      | inr other ↦ rw (arrival_as_before m barrier member earlier other, other) (waits_there members m earlier all.1)
    ]
waits_there members m (_ ∷ earlier) all = waits_there members m earlier all.1

-- who has arrived at the region's end did so at a barrier that it passed, or at its next one
record EndsAt (g m : ℕ) (tag : Tag) (h : List Event) : Type 0 where
  here : tag_at g h ≡ Some tag
  ends : is_region_end tag.kind ≡ true
  near : g ≤ barriers_passed m h

end_barrier : (members m : ℕ) (h : List Event) → is_cancelled h ≡ false → Always (ArrivalRule members) h → at_region_end m h ≡ true → (g : ℕ) × (tag : Tag) × EndsAt g m tag h
end_barrier members m [] whole all e = absurd (cc)
end_barrier members m (Arrive barrier member tag ∷ earlier) whole all e =
    elim (or_tells (member == m && is_region_end tag.kind) (at_region_end m earlier) e) [
      | inl own ↦ (
        barrier,
        tag,
        record {
          here = rw (same_number barrier) refl;
          ends = and_right (member == m) (is_region_end tag.kind) own;
          near = let number : barrier ≡ barriers_passed m earlier = subst (λ (k : ℕ). barrier ≡ barriers_passed k earlier) (is_equal member m (and_left (member == m) (is_region_end tag.kind) own)) all.0.number in omega (arith, number);
        },
      )
      | inr old ↦ let (g, first, was) = end_barrier members m earlier whole all.1 old in
          (g, first, record { here = tag_kept members g first barrier member tag earlier whole all.0 was.here; ends = was.ends; near = was.near })
    ]
end_barrier members m (Pass barrier member ∷ earlier) whole all e =
    let (g, tag, was) = end_barrier members m earlier whole all.1 e in
    (g, tag, record { here = was.here; ends = was.ends; near = elim (cases_Bool (member == m)) [ inl who ↦ rw who (let le = was.near in omega (arith, le)) | inr other ↦ rw other was.near ] })
end_barrier members m (Cancel member scope ∷ earlier) whole all e =
    let (g, tag, was) = end_barrier members m earlier (uncancelled_before (Cancel member scope) earlier whole) all.1 e in
    (g, tag, record { here = was.here; ends = was.ends; near = was.near })
end_barrier members m (_ ∷ earlier) whole all e =
    let (g, tag, was) = end_barrier members m earlier whole all.1 e in
    (g, tag, record { here = was.here; ends = was.ends; near = was.near })

-- who arrived at some barrier with such a tag has arrived at the region's end
ended_at : (g m : ℕ) (tag : Tag) (h : List Event) → arrival g m h ≡ Some tag → is_region_end tag.kind ≡ true → at_region_end m h ≡ true
ended_at g m tag [] at ends = absurd (cc)
ended_at g m tag (Arrive barrier member other ∷ earlier) at ends =
    elim (which_branch (barrier == g && member == m) (Some other) (arrival g m earlier) (Some tag) at) [
      | inl own ↦
          let same : other ≡ tag = let e = own.1 in cc in
          rw (and_right (barrier == g) (member == m) own.0, same, ends) refl
      | inr old ↦ or_right (member == m && is_region_end other.kind) (at_region_end m earlier) (ended_at g m tag earlier old.1 ends)
    ]
ended_at g m tag (_ ∷ earlier) at ends = ended_at g m tag earlier at ends

-- who has arrived at every barrier up to the next of a member that has come to the region's end has come there too, while the region is not cancelled
pub others_end : (members m x : ℕ) (h : List Event) → is_cancelled h ≡ false → Always (ArrivalRule members) h → ((g : ℕ) → g ≤ barriers_passed m h → is_some (arrival g x h) ≡ true) → at_region_end m h ≡ true → at_region_end x h ≡ true
others_end members m x h whole all arrived e =
    let (g, tag, is) = end_barrier members m h whole all e in
    by g tag is (arrival g x h) refl (arrived g is.near)
  where
    by : (g : ℕ) (tag : Tag) → EndsAt g m tag h → (own : Option Tag) → arrival g x h ≡ own → is_some own ≡ true → at_region_end x h ≡ true
    by g tag is None at some = absurd (cc)
    by g tag is (Some other) at some =
        let there = arrival_tag members g x other h whole all at in
        let same : tag ≡ other = let here = is.here in cc in
        ended_at g x other h at (rw (← same) is.ends)
