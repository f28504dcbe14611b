-- A member that has arrived at the region's end passes nothing but that end: so it has left the region exactly if it passed a barrier at which it had arrived with the tag of the end.
use Rattle.std.proofs.Common.{◌≡◌, ℕ, ◌+◌, ◌<◌, Bool, true, false, List, [], ◌∷◌, Option, Some, None, refl, ap, ◌∙◌, subst, arith, inl, inr}
use Rattle.std.specs.Prelude.{◌&&◌, ◌||◌, ◌==◌}
use Rattle.std.proofs.lemmas.Bool.{cases_Bool}
use Rattle.gomp_events.specs.declared.event.Tag.{Tag}
use Rattle.gomp_events.specs.declared.event.Event.{Event}
use Rattle.gomp_events.specs.declared.event.Event.TheVariants.{Arrive, Pass}
use Rattle.gomp_events.specs.declared.event.Arrival.TheVariants.{RegionEnd}
use Rattle.gomp_events.specs.Events.{barriers_passed, arrival, at_barrier, is_region_end, was_region_end, at_region_end, has_left_region}
use Rattle.gomp_events.specs.Cancels.{is_cancelled}
use Rattle.gomp_events.specs.Laws.{Always, Happened}
use Rattle.gomp_events.specs.Arrivals.{BarriersOneByOne, SameArrivals}
use Rattle.gomp_types.proofs.Booleans.{and_left, and_right, and_false, or_tells, or_right, is_equal, same_number}
use Rattle.gomp_events.proofs.ArrivalsKeep.{tagged_only_if_arrived}

-- whether the member passed a barrier at which it had arrived with the tag of the region's end
abbrev pub passed_an_end : ℕ → List Event → Bool
passed_an_end m [] = false
passed_an_end m (Pass barrier member ∷ earlier) =
    (member == m && was_region_end (arrival barrier m earlier)) || passed_an_end m earlier
passed_an_end m (_ ∷ earlier) = passed_an_end m earlier

-- arrivals that keep their laws kept them before
before_it : (event : Event) (h : List Event) → SameArrivals (event ∷ h) → SameArrivals h
before_it event h all = record { one_by_one = all.one_by_one.1; tags = all.tags.1; ends = all.ends.1 }

-- a member arrives at no barrier after its next one
pub none_beyond : (g m : ℕ) (h : List Event) → Always BarriersOneByOne h → barriers_passed m h < g → arrival g m h ≡ None
none_beyond g m [] all lt = refl
none_beyond g m (Arrive barrier member tag ∷ earlier) all lt =
    elim (cases_Bool (barrier == g && member == m)) [
      | inl own ↦ absurd (
          let here = is_equal barrier g (and_left (barrier == g) (member == m) own) in
          let who = is_equal member m (and_right (barrier == g) (member == m) own) in
          let number : barrier ≡ barriers_passed m earlier = subst (λ (k : ℕ). barrier ≡ barriers_passed k earlier) who all.0 in
          omega (arith, lt, here, number))
      | inr other ↦ rw other (none_beyond g m earlier all.1 lt)
    ]
none_beyond g m (Pass barrier member ∷ earlier) all lt =
    elim (cases_Bool (member == m)) [
      | inl who ↦ none_beyond g m earlier all.1 (let more : barriers_passed m earlier + 1 < g = rw who at lt in omega (arith, more))
      | inr other ↦ none_beyond g m earlier all.1 (rw other at lt)
    ]
none_beyond g m (_ ∷ earlier) all lt = none_beyond g m earlier all.1 lt

-- who had arrived at the region's end, and has not passed it, arrives there again
still_an_end : (m barrier : ℕ) (tag : Tag) (h : List Event) → SameArrivals (Arrive barrier m tag ∷ h) → was_region_end (arrival (barriers_passed m h) m h) ≡ true → is_region_end tag.kind ≡ true
still_an_end m barrier tag h all was =
    elim (cases_Bool (is_cancelled h)) [
      | inl cancelled ↦ let kind : tag.kind ≡ RegionEnd = all.ends.0 cancelled in rw kind refl
      | inr whole ↦ by (arrival (barriers_passed m h) m h) refl was whole
    ]
  where
    by : (own : Option Tag) → arrival (barriers_passed m h) m h ≡ own → was_region_end own ≡ true → is_cancelled h ≡ false → is_region_end tag.kind ≡ true
    by None at is whole = absurd (cc)
    by (Some other) at is whole =
        let number : barrier ≡ barriers_passed m h = all.one_by_one.0 in
        let stands : Happened (Arrive barrier m other) h = rw number (tagged_only_if_arrived (barriers_passed m h) m other h at) in
        let same : other ≡ tag = all.tags.0 whole m other stands in
        rw (← same) is

-- who has left the region has arrived at its end
pub left_came : (m : ℕ) (h : List Event) → has_left_region m h ≡ true → at_region_end m h ≡ true
left_came m [] left = absurd (cc)
left_came m (Pass barrier member ∷ earlier) left = elim (or_tells (member == m && at_region_end m earlier) (has_left_region m earlier) left) [
  | inl now ↦ and_right (member == m) (at_region_end m earlier) now
  | inr before ↦ left_came m earlier before
]
left_came m (Arrive barrier member tag ∷ earlier) left = or_right (member == m && is_region_end tag.kind) (at_region_end m earlier) (left_came m earlier left)
left_came m (_ ∷ earlier) left = left_came m earlier left

-- who has arrived at the region's end and not left it waits there
pub end_waits : (m : ℕ) (h : List Event) → has_left_region m h ≡ false → at_region_end m h ≡ true → at_barrier m h ≡ true
end_waits m [] stays came = absurd (cc)
end_waits m (Arrive barrier member tag ∷ earlier) stays came = elim (cases_Bool (member == m)) [
  | inl who ↦ rw who refl
  | inr other ↦ rw other (end_waits m earlier stays (rw other at came))
]
end_waits m (Pass barrier member ∷ earlier) stays came = elim (cases_Bool (member == m)) [
  | inl who ↦ absurd (let left = rw (who, came) at stays in cc)
  | inr other ↦ rw other (end_waits m earlier (rw other at stays) came)
]
end_waits m (_ ∷ earlier) stays came = end_waits m earlier stays came

or_known : (left was is : Bool) → (was ≡ true → is ≡ true) → (is || (left || was)) ≡ (left || is)
or_known true was true same = refl
or_known true was false same = refl
or_known false was true same = refl
or_known false true false same = absurd (let is = same refl in cc)
or_known false false false same = refl

or_passed : (came left : Bool) → (left ≡ true → came ≡ true) → came ≡ ((came || left) || false)
or_passed true left before = refl
or_passed false true before = before refl
or_passed false false before = refl

-- a member has arrived at the region's end exactly if it has left the region, or arrived at its next barrier as at the region's end
pub comes_to_end : (m : ℕ) (h : List Event) → SameArrivals h → at_region_end m h ≡ (has_left_region m h || was_region_end (arrival (barriers_passed m h) m h))
comes_to_end m [] all = refl
comes_to_end m (Arrive barrier member tag ∷ earlier) all =
    let before = comes_to_end m earlier (before_it (Arrive barrier member tag) earlier all) in
    elim (cases_Bool (member == m)) [
      | inl who ↦
          let own : SameArrivals (Arrive barrier m tag ∷ earlier) = rw (is_equal member m who) at all in
          let number : barrier ≡ barriers_passed m earlier = own.one_by_one.0 in
          let known = or_known (has_left_region m earlier) (was_region_end (arrival (barriers_passed m earlier) m earlier)) (is_region_end tag.kind) (still_an_end m barrier tag earlier own) in
          rw (who, number, same_number (barriers_passed m earlier)) (ap (λ (b : Bool). is_region_end tag.kind || b) before ∙ known)
      | inr other ↦ rw (and_false (barrier == barriers_passed m earlier) (member == m) other, other) before
    ]
comes_to_end m (Pass barrier member ∷ earlier) all =
    elim (cases_Bool (member == m)) [
      | inl who ↦
          rw (none_then who, who) (or_passed (at_region_end m earlier) (has_left_region m earlier) (left_came m earlier))
      | inr other ↦ rw (as_before other, other) (comes_to_end m earlier (before_it (Pass barrier member) earlier all))
    ]
  where
    none_then : (member == m) ≡ true → arrival (barriers_passed m (Pass barrier member ∷ earlier)) m earlier ≡ None
    none_then who = none_beyond (barriers_passed m (Pass barrier member ∷ earlier)) m earlier all.one_by_one.1 (rw who (omega arith))

    as_before : (member == m) ≡ false → arrival (barriers_passed m (Pass barrier member ∷ earlier)) m earlier ≡ arrival (barriers_passed m earlier) m earlier
    as_before other = ap (λ (n : ℕ). arrival n m earlier) (let e : barriers_passed m (Pass barrier member ∷ earlier) ≡ barriers_passed m earlier = rw other refl in e)
comes_to_end m (event ∷ earlier) all = comes_to_end m earlier (before_it event earlier all)

-- so it has left the region exactly if it passed a barrier as the region's end
pub left_as_tagged : (m : ℕ) (h : List Event) → SameArrivals h → has_left_region m h ≡ passed_an_end m h
left_as_tagged m [] all = refl
left_as_tagged m (Pass barrier member ∷ earlier) all =
    let before = before_it (Pass barrier member) earlier all in
    let same = left_as_tagged m earlier before in
    elim (cases_Bool (member == m)) [
      | inl who ↦
          let number : barrier ≡ barriers_passed m earlier = subst (λ (k : ℕ). barrier ≡ barriers_passed k earlier) (is_equal member m who) all.one_by_one.0 in
          rw (who, number) (by (at_region_end m earlier) (has_left_region m earlier) (was_region_end (arrival (barriers_passed m earlier) m earlier)) (passed_an_end m earlier) (comes_to_end m earlier before) same)
      | inr other ↦ rw other same
    ]
  where
    by : (came left was passed : Bool) → came ≡ (left || was) → left ≡ passed → (came || left) ≡ (was || passed)
    by came true true passed e same = rw e refl
    by came true false passed e same = rw e same
    by came false true passed e same = rw e refl
    by came false false passed e same = rw e same
left_as_tagged m (event ∷ earlier) all = left_as_tagged m earlier (before_it event earlier all)
