-- Arrivals that keep their rule keep their laws.
use Rattle.std.proofs.Common.{◌≡◌, ℕ, Bool, true, false, List, [], ◌∷◌, Some, refl, sym, ap, ◌∙◌, inl, inr}
use Rattle.std.specs.Prelude.{◌&&◌, ◌||◌, ◌==◌, not, if◌then◌else◌, is_some}
use Rattle.std.proofs.lemmas.Bool.{cases_Bool}
use Rattle.gomp_events.specs.declared.event.Tag.{Tag}
use Rattle.gomp_events.specs.declared.event.Event.{Event}
use Rattle.gomp_events.specs.declared.event.Event.TheVariants.{Arrive, Pass, Cancel}
use Rattle.gomp_types.specs.Members.{every_member}
use Rattle.gomp_events.specs.Events.{barriers_passed, arrival, tag_at, all_arrived, at_region_end, has_left_region}
use Rattle.gomp_events.specs.Goals.{bound_complete, barrier_met, region_met, may_pass}
use Rattle.gomp_events.specs.Laws.{Always, Happened}
use Rattle.gomp_events.specs.Arrivals.{MayPass, ArrivalRule, BarriersOneByOne, SameTags, OnlyEnds, SameArrivals, PassesAfterAll, EndsAfterAll, ArrivalLaws}
use Rattle.gomp_types.specs.declared.cancel.Scope.TheVariants.{Region}
use Rattle.gomp_events.specs.Cancels.{same_scope, is_cancelled}
use Rattle.gomp_events.specs.Tasks.{all_complete}
use Rattle.gomp_types.proofs.Booleans.{which_branch, is_equal, same_number, and_left, and_right, or_false, some_of, every_tells}
use Rattle.gomp_events.proofs.Always.{always_so}

-- what is not cancelled now was not before
pub uncancelled_before : (event : Event) (h : List Event) → is_cancelled (event ∷ h) ≡ false → is_cancelled h ≡ false
uncancelled_before (Cancel m scope) h e = or_false (same_scope scope Region) (is_cancelled h) e
uncancelled_before _ h e = e

tag_stays : (members g : ℕ) (tag : Tag) (event : Event) (earlier : List Event) → is_cancelled earlier ≡ false → ArrivalRule members event earlier → tag_at g earlier ≡ Some tag → tag_at g (event ∷ earlier) ≡ Some tag
tag_stays members g tag (Arrive barrier member other) earlier whole rule at =
    elim (cases_Bool (barrier == g)) [
      | inl e ↦ rw e (let same : tag ≡ other = rule.same whole tag (rw (is_equal barrier g e) at) in rw same refl)
      | inr e ↦ rw e at
    ]
tag_stays members g tag _ earlier whole rule at = at

tag_stands : (members g m : ℕ) (tag : Tag) (h : List Event) → is_cancelled h ≡ false → Always (ArrivalRule members) h → Happened (Arrive g m tag) h → tag_at g h ≡ Some tag
tag_stands members g m tag [] whole all stands = absurd stands
tag_stands members g m tag (Arrive barrier member other ∷ earlier) whole all (inl e) =
    let number : barrier ≡ g = cc in
    let what : other ≡ tag = cc in
    rw (number, same_number g) (ap Some what)
tag_stands members g m tag (_ ∷ earlier) whole all (inl e) = absurd (cc)
tag_stands members g m tag (event ∷ earlier) whole all (inr stands) =
    let before = uncancelled_before event earlier whole in tag_stays members g tag event earlier before all.0 (tag_stands members g m tag earlier before all.1 stands)

barriers_one_by_one : (members : ℕ) (event : Event) (earlier : List Event) → ArrivalRule members event earlier → Always (ArrivalRule members) earlier → BarriersOneByOne event earlier
barriers_one_by_one members (Arrive barrier m tag) earlier rule all = rule.number
barriers_one_by_one members (Pass barrier m) earlier rule all = rule.number
barriers_one_by_one members _ earlier rule all = tt

-- whether a member may pass, in a region that is not cancelled
pub pass_uncancelled :
    (members m : ℕ) (h : List Event) → is_cancelled h ≡ false → may_pass members m h ≡ (barrier_met members (barriers_passed m h) h && (not (at_region_end m h) || region_met members h))
pass_uncancelled members m h whole =
    by (is_cancelled h) (at_region_end m h) (has_left_region m h) (region_met members h) (barrier_met members (barriers_passed m h) h) whole
  where
    by : (cancelled ends left over met : Bool) → cancelled ≡ false → (if ends then over && (if cancelled then not left else met) else not cancelled && met) ≡ (met && (not ends || over))
    by true ends left over met whole = absurd (cc)
    by false true left true true whole = refl
    by false true left true false whole = refl
    by false true left false true whole = refl
    by false true left false false whole = refl
    by false false left over true whole = refl
    by false false left over false whole = refl

-- and in a cancelled one
pub pass_cancelled :
    (members m : ℕ) (h : List Event) → is_cancelled h ≡ true → may_pass members m h ≡ (at_region_end m h && (not (has_left_region m h) && region_met members h))
pass_cancelled members m h cancelled =
    by (is_cancelled h) (at_region_end m h) (has_left_region m h) (region_met members h) (barrier_met members (barriers_passed m h) h) cancelled
  where
    by : (cancelled ends left over met : Bool) → cancelled ≡ true → (if ends then over && (if cancelled then not left else met) else not cancelled && met) ≡ (ends && (not left && over))
    by false ends left over met is = absurd (cc)
    by true true true true met is = refl
    by true true true false met is = refl
    by true true false true met is = refl
    by true true false false met is = refl
    by true false left over met is = refl

-- so by either
pub pass_by_cancellation :
    (members m : ℕ) (h : List Event) →
    may_pass members m h
    ≡ (if is_cancelled h then at_region_end m h && (not (has_left_region m h) && region_met members h)
    else barrier_met members (barriers_passed m h) h && (not (at_region_end m h) || region_met members h))
pass_by_cancellation members m h =
    by (is_cancelled h) (pass_cancelled members m h) (pass_uncancelled members m h)
  where
    by : (cancelled : Bool) {may there elsewhere : Bool} → (cancelled ≡ true → may ≡ there) → (cancelled ≡ false → may ≡ elsewhere) → may ≡ (if cancelled then there else elsewhere)
    by true there elsewhere = there refl
    by false there elsewhere = elsewhere refl

-- who passes a barrier has met it
pub passed_met : (members barrier m : ℕ) (h : List Event) → is_cancelled h ≡ false → MayPass members barrier m h → barrier_met members barrier h ≡ true
passed_met members barrier m h whole rule =
    rw rule.number (and_left (barrier_met members (barriers_passed m h) h) (not (at_region_end m h) || region_met members h) (sym (pass_uncancelled members m h whole) ∙ rule.met))

-- in a cancelled region it has met the region's end
pub passed_cancelled : (members barrier m : ℕ) (h : List Event) → MayPass members barrier m h → is_cancelled h ≡ true → (at_region_end m h && region_met members h) ≡ true
passed_cancelled members barrier m h rule cancelled = outer_two (at_region_end m h) (not (has_left_region m h)) (region_met members h) (sym (pass_cancelled members m h cancelled) ∙ rule.met)
  where
    outer_two : (a b c : Bool) → (a && (b && c)) ≡ true → (a && c) ≡ true
    outer_two true true c e = e
    outer_two true false c e = absurd (cc)
    outer_two false b c e = absurd (cc)

tags_are_same : (members : ℕ) (event : Event) (earlier : List Event) → ArrivalRule members event earlier → Always (ArrivalRule members) earlier → SameTags event earlier
tags_are_same members (Arrive barrier m tag) earlier rule all = λ whole n other stands. rule.same whole other (tag_stands members barrier n other earlier whole all stands)
tags_are_same members _ earlier rule all = tt

only_ends : (members : ℕ) (event : Event) (earlier : List Event) → ArrivalRule members event earlier → Always (ArrivalRule members) earlier → OnlyEnds event earlier
only_ends members (Arrive barrier m tag) earlier rule all = rule.ends
only_ends members (Pass barrier m) earlier rule all = λ cancelled. and_left (at_region_end m earlier) (region_met members earlier) (passed_cancelled members barrier m earlier rule cancelled)
only_ends members _ earlier rule all = tt

pub same_arrivals : (members : ℕ) (h : List Event) → Always (ArrivalRule members) h → SameArrivals h
same_arrivals members h all = record {
  one_by_one = always_so (ArrivalRule members) BarriersOneByOne (barriers_one_by_one members) h all;
  tags = always_so (ArrivalRule members) SameTags (tags_are_same members) h all;
  ends = always_so (ArrivalRule members) OnlyEnds (only_ends members) h all;
}

-- so in a region that is not cancelled all arrive with one tag
pub tags_agree : (members barrier m n : ℕ) (one other : Tag) (h : List Event) → is_cancelled h ≡ false → Always (ArrivalRule members) h → Happened (Arrive barrier m one) h → Happened (Arrive barrier n other) h → one ≡ other
tags_agree members barrier m n one other h whole all first second =
    let a = tag_stands members barrier m one h whole all first in
    let b = tag_stands members barrier n other h whole all second in cc

-- a tag is that of an arrival
pub tagged_only_if_arrived : (g m : ℕ) (tag : Tag) (h : List Event) → arrival g m h ≡ Some tag → Happened (Arrive g m tag) h
tagged_only_if_arrived g m tag [] at = absurd (cc)
tagged_only_if_arrived g m tag (Arrive barrier member other ∷ earlier) at =
    elim (which_branch (barrier == g && member == m) (Some other) (arrival g m earlier) (Some tag) at) [
      | inl e ↦ inl (let n = is_equal barrier g (and_left (barrier == g) (member == m) e.0) in let w = is_equal member m (and_right (barrier == g) (member == m) e.0) in let t : other ≡ tag = let h = e.1 in cc in rw (n, w, t) refl)
      | inr e ↦ inr (tagged_only_if_arrived g m tag earlier e.1)
    ]
tagged_only_if_arrived g m tag (_ ∷ earlier) at = inr (tagged_only_if_arrived g m tag earlier at)

pub passes_after_all : (members : ℕ) (event : Event) (earlier : List Event) → ArrivalRule members event earlier → Always (ArrivalRule members) earlier → PassesAfterAll members event earlier
passes_after_all members (Pass barrier m) earlier rule all = λ whole x lt.
    let met = and_left (all_arrived members barrier earlier) (bound_complete barrier earlier) (passed_met members barrier m earlier whole rule) in
    let found = some_of (arrival barrier x earlier) (every_tells members (λ y. is_some (arrival barrier y earlier)) x met lt) in
    (found.0, tagged_only_if_arrived barrier x found.0 earlier found.1)
passes_after_all members _ earlier rule all = tt

-- so if a member passes the region's end, the region may end
pub passed_region : (members barrier m : ℕ) (h : List Event) → MayPass members barrier m h → at_region_end m h ≡ true → region_met members h ≡ true
passed_region members barrier m h rule ends = elim (cases_Bool (is_cancelled h)) [
  | inl cancelled ↦ and_right (at_region_end m h) (region_met members h) (passed_cancelled members barrier m h rule cancelled)
  | inr whole ↦
      let met = and_right (barrier_met members (barriers_passed m h) h) (not (at_region_end m h) || region_met members h) (sym (pass_uncancelled members m h whole) ∙ rule.met) in
      rw ends at met
]

pub ends_after_all : (members : ℕ) (event : Event) (earlier : List Event) → ArrivalRule members event earlier → Always (ArrivalRule members) earlier → EndsAfterAll members event earlier
ends_after_all members (Pass barrier m) earlier rule all = λ ends x lt.
    let met = and_left (every_member members (λ y. at_region_end y earlier)) (all_complete (λ t. true) earlier) (passed_region members barrier m earlier rule ends) in
    every_tells members (λ y. at_region_end y earlier) x met lt
ends_after_all members _ earlier rule all = tt

-- the laws of the arrivals, from their rule alone
pub arrivals_keep : (members : ℕ) (h : List Event) → Always (ArrivalRule members) h → ArrivalLaws members h
arrivals_keep members h all = record {
  same_arrivals = same_arrivals members h all;
  passes = always_so (ArrivalRule members) (PassesAfterAll members) (passes_after_all members) h all;
  ends = always_so (ArrivalRule members) (EndsAfterAll members) (ends_after_all members) h all;
}
