-- Events that keep the rule of a team keep the headline.
use Rattle.std.proofs.Common.{◌≡◌, ℕ, ◌+◌, ◌<◌, ◌≤◌, true, false, List, [], ◌∷◌, Some, None, refl, sym, ◌∙◌, arith, inl, inr}
use Rattle.std.specs.Prelude.{◌&&◌, ◌==◌, is_some}
use Rattle.std.proofs.lemmas.Bool.{cases_Bool, cases_lt}
use Rattle.gomp_types.specs.declared.shape.Shape.{Shape}
use Rattle.gomp_events.specs.declared.event.Tag.{Tag}
use Rattle.gomp_events.specs.declared.event.Event.{Event}
use Rattle.gomp_events.specs.declared.event.Event.TheVariants.{Enter, End, Arrive, Pass, Cancel, See}
use Rattle.gomp_events.specs.Cancels.{is_cancelled}
use Rattle.gomp_events.specs.Events.{shares_entered, barriers_passed, arrival, all_arrived, at_barrier, at_region_end, has_left_region}
use Rattle.gomp_events.specs.Goals.{bound_complete, region_met}
use Rattle.gomp_types.specs.Deals.{schedule}
use Rattle.gomp_events.specs.Laws.{Always, Happened}
use Rattle.gomp_shares.specs.Rules.{ShareRule}
use Rattle.gomp_events.specs.Arrivals.{MayPass, ArrivalRule}
use Rattle.gomp_locks.specs.HoldRules.{HoldRule}
use Rattle.gomp_locks.specs.HoldLaws.{FreesItsOwn, PassesFree}
use Rattle.gomp_laws.specs.Rules.{TeamRule}
use Rattle.gomp_shares.specs.Laws.{TakesItsOwn}
use Rattle.gomp_laws.specs.Laws.{LeavesHandedOn, PutsOnce, GetsWhatWasPut, LeavesWithWords, ArrivesOutside, ClosesShares, HappensUnbroken, HappensInside, ArrivesOnce, TellsShares, CancelsNamed, SeesCancelled}
use Rattle.gomp_laws.specs.Headline.{Headline}
use Rattle.gomp_types.proofs.Booleans.{which_branch, is_equal, same_number, and_left, and_false, every_tells}
use Rattle.gomp_events.proofs.Always.{always_so}
use Rattle.gomp_shares.proofs.SharesKeep.{shares_keep, left_before}
use Rattle.gomp_locks.proofs.HoldsKeep.{one_owner_holds, held_once_holds, frees_its_own}
use Rattle.gomp_locks.proofs.NamesKeep.{passes_free_holds}
use Rattle.gomp_laws.proofs.TeamShares.{share_rules, arrival_rules, task_rules, hold_rules, name_rules, none_leaves}
use Rattle.gomp_laws.proofs.HandedOn.{leaves_handed_on, all_handed_on}
use Rattle.gomp_shares.proofs.Assigned.{takes_its_own}
use Rattle.gomp_shares.proofs.OrderedKeep.{ordered_keep}
use Rattle.gomp_laws.proofs.CopiesKeep.{puts_once, gets_what_was_put, leaves_with_words}
use Rattle.gomp_laws.proofs.Unbroken.{InTime, unbroken_holds, inside_holds}
use Rattle.gomp_events.proofs.ArrivalsKeep.{uncancelled_before, arrivals_keep, tags_agree, passed_met, passed_cancelled, passes_after_all}
use Rattle.gomp_events.proofs.EndsPassed.{end_waits}
use Rattle.gomp_events.proofs.Laws.{task_rule_keeps_laws, bound_tasks_are_done}

-- Payloads

-- the laws of the payloads, from the rule of the team
record CopyLaws (h : List Event) : Type 0 where
  puts : Always PutsOnce h
  gets : Always GetsWhatWasPut h
  served : Always LeavesWithWords h

copies_keep : (members : ℕ) (h : List Event) → Always (TeamRule members) h → CopyLaws h
copies_keep members h all = record {
  puts = always_so (TeamRule members) PutsOnce (λ event earlier rule before. puts_once members event earlier rule (share_rules members earlier before)) h all;
  gets = always_so (TeamRule members) GetsWhatWasPut (λ event earlier rule before. gets_what_was_put members event earlier rule (share_rules members earlier before)) h all;
  served = always_so (TeamRule members) LeavesWithWords (λ event earlier rule before. leaves_with_words members event earlier rule (share_rules members earlier before)) h all;
}

-- Arrivals

tells_shares : (members : ℕ) (event : Event) (earlier : List Event) → TeamRule members event earlier → Always (TeamRule members) earlier → TellsShares event earlier
tells_shares members (Arrive barrier m tag) earlier rule all = rule.shares
tells_shares members _ earlier rule all = tt

-- who arrived has an arrival
never_arrived : (g m : ℕ) (tag : Tag) (h : List Event) → arrival g m h ≡ None → Happened (Arrive g m tag) h → ⊥
never_arrived g m tag [] none stands = stands
never_arrived g m tag (Arrive barrier member other ∷ earlier) none (inl e) =
    let number : barrier ≡ g = cc in
    let who : member ≡ m = cc in
    absurd (let some = rw (number, who, same_number g, same_number m) at none in cc)
never_arrived g m tag (Arrive barrier member other ∷ earlier) none (inr stands) =
    elim (which_branch (barrier == g && member == m) (Some other) (arrival g m earlier) None none) [
      | inl e ↦ absurd (let some = e.1 in cc)
      | inr e ↦ never_arrived g m tag earlier e.1 stands
    ]
never_arrived g m tag (_ ∷ earlier) none (inl e) = absurd (cc)
never_arrived g m tag (_ ∷ earlier) none (inr stands) = never_arrived g m tag earlier none stands

arrives_once : (members : ℕ) (event : Event) (earlier : List Event) → TeamRule members event earlier → Always (TeamRule members) earlier → ArrivesOnce members event earlier
arrives_once members (Arrive barrier m tag) earlier rule all = (rule.member, λ stays other stands. never_arrived barrier m other earlier (rule.once stays) stands)
arrives_once members (Pass barrier m) earlier rule all = rule.member
arrives_once members _ earlier rule all = tt

arrives_outside : (members : ℕ) (event : Event) (earlier : List Event) → TeamRule members event earlier → Always (TeamRule members) earlier → ArrivesOutside event earlier
arrives_outside members (Arrive barrier m tag) earlier rule all = λ stays share shape stands. left_before (schedule members) members m earlier (share_rules members earlier all) (rule.outside stays) share shape stands
arrives_outside members _ earlier rule all = tt

-- a member has entered each share whose number is below its count
was_entered : (members share m : ℕ) (h : List Event) → Always (TeamRule members) h → share < shares_entered m h → (shape : Shape) × Happened (Enter share m shape) h
was_entered members share m [] all lt = absurd (omega arith)
was_entered members share m (Enter i member shape ∷ earlier) all lt =
    elim (cases_Bool (member == m)) [
      | inl e ↦
          let who = is_equal member m e in
          let number : i ≡ shares_entered m earlier = rw (← who) all.0.number in
          let more : share < shares_entered m earlier + 1 = rw e at lt in
          elim (cases_lt share (shares_entered m earlier)) [
            | inl below ↦ let before = was_entered members share m earlier all.1 below in (before.0, inr before.1)
            | inr past ↦ (shape, inl (let same : i ≡ share = omega (arith, number) in rw (who, same) refl))
          ]
      | inr e ↦ let before = was_entered members share m earlier all.1 (rw e at lt) in (before.0, inr before.1)
    ]
was_entered members share m (_ ∷ earlier) all lt = let before = was_entered members share m earlier all.1 lt in (before.0, inr before.1)

-- in a region that is not cancelled who arrived has left the shares that its tag counts
arrived_left : (members barrier m : ℕ) (tag : Tag) (h : List Event) → Always (TeamRule members) h → is_cancelled h ≡ false → Happened (Arrive barrier m tag) h → (share : ℕ) → share < tag.shares → Happened (End share m) h
arrived_left members barrier m tag [] all whole stands share lt = absurd stands
arrived_left members barrier m tag (Arrive g member other ∷ earlier) all whole (inl e) share lt =
    let who : member ≡ m = cc in
    let what : other ≡ tag = cc in
    let count : tag.shares ≡ shares_entered m earlier = rw (← who, ← what) all.0.shares in
    let own = was_entered members share m earlier all.1 (omega (arith, count)) in
    let stays = none_leaves members m earlier all.1 whole in
    let outside = all.0.outside (rw who stays) in
    inr (left_before (schedule members) members m earlier (share_rules members earlier all.1) (rw (← who) outside) share own.0 own.1)
arrived_left members barrier m tag (_ ∷ earlier) all whole (inl e) share lt = absurd (cc)
arrived_left members barrier m tag (event ∷ earlier) all whole (inr stands) share lt = inr (arrived_left members barrier m tag earlier all.1 (uncancelled_before event earlier whole) stands share lt)

closes_shares : (members : ℕ) (event : Event) (earlier : List Event) → TeamRule members event earlier → Always (TeamRule members) earlier → ClosesShares members event earlier
closes_shares members (Pass barrier m) earlier rule all = λ whole tag stands share lt x below.
    let arrivals = arrival_rules members earlier all in
    let own = passes_after_all members (Pass barrier m) earlier rule.passes arrivals whole x below in
    let same : own.0 ≡ tag = tags_agree members barrier x m own.0 tag earlier whole arrivals own.1 stands in
    arrived_left members barrier x own.0 earlier all whole own.1 share (rw same lt)
closes_shares members _ earlier rule all = tt

-- Cancellation

cancels_named : (members : ℕ) (event : Event) (earlier : List Event) → TeamRule members event earlier → Always (TeamRule members) earlier → CancelsNamed members event earlier
cancels_named members (Cancel m scope) earlier rule all = (rule.cancels.member, rule.cancels.kind, rule.cancels.named)
cancels_named members _ earlier rule all = tt

sees_cancelled_alone : (members : ℕ) (event : Event) (earlier : List Event) → TeamRule members event earlier → Always (TeamRule members) earlier → SeesCancelled members event earlier
sees_cancelled_alone members (See m kind) earlier rule all = (rule.sees.member, rule.sees.cancelled)
sees_cancelled_alone members _ earlier rule all = tt

-- Names and locks

-- a member that has arrived at its next barrier, or at one after it, waits at the next
next_arrival_waits : (members m g : ℕ) (h : List Event) → Always (ArrivalRule members) h → is_some (arrival g m h) ≡ true → barriers_passed m h ≤ g → (at_barrier m h ≡ true) × (g ≡ barriers_passed m h)
next_arrival_waits members m g [] all here le = absurd (cc)
next_arrival_waits members m g (Arrive barrier member tag ∷ earlier) all here le =
    elim (cases_Bool (member == m)) [
      | inl who ↦ (
        rw who refl,
        elim (cases_Bool (barrier == g)) [
          | inl at ↦ let next : barrier ≡ barriers_passed m earlier = rw (← is_equal member m who) all.0.number in sym (is_equal barrier g at) ∙ next
          | inr away ↦ (next_arrival_waits members m g earlier all.1 (rw away at here) le).1
        ],
      )
      | inr other ↦
          let before = next_arrival_waits members m g earlier all.1 (rw (and_false (barrier == g) (member == m) other) at here) le in
          (rw other before.0, before.1)
    ]
next_arrival_waits members m g (Pass barrier member ∷ earlier) all here le =
    elim (cases_Bool (member == m)) [
      | inl who ↦
          let later : barriers_passed m earlier + 1 ≤ g = rw who at le in
          absurd (let next = (next_arrival_waits members m g earlier all.1 here (omega (arith, later))).1 in omega (arith, next, later))
      | inr other ↦ let before = next_arrival_waits members m g earlier all.1 here (rw other at le) in (rw other before.0, rw other before.1)
    ]
next_arrival_waits members m g (_ ∷ earlier) all here le = next_arrival_waits members m g earlier all.1 here le

-- so a member of the team that passes a barrier waits there
passer_waits : (members barrier m : ℕ) (h : List Event) → Always (TeamRule members) h → has_left_region m h ≡ false → MayPass members barrier m h → m < members → at_barrier m h ≡ true
passer_waits members barrier m h all inside rule member =
    elim (cases_Bool (is_cancelled h)) [
      | inl cancelled ↦ end_waits m h inside (and_left (at_region_end m h) (region_met members h) (passed_cancelled members barrier m h rule cancelled))
      | inr whole ↦
          let met = and_left (all_arrived members barrier h) (bound_complete barrier h) (passed_met members barrier m h whole rule) in
          (next_arrival_waits members m barrier h (arrival_rules members h all) (every_tells members (λ x. is_some (arrival barrier x h)) m met member) (let next = rule.number in omega (arith, next))).0
    ]

passes_free : (members : ℕ) (event : Event) (earlier : List Event) → TeamRule members event earlier → Always (TeamRule members) earlier → InTime event earlier → PassesFree event earlier
passes_free members (Pass barrier m) earlier rule all in_time =
    passes_free_holds barrier m earlier rule.outside (passer_waits members barrier m earlier all in_time.1 rule.passes rule.member)
    (hold_rules members earlier all) (name_rules members earlier all)
passes_free members _ earlier rule all in_time = tt

all_pass_free : (members : ℕ) (h : List Event) → Always (TeamRule members) h → Always InTime h → Always PassesFree h
all_pass_free members [] all in_time = tt
all_pass_free members (event ∷ earlier) all in_time = (passes_free members event earlier all.0 all.1 in_time.0, all_pass_free members earlier all.1 in_time.1)

-- the headline, from the rule of the team, if nothing follows a break or the region's end
pub team_keeps : (members : ℕ) (h : List Event) → Always (TeamRule members) h → Always InTime h → Headline members h
team_keeps members h all in_time =
    let shares = shares_keep (schedule members) members h (share_rules members h all) in
    let copies = copies_keep members h all in
    let holds = hold_rules members h all in
    let arrivals = arrivals_keep members h (arrival_rules members h all) in
    let tasks = task_rule_keeps_laws members h (arrival_rules members h all) (task_rules members h all) in record {
      taken_once = shares.taken_once;
      owned = always_so (ShareRule (schedule members) members) (TakesItsOwn members) (takes_its_own members) h (share_rules members h all);
      whole = shares.whole;
      ordered = ordered_keep members h (share_rules members h all);
      none_held = always_so (TeamRule members) (LeavesHandedOn members) (leaves_handed_on members) h all;
      all_handed_on = all_handed_on members h all;
      puts = copies.puts;
      gets = copies.gets;
      served = copies.served;
      same_shares = shares.same_shares;
      same_arrivals = arrivals.same_arrivals;
      arrive_once = always_so (TeamRule members) (ArrivesOnce members) (arrives_once members) h all;
      arrive_outside = always_so (TeamRule members) ArrivesOutside (arrives_outside members) h all;
      one_order = always_so (TeamRule members) TellsShares (tells_shares members) h all;
      unbroken = always_so InTime HappensUnbroken unbroken_holds h in_time;
      in_region = always_so InTime HappensInside inside_holds h in_time;
      passes = arrivals.passes;
      ends = arrivals.ends;
      closes = always_so (TeamRule members) (ClosesShares members) (closes_shares members) h all;
      one_owner = one_owner_holds h holds;
      held_once = held_once_holds h holds;
      frees = always_so HoldRule FreesItsOwn frees_its_own h holds;
      passes_free = all_pass_free members h all in_time;
      tasks = tasks;
      bound_done = bound_tasks_are_done h tasks;
      cancels = always_so (TeamRule members) (CancelsNamed members) (cancels_named members) h all;
      cancelled = shares.cancelled;
      left_early = shares.left_early;
      sees = always_so (TeamRule members) (SeesCancelled members) (sees_cancelled_alone members) h all;
    }
