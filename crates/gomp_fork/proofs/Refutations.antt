-- What a report never is, of any programs, tools and histories.
use Rattle.std.proofs.Common.{ℕ, ◌≡◌, ◌≢◌, ◌+◌, ◌<◌, ◌⊎◌, List, [], ◌∷◌, Ok, Err, inl, inr, ap, ◌∙◌, subst, sum_by, arith, length}
use Rattle.gomp_events.specs.declared.event.Event.{Event}
use Rattle.gomp_types.specs.declared.refusal.Refusal.TheVariants.{BadTeam, CountTooLarge}
use Rattle.gomp_ompt.specs.Records.{begin_record}
use Rattle.gomp_ompt.specs.declared.record.Point.TheVariants.{ImplicitTask}
use Rattle.gomp_ompt.specs.declared.tool.Tool.{Ghosts as ToolGhosts}
use Rattle.gomp_team.specs.Members.{TeamView, MemberView}
use Rattle.gomp_team_board.specs.Counts.{counted_events}
use Rattle.gomp_team_board.specs.declared.part.PartCounts.{PartCounts}
use Rattle.gomp_team_region.specs.Regions.{counts_on, events_parts}
use Rattle.gomp_team_region.specs.Settled.{HaveReturned}
use Rattle.gomp_course.specs.declared.program.Program.{Ghosts as ProgramGhosts}
use Rattle.gomp_fork.specs.Counts.{HoldCounts, nothing_counted}
use Rattle.gomp_fork.specs.Teams.{EachHasRun, EndView, ForksRelation, MemberHasRun, members_of}
use Rattle.gomp_fork.specs.declared.report.Report.{Report}
use Rattle.gomp_fork.specs.declared.report.RegionFault.{RegionFault}
use Rattle.gomp_fork.specs.declared.report.RegionRefusal.{RegionRefusal}
use Rattle.gomp_fork.specs.declared.report.RegionRefusal.TheVariants.{Refused}
use Rattle.gomp_fork.specs.Reports.{AreBack, FirstRan, IsReport, LeavesAll, LeavesRegion, IsRefusedUnbegun}

-- Neither a count nor a size keeps a region from beginning: these are refused before
never_for_a_count : (refusal : RegionRefusal) → refusal ≡ Refused CountTooLarge → IsRefusedUnbegun refusal → ⊥
never_for_a_count refusal large (inl lacks) = absurd (cc)
never_for_a_count refusal large (inr unsettled) = absurd (cc)

never_for_a_size : (refusal : RegionRefusal) → refusal ≡ Refused BadTeam → IsRefusedUnbegun refusal → ⊥
never_for_a_size refusal bad (inl lacks) = absurd (cc)
never_for_a_size refusal bad (inr unsettled) = absurd (cc)

module _ {P T : Type 0} (program : ProgramGhosts P) (tool : ToolGhosts T) (forks : ForksRelation P T) where
  -- A report has a history: that of its members, of which each has passed the region's end
  nothing_has_left : (n : ℕ) (first : PartCounts) (others : List PartCounts) → HaveReturned n (first ∷ others) [] → ⊥
  nothing_has_left n first others (one, rest) = absurd (cc one.left)

  none_has_returned : (members : List (MemberView T)) (history : List Event) → history ≡ [] → 0 < length members → HaveReturned 0 (counts_on (events_parts members)) history → ⊥
  none_has_returned [] history none some returned = absurd (omega (arith, some))
  none_has_returned (first ∷ others) history none some returned =
      nothing_has_left 0 first.events.counts (counts_on (events_parts others)) (subst (λ events. HaveReturned 0 (counts_on (events_parts (first ∷ others))) events) none returned)

  some_member : (ends : List (EndView P T)) (n : ℕ) → n ≡ length ends → 0 < n → 0 < length (members_of ends)
  some_member [] n many some = absurd (omega (arith, many, some))
  some_member (end ∷ ends) n many some = omega arith

  pub no_report_without_a_history : (team : TeamView) (progs : List P) (tools : List T) (counted : HoldCounts) (report : Report P T)
      → IsReport program tool forks team progs tools counted report → 0 < report.size → report.history.items ≡ [] → ⊥
  no_report_without_a_history team progs tools counted report is some none =
      none_has_returned (members_of is.ends) report.history.items none (some_member is.ends report.size is.size_is some) is.history_is.history_is.settled.returned

  -- it has no event but those that its members' calls gave, discards aside
  pub no_event_of_nobody : (team : TeamView) (progs : List P) (tools : List T) (counted : HoldCounts) (report : Report P T) (is : IsReport program tool forks team progs tools counted report)
      → sum_by (λ end. end.member.events.amount) is.ends ≢ counted_events report.history.items → ⊥
  no_event_of_nobody team progs tools counted report is other = other is.history_is.all_given

  -- Members

  pub never_under_another_number : (n : ℕ) (team : TeamView) (m : ℕ) (prog : P) (own : T) (end : EndView P T) (taken : ℕ)
      (ran : MemberHasRun program tool forks n team m prog own end taken) → ran.member.own.number ≢ m → ⊥
  never_under_another_number n team m prog own end taken ran differ = differ (ap (λ state. state.number) ran.new.own)

  -- whose tool was not told first, and once, that it begins, by its number and the team's size
  pub never_untold : (n : ℕ) (team : TeamView) (m : ℕ) (prog : P) (own : T) (end : EndView P T) (taken : ℕ)
      (ran : MemberHasRun program tool forks n team m prog own end taken) → (tool.on_gives own (begin_record ImplicitTask m n) ran.member.tool → ⊥) → ⊥
  never_untold n team m prog own end taken ran never = never ran.begins

  -- programs that come back are as many, each in its place
  pub no_program_is_lost : (n : ℕ) (team : TeamView) (m : ℕ) (prog : P) (progs : List P) (tools : List T) (taken : List ℕ)
      → EachHasRun program tool forks n team m (prog ∷ progs) tools [] taken → ⊥
  no_program_is_lost n team m prog progs [] taken ran = absurd ran
  no_program_is_lost n team m prog progs (own ∷ tools) taken ran = absurd ran

  pub no_program_changes_its_place : (n : ℕ) (team : TeamView) (m : ℕ) (one other : P) (own other_own : T) (one_end other_end : EndView P T) (taken other_taken : ℕ)
      → EachHasRun program tool forks n team m (one ∷ other ∷ []) (own ∷ other_own ∷ []) (one_end ∷ other_end ∷ []) (taken ∷ other_taken ∷ [])
      → (MemberHasRun program tool forks n team (m + 1) other other_own other_end other_taken → ⊥) → ⊥
  no_program_changes_its_place n team m one other own other_own one_end other_end taken other_taken ran never = never ran.1.0

  -- What was held and freed

  -- is counted, of each member and of the regions that it forked,
  pub no_hold_is_lost : (forked : TeamView × List P × List T) (before after : HoldCounts) (report : Report P T) (all : LeavesAll program tool forks forked (before, after) (Ok report))
      → after.held ≢ before.held + sum_by (λ end. end.member.held.amount + end.inner.held) all.left.report.ends → ⊥
  no_hold_is_lost forked before after report all other = other (ap (λ counts. counts.held) all.counts_are ∙ ap (λ counts. before.held + counts.held) all.left.report.counted_is)

  pub no_release_is_lost : (forked : TeamView × List P × List T) (before after : HoldCounts) (report : Report P T) (all : LeavesAll program tool forks forked (before, after) (Ok report))
      → after.freed ≢ before.freed + sum_by (λ end. end.member.freed.amount + end.inner.freed) all.left.report.ends → ⊥
  no_release_is_lost forked before after report all other = other (ap (λ counts. counts.freed) all.counts_are ∙ ap (λ counts. before.freed + counts.freed) all.left.report.counted_is)

  -- and of a region without a report nothing, unless its programs ran
  back_as_they_were_or_ran : (n : ℕ) (team : TeamView) (progs : List P) (tools : List T) (counted : HoldCounts) (fault : RegionFault P T) → AreBack program tool forks n team progs tools counted fault
      → counted ≢ nothing_counted → ((ends : List (EndView P T)) (taken : List ℕ) → FirstRan program tool forks n team progs tools fault.progs.items fault.tools.items ends taken → ⊥) → ⊥
  back_as_they_were_or_ran n team progs tools counted fault (inl (same, same_tools, none, cause)) some never = some none
  back_as_they_were_or_ran n team progs tools counted fault (inr (ends, taken, first, counts)) some never = never ends taken first

  -- it is refused for want of memory, or since its ledger was not there, unless its programs ran
  may_not_begin_or_ran : (n : ℕ) (team : TeamView) (progs : List P) (tools : List T) (counted : HoldCounts) (fault : RegionFault P T) → AreBack program tool forks n team progs tools counted fault
      → (IsRefusedUnbegun fault.refusal → ⊥) → ((ends : List (EndView P T)) (taken : List ℕ) → FirstRan program tool forks n team progs tools fault.progs.items fault.tools.items ends taken → ⊥) → ⊥
  may_not_begin_or_ran n team progs tools counted fault (inl (same, same_tools, none, cause)) other never = other cause
  may_not_begin_or_ran n team progs tools counted fault (inr (ends, taken, first, counts)) other never = never ends taken first

  pub no_other_cause_before_it_begins : (n : ℕ) (team : TeamView) (progs : List P) (tools : List T) (fault : RegionFault P T) (left : LeavesRegion program tool forks n team progs tools (Err fault))
      → (fault.refusal ≡ Refused CountTooLarge) ⊎ (fault.refusal ≡ Refused BadTeam)
      → ((ends : List (EndView P T)) (taken : List ℕ) → FirstRan program tool forks n team progs tools fault.progs.items fault.tools.items ends taken → ⊥) → ⊥
  no_other_cause_before_it_begins n team progs tools fault left (inl large) never = may_not_begin_or_ran n team progs tools left.counted fault left.back (λ may. never_for_a_count fault.refusal large may) never
  no_other_cause_before_it_begins n team progs tools fault left (inr bad) never = may_not_begin_or_ran n team progs tools left.counted fault left.back (λ may. never_for_a_size fault.refusal bad may) never

  pub nothing_is_counted_of_none : (forked : TeamView × List P × List T) (before after : HoldCounts) (fault : RegionFault P T) (all : LeavesAll program tool forks forked (before, after) (Err fault))
      → all.left.counted ≢ nothing_counted
      → ((ends : List (EndView P T)) (taken : List ℕ) → FirstRan program tool forks (length forked.1) forked.0 forked.1 forked.2 fault.progs.items fault.tools.items ends taken → ⊥) → ⊥
  nothing_is_counted_of_none forked before after fault all some never = back_as_they_were_or_ran (length forked.1) forked.0 forked.1 forked.2 all.left.counted fault all.left.back some never
