-- Members that have run their programs, as lists.
use Rattle.std.proofs.Common.{ℕ, ◌≡◌, ◌≤◌, ◌+◌, ◌++◌, List, [], ◌∷◌, Result, Ok, Err, IfOk, IfErr, inl, inr, refl, sym, subst, ap, suc, ◌∙◌, map, length, take, drop, arith, length-append, length-drop}
use Rattle.std.specs.Prelude.{IsErr, IsSome, Option}
use Rattle.std.proofs.lemmas.List.{append-nil, drop_all, length-map, length-take, length-take-le, take-append-drop, take_all}
use Rattle.gomp_ompt.specs.declared.tool.Tool.{Ghosts as ToolGhosts}
use Rattle.gomp_types.specs.declared.refusal.Refusal.TheVariants.{NoMemory}
use Rattle.gomp_crew.specs.Outcomes.{EachKept}
use Rattle.gomp_team.specs.Members.{MemberView, TeamView}
use Rattle.gomp_team_board.specs.Parts.{PartView}
use Rattle.gomp_team_region.specs.Regions.{AreNewMembers, RegionView, tools_of}
use Rattle.gomp_course.specs.declared.program.Program.{Ghosts as ProgramGhosts}
use Rattle.gomp_course.specs.Runs.{HasRun}
use Rattle.gomp_fork.specs.declared.report.Report.{Report}
use Rattle.gomp_fork.specs.declared.report.RegionFault.{RegionFault}
use Rattle.gomp_team_book.specs.Parts.{BookPartView}
use Rattle.gomp_fork.specs.Counts.{HaveCountedNothing, HoldCounts, both_counted, counted_by, counted_on, nothing_counted}
use Rattle.gomp_fork.specs.Lists.{ReturnedView}
use Rattle.gomp_fork.specs.declared.report.RegionRefusal.TheVariants.{Refused}
use Rattle.gomp_ring.specs.declared.ring.Ring.{Ring}
use Rattle.gomp_fork.specs.Reports.{AreBack, FaultHasCause, FirstRan, HasBlamed, HasOthers, HasSettled, HaveTaken, IsOpened, IsReport, LeavesAll, LeavesRegion, IsRefusedUnbegun}
use Rattle.gomp_fork.proofs.Begins.{still_new}
use Rattle.gomp_fork.proofs.Histories.{history_of}
use Rattle.gomp_fork.specs.Teams.{EachHasBegun, EachHasRun, EndView, ForksRelation, members_of, progs_of}

-- nothing counted beside them leaves counts as they are
nothing_counted_more : (counts : HoldCounts) → counts ≡ both_counted counts nothing_counted
nothing_counted_more counts =
    let held : counts.held + 0 ≡ counts.held = omega arith in
    let freed : counts.freed + 0 ≡ counts.freed = omega arith in
    rw (held, freed) refl

-- the first of a list, and the others
abbrev first_inner : HoldCounts → List HoldCounts → HoldCounts
first_inner other [] = other
first_inner other (first ∷ others) = first

abbrev other_inners : List HoldCounts → List HoldCounts
other_inners [] = []
other_inners (first ∷ others) = others

-- of members that have counted nothing, the first has not, and the others have not
module _ {P T : Type 0} where
  first_counts_nothing : (start : EndView P T) (starts : List (EndView P T)) → HaveCountedNothing (start ∷ starts) → start.inner ≡ nothing_counted
  first_counts_nothing start starts none = ap (first_inner nothing_counted) none

  others_count_nothing : (start : EndView P T) (starts : List (EndView P T)) → HaveCountedNothing (start ∷ starts) → HaveCountedNothing starts
  others_count_nothing start starts none = ap other_inners none

-- jobs of new members that have begun, and outcomes by which each has run its program
module _ {P T J O : Type 0} (program : ProgramGhosts P) (tool : ToolGhosts T) (forks : ForksRelation P T) (n : ℕ) (start_of : J → EndView P T) (end_of : O → EndView P T) (taken_of : O → ℕ) where
  each_job_has_run : (team : TeamView) (m : ℕ) (members : List (MemberView T)) (jobs : List J) (outcomes : List O)
      → EachKept (λ job outcome. HasRun program tool forks (start_of job) (end_of outcome) (taken_of outcome)) jobs outcomes
      → AreNewMembers team m members → EachHasBegun tool n m members (members_of (map start_of jobs)) → HaveCountedNothing (map start_of jobs)
      → EachHasRun program tool forks n team m (progs_of (map start_of jobs)) (tools_of members) (map end_of outcomes) (map taken_of outcomes)
  each_job_has_run team m [] [] [] kept news begun none = tt
  each_job_has_run team m (member ∷ members) [] outcomes kept news begun none = absurd begun
  each_job_has_run team m [] (job ∷ jobs) outcomes kept news begun none = absurd begun
  each_job_has_run team m [] [] (outcome ∷ outcomes) kept news begun none = absurd kept
  each_job_has_run team m (member ∷ members) (job ∷ jobs) [] kept news begun none = absurd kept
  each_job_has_run team m (member ∷ members) (job ∷ jobs) (outcome ∷ outcomes) (one, others) (new, news) (told, begun) none = (
    record {
      member = (start_of job).member;
      new = still_new tool n m team member (start_of job).member told new;
      begins = told.gives;
      ran = subst (λ inner. HasRun program tool forks (record { prog = (start_of job).prog; member = (start_of job).member; inner = inner }) (end_of outcome) (taken_of outcome)) (first_counts_nothing (start_of job) (map start_of jobs) none) one;
    },
    each_job_has_run team (m + 1) members jobs outcomes others news begun (others_count_nothing (start_of job) (map start_of jobs) none),
  )

  -- those of an opened region
  pub opened_jobs_have_run : (team : TeamView) (progs : List P) (tools : List T) (region : RegionView) (jobs : List J) (outcomes : List O)
      → length progs ≡ n → IsOpened tool team progs tools region (map start_of jobs)
      → EachKept (λ job outcome. HasRun program tool forks (start_of job) (end_of outcome) (taken_of outcome)) jobs outcomes
      → EachHasRun program tool forks n team 0 progs tools (map end_of outcomes) (map taken_of outcomes)
  opened_jobs_have_run team progs tools region jobs outcomes many opened kept =
      let begun = subst (λ k. EachHasBegun tool k 0 opened.members (members_of (map start_of jobs))) many opened.begun in
      subst (λ ps. EachHasRun program tool forks n team 0 ps tools (map end_of outcomes) (map taken_of outcomes)) opened.progs_are
      (subst (λ ts. EachHasRun program tool forks n team 0 (progs_of (map start_of jobs)) ts (map end_of outcomes) (map taken_of outcomes)) opened.tools_are
      (each_job_has_run team 0 opened.members jobs outcomes kept opened.members_are begun opened.counted_is))

module _ {P T : Type 0} (program : ProgramGhosts P) (tool : ToolGhosts T) (forks : ForksRelation P T) where
  -- there is one end for each program
  pub one_for_each_program : (n : ℕ) (team : TeamView) (m : ℕ) (progs : List P) (tools : List T) (ends : List (EndView P T)) (taken : List ℕ)
      → EachHasRun program tool forks n team m progs tools ends taken → length ends ≡ length progs
  one_for_each_program n team m [] [] [] [] ran = refl
  one_for_each_program n team m (prog ∷ progs) (own ∷ tools) (end ∷ ends) (given ∷ taken) (one, others) = ap suc (one_for_each_program n team (m + 1) progs tools ends taken others)
  one_for_each_program n team m _ _ _ _ ran = absurd ran

  -- there are no others among the first n
  few_first : {X : Type 0} (n : ℕ) (xs : List X) → length (take n xs) ≤ n
  few_first n xs = omega (arith, length-take n xs)

  first_of_first : {X : Type 0} (n : ℕ) (xs : List X) → take n (take n xs) ≡ take n xs
  first_of_first n xs = take_all n (take n xs) (few_first n xs)

  no_others_behind : {X : Type 0} (n : ℕ) (xs : List X) → drop n (take n xs) ≡ []
  no_others_behind n xs = drop_all n (take n xs) (few_first n xs)

  -- all of them ran, so the first ones did
  pub all_ran : (n : ℕ) (team : TeamView) (progs : List P) (tools : List T) (ends : List (EndView P T)) (taken : List ℕ)
      → length progs ≡ n → length tools ≡ n → EachHasRun program tool forks n team 0 progs tools ends taken
      → FirstRan program tool forks n team progs tools (progs_of ends) (tools_of (members_of ends)) ends taken
  all_ran n team progs tools ends taken many as_many ran = record {
    ran = rw (take_all n progs (omega (arith, many)), take_all n tools (omega (arith, as_many))) ran;
    progs_are = rw (drop_all n progs (omega (arith, many))) (sym (append-nil (progs_of ends)));
    tools_are = rw (drop_all n tools (omega (arith, as_many))) (sym (append-nil (tools_of (members_of ends))));
  }

  -- the others are put behind them
  pub others_behind : (n : ℕ) (team : TeamView) (progs : List P) (tools : List T) (back : List P) (tools_back : List T) (ends : List (EndView P T)) (taken : List ℕ)
      → FirstRan program tool forks n team (take n progs) (take n tools) back tools_back ends taken
      → FirstRan program tool forks n team progs tools (back ++ drop n progs) (tools_back ++ drop n tools) ends taken
  others_behind n team progs tools back tools_back ends taken first = record {
    ran = rw (first_of_first n progs, first_of_first n tools) at first.ran;
    progs_are = ap (λ ps. ps ++ drop n progs) (first.progs_are ∙ ap (λ ps. progs_of ends ++ ps) (no_others_behind n progs) ∙ append-nil (progs_of ends));
    tools_are = ap (λ ts. ts ++ drop n tools) (first.tools_are ∙ ap (λ ts. tools_of (members_of ends) ++ ts) (no_others_behind n tools) ∙ append-nil (tools_of (members_of ends)));
  }

  -- as many come back as there were
  pub as_many_back : (n : ℕ) (team : TeamView) (progs : List P) (tools : List T) (back : List P) (tools_back : List T) (ends : List (EndView P T)) (taken : List ℕ)
      → FirstRan program tool forks n team progs tools back tools_back ends taken → n ≤ length progs → n ≤ length tools
      → (length back ≡ length progs) × (length tools_back ≡ length tools)
  as_many_back n team progs tools back tools_back ends taken first enough tools_enough =
      let each = one_for_each_program n team 0 (take n progs) (take n tools) ends taken first.ran in
      let many : length (take n progs) ≡ n = length-take-le n progs enough in
      let ran : length back ≡ length (progs_of ends) + length (drop n progs) = ap length first.progs_are ∙ length-append (progs_of ends) (drop n progs) in
      let told : length tools_back ≡ length (tools_of (members_of ends)) + length (drop n tools) = ap length first.tools_are ∙ length-append (tools_of (members_of ends)) (drop n tools) in
      let progs_mapped : length (progs_of ends) ≡ length ends = length-map ends (λ end. end.prog) in
      let members_mapped : length (members_of ends) ≡ length ends = length-map ends (λ end. end.member) in
      let tools_mapped : length (tools_of (members_of ends)) ≡ length (members_of ends) = length-map (members_of ends) (λ member. member.tool) in (
        omega (arith, each, many, ran, progs_mapped, length-drop n progs),
        omega (arith, each, many, told, members_mapped, tools_mapped, length-drop n tools),
      )

  -- The report of members that ran so

  pub region_left : (n : ℕ) (team : TeamView) (progs : List P) (tools : List T) (ends : List (EndView P T)) (taken : List ℕ) (rest : PartView) (returned : ReturnedView P T) (result : Result (Report P T) (RegionFault P T))
      → EachHasRun program tool forks n team 0 progs tools ends taken → length progs ≡ n → length tools ≡ n
      → returned.members ≡ members_of ends → returned.progs ≡ progs_of ends → rest.amount ≡ 0
      → IfOk result (HasSettled rest returned) → IfErr result (λ fault. (fault.progs.items ≡ returned.progs) × (fault.tools.items ≡ tools_of returned.members))
      → LeavesRegion program tool forks n team progs tools result
  region_left n team progs tools ends taken rest returned (Ok report) ran many as_many members_are progs_are none settled back =
      let each : length ends ≡ length progs = one_for_each_program n team 0 progs tools ends taken ran in
      let mapped : length (members_of ends) ≡ length ends = length-map ends (λ end. end.member) in
      let ended : report.size ≡ length ends = settled.size_is ∙ ap length members_are ∙ mapped in
      let sized : report.size ≡ n = ended ∙ each ∙ many in
      record {
        counted = counted_by ends;
        report = record {
          ends = ends;
          given = taken;
          size_is = ended;
          ran = rw (settled.progs_are ∙ progs_are, settled.tools_are ∙ ap tools_of members_are) (all_ran report.size team progs tools ends taken (many ∙ sym sized) (as_many ∙ sym sized) (subst (λ k. EachHasRun program tool forks k team 0 progs tools ends taken) (sym sized) ran));
          history_is = history_of ends returned.members rest report.history.items members_are none settled.history_is settled.counted_is;
          took = subst (λ members. HaveTaken members report.taken.items report.history.items) members_are settled.took;
          counted_is = refl;
        };
        size = sized;
        back = tt;
      }
  region_left n team progs tools ends taken rest returned (Err fault) ran many as_many members_are progs_are none settled back = record {
    counted = counted_by ends;
    report = tt;
    size = tt;
    back = inr (ends, taken, rw (back.0 ∙ progs_are, back.1 ∙ ap tools_of members_are) (all_ran n team progs tools ends taken many as_many ran), refl);
  }

  -- and what is counted behind it, if that is what its members held and freed
  pub all_left : (team : TeamView) (progs : List P) (tools : List T) (ends : List (EndView P T)) (taken : List ℕ) (rest : PartView) (returned : ReturnedView P T) (before after : HoldCounts) (result : Result (Report P T) (RegionFault P T))
      → EachHasRun program tool forks (length progs) team 0 progs tools ends taken → length tools ≡ length progs
      → returned.members ≡ members_of ends → returned.progs ≡ progs_of ends → rest.amount ≡ 0
      → IfOk result (HasSettled rest returned) → IfErr result (λ fault. (fault.progs.items ≡ returned.progs) × (fault.tools.items ≡ tools_of returned.members))
      → after ≡ both_counted before (counted_by ends) → LeavesAll program tool forks (team, progs, tools) (before, after) result
  unfolding region_left
  all_left team progs tools ends taken rest returned before after (Ok report) ran as_many members_are progs_are none settled back counts =
      record { left = region_left (length progs) team progs tools ends taken rest returned (Ok report) ran refl as_many members_are progs_are none settled back; counts_are = counts }
  all_left team progs tools ends taken rest returned before after (Err fault) ran as_many members_are progs_are none settled back counts =
      record { left = region_left (length progs) team progs tools ends taken rest returned (Err fault) ran refl as_many members_are progs_are none settled back; counts_are = counts }

  pub refused_leaves_all : (n : ℕ) (team : TeamView) (progs : List P) (tools : List T) (fault : RegionFault P T)
      → fault.progs.items ≡ progs → fault.tools.items ≡ tools → IsRefusedUnbegun fault.refusal → LeavesRegion program tool forks n team progs tools (Err fault)
  refused_leaves_all n team progs tools fault same same_tools cause = record { counted = nothing_counted; report = tt; size = tt; back = inl (same, same_tools, refl, cause) }

  -- and nothing is counted in it
  pub refused_leaves_none : (team : TeamView) (progs : List P) (tools : List T) (held freed held_after freed_after : BookPartView) (fault : RegionFault P T)
      → fault.progs.items ≡ progs → fault.tools.items ≡ tools → IsRefusedUnbegun fault.refusal → held_after ≡ held → freed_after ≡ freed
      → LeavesAll program tool forks (team, progs, tools) (counted_on held freed, counted_on held_after freed_after) (Err fault)
  unfolding refused_leaves_all
  refused_leaves_none team progs tools held freed held_after freed_after fault same same_tools cause held_is freed_is =
      record { left = refused_leaves_all (length progs) team progs tools fault same same_tools cause; counts_are = rw (held_is, freed_is) (nothing_counted_more (counted_on held freed)) }

  pub unbegun_leaves_none : (team : TeamView) (progs : List P) (tools : List T) (held freed : BookPartView) (result : Result (Report P T) (RegionFault P T))
      → IsErr result → IfErr result (λ fault. fault.progs.items ≡ progs) → IfErr result (λ fault. fault.tools.items ≡ tools) → IfErr result (λ fault. fault.refusal ≡ Refused NoMemory)
      → LeavesAll program tool forks (team, progs, tools) (counted_on held freed, counted_on held freed) result
  unbegun_leaves_none team progs tools held freed (Ok report) fails same same_tools lacks = absurd (cc fails)
  unbegun_leaves_none team progs tools held freed (Err fault) fails same same_tools lacks = refused_leaves_none team progs tools held freed held freed fault same same_tools (inl lacks) refl refl

  -- The result of the first n of all, with the others behind them

  all_reported : (n : ℕ) (team : TeamView) (progs : List P) (tools : List T) (counted : HoldCounts) (report all : Report P T)
      → IsReport program tool forks team (take n progs) (take n tools) counted report → report.size ≡ n
      → all.size ≡ report.size → all.taken.items ≡ report.taken.items → all.history.items ≡ report.history.items
      → all.progs.items ≡ report.progs.items ++ drop n progs → all.tools.items ≡ report.tools.items ++ drop n tools → IsReport program tool forks team progs tools counted all
  all_reported n team progs tools counted report all is many size taken history progs_are tools_are =
      let first = subst (λ k. FirstRan program tool forks k team (take n progs) (take n tools) report.progs.items report.tools.items is.ends is.given) many is.ran in
      record {
        ends = is.ends;
        given = is.given;
        size_is = size ∙ is.size_is;
        ran = rw (size ∙ many, progs_are, tools_are) (others_behind n team progs tools report.progs.items report.tools.items is.ends is.given first);
        history_is = rw history is.history_is;
        took = rw (history, taken) is.took;
        counted_is = is.counted_is;
      }

  all_back : (n : ℕ) (team : TeamView) (progs : List P) (tools : List T) (counted : HoldCounts) (fault all : RegionFault P T)
      → AreBack program tool forks n team (take n progs) (take n tools) counted fault
      → all.progs.items ≡ fault.progs.items ++ drop n progs → all.tools.items ≡ fault.tools.items ++ drop n tools → all.refusal ≡ fault.refusal → AreBack program tool forks n team progs tools counted all
  all_back n team progs tools counted fault all (inl (same, same_tools, none, cause)) progs_are tools_are refused = inl (
    progs_are ∙ ap (λ ps. ps ++ drop n progs) same ∙ take-append-drop n progs,
    tools_are ∙ ap (λ ts. ts ++ drop n tools) same_tools ∙ take-append-drop n tools,
    none,
    subst IsRefusedUnbegun (sym refused) cause,
  )
  all_back n team progs tools counted fault all (inr (ends, taken, first, counts)) progs_are tools_are refused =
      inr (ends, taken, rw (progs_are, tools_are) (others_behind n team progs tools fault.progs.items fault.tools.items ends taken first), counts)

  pub region_left_of_all : (n : ℕ) (team : TeamView) (progs : List P) (tools : List T) (region all : Result (Report P T) (RegionFault P T))
      → HasOthers (drop n progs) (drop n tools) region all → LeavesRegion program tool forks n team (take n progs) (take n tools) region
      → LeavesRegion program tool forks n team progs tools all
  region_left_of_all n team progs tools (Ok report) (Ok all) has left = record {
    counted = left.counted;
    report = all_reported n team progs tools left.counted report all left.report left.size has.0 has.1 has.2 has.3 has.4;
    size = has.0 ∙ left.size;
    back = tt;
  }
  region_left_of_all n team progs tools (Ok report) (Err all) has left = absurd has
  region_left_of_all n team progs tools (Err fault) (Ok all) has left = absurd has
  region_left_of_all n team progs tools (Err fault) (Err all) has left = record { counted = left.counted; report = tt; size = tt; back = all_back n team progs tools left.counted fault all left.back has.0 has.1 has.3 }

  -- as many come back of a report or a fault as there were

  many_of_a_fault : (n : ℕ) (team : TeamView) (progs : List P) (tools : List T) (counted : HoldCounts) (fault : RegionFault P T) → AreBack program tool forks n team progs tools counted fault
      → n ≤ length progs → n ≤ length tools → (length fault.progs.items ≡ length progs) × (length fault.tools.items ≡ length tools)
  many_of_a_fault n team progs tools counted fault (inl (same, same_tools, none, cause)) enough tools_enough = (ap length same, ap length same_tools)
  many_of_a_fault n team progs tools counted fault (inr (ends, taken, first, counts)) enough tools_enough =
      as_many_back n team progs tools fault.progs.items fault.tools.items ends taken first enough tools_enough

  pub as_many_of_a_report : (n : ℕ) (team : TeamView) (progs : List P) (tools : List T) (region : Result (Report P T) (RegionFault P T))
      → LeavesRegion program tool forks n team progs tools region → length progs ≡ n → length tools ≡ n
      → IfOk region (λ report. (length report.progs.items ≡ n) × (length report.tools.items ≡ n))
  as_many_of_a_report n team progs tools (Ok report) left many as_many =
      let size : report.size ≡ n = left.size in
      let back = as_many_back report.size team progs tools report.progs.items report.tools.items left.report.ends left.report.given left.report.ran (omega (arith, size, many)) (omega (arith, size, as_many)) in
      (back.0 ∙ many, back.1 ∙ as_many)
  as_many_of_a_report n team progs tools (Err fault) left many as_many = tt

  pub as_many_of_a_fault : (n : ℕ) (team : TeamView) (progs : List P) (tools : List T) (region : Result (Report P T) (RegionFault P T))
      → LeavesRegion program tool forks n team progs tools region → length progs ≡ n → length tools ≡ n
      → IfErr region (λ fault. (length fault.progs.items ≡ n) × (length fault.tools.items ≡ n))
  as_many_of_a_fault n team progs tools (Ok report) left many as_many = tt
  as_many_of_a_fault n team progs tools (Err fault) left many as_many =
      let back = many_of_a_fault n team progs tools left.counted fault left.back (omega (arith, many)) (omega (arith, as_many)) in
      (back.0 ∙ many, back.1 ∙ as_many)

-- what holds of an error
pub if_err_weaker : {A E : Type 0} (result : Result A E) (strong weak : E → Type 0) → ((error : E) → strong error → weak error) → IfErr result strong → IfErr result weak
if_err_weaker (Ok value) strong weak step holds = tt
if_err_weaker (Err error) strong weak step holds = step error holds

-- why a region left no report

pub blamed_for_a_cause : {P T A : Type 0} (result : Result (Report P T) (RegionFault P T)) (ledger : Option A) (ring : Ring) (rest : PartView) (returned : ReturnedView P T)
    → IfErr result (λ fault. (fault.progs.items ≡ returned.progs) × (fault.tools.items ≡ tools_of returned.members)) → IfErr result (λ fault. IsSome ledger → HasBlamed ring rest returned.members fault.member fault.refusal)
    → IfErr result (λ fault. IsSome ledger → FaultHasCause fault)
blamed_for_a_cause (Ok report) ledger ring rest returned back blamed = tt
blamed_for_a_cause (Err fault) ledger ring rest returned back blamed = λ some. inr (ring, rest, returned.members, back.1, blamed some)

pub unbegun_for_a_cause : {P T A : Type 0} (result : Result (Report P T) (RegionFault P T)) (ledger : Option A) → IfErr result (λ fault. fault.refusal ≡ Refused NoMemory) → IfErr result (λ fault. IsSome ledger → FaultHasCause fault)
unbegun_for_a_cause (Ok report) ledger lacks = tt
unbegun_for_a_cause (Err fault) ledger lacks = λ some. inl lacks

-- teams of one number and of the same variables
pub same_team : (one other : TeamView) → one.number ≡ other.number → one.icv ≡ other.icv → one ≡ other
same_team one other number icv = rw (number, icv) refl
