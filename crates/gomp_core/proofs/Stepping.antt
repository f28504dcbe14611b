-- A step leaves the team standing for the record with this step and its reply.
use Rattle.std.proofs.Common.{◌≡◌, ℕ, ◌<◌, Bool, true, false, List, [], ◌∷◌, ◌++◌, Option, Some, None, length, slice_get, replicate, refl, ap, ◌∙◌, sym, subst, arith, suc, zero}
use Rattle.std.specs.Prelude.{◌≤◌, ◌==◌, ◌≢◌, if◌then◌else◌, nat_le, IsTrue, slice_index_or}
use Rattle.std.proofs.lemmas.Bool.Decides.{nat_tests}
use Rattle.gomp_types.specs.declared.call.Call.{Call}
use Rattle.gomp_types.specs.declared.call.Call.TheVariants.{Stop}
use Rattle.gomp_types.specs.declared.call.Step.{Step}
use Rattle.gomp_types.specs.declared.refusal.Clash.{Clash}
use Rattle.gomp_types.specs.declared.refusal.Place.{Place}
use Rattle.gomp_types.specs.declared.refusal.Refusal.{Refusal}
use Rattle.gomp_types.specs.declared.refusal.Refusal.TheVariants.{BadMember, Ended, Broken, Mismatch, NoMemory}
use Rattle.gomp_types.specs.declared.reply.Reply.{Reply}
use Rattle.gomp_types.specs.declared.reply.Reply.TheVariants.{Wait, Run, TaskDone, Refused}
use Rattle.gomp_events.specs.declared.event.Event.{Event}
use Rattle.gomp_events.specs.declared.event.Event.TheVariants.{Break}
use Rattle.gomp_types.specs.Limits.{capped_limits, IsTeamSize}
use Rattle.gomp_events.specs.Events.{open_share, has_left_region, clash_of}
use Rattle.gomp_events.specs.Laws.{Always}
use Rattle.gomp_events.specs.Breaks.{broken_tests}
use Rattle.gomp_events.proofs.BreakReadings.{no_other_refusal_breaks}
use Rattle.gomp_types.specs.Least.{lesser, least}
use Rattle.gomp_types.proofs.LeastTests.{lesser_low}
use Rattle.gomp_locks.specs.Book.{BookView}
use Rattle.gomp_locks.specs.Holders.{holder}
use Rattle.gomp_model.specs.Past.{Terms, Waits, no_waits, Past}
use Rattle.gomp_model.specs.Row.{Row, asks_memory, MayGive}
use Rattle.gomp_model.specs.Calls.{row_of}
use Rattle.gomp_model.specs.CriticalNames.{was_name_held}
use Rattle.gomp_types.specs.Resumes.{call_meant, is_resume}
use Rattle.gomp_model.specs.Team.{Record, row_at, refusal_of, MayAnswer, open_first, waits_after, past_of, Caused}
use Rattle.gomp_board.specs.declared.op.Op.TheVariants.{Break as BreakOp}
use Rattle.gomp_board.specs.Boards.{BoardView, Stands as BoardStands, Performs, kept_by}
use Rattle.gomp_laws.proofs.Layers.{step_layers}
use Rattle.gomp_laws.proofs.Calls.{row_is_sound}
use Rattle.gomp_laws.proofs.Waiting.{AreBeneath}
use Rattle.gomp_dispatch.specs.declared.leaving.Leaving.{Leaving}
use Rattle.gomp_dispatch.specs.Answers.{room_left, PutsInside, ServersStand, KeepsStart}
use Rattle.gomp_dispatch.specs.Leaves.{LeavesAs, leaves_nothing}
use Rattle.gomp_book_calls.specs.Stands.{BookStands, IsKnown}
use Rattle.gomp_board.proofs.Refused.{break_that_gives_nothing_back}
use Rattle.gomp_core.specs.Replies.{NamesStay}
use Rattle.gomp_core.specs.Stands.{TeamView, Stands, Keeps, past, terms_of, members_of}
use Rattle.gomp_core.proofs.Admitted.{same_members, step_below}
use Rattle.gomp_core.proofs.BookKept.{book_moved}
use Rattle.gomp_types.proofs.ResumeReadings.{first_call_is_meant}

-- Lists and choices

same_of : {A : Type 0} (test : Bool) (x : A) → (if test then x else x) ≡ x
same_of true x = refl
same_of false x = refl

pub at_other : {A : Type 0} (n k : ℕ) (x y : A) → k ≢ n → (if n == k then x else y) ≡ y
at_other n k x y differ = grind (arith, nat_tests, differ)

waits_refused : (p : Past) (step : Step) (k : ℕ) → (if step.member == k then p.waits k else p.waits k) ≡ p.waits k
waits_refused p step k = same_of (step.member == k) (p.waits k)

pub unequal_kept : (n k : ℕ) → (n == k) ≡ false → k ≢ n
unequal_kept n k other same = absurd (let never : (n == n) ≡ false = subst (λ (x : ℕ). (n == x) ≡ false) same other in let own : (n == n) ≡ true = grind (arith, nat_tests) in let both = sym own ∙ never in cc)

-- nobody waits in a new team
only_none_wait : (count m : ℕ) (waits : Waits) → slice_get (replicate {A = Waits} count no_waits) m ≡ Some waits → no_waits ≡ waits
only_none_wait zero m waits at = absurd (cc)
only_none_wait (suc count) zero waits at = cc
only_none_wait (suc count) (suc m) waits at = only_none_wait count m waits at

pub nobody_waits : (kept : List Waits) (count m : ℕ) (waits : Waits) → kept ≡ replicate count no_waits → slice_get kept m ≡ Some waits → no_waits ≡ waits
nobody_waits kept count m waits all at = only_none_wait count m waits (subst (λ (xs : List Waits). slice_get xs m ≡ Some waits) all at)

-- nor does anyone leave anything
only_none_leave : (count m : ℕ) (leaving : Leaving) → slice_get (replicate {A = Leaving} count leaves_nothing) m ≡ Some leaving → leaves_nothing ≡ leaving
only_none_leave zero m leaving at = absurd (cc)
only_none_leave (suc count) zero leaving at = cc
only_none_leave (suc count) (suc m) leaving at = only_none_leave count m leaving at

pub nobody_leaves : (kept : List Leaving) (count m : ℕ) (leaving : Leaving) (h : List Event) → kept ≡ replicate count leaves_nothing → slice_get kept m ≡ Some leaving → h ≡ [] → LeavesAs leaving m h
nobody_leaves kept count m leaving h all at quiet =
    let none = only_none_leave count m leaving (subst (λ (xs : List Leaving). slice_get xs m ≡ Some leaving) all at) in
    rw (← none, quiet) (record { region = refl; task = refl })

-- A team that is the other

pub same_stands : {S : Type 0} (stands : S → List Event → Type 0) (members : S → ℕ) (team other : TeamView S) (before : Record) → team ≡ other → Stands stands members other before → Stands stands members team before
same_stands stands members team other before same st = subst (λ (t : TeamView _). Stands stands members t before) (sym same) st

pub other_stands : {S : Type 0} (stands : S → List Event → Type 0) (members : S → ℕ) (team other : TeamView S) (before : Record) → team ≡ other → Stands stands members team before → Stands stands members other before
other_stands stands members team other before same st = subst (λ (t : TeamView _). Stands stands members t before) same st

pub step_found : {S : Type 0} (team other : TeamView S) (before : Record) (step : Step) (found one : Option Refusal) → team ≡ other → found ≡ refusal_of (past other before) step → found ≡ one → refusal_of (past team before) step ≡ one
step_found team other before step found one same is told = subst (λ (t : TeamView _). refusal_of (past t before) step ≡ one) (sym same) (sym is ∙ told)

-- what no test refuses of one team is not refused of the other
pub unrefused_here : {S : Type 0} (stands : S → List Event → Type 0) (members : S → ℕ) (team other : TeamView S) (before : Record) (step : Step) → team ≡ other → Stands stands members team before →
    ((run : Record) → Stands stands members other run → refusal_of (past other run) step ≡ None) → refusal_of (past team before) step ≡ None
unrefused_here stands members team other before step same st none = subst (λ (t : TeamView _). refusal_of (past t before) step ≡ None) (sym same) (none before (other_stands stands members team other before same st))

pub differing_here : {S : Type 0} (stands : S → List Event → Type 0) (members : S → ℕ) (team other : TeamView S) (before : Record) (step : Step) → team ≡ other → Stands stands members team before →
    ((run : Record) → Stands stands members other run → refusal_of (past other run) step ≡ Some Mismatch) → refusal_of (past team before) step ≡ Some Mismatch
differing_here stands members team other before step same st is = subst (λ (t : TeamView _). refusal_of (past t before) step ≡ Some Mismatch) (sym same) (is before (other_stands stands members team other before same st))

-- a step that is not refused, or only where it is compared, is one of a member
pub member_free : {S : Type 0} (team : TeamView S) (before : Record) (step : Step) → refusal_of (past team before) step ≡ None → step.member < members_of team
member_free team before step none = subst (λ (n : ℕ). step.member < n) (same_members (terms_of team) before) (step_below (past team before) step (λ bad. let both = sym none ∙ bad in cc))

pub member_differs : {S : Type 0} (team : TeamView S) (before : Record) (step : Step) → refusal_of (past team before) step ≡ Some Mismatch → step.member < members_of team
member_differs team before step is = subst (λ (n : ℕ). step.member < n) (same_members (terms_of team) before) (step_below (past team before) step (λ bad. let both = sym is ∙ bad in cc))

-- the board has a place for each member
pub board_size : {S : Type 0} {stands : S → List Event → Type 0} {members : S → ℕ} {team : TeamView S} {before : Record} → Stands stands members team before → length team.board.kept ≡ members_of team
board_size {S} {stands} {members} {team} {before} st = sym st.parts_are.members ∙ same_members (terms_of team) before

-- The parts of a team stand for a past by its events, its terms and its room

pub parts_moved : {S : Type 0} (stands : S → List Event → Type 0) (shares : S) (board : BoardView) (p q : Past) → q.events ≡ p.events → q.terms ≡ p.terms → q.room ≡ p.room → ServersStand stands shares board p → ServersStand stands shares board q
parts_moved stands shares board p q events terms room st = record {
  shares_are = subst (stands shares) (sym events) st.shares_are;
  board_is = subst (BoardStands board) (sym events) st.board_is;
  members = ap (λ (t : Terms). t.members) terms ∙ st.members;
  limits = ap (λ (t : Terms). t.limits) terms ∙ st.limits;
  room = room ∙ st.room;
  kept = λ k. subst (λ (h : List Event). room_left (open_share k h) ≤ kept_by k board) (sym events) (st.kept k);
  puts = subst (Always PutsInside) (sym events) st.puts;
}

-- a team stands for a record by terms that are its own
pub record StandsBy {S : Type 0} (stands : S → List Event → Type 0) (terms : Terms) (team : TeamView S) (before : Record) : Type 0 where
  pub caused : Caused terms before
  pub parts_are : ServersStand stands team.shares team.board (past_of terms before)
  pub book_are : BookStands team.book (past_of terms before)
  pub names_known : (m : ℕ) → IsKnown team.book ((past_of terms before).waits m).open_call
  pub wait : (m : ℕ) (waits : Waits) → slice_get team.waits m ≡ Some waits → (past_of terms before).waits m ≡ waits
  pub leave : (m : ℕ) (leaving : Leaving) → slice_get team.leaving m ≡ Some leaving → LeavesAs leaving m (past_of terms before).events
  pub waiting_kept : (m : ℕ) (call : Call) → ((past_of terms before).waits m).open_call ≡ Some call → KeepsStart (row_of call) m team.board

pub stands_by : {S : Type 0} (stands : S → List Event → Type 0) (members : S → ℕ) (terms : Terms) (team : TeamView S) (before : Record) → terms ≡ terms_of team → StandsBy stands terms team before → IsTeamSize (members_of team) →
    capped_limits team.board.limits ≡ team.board.limits → members team.shares ≡ members_of team → length team.leaving ≡ members_of team → Stands stands members team before
stands_by stands members terms team before same by size limits shares leaving =
    let own = subst (λ (t : Terms). StandsBy stands t team before) same by in record {
      caused = own.caused;
      parts_are = own.parts_are;
      book_are = own.book_are;
      names_known = own.names_known;
      wait = own.wait;
      leave = own.leave;
      leaving_size = leaving;
      waiting_kept = own.waiting_kept;
      size = size;
      limits_are = limits;
      shares_size = shares;
    }

-- A refusal

-- one that is no mismatch changes nothing
pub stands_refused : {S : Type 0} (stands : S → List Event → Type 0) (members : S → ℕ) (team : TeamView S) (before : Record) (step : Step) (refusal : Refusal) → Stands stands members team before →
    MayAnswer (past team before) step (Refused refusal) → (refusal ≡ Mismatch → ⊥) → Stands stands members team ((step, Refused refusal) ∷ before)
stands_refused stands members team before step refusal st may other =
    let p = past team before in
    let q = past team ((step, Refused refusal) ∷ before) in
    let same : q.events ≡ p.events = ap (λ (es : List Event). es ++ p.events) (no_other_refusal_breaks refusal step.member ((row_at p step).place step.member p.events) other) in
    record {
      caused = (may, st.caused);
      parts_are = parts_moved stands team.shares team.board p q same refl refl st.parts_are;
      book_are = book_moved team.book p q (λ key. ap (holder key) same) (λ name. ap (was_name_held name) same) refl st.book_are;
      names_known = λ k. subst (λ (w : Waits). IsKnown team.book w.open_call) (sym (waits_refused p step k)) (st.names_known k);
      wait = λ k waits at. waits_refused p step k ∙ st.wait k waits at;
      leave = λ k leaving at. subst (LeavesAs leaving k) (sym same) (st.leave k leaving at);
      leaving_size = st.leaving_size;
      waiting_kept = λ k call is. st.waiting_kept k call (ap (λ (w : Waits). w.open_call) (sym (waits_refused p step k)) ∙ is);
      size = st.size;
      limits_are = st.limits_are;
      shares_size = st.shares_size;
    }

-- and leaves the team as it was
pub refused_keeps : {S : Type 0} (team after : TeamView S) (call : Call) (refusal : Refusal) → after ≡ team → refusal ≢ Mismatch → Refused refusal ≢ Refused NoMemory → Keeps team after call (Refused refusal)
refused_keeps team after call refusal same differs fits = record {
  members = ap (λ (t : TeamView _). members_of t) same;
  icv = ap (λ (t : TeamView _). t.icv) same;
  limits = ap (λ (t : TeamView _). t.board.limits) same;
  refused = λ other is differ lacks. same;
  lacks = λ is. absurd (fits is);
  broken = λ is. absurd (differs (let one : refusal ≡ Mismatch = cc in one));
  waits = λ is resume. absurd (cc);
}

-- a refusal with a greater number than that of a broken team tells that it is not broken, and the member in the region
after_broken : (bad left : Bool) (clash : Option Clash) (rest : Option Refusal) → lesser (least ((bad, BadMember) ∷ (left, Ended) ∷ broken_tests clash)) rest ≡ Some Mismatch → (left ≡ false) × (clash ≡ None)
after_broken false false None rest e = (refl, refl)
after_broken true left None rest e = absurd (let low = lesser_low BadMember Mismatch rest (sym (bad_alone left rest) ∙ e) in omega arith)
  where
    bad_alone : (left : Bool) (rest : Option Refusal) → lesser (least ((true, BadMember) ∷ (left, Ended) ∷ [])) rest ≡ lesser (Some BadMember) rest
    bad_alone true rest = refl
    bad_alone false rest = refl
after_broken false true None rest e = absurd (let low = lesser_low Ended Mismatch rest e in omega arith)
after_broken true true (Some clash) rest e = absurd (let low = lesser_low BadMember Mismatch rest e in omega arith)
after_broken true false (Some clash) rest e = absurd (let low = lesser_low BadMember Mismatch rest e in omega arith)
after_broken false true (Some clash) rest e = absurd (let low = lesser_low Ended Mismatch rest e in omega arith)
after_broken false false (Some clash) rest e = absurd (let low = lesser_low (Broken clash) Mismatch rest e in omega arith)

pub differing_inside : (p : Past) (step : Step) → refusal_of p step ≡ Some Mismatch → (has_left_region step.member p.events ≡ false) × (clash_of p.events ≡ None)
differing_inside p step e = after_broken (nat_le p.terms.members step.member) (has_left_region step.member p.events) (clash_of p.events) _ (sym (step_layers p step) ∙ e)

-- what a member keeps, if all keep the same
pub kept_alike : (k : ℕ) (board after : BoardView) → after.kept ≡ board.kept → kept_by k board ≡ kept_by k after
kept_alike k board after same = ap (λ (kept : List ℕ). slice_index_or kept k 0) (sym same)

pub keeps_alike : (row : Row) (k : ℕ) (board after : BoardView) → kept_by k board ≡ kept_by k after → KeepsStart row k board → KeepsStart row k after
keeps_alike row k board after same keeps = by_start row.starts keeps
  where
    by_start : (starts : _) → KeepsStart (record row { starts = starts }) k board → KeepsStart (record row { starts = starts }) k after
    by_start None keeps = tt
    by_start (Some shape) keeps = rw (← same) keeps

-- a mismatch breaks the team at its place, on the board, and changes no more
pub stands_broken : {S : Type 0} (stands : S → List Event → Type 0) (members : S → ℕ) (team : TeamView S) (board : BoardView) (before : Record) (step : Step) (place : Place) → Stands stands members team before →
    MayAnswer (past team before) step (Refused Mismatch) → place ≡ (row_at (past team before) step).place step.member (past team before).events →
    ((h : List Event) → stands team.shares h → stands team.shares (Break step.member place ∷ h)) → Performs (BreakOp place 0) step.member team.board board (Refused Mismatch) →
    Stands stands members (record team { board = board }) ((step, Refused Mismatch) ∷ before)
stands_broken stands members team board before step place st may at shares breaks =
    let p = past team before in
    let after = record team { board = board } in
    let q = past team ((step, Refused Mismatch) ∷ before) in
    let parts = st.parts_are in
    let (room_same, kept_same) = break_that_gives_nothing_back step.member place team.board board breaks in
    let same : q.events ≡ Break step.member place ∷ p.events = ap (λ (there : Place). Break step.member there ∷ p.events) (sym at) in
    stands_by stands members (terms_of team) after ((step, Refused Mismatch) ∷ before) (ap (λ (limits : _). record (terms_of team) { limits = limits }) (sym breaks.limits))
    (record {
      caused = (may, st.caused);
      parts_are = record {
        shares_are = subst (stands team.shares) (sym same) (shares p.events parts.shares_are);
        board_is = subst (BoardStands board) (sym same) (breaks.stands p.events parts.board_is);
        members = parts.members ∙ sym breaks.members;
        limits = parts.limits ∙ sym breaks.limits;
        room = parts.room ∙ sym room_same;
        kept = λ k. subst (λ (h : List Event). room_left (open_share k h) ≤ kept_by k board) (sym same) (rw (← kept_alike k team.board board kept_same) (parts.kept k));
        puts = subst (Always PutsInside) (sym same) (tt, parts.puts);
      };
      book_are = book_moved team.book p q (λ key. ap (holder key) same) (λ name. ap (was_name_held name) same) refl st.book_are;
      names_known = λ k. subst (λ (w : Waits). IsKnown team.book w.open_call) (sym (waits_refused p step k)) (st.names_known k);
      wait = λ k waits there. waits_refused p step k ∙ st.wait k waits there;
      leave = λ k leaving there. let as_before = st.leave k leaving there in subst (LeavesAs leaving k) (sym same) (record { region = as_before.region; task = as_before.task });
      waiting_kept = λ k call is. keeps_alike (row_of call) k team.board board (kept_alike k team.board board kept_same) (st.waiting_kept k call (ap (λ (w : Waits). w.open_call) (sym (waits_refused p step k)) ∙ is));
    })
    st.size (rw breaks.limits st.limits_are) st.shares_size st.leaving_size

-- No refusal is for want of memory
pub refused_memory : (p : Past) (step : Step) (refusal : Refusal) → MayAnswer p step (Refused refusal) → refusal_of p step ≡ Some refusal → Refused refusal ≢ Refused NoMemory
refused_memory p step NoMemory may is same = absurd (let none = may.0 in cc)
refused_memory p step refusal may is same = cc

-- An answer

-- a reply that such a call may give has its cause, and want of memory if the call is made
pub may_answer : (p : Past) (step : Step) (reply : Reply) → refusal_of p step ≡ None → MayGive (row_at p step) (is_resume step.call) step.member p reply → (reply ≡ Refused NoMemory → is_resume step.call ≡ false) → MayAnswer p step reply
may_answer p step (Refused NoMemory) none may once = (none, subst (λ (call : Call). IsTrue (asks_memory (row_of call) step.member p)) (first_call_is_meant step.call (p.waits step.member).open_call (once refl)) may)
may_answer p step (Refused refusal) none may once = absurd ((row_is_sound (call_meant step.call (p.waits step.member).open_call)).accepts step.member _ refusal may)
may_answer p step reply none may once = (none, may)

-- What is known of the calls that wait after an answer

-- a call that does not stay in its place starts no share
leaving_starts_none : (call : Call) → (row_of call).stays ≡ false → (row_of call).starts ≡ None
leaving_starts_none Stop leaves = refl
leaving_starts_none _ leaves = cc

pub keeps_none : (row : Row) (k : ℕ) (board : BoardView) → row.starts ≡ None → KeepsStart row k board
keeps_none row k board none = by_start row.starts none
  where
    by_start : (starts : _) → starts ≡ None → KeepsStart (record row { starts = starts }) k board
    by_start None none = tt
    by_start (Some shape) none = absurd (cc)

-- the call at which a task was started waits for no name, and starts no share
popped_known : (k : ℕ) (book : BookView) (calls : List Call) → AreBeneath k calls → IsKnown book (open_first calls).open_call
popped_known k book [] beneath = tt
popped_known k book (call ∷ calls) beneath = λ name is. absurd (let both = sym beneath.0.holds ∙ is in cc)

popped_kept : (k : ℕ) (board : BoardView) (calls : List Call) → AreBeneath k calls → (call : Call) → (open_first calls).open_call ≡ Some call → KeepsStart (row_of call) k board
popped_kept k board [] beneath call is = absurd (cc)
popped_kept k board (first ∷ calls) beneath call is =
    let same : first ≡ call = cc in
    subst (λ (c : Call). KeepsStart (row_of c) k board) same (keeps_none (row_of first) k board (leaving_starts_none first beneath.0.moves))

pub still_known : (book after : BookView) (waiting : Option Call) → NamesStay book after → IsKnown book waiting → IsKnown after waiting
still_known book after None stay known = tt
still_known book after (Some call) stay known = λ name is. stay name (known name is)

pub own_known : (k : ℕ) (book after : BookView) (call : Call) (waits : Waits) (reply : Reply) → AreBeneath k waits.beneath → NamesStay book after → IsKnown book waits.open_call → (reply ≡ Wait → IsKnown after (Some (call_meant call waits.open_call))) →
    IsKnown after (waits_after reply call waits).open_call
own_known k book after call waits (Refused refusal) beneath stay known here = still_known book after waits.open_call stay known
own_known k book after call waits Wait beneath stay known here = here refl
own_known k book after call waits (Run task code arg false) beneath stay known here = tt
own_known k book after call waits (TaskDone task true) beneath stay known here = popped_known k after waits.beneath beneath
own_known k book after call waits _ beneath stay known here = tt

pub own_kept : (k : ℕ) (board after : BoardView) (call : Call) (waits : Waits) (reply : Reply) → AreBeneath k waits.beneath → ((refusal : Refusal) → reply ≡ Refused refusal → kept_by k board ≡ kept_by k after) →
    ((other : Call) → waits.open_call ≡ Some other → KeepsStart (row_of other) k board) → (reply ≡ Wait → KeepsStart (row_of (call_meant call waits.open_call)) k after) →
    (other : Call) → (waits_after reply call waits).open_call ≡ Some other → KeepsStart (row_of other) k after
own_kept k board after call waits (Refused refusal) beneath same kept here other is = keeps_alike (row_of other) k board after (same refusal refl) (kept other is)
own_kept k board after call waits Wait beneath same kept here other is =
    let meant : call_meant call waits.open_call ≡ other = cc in subst (λ (c : Call). KeepsStart (row_of c) k after) meant (here refl)
own_kept k board after call waits (Run task code arg false) beneath same kept here other is = absurd (cc)
own_kept k board after call waits (TaskDone task true) beneath same kept here other is = popped_kept k after waits.beneath beneath other is
own_kept k board after call waits _ beneath same kept here other is = absurd (cc)
