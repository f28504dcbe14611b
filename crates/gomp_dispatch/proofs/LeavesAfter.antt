-- What a member leaves after a reply to a call on shares, barriers, tasks or groups, or to a construct that cancels, is what the events after it say.
use Rattle.std.proofs.Common.{◌≡◌, ℕ, Bool, true, false, List, [], ◌∷◌, ◌++◌, Option, Some, None, zero, suc, refl, sym, subst, inl, inr}
use Rattle.std.specs.Prelude.{◌≢◌}
use Rattle.gomp_types.specs.declared.call.Server.TheVariants.{Book}
use Rattle.gomp_types.specs.Servers.{served_by}
use Rattle.std.specs.Prelude.{ℤ, ◌==◌, ◌⊎◌, ◌&&◌, ◌||◌, not, if◌then◌else◌}
use Rattle.gomp_types.specs.declared.call.Call.{Call}
use Rattle.gomp_types.specs.declared.call.Call.TheVariants as calls
use Rattle.gomp_types.specs.declared.cancel.CancelKind.{CancelKind}
use Rattle.gomp_types.specs.declared.cancel.CancelKind.TheVariants as kinds
use Rattle.gomp_types.specs.declared.cancel.Scope.{Scope}
use Rattle.gomp_types.specs.declared.loop_desc.EndKind.TheVariants as ends
use Rattle.gomp_types.specs.declared.task.Task.{Task}
use Rattle.gomp_types.specs.declared.task.Task.TheVariants.{Implicit, Explicit}
use Rattle.gomp_types.specs.declared.reply.Reply.{Reply}
use Rattle.gomp_types.specs.declared.reply.Reply.TheVariants.{Chunk, NoChunk, Section, Executor, Copied, Finished, Passed, Wait, Cancelled, Cancelling, Run, TaskDone, Stopped}
use Rattle.gomp_types.specs.declared.shape.Shape.{Shape}
use Rattle.gomp_events.specs.declared.seen.Seen.{Seen}
use Rattle.gomp_events.specs.declared.event.Event.{Event}
use Rattle.gomp_events.specs.declared.event.Event.TheVariants.{Enter, HandOn, Arrive, Start, Done, Cancel, Discard, See}
use Rattle.gomp_events.specs.declared.event.Arrival.TheVariants.{ShareEnd}
use Rattle.gomp_events.specs.Tags.{tag_with}
use Rattle.gomp_types.specs.Iterations.{loop_tests}
use Rattle.gomp_events.specs.Ordered.{has_turn, last_number, must_wait}
use Rattle.gomp_types.specs.Pieces.{shape_of}
use Rattle.gomp_types.specs.Sections.{sections_shape, sections_tests}
use Rattle.gomp_types.specs.Shapes.{is_sections}
use Rattle.gomp_types.specs.Singles.{single_shape}
use Rattle.gomp_types.specs.Tests.{Test}
use Rattle.gomp_events.specs.Events.{open_share, shares_entered, barriers_passed, in_kind, has_drained, has_room}
use Rattle.gomp_events.specs.Goals.{is_unstarted, may_pass, taskwait_met}
use Rattle.gomp_events.specs.Groups.{open_groups}
use Rattle.gomp_events.specs.Tasks.{tasks_created, executed_task, is_undeferred, newest_child}
use Rattle.gomp_events.specs.TaskCalls.{AwaitsTasks, AwaitsOwn, AnswersCreator, starts_task, ends_task, waited, opens_group, ends_first, ends_group, last_complete, EndsTask}
use Rattle.gomp_events.specs.Cancels.{is_cancelled, is_covered, own_cancelled, leaves_share, scope_of}
use Rattle.gomp_events.specs.CancelCalls.{OrIsCancelled, OrWaitsCancelled, AnswersCreation, unless_cancelled, creates_covered, sees_cancelled, discards_to, cancels, cancels_by, tells_cancelled}
use Rattle.gomp_types.proofs.Booleans.{same_number}
use Rattle.gomp_shares.proofs.OrWaits.{each_answer_so}
use Rattle.gomp_shares.specs.Starts.{Deals, Starts, behind, entry_and, leaves}
use Rattle.gomp_shares.specs.Loops.{DealsOut, DealsNext, piece_given, handed_on, next_given, end_tests}
use Rattle.gomp_shares.specs.Sections.{DealsSections, section_given, section_next_given, sections_end_tests}
use Rattle.gomp_shares.specs.Singles.{DealsSingle, DealsCopy, single_given, copy_given}
use Rattle.gomp_shares.specs.OrderedParts.{BeginsPart, part_given, part_end_tests, part_end_events}
use Rattle.gomp_model.specs.Past.{Past}
use Rattle.gomp_model.specs.Row.{Row, at_once, unless_repeated, begun_past, MayReply, given_after}
use Rattle.gomp_model.specs.Starts.{start_row}
use Rattle.gomp_model.specs.Arrivals.{passes, arrival_row, cut_short_row, ending}
use Rattle.gomp_model.specs.Calls.{row_of, stop_given}
use Rattle.gomp_dispatch.specs.declared.leaving.Leaving.{Leaving}
use Rattle.gomp_dispatch.specs.Leaves.{LeavesAs, named_by, leaving_seen, leaving_after}

-- Events

-- an event after which a member leaves what it did: it sees no cancellation of the region or of a group, and no task is started or ended
abbrev pub IsQuiet : Event → Type 0
IsQuiet (See m kinds.Parallel) = ⊥
IsQuiet (See m kinds.Taskgroup) = ⊥
IsQuiet (Start task m) = ⊥
IsQuiet (Done task m) = ⊥
IsQuiet _ = Unit {0}

abbrev pub AreQuiet : List Event → Type 0
AreQuiet [] = Unit {0}
AreQuiet (event ∷ earlier) = IsQuiet event × AreQuiet earlier

beside_flag : (a b flag : Bool) → b ≡ flag → ((a && false) || b) ≡ flag
beside_flag true b flag e = e
beside_flag false b flag e = e

quiet_event : (event : Event) (leaving : Leaving) (m : ℕ) (h : List Event) → IsQuiet event → LeavesAs leaving m h → LeavesAs leaving m (event ∷ h)
quiet_event (See n kinds.Parallel) leaving m h quiet as_before = absurd quiet
quiet_event (See n kinds.Taskgroup) leaving m h quiet as_before = absurd quiet
quiet_event (See n kinds.Loop) leaving m h quiet as_before = record { region = beside_flag (n == m) _ leaving.region as_before.region; task = beside_flag (n == m) _ leaving.task as_before.task }
quiet_event (See n kinds.Sections) leaving m h quiet as_before = record { region = beside_flag (n == m) _ leaving.region as_before.region; task = beside_flag (n == m) _ leaving.task as_before.task }
quiet_event (Start task n) leaving m h quiet as_before = absurd quiet
quiet_event (Done task n) leaving m h quiet as_before = absurd quiet
quiet_event _ leaving m h quiet as_before = record { region = as_before.region; task = as_before.task }

pub quiet_events : (events : List Event) (leaving : Leaving) (m : ℕ) (h : List Event) → AreQuiet events → LeavesAs leaving m h → LeavesAs leaving m (events ++ h)
quiet_events [] leaving m h quiet as_before = as_before
quiet_events (event ∷ events) leaving m h quiet as_before = quiet_event event leaving m (events ++ h) quiet.0 (quiet_events events leaving m h quiet.1 as_before)

quiet_append : (events more : List Event) → AreQuiet events → AreQuiet more → AreQuiet (events ++ more)
quiet_append [] more first rest = rest
quiet_append (event ∷ events) more first rest = (first.0, quiet_append events more first.1 rest)

quiet_once : (events : List Event) (repeated : Bool) → AreQuiet events → AreQuiet (unless_repeated events repeated)
quiet_once [] repeated quiet = tt
quiet_once (event ∷ events) true quiet = tt
quiet_once (event ∷ events) false quiet = quiet

-- a member sees that what it is in is cancelled
pub region_seen : (leaving : Leaving) (m : ℕ) (h : List Event) → LeavesAs leaving m h → LeavesAs (record leaving { region = true }) m (See m kinds.Parallel ∷ h)
region_seen leaving m h as_before = record { region = rw (same_number m) refl; task = beside_flag (m == m) _ leaving.task as_before.task }

pub task_seen : (leaving : Leaving) (m : ℕ) (h : List Event) → LeavesAs leaving m h → LeavesAs (record leaving { task = true }) m (See m kinds.Taskgroup ∷ h)
task_seen leaving m h as_before = record { region = beside_flag (m == m) _ leaving.region as_before.region; task = rw (same_number m) refl }

-- or starts or ends a task
pub task_started : (task : ℕ) (leaving : Leaving) (m : ℕ) (h : List Event) → LeavesAs leaving m h → LeavesAs (record leaving { task = false }) m (Start task m ∷ h)
task_started task leaving m h as_before = record { region = as_before.region; task = rw (same_number m) refl }

pub task_done : (task : ℕ) (leaving : Leaving) (m : ℕ) (h : List Event) → LeavesAs leaving m h → LeavesAs (record leaving { task = false }) m (Done task m ∷ h)
task_done task leaving m h as_before = record { region = as_before.region; task = rw (same_number m) refl }

-- Replies

-- a reply by which a member leaves what it did
abbrev pub IsPlain : Reply → Type 0
IsPlain Cancelled = ⊥
IsPlain (Cancelling told) = ⊥
IsPlain (Run task code arg own) = ⊥
IsPlain (TaskDone task waiting) = ⊥
IsPlain _ = Unit {0}

plain_after : (reply : Reply) (call : Call) (leaving : Leaving) → IsPlain reply → leaving_after reply call leaving ≡ leaving
plain_after Cancelled call leaving plain = absurd plain
plain_after (Cancelling told) call leaving plain = absurd plain
plain_after (Run task code arg own) call leaving plain = absurd plain
plain_after (TaskDone task waiting) call leaving plain = absurd plain
plain_after _ call leaving plain = refl

-- so after a plain reply to any call, of names and locks too, that gives quiet events
pub plain_leaves : (reply : Reply) (call : Call) (events : List Event) (leaving : Leaving) (m : ℕ) (h : List Event) → IsPlain reply → AreQuiet events → LeavesAs leaving m h → LeavesAs (leaving_after reply call leaving) m (events ++ h)
plain_leaves reply call events leaving m h plain quiet as_before = subst (λ (l : Leaving). LeavesAs l m (events ++ h)) (sym (plain_after reply call leaving plain)) (quiet_events events leaving m h quiet as_before)

finished_is_plain : (reply : Reply) → reply ≡ Finished → IsPlain reply
finished_is_plain reply e = subst IsPlain (sym e) tt

-- Constructs that cancel

discard_quiet : (b : Bool) (t m : ℕ) (events : List Event) → AreQuiet events → AreQuiet (if b then Discard t m ∷ events else events)
discard_quiet true t m events quiet = (tt, quiet)
discard_quiet false t m events quiet = quiet

discards_quiet : (n m : ℕ) (h : List Event) → AreQuiet (discards_to n m h)
discards_quiet zero m h = tt
discards_quiet (suc k) m h = discard_quiet (is_unstarted (suc k) h && is_covered (suc k) h) (suc k) m (discards_to k m h) (discards_quiet k m h)

cancels_quiet : (m : ℕ) (scope : Option Scope) (h : List Event) → AreQuiet (cancels m scope h)
cancels_quiet m None h = tt
cancels_quiet m (Some scope) h = quiet_append (discards_to (tasks_created h) m (Cancel m scope ∷ h)) (Cancel m scope ∷ []) (discards_quiet (tasks_created h) m (Cancel m scope ∷ h)) (tt, tt)

cancels_by_quiet : (clause : Bool) (kind : CancelKind) (m : ℕ) (h : List Event) → AreQuiet (cancels_by clause kind m h)
cancels_by_quiet true kind m h = cancels_quiet m (scope_of kind m h) h
cancels_by_quiet false kind m h = tt

kind_seen : (kind : CancelKind) (leaving : Leaving) (m : ℕ) (h : List Event) → LeavesAs leaving m h → LeavesAs (leaving_seen (Some kind) leaving) m (See m kind ∷ h)
kind_seen kinds.Parallel leaving m h as_before = region_seen leaving m h as_before
kind_seen kinds.Taskgroup leaving m h as_before = task_seen leaving m h as_before
kind_seen kinds.Loop leaving m h as_before = quiet_event (See m kinds.Loop) leaving m h tt as_before
kind_seen kinds.Sections leaving m h as_before = quiet_event (See m kinds.Sections) leaving m h tt as_before

-- the answer of a construct of this kind
told_leaves : (call : Call) (kind : CancelKind) (clause told : Bool) (m : ℕ) (g h : List Event) (leaving : Leaving) → named_by call ≡ Some kind → LeavesAs leaving m h → LeavesAs (leaving_after (Cancelling told) call leaving) m (tells_cancelled kind clause m g (Cancelling told) ++ h)
told_leaves call kind clause true m g h leaving names as_before =
    subst (λ (seen : Option CancelKind). LeavesAs (leaving_seen seen leaving) m (See m kind ∷ (cancels_by clause kind m g ++ h))) (sym names)
    (kind_seen kind leaving m (cancels_by clause kind m g ++ h) (quiet_events (cancels_by clause kind m g) leaving m h (cancels_by_quiet clause kind m g) as_before))
told_leaves call kind clause false m g h leaving names as_before = as_before

-- Shares

-- how a share is dealt out is told by plain replies, and gives quiet events
abbrev pub DealsPlain : Deals → Type 0
DealsPlain deals = (members m : ℕ) (share : Option (ℕ × Shape)) (reply : Reply) (h : List Event) → deals members m share reply h → IsPlain reply

abbrev pub GivesQuiet : (ℕ → Shape → ℕ → Reply → List Event) → Type 0
GivesQuiet Given = (n : ℕ) (shape : Shape) (m : ℕ) (reply : Reply) → AreQuiet (Given n shape m reply)

pieces_plain : DealsPlain DealsOut
pieces_plain members m None reply h may = absurd may
pieces_plain members m (Some share) (Chunk first count) h may = tt
pieces_plain members m (Some share) NoChunk h may = tt
pieces_plain members m (Some share) _ h may = absurd may

nexts_plain : DealsPlain DealsNext
nexts_plain members m None reply h may = absurd may
nexts_plain members m (Some share) reply h may = each_answer_so IsPlain (not (must_wait members share m h)) (λ given. DealsOut members m (Some share) given h) reply tt (pieces_plain members m (Some share) reply h) may

sections_plain : DealsPlain DealsSections
sections_plain members m None reply h may = absurd may
sections_plain members m (Some share) (Section k) h may = tt
sections_plain members m (Some share) _ h may = absurd may

singles_plain : DealsPlain DealsSingle
singles_plain members m None reply h may = absurd may
singles_plain members m (Some share) (Executor does) h may = tt
singles_plain members m (Some share) _ h may = absurd may

copies_plain : DealsPlain DealsCopy
copies_plain members m None reply h may = absurd may
copies_plain members m (Some share) (Executor does) h may = tt
copies_plain members m (Some share) (Copied words) h may = tt
copies_plain members m (Some share) Wait h may = tt
copies_plain members m (Some share) _ h may = absurd may

parts_plain : DealsPlain BeginsPart
parts_plain members m None reply h may = absurd may
parts_plain members m (Some share) reply h may = each_answer_so IsPlain (has_turn members share m h) (λ given. given ≡ Finished) reply tt (finished_is_plain reply) may

starts_plain : (deals : Deals) → DealsPlain deals → (members m : ℕ) (shape : Shape) (reply : Reply) (h : List Event) → Starts deals members m shape reply h → IsPlain reply
starts_plain deals plain members m shape reply h may =
    each_answer_so IsPlain (has_room members (shares_entered m h) h) (λ given. deals members m (Some (shares_entered m h, shape)) given h) reply tt (plain members m _ reply h) may

piece_quiet : GivesQuiet piece_given
piece_quiet n shape m (Chunk first count) = (tt, tt)
piece_quiet n shape m NoChunk = (tt, tt)
piece_quiet n shape m _ = tt

section_quiet : GivesQuiet section_given
section_quiet n shape m (Section zero) = (tt, tt)
section_quiet n shape m (Section (suc k)) = (tt, tt)
section_quiet n shape m _ = tt

single_quiet : GivesQuiet single_given
single_quiet n shape m (Executor true) = (tt, (tt, tt))
single_quiet n shape m (Executor false) = (tt, (tt, tt))
single_quiet n shape m _ = tt

copy_quiet : GivesQuiet copy_given
copy_quiet n shape m (Executor true) = (tt, tt)
copy_quiet n shape m (Executor false) = tt
copy_quiet n shape m (Copied words) = (tt, (tt, (tt, tt)))
copy_quiet n shape m _ = tt

behind_quiet : (first : Event) (events : List Event) → IsQuiet first → AreQuiet events → AreQuiet (behind first events)
behind_quiet first [] one quiet = tt
behind_quiet first (event ∷ events) one quiet = quiet_append (event ∷ events) (first ∷ []) quiet (one, tt)

entry_quiet : (Given : ℕ → Shape → ℕ → Reply → List Event) → GivesQuiet Given → (shape : Shape) (m : ℕ) (h : List Event) (reply : Reply) → AreQuiet (entry_and Given shape m h reply)
entry_quiet Given quiet shape m h reply = behind_quiet (Enter (shares_entered m h) m shape) (Given (shares_entered m h) shape m reply) tt (quiet (shares_entered m h) shape m reply)

handed_quiet : (members : ℕ) (share : ℕ × Shape) (m : ℕ) (h : List Event) → AreQuiet (handed_on members share m h)
handed_quiet members share m h = handed_if share.1.ordered share.0 m (last_number members share m h)
  where
    handed_if : (b : Bool) (n m piece : ℕ) → AreQuiet (if b then HandOn n m piece ∷ [] else [])
    handed_if true n m piece = (tt, tt)
    handed_if false n m piece = tt

next_quiet : (members : ℕ) (share : Option (ℕ × Shape)) (m : ℕ) (h : List Event) (reply : Reply) → AreQuiet (next_given members share m h reply)
next_quiet members None m h reply = tt
next_quiet members (Some share) m h (Chunk first count) = (tt, handed_quiet members share m h)
next_quiet members (Some share) m h NoChunk = (tt, handed_quiet members share m h)
next_quiet members (Some share) m h _ = tt

part_quiet : (share : Option (ℕ × Shape)) (m : ℕ) (value : ℤ) (reply : Reply) → AreQuiet (part_given share m value reply)
part_quiet None m value reply = tt
part_quiet (Some share) m value Finished = (tt, tt)
part_quiet (Some share) m value _ = tt

section_next_quiet : (share : Option (ℕ × Shape)) (m : ℕ) (reply : Reply) → AreQuiet (section_next_given share m reply)
section_next_quiet None m reply = tt
section_next_quiet (Some share) m reply = section_quiet share.0 share.1 m reply

see_quiet : (sees sections : Bool) (m : ℕ) → AreQuiet (if sees then See m (if sections then kinds.Sections else kinds.Loop) ∷ [] else [])
see_quiet true true m = (tt, tt)
see_quiet true false m = (tt, tt)
see_quiet false sections m = tt

leave_quiet : (m : ℕ) (h : List Event) → AreQuiet (leaves m h)
leave_quiet m h = (tt, see_quiet (own_cancelled m h && not (has_drained m h || leaves_share m h)) (in_kind is_sections (open_share m h)) m)

-- a call that waits in its place, in a region that is cancelled or not
cut_plain : (cut : Bool) (May : Reply → Type 0) (reply : Reply) → ((r : Reply) → May r → IsPlain r) → OrWaitsCancelled cut May reply → (reply ≡ Cancelled) ⊎ IsPlain reply
cut_plain cut May Cancelled plain may = inl refl
cut_plain true May Wait plain may = absurd may
cut_plain true May _ plain may = inr (plain _ may)
cut_plain false May _ plain may = inr (plain _ may)

plain_sees : (m : ℕ) (reply : Reply) (events : List Event) → IsPlain reply → sees_cancelled m reply events ≡ events
plain_sees m Cancelled events plain = absurd plain
plain_sees m _ events plain = refl

cut_row_leaves : (cut : Bool) (May : Reply → Type 0) (call : Call) (given : Reply → List Event) (m : ℕ) (reply : Reply) (leaving : Leaving) (h : List Event) → ((r : Reply) → May r → IsPlain r) → ((r : Reply) → AreQuiet (given r)) → OrWaitsCancelled cut May reply →
    LeavesAs leaving m h → LeavesAs (leaving_after reply call leaving) m (sees_cancelled m reply (given reply) ++ h)
cut_row_leaves cut May call given m reply leaving h plain quiet may as_before =
    elim (cut_plain cut May reply plain may) [
      | inl e ↦ subst (λ (r : Reply). LeavesAs (leaving_after r call leaving) m (sees_cancelled m r (given r) ++ h)) (sym e) (region_seen leaving m h as_before)
      | inr is ↦ subst (λ (es : List Event). LeavesAs (leaving_after reply call leaving) m (es ++ h)) (sym (plain_sees m reply (given reply) is)) (plain_leaves reply call (given reply) leaving m h is (quiet reply) as_before)
    ]

-- Waits at which tasks are run

awaits_leaves : (call : Call) (m : ℕ) (met : Bool) (g : List Event) (given : Reply → List Event) (reply : Reply) (leaving : Leaving) (h : List Event) → AreQuiet (given Passed) → AreQuiet (given Wait) → ((task code arg : ℕ) (own : Bool) → given (Run task code arg own) ≡ Start task m ∷ []) →
    AwaitsTasks m met g reply → LeavesAs leaving m h → LeavesAs (leaving_after reply call leaving) m (given reply ++ h)
awaits_leaves call m met g given Passed leaving h passed waits runs awaits as_before = quiet_events (given Passed) leaving m h passed as_before
awaits_leaves call m met g given Wait leaving h passed waits runs awaits as_before = quiet_events (given Wait) leaving m h waits as_before
awaits_leaves call m met g given (Run task code arg own) leaving h passed waits runs awaits as_before = rw (runs task code arg own) (task_started task leaving m h as_before)
awaits_leaves call m met g given _ leaving h passed waits runs awaits as_before = absurd awaits

arrives_leaves : (cut : Bool) (call : Call) (m : ℕ) (met : Bool) (g : List Event) (reply : Reply) (leaving : Leaving) (h : List Event) → OrIsCancelled cut (AwaitsTasks m met g) reply → LeavesAs leaving m h → LeavesAs (leaving_after reply call leaving) m (sees_cancelled m reply (passes m g reply) ++ h)
arrives_leaves true call m met g reply leaving h may as_before = subst (λ (r : Reply). LeavesAs (leaving_after r call leaving) m (sees_cancelled m r (passes m g r) ++ h)) (sym may) (region_seen leaving m h as_before)
arrives_leaves false call m met g reply leaving h may as_before = awaits_leaves call m met g (λ r. sees_cancelled m r (passes m g r)) reply leaving h (tt, tt) tt (λ task code arg own. refl) may as_before

own_start_leaves : (call : Call) (m t : ℕ) (g : List Event) (reply : Reply) (leaving : Leaving) (h : List Event) → AwaitsOwn m t g reply → LeavesAs leaving m h → LeavesAs (leaving_after reply call leaving) m (starts_task m reply ++ h)
own_start_leaves call m t g (Run task code arg own) leaving h may as_before = task_started task leaving m h as_before
own_start_leaves call m t g Passed leaving h may as_before = absurd may
own_start_leaves call m t g Wait leaving h may as_before = as_before
own_start_leaves call m t g _ leaving h may as_before = absurd may

creator_leaves : (held : Bool) (call : Call) (m t : ℕ) (g : List Event) (reply : Reply) (leaving : Leaving) (h : List Event) → AnswersCreator held m t g reply → LeavesAs leaving m h → LeavesAs (leaving_after reply call leaving) m (starts_task m reply ++ h)
creator_leaves true call m t g reply leaving h may as_before = own_start_leaves call m t g reply leaving h may as_before
creator_leaves false call m t g reply leaving h may as_before = subst (λ (r : Reply). LeavesAs (leaving_after r call leaving) m (starts_task m r ++ h)) (sym may) as_before

answered_creation_leaves : (covered : Bool) (call : Call) (m : ℕ) (g : List Event) (reply : Reply) (leaving : Leaving) (h : List Event) → AnswersCreation covered m g reply → LeavesAs leaving m h → LeavesAs (leaving_after reply call leaving) m (starts_task m reply ++ h)
answered_creation_leaves true call m g reply leaving h may as_before = subst (λ (r : Reply). LeavesAs (leaving_after r call leaving) m (starts_task m r ++ h)) (sym may) as_before
answered_creation_leaves false call m g reply leaving h may as_before = let newest = newest_child (executed_task m g) g in creator_leaves (is_undeferred newest g) call m newest g reply leaving h may as_before

task_end_leaves : (task : Task) (call : Call) (m : ℕ) (g : List Event) (reply : Reply) (leaving : Leaving) (h : List Event) → EndsTask task g reply → LeavesAs leaving m h → LeavesAs (leaving_after reply call leaving) m (ends_task m reply ++ h)
task_end_leaves (Explicit t) call m g reply leaving h may as_before = subst (λ (r : Reply). LeavesAs (leaving_after r call leaving) m (ends_task m r ++ h)) (sym may) (task_done t leaving m h as_before)
task_end_leaves (Implicit x) call m g reply leaving h may as_before = absurd may

first_end_quiet : (groups : List ℕ) (m : ℕ) → AreQuiet (ends_first groups m)
first_end_quiet [] m = tt
first_end_quiet (q ∷ outer) m = (tt, tt)

-- Rows

-- after a call of this row, what its member leaves is told by its reply
pub record LeavesBy (call : Call) (row : Row) : Type 0 where
  pub begins : (m : ℕ) (p : Past) → AreQuiet (row.begins m p)
  pub gives : (m : ℕ) (p : Past) (reply : Reply) (leaving : Leaving) (h : List Event) → row.may_reply m p reply → LeavesAs leaving m h → LeavesAs (leaving_after reply call leaving) m (row.gives m p reply ++ h)

start_leaves : (call : Call) (own : List Test) (shape : Shape) (deals : Deals) (Given : ℕ → Shape → ℕ → Reply → List Event) → DealsPlain deals → GivesQuiet Given → LeavesBy call (start_row own shape deals Given)
start_leaves call own shape deals Given plain quiet = record {
  begins = λ m p. tt;
  gives = λ m p reply leaving h may as_before. cut_row_leaves (is_cancelled p.events) (λ r. Starts deals p.terms.members m shape r p.events) call (λ r. entry_and Given shape m p.events r) m reply leaving h
      (λ r starts. starts_plain deals plain p.terms.members m shape r p.events starts) (λ r. entry_quiet Given quiet shape m p.events r) may as_before;
}

done_leaves : (call : Call) (drains : Bool) (tests : Seen → List Test) (events : ℕ → List Event → List Event) → ((m : ℕ) (h : List Event) → AreQuiet (events m h)) → LeavesBy call (record (at_once tests events) { drains = drains })
done_leaves call drains tests events quiet = record {
  begins = λ m p. quiet m p.events;
  gives = λ m p reply leaving h may as_before. plain_leaves reply call [] leaving m h (finished_is_plain reply may) tt as_before;
}

cut_quiet : (cut : Bool) (events : List Event) → AreQuiet events → AreQuiet (unless_cancelled cut events)
cut_quiet true events quiet = tt
cut_quiet false events quiet = quiet

ending_row_leaves : (call : Call) (tests : Seen → List Test) → LeavesBy call (ending tests (cut_short_row (arrival_row ShareEnd)))
ending_row_leaves call tests = record {
  begins = λ m p. quiet_append (unless_cancelled (is_cancelled p.events) (Arrive (barriers_passed m p.events) m (tag_with ShareEnd (shares_entered m p.events)) ∷ [])) (leaves m p.events) (cut_quiet (is_cancelled p.events) _ (tt, tt)) (leave_quiet m p.events);
  gives = λ m p reply leaving h may as_before. arrives_leaves (is_cancelled p.events) call m (may_pass p.terms.members m p.events) p.events reply leaving h may as_before;
}

-- of each call that names and locks do not answer
row_leaves : (call : Call) → served_by call ≢ Book → LeavesBy call (row_of call)
row_leaves (calls.LoopStart loop) aside = start_leaves (calls.LoopStart loop) (loop_tests loop) (shape_of loop) DealsOut piece_given pieces_plain piece_quiet
row_leaves calls.LoopNext aside = record {
  begins = λ m p. tt;
  gives = λ m p reply leaving h may as_before. cut_row_leaves (is_cancelled p.events) (λ r. DealsNext p.terms.members m (open_share m p.events) r p.events) calls.LoopNext (λ r. next_given p.terms.members (open_share m p.events) m p.events r) m reply leaving h
      (λ r deals. nexts_plain p.terms.members m (open_share m p.events) r p.events deals) (λ r. next_quiet p.terms.members (open_share m p.events) m p.events r) may as_before;
}
row_leaves calls.LoopEnd aside = ending_row_leaves calls.LoopEnd (end_tests ends.Wait)
row_leaves calls.LoopEndNowait aside = done_leaves calls.LoopEndNowait true (end_tests ends.Nowait) leaves leave_quiet
row_leaves calls.LoopEndCancel aside = ending_row_leaves calls.LoopEndCancel (end_tests ends.Cancellable)
row_leaves (calls.SectionsStart count end_kind) aside = start_leaves (calls.SectionsStart count end_kind) (sections_tests count) (sections_shape count end_kind) DealsSections section_given sections_plain section_quiet
row_leaves calls.SectionsNext aside = record {
  begins = λ m p. tt;
  gives = λ m p reply leaving h may as_before. plain_leaves reply calls.SectionsNext (section_next_given (open_share m p.events) m reply) leaving m h (sections_plain p.terms.members m (open_share m p.events) reply p.events may) (section_next_quiet (open_share m p.events) m reply) as_before;
}
row_leaves calls.SectionsEnd aside = ending_row_leaves calls.SectionsEnd (sections_end_tests ends.Wait)
row_leaves calls.SectionsEndNowait aside = done_leaves calls.SectionsEndNowait true (sections_end_tests ends.Nowait) leaves leave_quiet
row_leaves calls.SectionsEndCancel aside = ending_row_leaves calls.SectionsEndCancel (sections_end_tests ends.Cancellable)
row_leaves calls.SingleStart aside = start_leaves calls.SingleStart [] (single_shape false) DealsSingle single_given singles_plain single_quiet
row_leaves calls.SingleCopyStart aside = start_leaves calls.SingleCopyStart [] (single_shape true) DealsCopy copy_given copies_plain copy_quiet
row_leaves (calls.SingleCopyEnd words) aside = record {
  begins = λ m p. (tt, (tt, tt));
  gives = λ m p reply leaving h may as_before. plain_leaves reply (calls.SingleCopyEnd words) [] leaving m h (finished_is_plain reply may) tt as_before;
}
row_leaves (calls.OrderedStart value) aside = record {
  begins = λ m p. tt;
  gives = λ m p reply leaving h may as_before. cut_row_leaves (is_cancelled p.events) (λ r. BeginsPart p.terms.members m (open_share m p.events) r p.events) (calls.OrderedStart value) (λ r. part_given (open_share m p.events) m value r) m reply leaving h
      (λ r begins. parts_plain p.terms.members m (open_share m p.events) r p.events begins) (λ r. part_quiet (open_share m p.events) m value r) may as_before;
}
row_leaves calls.OrderedEnd aside = done_leaves calls.OrderedEnd false part_end_tests part_end_events (λ m h. (tt, tt))
row_leaves calls.Barrier aside = record {
  begins = λ m p. cut_quiet (is_cancelled p.events) _ (tt, tt);
  gives = λ m p reply leaving h may as_before. arrives_leaves (is_cancelled p.events) calls.Barrier m (may_pass p.terms.members m p.events) p.events reply leaving h may as_before;
}
row_leaves calls.RegionEnd aside = record {
  begins = λ m p. (tt, tt);
  gives = λ m p reply leaving h may as_before. awaits_leaves calls.RegionEnd m (may_pass p.terms.members m p.events) p.events (passes m p.events) reply leaving h (tt, tt) tt (λ task code arg own. refl) may as_before;
}
row_leaves (calls.TaskCreate desc) aside = record {
  begins = λ m p. cut_quiet (creates_covered m p.events) _ (tt, tt);
  gives = λ m p reply leaving h may as_before. answered_creation_leaves (creates_covered m p.events) (calls.TaskCreate desc) m p.events reply leaving h may as_before;
}
row_leaves calls.TaskEnd aside = record {
  begins = λ m p. tt;
  gives = λ m p reply leaving h may as_before. task_end_leaves (executed_task m p.events) calls.TaskEnd m p.events reply leaving h may as_before;
}
row_leaves (calls.Taskwait items) aside = record {
  begins = λ m p. tt;
  gives = λ m p reply leaving h may as_before. awaits_leaves (calls.Taskwait items) m (taskwait_met (executed_task m p.events) items p.events) p.events (waited m items) reply leaving h (tt, tt) tt (λ task code arg own. refl) may as_before;
}
row_leaves calls.GroupStart aside = record {
  begins = λ m p. tt;
  gives = λ m p reply leaving h may as_before. subst (λ (r : Reply). LeavesAs (leaving_after r calls.GroupStart leaving) m (opens_group m p.events r ++ h)) (sym may) (quiet_events (opens_group m p.events Finished) leaving m h (tt, tt) as_before);
}
row_leaves calls.GroupEnd aside = record {
  begins = λ m p. tt;
  gives = λ m p reply leaving h may as_before. awaits_leaves calls.GroupEnd m (last_complete (open_groups (executed_task m p.events) p.events) p.events) p.events (ends_group m p.events) reply leaving h (first_end_quiet (open_groups (executed_task m p.events) p.events) m) tt
      (λ task code arg own. refl) may as_before;
}
row_leaves (calls.Cancel kind clause) aside = record {
  begins = λ m p. tt;
  gives = λ m p reply leaving h may as_before. subst (λ (r : Reply). LeavesAs (leaving_after r (calls.Cancel kind clause) leaving) m (tells_cancelled kind clause m p.events r ++ h)) (sym may) (told_leaves (calls.Cancel kind clause) kind clause _ m p.events h leaving refl as_before);
}
row_leaves (calls.Point kind) aside = record {
  begins = λ m p. tt;
  gives = λ m p reply leaving h may as_before. subst (λ (r : Reply). LeavesAs (leaving_after r (calls.Point kind) leaving) m (tells_cancelled kind false m p.events r ++ h)) (sym may) (told_leaves (calls.Point kind) kind false _ m p.events h leaving refl as_before);
}
row_leaves calls.Stop aside = record {
  begins = λ m p. tt;
  gives = λ m p reply leaving h may as_before. subst (λ (r : Reply). LeavesAs (leaving_after r calls.Stop leaving) m (stop_given m r ++ h)) (sym may) (quiet_events (stop_given m Stopped) leaving m h (tt, tt) as_before);
}
row_leaves calls.Resume aside = record {
  begins = λ m p. tt;
  gives = λ m p reply leaving h may as_before. absurd may;
}
row_leaves _ aside = absurd (aside refl)

-- the flags that a reply leaves say what the events after it do
pub leaves_after : (call : Call) (repeated : Bool) (m : ℕ) (p : Past) (reply : Reply) (leaving : Leaving) → served_by call ≢ Book → MayReply (row_of call) repeated m p reply → LeavesAs leaving m p.events →
    LeavesAs (leaving_after reply call leaving) m (given_after (row_of call) repeated m p reply)
leaves_after call repeated m p reply leaving aside may as_before =
    let by = row_leaves call aside in
    let row = row_of call in
    by.gives m (begun_past repeated row m p) reply leaving (unless_repeated (row.begins m p) repeated ++ p.events) may
    (quiet_events (unless_repeated (row.begins m p) repeated) leaving m p.events (quiet_once (row.begins m p) repeated (by.begins m p)) as_before)
