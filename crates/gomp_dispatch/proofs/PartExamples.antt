-- What is known of a call that no test refuses, and what the parts stand for: each clause has a list of events or an answer that it alone refuses.
use Rattle.std.specs.Prelude.{map}
use Rattle.std.proofs.Common.{◌≡◌, Bool, true, false, List, [], ◌∷◌, Option, Some, None, refl, ap, arith, subst, sym, ◌∙◌}
use Rattle.gomp_types.specs.declared.call.Call.TheVariants as calls
use Rattle.gomp_events.specs.TaskExamples.{item}
use Rattle.gomp_types.specs.declared.depend.Dep.{Dep}
use Rattle.gomp_types.specs.declared.depend.DepKind.TheVariants.{DepIn}
use Rattle.gomp_events.specs.declared.event.Arrival.TheVariants.{Barrier, RegionEnd}
use Rattle.gomp_events.specs.declared.event.Event.{Event}
use Rattle.gomp_events.specs.declared.event.Event.TheVariants.{Enter, End, Put, Pass, Got, Take, Arrive, Cancel, See}
use Rattle.gomp_types.specs.declared.cancel.CancelKind.TheVariants as kinds
use Rattle.gomp_types.specs.declared.cancel.Scope.TheVariants.{Region}
use Rattle.gomp_types.specs.declared.loop_desc.EndKind.TheVariants as ends
use Rattle.gomp_types.specs.declared.refusal.Place.TheVariants.{Stopped as AtStop}
use Rattle.gomp_types.specs.declared.refusal.Refusal.TheVariants.{InsideShare, EndDiffers, NoMemory, Mismatch}
use Rattle.gomp_types.specs.declared.reply.Reply.TheVariants.{Passed, Finished, Wait, Cancelled, Cancelling, Run, TaskDone, NoChunk, Refused}
use Rattle.gomp_events.specs.Tags.{tag_with}
use Rattle.gomp_types.specs.declared.shape.Shape.{Shape}
use Rattle.gomp_events.specs.Events.{share_number}
use Rattle.gomp_types.specs.Shapes.{is_copy}
use Rattle.gomp_events.specs.Laws.{Always}
use Rattle.gomp_types.specs.Limits.{standard}
use Rattle.gomp_types.specs.Sections.{sections_shape}
use Rattle.gomp_types.specs.Singles.{single_shape}
use Rattle.gomp_model.specs.Past.{Terms, Past}
use Rattle.gomp_model.specs.Row.{Row, plain_row, given_after, goes_on}
use Rattle.gomp_model.specs.Loops.{loop_end_nowait_row, loop_next_row}
use Rattle.gomp_model.specs.Singles.{single_copy_start_row}
use Rattle.gomp_model.specs.Arrivals.{barrier_row}
use Rattle.gomp_model.specs.Tasks.{task_end_row, taskwait_row}
use Rattle.gomp_model.specs.Calls.{resume_row, stop_row}
use Rattle.gomp_model.specs.Team.{before_all}
use Rattle.gomp_board.specs.declared.op.Op.TheVariants as ops
use Rattle.gomp_board.specs.declared.op.TeamCancel.TheVariants as named
use Rattle.gomp_board.specs.Boards.{BoardView, kept_by, members_of}
use Rattle.gomp_board.specs.Examples.{seven, words, first_waits, first_left, stopped}
use Rattle.gomp_dispatch.specs.declared.leaving.Leaving.{Leaving}
use Rattle.gomp_dispatch.specs.declared.leaving.Manner.{Manner}
use Rattle.gomp_dispatch.specs.Leaves.{LeavesAs, IsMadeSo, leaving_after}
use Rattle.gomp_model.specs.Admits.{in_place}
use Rattle.gomp_dispatch.specs.Answers.{ComesFirst, room_left, PutsInside, ServersStand, KeepsStart, waits_there, ServersAdmitMember, LeavesBoard, AnswersCall}
use Rattle.gomp_dispatch.specs.Serves.{asked_once, is_finished, KeepsMore, arrival_op, create_op, group_op, wait_op, board_op, NotesWords, IsShareEvent, cut_reply, left_once}

-- what two members are made with
abbrev two_members : Terms
two_members = record { members = 2; limits = standard; cancellation = false }

-- two members, after these events
abbrev two_after : List Event → Past
two_after h = record (before_all two_members) { events = h }

-- a member that leaves nothing
abbrev stays : Leaving
stays = record { region = false; task = false }

-- a call that is made first, and one that is repeated, by a member that leaves nothing, in a team that allows no cancellation
abbrev made_once : Manner
made_once = record { repeated = false; leaving = stays; allowed = false }

abbrev made_again : Manner
made_again = record { repeated = true; leaving = stays; allowed = false }

-- Tests

-- a row whose comparison has this test
abbrev compared_by : Bool → Row
compared_by found = record plain_row { compared = λ repeated m p. (found, InsideShare) ∷ [] }

-- a refusal by the member's place comes first if no later test has a lesser number
pub place_comes_first : ComesFirst plain_row (Some EndDiffers) × ComesFirst (compared_by true) None × (ComesFirst (compared_by true) (Some EndDiffers) → ⊥)
place_comes_first = (λ m p. refl, tt, λ first. absurd (let other = first 0 (before_all two_members) in cc))

-- what its place has shown of a call is lost if the call is repeated and its member has left
pub shown_in_place : (in_place true false ≡ true) × (in_place true true ≡ true) × (in_place false false ≡ true) × (in_place false true ≡ false)
shown_in_place = (refl, refl, refl, refl)

-- A call that is admitted

-- at first a barrier is, and a member that waits there may stop the team
pub admitted_calls : (board : BoardView) → ServersAdmitMember barrier_row false 0 board (two_after []) × ServersAdmitMember stop_row false 0 board (two_after first_waits)
admitted_calls board = (
  record { admitted = record { place = λ shown stays. refl; compared = refl; tasks = refl; waits = λ again. absurd (cc) }; inside = refl; whole = refl; arrived = λ again. absurd (cc); away = λ never first. refl; ends = refl; kept = λ again. absurd (cc) },
  record { admitted = record { place = λ shown stays. refl; compared = refl; tasks = refl; waits = λ again. absurd (cc) }; inside = refl; whole = refl; arrived = λ again. absurd (cc); away = λ never first. absurd (never (two_after []) refl); ends = tt; kept = λ again. absurd (cc) },
)

-- not a barrier inside a share, a resume that repeats nothing, the end of no task, a repeated call that never waits
pub calls_not_admitted :
    (board : BoardView) → (ServersAdmitMember barrier_row false 0 board (two_after (Enter 0 0 (single_shape true) ∷ [])) → ⊥) × (ServersAdmitMember resume_row false 0 board (two_after []) → ⊥) × (ServersAdmitMember task_end_row false 0 board (two_after []) → ⊥)
    × (ServersAdmitMember loop_end_nowait_row true 0 board (two_after []) → ⊥)
calls_not_admitted board = (
  λ ready. absurd (let place = ready.admitted.place refl refl in cc),
  λ ready. absurd (let compared = ready.admitted.compared in cc),
  λ ready. absurd (let tasks = ready.admitted.tasks in cc),
  λ ready. let (q, reply, goes, may) = ready.admitted.waits refl in absurd (let done : goes_on reply ≡ false = rw may refl in let both = sym goes ∙ done in cc),
)

-- nor a call after the region's end, one of a broken team, one while its member waits at a barrier, or a start that waits without its room
pub members_not_admitted :
    (board : BoardView) → (ServersAdmitMember stop_row false 0 board (two_after first_left) → ⊥) × (ServersAdmitMember stop_row false 0 board (two_after stopped) → ⊥) × (ServersAdmitMember (taskwait_row []) false 0 board (two_after first_waits) → ⊥)
    × (kept_by 0 board ≡ 0 → ServersAdmitMember single_copy_start_row true 0 board (two_after []) → ⊥)
members_not_admitted board = (
  λ ready. absurd (let inside = ready.inside in cc),
  λ ready. absurd (let whole = ready.whole in cc),
  λ ready. absurd (let waits = ready.away (λ q may. may) refl in cc),
  λ none ready. let kept = ready.kept refl in omega (arith, none, kept),
)

-- what has begun with the call does not begin again: a repeated barrier is passed without a second arrival, a share is left once
pub given_once :
    (given_after barrier_row true 0 (two_after []) Passed ≡ Pass 0 0 ∷ []) × (left_once false 0 (Enter 0 0 (single_shape true) ∷ []) ≡ End 0 0 ∷ Enter 0 0 (single_shape true) ∷ [])
    × (left_once true 0 (Enter 0 0 (single_shape true) ∷ []) ≡ Enter 0 0 (single_shape true) ∷ [])
given_once = (refl, refl, refl)

-- Room

-- of no share, of sections with a barrier and without, and of singles with words and without
pub rooms_left :
    map room_left (None ∷ Some (0, sections_shape 3 ends.Wait) ∷ Some (0, sections_shape 3 ends.Nowait) ∷ Some (4, single_shape true) ∷ Some (4, single_shape false) ∷ []) ≡ 0 ∷ 2 ∷ 0 ∷ 1 ∷ 0 ∷ []
rooms_left = refl

pub rooms_asked_once : (map (asked_once false) (0 ∷ 3 ∷ []) ≡ 0 ∷ 3 ∷ []) × (map (asked_once true) (0 ∷ 3 ∷ []) ≡ 0 ∷ 0 ∷ [])
rooms_asked_once = (refl, refl)

-- a start needs its own
pub start_needs_room : (board : BoardView) → KeepsStart barrier_row 0 board × (kept_by 0 board ≡ 1 → KeepsStart single_copy_start_row 0 board) × (kept_by 0 board ≡ 0 → KeepsStart single_copy_start_row 0 board → ⊥)
start_needs_room board = (tt, λ one. omega (arith, one), λ none kept. omega (arith, none, kept))

-- room that is not kept, is kept of another member, is not asked for
pub more_is_kept :
    (board after : BoardView) → (KeepsMore 2 0 board after → kept_by 0 after ≡ kept_by 0 board → ⊥) × (KeepsMore 2 0 board after → kept_by 1 board ≡ 0 → kept_by 1 after ≡ 2 → ⊥) × (KeepsMore 2 0 board after → after.room ≡ board.room → ⊥)
more_is_kept board after = (
  λ keeps same. let own = keeps.own in omega (arith, own, same),
  λ keeps none two. let others = keeps.others 1 (λ e. cc) in omega (arith, others, none, two),
  λ keeps same. let room = keeps.room in omega (arith, room, same),
)

-- Parts

-- words outside of every share, and those of another share, are put by no member of their share
pub puts_inside_shares :
    Always PutsInside (Put 0 0 words ∷ Enter 0 0 (single_shape true) ∷ []) × (Always PutsInside (Put 0 0 words ∷ []) → ⊥) × (Always PutsInside (Put 1 0 words ∷ Enter 0 0 (single_shape true) ∷ []) → ⊥)
    × (Always PutsInside (Put 0 1 words ∷ Enter 0 0 (single_shape true) ∷ []) → ⊥)
puts_inside_shares = (
  ((single_shape true, refl), (tt, tt)),
  λ puts. absurd (let inside = puts.0.1 in cc),
  λ puts. let number : 0 ≡ 1 = ap share_number puts.0.1 in omega (arith, number),
  λ puts. absurd (let inside = puts.0.1 in cc),
)

-- the parts stand for no past of another size or other limits, with another room, with a share that has no room, or with words put outside
pub parts_that_do_not_stand :
    {S : Type 0} (stands : S → List Event → Type 0) (shares : S) (board : BoardView) → (members_of board ≡ 3 → ServersStand stands shares board (two_after []) → ⊥) × (board.room ≡ 6 → ServersStand stands shares board (two_after []) → ⊥)
    × (kept_by 0 board ≡ 0 → ServersStand stands shares board (two_after (Enter 0 0 (single_shape true) ∷ [])) → ⊥) × (ServersStand stands shares board (two_after (Put 0 0 words ∷ [])) → ⊥)
parts_that_do_not_stand stands shares board = (
  λ three parts. let members = parts.members in omega (arith, members, three),
  λ six parts. let room = parts.room in omega (arith, room, six),
  λ none parts. let kept = parts.kept 0 in omega (arith, none, kept),
  λ parts. absurd (let inside = parts.puts.0.1 in cc),
)

pub limits_are_the_board_s : {S : Type 0} (stands : S → List Event → Type 0) (shares : S) (board : BoardView) → board.limits.tasks ≡ 3 → ServersStand stands shares board (two_after []) → ⊥
limits_are_the_board_s stands shares board three parts = absurd (let same = subst (λ limits. limits.tasks ≡ 3) (sym parts.limits) three in cc)

-- a reply leaves what another member keeps
pub others_keep_theirs : (board after : BoardView) → kept_by 1 board ≡ 2 → kept_by 1 after ≡ 0 → LeavesBoard 0 board after → ⊥
others_keep_theirs board after two none leaves = let same = leaves.others 1 (λ e. cc) in omega (arith, two, none, same)

-- Answers

-- no refusal but want of memory, and that neither of a call that asks for no room nor of one that is repeated
pub refusals_that_are_no_answers :
    {S : Type 0} (stands : S → List Event → Type 0) (shares after : S) (board board_after : BoardView) → (AnswersCall (record { stands = stands; row = barrier_row; manner = made_once; m = 0 }) shares after board board_after (Refused Mismatch) → ⊥)
    × (AnswersCall (record { stands = stands; row = loop_next_row; manner = made_once; m = 0 }) shares after board board_after (Refused NoMemory) → ⊥) × (AnswersCall (record { stands = stands; row = barrier_row; manner = made_again; m = 0 }) shares after board board_after (Refused NoMemory) → ⊥)
    × ((after ≡ shares → ⊥) → AnswersCall (record { stands = stands; row = barrier_row; manner = made_once; m = 0 }) shares after board board_after (Refused NoMemory) → ⊥)
refusals_that_are_no_answers stands shares after board board_after = (
  λ answers. absurd (let other = answers.refuses Mismatch refl in cc),
  λ answers. let room = (answers.lacks refl).2 in omega (arith, room),
  λ answers. absurd (let once = (answers.lacks refl).1 in cc),
  λ changed answers. changed (answers.lacks refl).0.0,
)

-- a wait that goes on and changes the shares or the board, and one of a start without its room
pub waits_that_are_no_answers :
    {S : Type 0} (stands : S → List Event → Type 0) (shares after : S) (board board_after : BoardView) → ((after ≡ shares → ⊥) → AnswersCall (record { stands = stands; row = barrier_row; manner = made_again; m = 0 }) shares after board board_after Wait → ⊥)
    × ((board_after ≡ board → ⊥) → AnswersCall (record { stands = stands; row = barrier_row; manner = made_again; m = 0 }) shares after board board_after Wait → ⊥) × (kept_by 0 board_after ≡ 0 → AnswersCall (record { stands = stands; row = single_copy_start_row; manner = made_once; m = 0 }) shares after board board_after Wait → ⊥)
waits_that_are_no_answers stands shares after board board_after = (
  λ changed answers. changed (answers.waits refl refl).0,
  λ changed answers. changed (answers.waits refl refl).1,
  λ none answers. let keeps = answers.keeps refl in omega (arith, none, keeps),
)

first_made : IsMadeSo made_once 0 (two_after [])
first_made = record { leaves = record { region = refl; task = refl }; allowed = refl }

-- a pass before all have arrived, and a first arrival after which the board has asked for no more room
pub replies_that_are_no_answers :
    {S : Type 0} (stands : S → List Event → Type 0) (shares after : S) (board board_after : BoardView) → ServersStand stands shares board (two_after []) → (AnswersCall (record { stands = stands; row = barrier_row; manner = made_once; m = 0 }) shares after board board_after Passed → ⊥)
    × (board_after.room ≡ board.room → AnswersCall (record { stands = stands; row = barrier_row; manner = made_once; m = 0 }) shares after board board_after Wait → ⊥)
replies_that_are_no_answers stands shares after board board_after stand = (
  λ answers. absurd (let may = answers.answer (two_after []) stand (admitted_calls board).0 first_made in cc),
  λ same answers. let after = (answers.stands_for (two_after []) stand (admitted_calls board).0 first_made).room in let before = stand.room in omega (arith, same, after, before),
)

-- How the parts serve a call

-- an arrival comes once, the end of a group too
pub ops_of_waits : (map (λ repeated. arrival_op repeated true (tag_with Barrier 3)) (false ∷ true ∷ []) ≡ ops.Arrive (tag_with Barrier 3) true ∷ ops.AwaitBarrier ∷ []) × (map group_op (false ∷ true ∷ []) ≡ ops.EndGroup ∷ ops.AwaitGroup ∷ [])
ops_of_waits = (refl, refl)

-- an item of a clause
abbrev on_seven : List Dep
on_seven = item DepIn 7 ∷ []

-- so does the creation of a task
pub ops_of_creations : map (λ repeated. create_op repeated seven) (false ∷ true ∷ []) ≡ ops.Create seven ∷ ops.AwaitOwn ∷ []
ops_of_creations = refl

-- a taskwait that goes on asks for the same items, and they are not counted again
pub op_of_a_taskwait : map (λ repeated. wait_op repeated on_seven) (false ∷ true ∷ []) ≡ ops.Taskwait on_seven ∷ ops.AwaitChildren on_seven ∷ []
op_of_a_taskwait = refl

pub op_of_a_wait : board_op made_again (calls.Taskwait on_seven) ≡ Some (ops.AwaitChildren on_seven)
op_of_a_wait = refl

-- the board alone answers calls on tasks and groups, and the stop
pub ops_of_calls :
    map (board_op made_once) (calls.TaskCreate seven ∷ calls.TaskEnd ∷ calls.Taskwait on_seven ∷ calls.GroupStart ∷ calls.GroupEnd ∷ calls.Stop ∷ calls.Barrier ∷ calls.LoopNext ∷ calls.LockInit ∷ [])
    ≡ Some (ops.Create seven) ∷ Some (ops.EndTask false) ∷ Some (ops.Taskwait on_seven) ∷ Some ops.OpenGroup ∷ Some ops.EndGroup ∷ Some (ops.Break AtStop 0) ∷ None ∷ None ∷ None ∷ []
ops_of_calls = refl

pub done_replies : map is_finished (Finished ∷ Wait ∷ Refused NoMemory ∷ []) ≡ true ∷ false ∷ false ∷ []
done_replies = refl

-- whether it is a share with words
abbrev shape_copies : Option Shape → Bool
shape_copies None = false
shape_copies (Some shape) = is_copy shape.kind

-- an entry of another member, or into another share, and words are no events of a member's share alone
pub events_of_a_share :
    IsShareEvent 0 (Some (single_shape true)) (Enter 3 0 (single_shape true)) × IsShareEvent 0 None (Take 3 0 0 1) × (IsShareEvent 0 (Some (single_shape true)) (Enter 3 1 (single_shape true)) → ⊥)
    × (IsShareEvent 0 (Some (single_shape false)) (Enter 3 0 (single_shape true)) → ⊥) × (IsShareEvent 0 None (Got 3 0 words) → ⊥)
events_of_a_share = (
  (refl, refl),
  tt,
  λ is. absurd (let same = is.0 in cc),
  λ is. absurd (let same : false ≡ true = ap shape_copies is.1 in cc),
  λ is. is,
)

-- a reply that gives no words changes nothing of the board
pub no_words_noted : (board after : BoardView) → (after ≡ board → ⊥) → NotesWords 3 0 Wait board after → ⊥
no_words_noted board after changed notes = changed notes

-- Cancellation

-- of the constructs that cancel, the board answers those that name the region or a group
pub ops_of_cancels :
    map (board_op (record made_once { allowed = true })) (calls.Cancel kinds.Parallel true ∷ calls.Cancel kinds.Taskgroup false ∷ calls.Cancel kinds.Loop true ∷ calls.Point kinds.Taskgroup ∷ calls.Point kinds.Sections ∷ [])
    ≡ Some (ops.Cancel named.Parallel true true) ∷ Some (ops.Cancel named.Taskgroup false true) ∷ None ∷ Some (ops.Point named.Taskgroup true) ∷ None ∷ []
ops_of_cancels = refl

-- a call that would wait is cut short in a cancelled region alone, and no other reply is
pub replies_cut : (map (cut_reply true) (Wait ∷ NoChunk ∷ Finished ∷ []) ≡ Cancelled ∷ NoChunk ∷ Finished ∷ []) × (map (cut_reply false) (Wait ∷ NoChunk ∷ []) ≡ Wait ∷ NoChunk ∷ [])
replies_cut = (refl, refl)

-- a member that has seen that the region is cancelled leaves it; flags that say otherwise are wrong, as are those of another member
pub leaves_as_seen :
    LeavesAs (record stays { region = true }) 0 (See 0 kinds.Parallel ∷ []) × LeavesAs (record stays { task = true }) 0 (See 0 kinds.Taskgroup ∷ []) × LeavesAs stays 0 (See 1 kinds.Parallel ∷ []) × (LeavesAs stays 0 (See 0 kinds.Parallel ∷ []) → ⊥)
    × (LeavesAs stays 0 (See 0 kinds.Taskgroup ∷ []) → ⊥)
leaves_as_seen = (
  record { region = refl; task = refl },
  record { region = refl; task = refl },
  record { region = refl; task = refl },
  λ leaves. absurd (let region = leaves.region in cc),
  λ leaves. absurd (let task = leaves.task in cc),
)

-- what it leaves after a reply: nothing more by a false one, by one of a share, or by a task that it runs
pub leaving_after_replies :
    (leaving_after Cancelled calls.Barrier stays ≡ record stays { region = true }) × (leaving_after (Cancelling true) (calls.Cancel kinds.Taskgroup true) stays ≡ record stays { task = true }) × (leaving_after (Cancelling false) (calls.Cancel kinds.Parallel true) stays ≡ stays)
    × (leaving_after (Cancelling true) (calls.Point kinds.Loop) stays ≡ stays) × (leaving_after (TaskDone 3 true) calls.TaskEnd (record { region = true; task = true }) ≡ record stays { region = true }) × (leaving_after (Run 3 0 0 false) calls.Barrier (record stays { task = true }) ≡ stays)
leaving_after_replies = (refl, refl, refl, refl, refl, refl)

-- a call is not made so if its team allows what the manner says it does not
pub manner_of_the_team : (IsMadeSo (record made_once { allowed = true }) 0 (two_after []) → ⊥) × (IsMadeSo (record made_once { leaving = record stays { region = true } }) 0 (two_after []) → ⊥)
manner_of_the_team = (λ made. absurd (let allowed = made.allowed in cc), λ made. absurd (let region = made.leaves.region in cc))

-- a member of a cancelled region that waits at a barrier by its events does not wait there, one at the region's end does
pub waits_in_cancelled_regions :
    (waits_there 0 (Arrive 0 0 (tag_with Barrier 0) ∷ []) ≡ true) × (waits_there 0 (Cancel 1 Region ∷ Arrive 0 0 (tag_with Barrier 0) ∷ []) ≡ false) × (waits_there 0 (Arrive 0 0 (tag_with RegionEnd 0) ∷ Cancel 1 Region ∷ []) ≡ true)
waits_in_cancelled_regions = (refl, refl, refl)
