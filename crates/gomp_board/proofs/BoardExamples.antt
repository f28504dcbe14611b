-- What an operation does to a board: for each clause of its contract a board that it does not leave.
use Rattle.std.proofs.Common.{◌≡◌, ◌≢◌, ℕ, ◌+◌, true, false, List, [], ◌∷◌, Some, None, length, refl, ap, arith}
use Rattle.std.specs.Prelude.{map}
use Rattle.gomp_types.specs.declared.limits.Limits.{Limits}
use Rattle.gomp_types.specs.declared.refusal.Clash.{Clash}
use Rattle.gomp_types.specs.declared.refusal.Place.TheVariants.{Share, Stopped as AtStop}
use Rattle.gomp_types.specs.declared.refusal.Refusal.{Refusal}
use Rattle.gomp_types.specs.declared.refusal.Refusal.TheVariants.{Mismatch, NotInTask, TraceFull, NoMemory}
use Rattle.gomp_types.specs.declared.reply.Reply.{Reply}
use Rattle.gomp_types.specs.declared.reply.Reply.TheVariants.{Finished, Passed, Wait, Stopped, Refused}
use Rattle.gomp_events.specs.declared.event.Arrival.TheVariants.{Barrier}
use Rattle.gomp_events.specs.declared.event.Event.{Event}
use Rattle.gomp_events.specs.declared.event.Event.TheVariants.{Pass}
use Rattle.gomp_events.specs.EventLists.{at}
use Rattle.gomp_board.specs.declared.op.Op.{Op}
use Rattle.gomp_board.specs.declared.op.Op.TheVariants.{Create as CreateTask, AwaitOwn, EndTask, AwaitChildren, OpenGroup, EndGroup, AwaitGroup, Arrive as ArriveAt, AwaitBarrier, Reserve, Put as PutWords, Got as GiveWords, Break as BreakAt}
use Rattle.gomp_board.specs.Ops.{given_back, op_gives_back, goes_on_waiting}
use Rattle.gomp_board.specs.Boards.{BoardView, Stands, IsSame, Performs, op_room_after, kept_after}
use Rattle.gomp_board.specs.Examples.{seven, words}

-- this board is not left by the first member's operation with this reply
abbrev Leaves : Op → BoardView → BoardView → Reply → Type 0
Leaves op board after reply = Performs op 0 board after reply → ⊥

-- a board with one event more
abbrev longer : BoardView → BoardView
longer board = record board { history = Pass 0 0 ∷ board.history }

never_longer : (board : BoardView) → (longer board).history ≡ board.history → ⊥
never_longer board same = let size = ap (λ (events : List Event). length events) same in omega (arith, size)

-- one for which more room was asked
abbrev roomier : BoardView → BoardView
roomier board = record board { room = board.room + 3 }

-- one whose members keep this
abbrev keeping : List ℕ → BoardView → BoardView
keeping kept board = record board { kept = kept }

-- The same board

-- has no other history
pub same_but_for_an_event : (board : BoardView) → IsSame board (longer board) → ⊥
same_but_for_an_event board is = never_longer board is.history

-- no more room
pub same_but_for_room : (board : BoardView) → IsSame board (roomier board) → ⊥
same_but_for_room board is = let room = is.room in omega (arith, room)

-- its members keep no more
pub same_but_for_what_is_kept : (board : BoardView) → IsSame (keeping (1 ∷ []) board) (keeping (2 ∷ []) board) → ⊥
same_but_for_what_is_kept board is = absurd (let kept = is.kept in cc)

-- and it is not broken, if the other is not
pub same_but_for_a_break : (board : BoardView) (clash : Clash) (h : List Event) → Stands board h → board.clash ≡ None → IsSame board (record board { clash = Some clash }) → ⊥
same_but_for_a_break board clash h st whole is = absurd (let now = (is.stands h st).clash in let before = st.clash in cc)

-- nor whole, if the other is broken
pub same_but_for_a_mended_break : (board : BoardView) (clash : Clash) (h : List Event) → Stands board h → board.clash ≡ None → IsSame (record board { clash = Some clash }) board → ⊥
same_but_for_a_mended_break board clash h st whole is = absurd (let before = (is.stood h st).clash in let now = st.clash in cc)

-- Performed

-- the answer is the operation's
pub performed_with_another_answer : (board after : BoardView) (h : List Event) → Stands board h → Leaves (Reserve 2) board after Passed
performed_with_another_answer board after h st does = absurd (let answer = (does.answer h st).1 in cc)

-- its events are stored
pub performed_without_its_event : (board : BoardView) (h : List Event) → Stands board h → Leaves (BreakAt AtStop 0) board board Stopped
performed_without_its_event board h st does =
    let now = ap (λ (events : List Event). length events) (does.stands h st).history in
    let before = ap (λ (events : List Event). length events) st.history in
    omega (arith, now, before)

-- and no others in their place
pub performed_with_another_event : (board : BoardView) (h : List Event) → Stands (record board { history = [] }) h →
    Leaves (BreakAt AtStop 0) (record board { history = [] }) (record board { history = Pass 0 0 ∷ [] }) Stopped
performed_with_another_event board h st does = absurd (let now = (does.stands h st).history in cc)

-- the limits stay
pub performed_with_other_limits : (board : BoardView) → Leaves (AwaitChildren []) board (record board { limits = record board.limits { tasks = board.limits.tasks + 1 } }) Passed
performed_with_other_limits board does = let tasks = ap (λ (limits : Limits). limits.tasks) does.limits in omega (arith, tasks)

-- so does the number of members
pub performed_with_another_member : (board : BoardView) → Leaves (AwaitChildren []) board (keeping (0 ∷ board.kept) board) Passed
performed_with_another_member board does = let members = does.members in omega (arith, members)

-- the room that it asks for is taken
pub performed_without_its_room : (board : BoardView) → Leaves OpenGroup board board Finished
performed_without_its_room board does = let room = does.room in omega (arith, room)

-- unless it is refused
pub refused_with_its_room : (board : BoardView) → Leaves (CreateTask seven) board (roomier board) (Refused NoMemory)
refused_with_its_room board does = let room = does.room in omega (arith, room)

-- what it keeps is kept
pub performed_without_keeping : (board : BoardView) → Leaves (Reserve 2) (keeping (3 ∷ []) board) (keeping (3 ∷ []) board) Finished
performed_without_keeping board does = absurd (let kept = does.kept in cc)

-- by its member alone
pub performed_keeping_for_another : (board : BoardView) → Leaves (Reserve 2) (keeping (3 ∷ 3 ∷ []) board) (keeping (3 ∷ 5 ∷ []) board) Finished
performed_keeping_for_another board does = absurd (let kept = does.kept in cc)

-- unless it is refused
pub refused_and_kept : (board : BoardView) → Leaves (Reserve 2) (keeping (3 ∷ []) board) (keeping (5 ∷ []) board) (Refused NoMemory)
refused_and_kept board does = absurd (let kept = does.kept in cc)

-- A break

-- what goes back is no more than the member keeps
pub given_back_of_what_is_kept : map (λ kept. given_back 4 kept) (0 ∷ 3 ∷ 4 ∷ 9 ∷ []) ≡ 0 ∷ 3 ∷ 4 ∷ 4 ∷ []
given_back_of_what_is_kept = refl

-- it goes back where a construct differs, and by no other operation
pub goes_back_at_a_mismatch : map (λ refusal. op_gives_back (BreakAt (Share 2) 4) refusal 4) (Mismatch ∷ NotInTask ∷ TraceFull ∷ NoMemory ∷ []) ≡ 4 ∷ 0 ∷ 0 ∷ 0 ∷ []
goes_back_at_a_mismatch = refl

pub goes_back_at_breaks_alone : map (λ op. op_gives_back op Mismatch 4) (Reserve 4 ∷ ArriveAt (at Barrier 0) false ∷ GiveWords 3 words ∷ BreakAt (Share 2) 0 ∷ BreakAt (Share 2) 3 ∷ []) ≡ 0 ∷ 0 ∷ 0 ∷ 0 ∷ 3 ∷ []
goes_back_at_breaks_alone = refl

-- the room asked for falls by that, and so does what the member keeps, its own alone; a stop gives nothing back
pub room_after_a_break : map (λ reply. op_room_after (BreakAt (Share 2) 4) 3 reply 9) (Refused Mismatch ∷ Refused NoMemory ∷ Stopped ∷ []) ≡ 6 ∷ 9 ∷ 9 ∷ []
room_after_a_break = refl

pub kept_after_a_break : map (λ reply. kept_after (BreakAt (Share 2) 4) 1 reply (5 ∷ 4 ∷ [])) (Refused Mismatch ∷ Refused NoMemory ∷ Stopped ∷ []) ≡ (5 ∷ 0 ∷ []) ∷ (5 ∷ 4 ∷ []) ∷ (5 ∷ 4 ∷ []) ∷ []
kept_after_a_break = refl

-- a board that keeps it all the same is not left
pub broken_with_its_room : (board : BoardView) → Leaves (BreakAt (Share 2) 4) (keeping (4 ∷ []) board) (keeping (4 ∷ []) board) (Refused Mismatch)
broken_with_its_room board performs = cc

-- a refusal changes nothing, be it of a test or want of memory
pub refused_and_changed : (board : BoardView) → Leaves (EndTask false) board (longer board) (Refused NotInTask) × Leaves OpenGroup board (longer board) (Refused TraceFull) × Leaves OpenGroup board (longer board) (Refused NoMemory)
refused_and_changed board = (
  λ does. never_longer board (does.same NotInTask refl (λ e. absurd (cc))).history,
  λ does. never_longer board (does.same TraceFull refl (λ e. absurd (cc))).history,
  λ does. never_longer board (does.same NoMemory refl (λ e. absurd (cc))).history,
)

-- whatever operation it is, of whichever member and board, and whatever refuses it
pub refused_operation_keeps_the_board : (op : Op) (m : ℕ) (board after : BoardView) (refusal : Refusal) → refusal ≢ Mismatch → Performs op m board after (Refused refusal) → IsSame board after
refused_operation_keeps_the_board op m board after refusal other does = does.same refusal refl other

-- nor does a wait that goes on change anything
pub waiting_operation_keeps_the_board : (op : Op) (m : ℕ) (board after : BoardView) → goes_on_waiting op ≡ true → Performs op m board after Wait → after ≡ board
waiting_operation_keeps_the_board op m board after goes does = does.waits refl goes

-- nor does a wait that goes on
pub waited_and_changed : (board : BoardView) → Leaves (AwaitChildren []) board (longer board) Wait × Leaves EndGroup board (longer board) Wait × Leaves AwaitBarrier board (longer board) Wait
    × Leaves AwaitGroup board (longer board) Wait × Leaves AwaitOwn board (longer board) Wait
waited_and_changed board = (
  λ does. never_longer board (ap (λ (b : BoardView). b.history) (does.waits refl refl)),
  λ does. never_longer board (ap (λ (b : BoardView). b.history) (does.waits refl refl)),
  λ does. never_longer board (ap (λ (b : BoardView). b.history) (does.waits refl refl)),
  λ does. never_longer board (ap (λ (b : BoardView). b.history) (does.waits refl refl)),
  λ does. never_longer board (ap (λ (b : BoardView). b.history) (does.waits refl refl)),
)

-- these five go on with a wait, and no other operation
pub operations_that_go_on :
    map goes_on_waiting
    (CreateTask seven ∷ AwaitOwn ∷ EndTask false ∷ AwaitChildren [] ∷ OpenGroup ∷ EndGroup ∷ AwaitGroup ∷ ArriveAt (at Barrier 0) false ∷ AwaitBarrier ∷ Reserve 4 ∷ PutWords 3 words ∷ GiveWords 3 words ∷ BreakAt AtStop 0 ∷ [])
    ≡ false ∷ true ∷ false ∷ true ∷ false ∷ true ∷ true ∷ false ∷ true ∷ false ∷ false ∷ false ∷ false ∷ []
operations_that_go_on = refl
