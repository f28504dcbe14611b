-- How a call of a member and its reply move its parts of the team's ledgers. (own)
use Rattle.std.specs.Prelude.{Bool, true, false, [], Option, Some, None}
use Rattle.gomp_types.specs.declared.call.Call.{Call}
use Rattle.gomp_types.specs.declared.call.Call.TheVariants.{CriticalStart, CriticalEnd, LockInit, NestInit, LockDestroy, Set, Test, Unset, SetNest, TestNest, UnsetNest}
use Rattle.gomp_types.specs.declared.call.Server.{Server}
use Rattle.gomp_types.specs.declared.call.Server.TheVariants.{Shares, Board, Book, Team}
use Rattle.gomp_types.specs.declared.lock.LockKind.TheVariants.{Simple, Nest}
use Rattle.gomp_types.specs.declared.reply.Reply.{Reply}
use Rattle.gomp_types.specs.declared.shape.Shape.{Shape}
use Rattle.gomp_types.specs.Servers.{served_by}
use Rattle.gomp_events.specs.declared.event.Arrival.{Arrival}
use Rattle.gomp_events.specs.Tags.{tag_with}
use Rattle.gomp_board.specs.declared.op.Op.{Op}
use Rattle.gomp_board.specs.declared.op.Op.TheVariants.{Put}
use Rattle.gomp_locks.specs.BookCalls.{BookCall, holds_gained, holds_lost, make_lock, destroy_lock, start_critical, end_critical, set_lock, test_lock, unset_lock, set_nest_lock, test_nest_lock, unset_nest_lock, await_critical, await_lock, await_nest_lock}
use Rattle.gomp_model.specs.Calls.{row_of}
use Rattle.gomp_dispatch.specs.declared.leaving.Manner.{Manner}
use Rattle.gomp_dispatch.specs.Leaves.{leaves_nothing}
use Rattle.gomp_dispatch.specs.Serves.{board_op, arrival_op}
use Rattle.gomp_team_board.specs.Parts.{PartView, part_after}
use Rattle.gomp_team_book.specs.Parts.{BookPartView, counted_more}
use Rattle.gomp_team_calls.specs.Starts.{start_part}

-- The part of the ledger of the team's events

-- how a call is made, or repeated, by a member that leaves nothing: what its member leaves does not change which events it gives
abbrev pub made_plainly : Bool → Manner
made_plainly repeated = record { repeated = repeated; leaving = leaves_nothing; allowed = true }

-- an operation of the board moves the part by its events
abbrev pub moved_by_op : Option Op → Reply → PartView → PartView
moved_by_op None reply part = part
moved_by_op (Some op) reply part = part_after op reply part

-- of the calls on shares a start alone moves it, by the break that a mismatch gives, or the note that its member is given words
abbrev pub moved_by_start : Option Shape → Reply → PartView → PartView
moved_by_start None reply part = part
moved_by_start (Some shape) reply part = start_part reply part

-- the arrival of a call, or the wait after it, with whatever number of shares
abbrev pub arriving_op : Bool → Option Arrival → Option Op
arriving_op repeated None = None
arriving_op repeated (Some kind) = Some (arrival_op repeated false (tag_with kind 0))

-- a call that brings board and shares together moves it by its arrival, by the words that it puts, or as a start
abbrev pub moved_together : Option Op → Bool → Option Shape → Reply → PartView → PartView
moved_together (Some arrival) puts starts reply part = part_after arrival reply part
moved_together None true starts reply part = part_after (Put 0 []) reply part
moved_together None false starts reply part = moved_by_start starts reply part

-- by which part of the team it is answered
abbrev pub moved_by : Server → Bool → Call → Reply → PartView → PartView
moved_by Book repeated call reply part = part
moved_by Board repeated call reply part = moved_by_op (board_op (made_plainly repeated) call) reply part
moved_by Shares repeated call reply part = moved_by_start (row_of call).starts reply part
moved_by Team repeated call reply part = moved_together (arriving_op repeated (row_of call).arrives) (row_of call).puts (row_of call).starts reply part

-- the part after a call, made or repeated, and its reply
abbrev pub events_part : Bool → Call → Reply → PartView → PartView
events_part repeated call reply part = moved_by (served_by call) repeated call reply part

-- The parts of the ledgers of holds and of releases

-- how the book answers a call, made or repeated, if it does
abbrev pub book_call : Bool → Call → Option BookCall
book_call false (CriticalStart name) = Some (start_critical name)
book_call true (CriticalStart name) = Some (await_critical name)
book_call repeated (CriticalEnd name) = Some (end_critical name)
book_call repeated LockInit = Some (make_lock Simple)
book_call repeated NestInit = Some (make_lock Nest)
book_call repeated (LockDestroy number) = Some (destroy_lock number)
book_call false (Set number) = Some (set_lock number)
book_call true (Set number) = Some (await_lock number)
book_call repeated (Test number) = Some (test_lock number)
book_call repeated (Unset number) = Some (unset_lock number)
book_call false (SetNest number) = Some (set_nest_lock number)
book_call true (SetNest number) = Some (await_nest_lock number)
book_call repeated (TestNest number) = Some (test_nest_lock number)
book_call repeated (UnsetNest number) = Some (unset_nest_lock number)
book_call repeated call = None

-- a call moves the part of holds by what it gains
abbrev pub gained_part : Option BookCall → Reply → BookPartView → BookPartView
gained_part None reply part = part
gained_part (Some call) reply part = counted_more (holds_gained call reply) part

-- and that of releases by what it loses
abbrev pub lost_part : Option BookCall → Reply → BookPartView → BookPartView
lost_part None reply part = part
lost_part (Some call) reply part = counted_more (holds_lost call reply) part

-- the parts after a call, made or repeated, and its reply
abbrev pub holds_part : Bool → Call → Reply → BookPartView → BookPartView
holds_part repeated call reply part = gained_part (book_call repeated call) reply part

abbrev pub releases_part : Bool → Call → Reply → BookPartView → BookPartView
releases_part repeated call reply part = lost_part (book_call repeated call) reply part
