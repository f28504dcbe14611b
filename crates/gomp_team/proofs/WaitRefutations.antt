-- What an operation by which a member goes on with a call never is, of any operation, call, reply and part.
use Rattle.std.proofs.Common.{◌≡◌, ◌≢◌, true, false, Some}
use Rattle.gomp_types.specs.declared.call.Call.{Call}
use Rattle.gomp_types.specs.declared.reply.Reply.{Reply}
use Rattle.gomp_board.specs.declared.op.Op.{Op}
use Rattle.gomp_locks.specs.BookCalls.{BookCall}
use Rattle.gomp_team_board.specs.Parts.{PartView, part_after}
use Rattle.gomp_waits.specs.Waits.{resumes_wait}
use Rattle.gomp_team.specs.Moves.{book_call, events_part}
use Rattle.gomp_team.specs.Waits.{GoesOnByOp}

-- one that is no wait
no_first_op_goes_on : (op : Op) (call : Call) → GoesOnByOp op call → resumes_wait op ≡ false → ⊥
no_first_op_goes_on op call goes first = absurd (cc (goes.resumes, first))

-- one that moves the part otherwise than the call
no_other_move_goes_on : (op : Op) (call : Call) (reply : Reply) (part : PartView) → GoesOnByOp op call → part_after op reply part ≢ events_part true call reply part → ⊥
no_other_move_goes_on op call reply part goes differs = differs (goes.events reply part)

-- one of a call that the book answers
no_book_call_goes_on : (op : Op) (call : Call) (asked : BookCall) → GoesOnByOp op call → book_call true call ≡ Some asked → ⊥
no_book_call_goes_on op call asked goes books = absurd (cc (goes.aside, books))
