-- What a call and its reply leave of a member's parts, of any call, reply and part.
use Rattle.std.proofs.Common.{ℕ, ◌≡◌, ◌≢◌, ◌+◌, Bool, true, false, [], Option, Some, None, refl, sym, ◌∙◌, arith}
use Rattle.gomp_types.specs.declared.call.Call.{Call}
use Rattle.gomp_types.specs.declared.call.Call.TheVariants as calls
use Rattle.gomp_types.specs.declared.call.Server.{Server}
use Rattle.gomp_types.specs.declared.call.Server.TheVariants.{Shares, Board, Book, Team}
use Rattle.gomp_types.specs.declared.refusal.Refusal.{Refusal}
use Rattle.gomp_types.specs.declared.refusal.Refusal.TheVariants.{Mismatch}
use Rattle.gomp_types.specs.declared.reply.Reply.{Reply}
use Rattle.gomp_types.specs.declared.reply.Reply.TheVariants.{Finished, Copied, Count, Refused}
use Rattle.gomp_types.specs.declared.shape.Shape.{Shape}
use Rattle.gomp_types.specs.Servers.{served_by}
use Rattle.gomp_events.specs.declared.event.Arrival.{Arrival}
use Rattle.gomp_events.specs.Tags.{tag_with}
use Rattle.gomp_board.specs.declared.op.Op.{Op}
use Rattle.gomp_board.specs.declared.op.Op.TheVariants.{AwaitBarrier, Put}
use Rattle.gomp_dispatch.specs.Serves.{board_op, arrival_op}
use Rattle.gomp_locks.specs.BookCalls.{BookCall, holds_gained, holds_lost}
use Rattle.gomp_locks.specs.BookCalls.BookCall.{start_critical}
use Rattle.gomp_model.specs.Calls.{row_of}
use Rattle.gomp_team_board.specs.Parts.{PartView, part_after}
use Rattle.gomp_team_board.proofs.Moved.{refusal_moves_nothing}
use Rattle.gomp_team_book.specs.Parts.{BookPartView, counted_more}
use Rattle.gomp_team_calls.specs.Starts.{start_part}
use Rattle.gomp_team_calls.proofs.Started.{refused_start_part}
use Rattle.gomp_team.specs.Moves.{made_plainly, moved_by_op, moved_by_start, arriving_op, moved_together, moved_by, events_part, book_call, gained_part, lost_part, holds_part, releases_part}

-- Refusals

refused_op_moves_nothing : (op : Option Op) (refusal : Refusal) (part : PartView) → refusal ≢ Mismatch → moved_by_op op (Refused refusal) part ≡ part
refused_op_moves_nothing None refusal part other = refl
refused_op_moves_nothing (Some op) refusal part other = refusal_moves_nothing op refusal part other

refused_start_moves_nothing : (starts : Option Shape) (refusal : Refusal) (part : PartView) → refusal ≢ Mismatch → moved_by_start starts (Refused refusal) part ≡ part
refused_start_moves_nothing None refusal part other = refl
refused_start_moves_nothing (Some shape) refusal part other = sym (refused_start_part AwaitBarrier refusal part) ∙ refusal_moves_nothing AwaitBarrier refusal part other

refused_together_moves_nothing : (arrival : Option Op) (puts : Bool) (starts : Option Shape) (refusal : Refusal) (part : PartView) → refusal ≢ Mismatch
    → moved_together arrival puts starts (Refused refusal) part ≡ part
refused_together_moves_nothing (Some op) puts starts refusal part other = refusal_moves_nothing op refusal part other
refused_together_moves_nothing None true starts refusal part other = refusal_moves_nothing (Put 0 []) refusal part other
refused_together_moves_nothing None false starts refusal part other = refused_start_moves_nothing starts refusal part other

refused_by_any_server : (server : Server) (repeated : Bool) (call : Call) (refusal : Refusal) (part : PartView) → refusal ≢ Mismatch → moved_by server repeated call (Refused refusal) part ≡ part
refused_by_any_server Book repeated call refusal part other = refl
refused_by_any_server Board repeated call refusal part other = refused_op_moves_nothing (board_op (made_plainly repeated) call) refusal part other
refused_by_any_server Shares repeated call refusal part other = refused_start_moves_nothing (row_of call).starts refusal part other
refused_by_any_server Team repeated call refusal part other = refused_together_moves_nothing (arriving_op repeated (row_of call).arrives) (row_of call).puts (row_of call).starts refusal part other

-- a refusal other than a mismatch moves no part of the events
pub refusal_moves_no_events : (repeated : Bool) (call : Call) (refusal : Refusal) (part : PartView) → refusal ≢ Mismatch → events_part repeated call (Refused refusal) part ≡ part
refusal_moves_no_events repeated call refusal part other = refused_by_any_server (served_by call) repeated call refusal part other

none_gained_by_a_refusal : (call : BookCall) (refusal : Refusal) → holds_gained call (Refused refusal) ≡ 0
none_gained_by_a_refusal (start_critical name) refusal = refl
none_gained_by_a_refusal _ refusal = refl

none_lost_by_a_refusal : (call : BookCall) (refusal : Refusal) → holds_lost call (Refused refusal) ≡ 0
none_lost_by_a_refusal (start_critical name) refusal = refl
none_lost_by_a_refusal _ refusal = refl

-- a part on which nothing more is counted stays as it is
pub part_with_none_more : (more : ℕ) (part : BookPartView) → more ≡ 0 → counted_more more part ≡ part
part_with_none_more more part none =
    let same : part.amount + more ≡ part.amount = omega arith in
    rw same refl

refused_gains_nothing : (call : Option BookCall) (refusal : Refusal) (part : BookPartView) → gained_part call (Refused refusal) part ≡ part
refused_gains_nothing None refusal part = refl
refused_gains_nothing (Some call) refusal part = part_with_none_more _ part (none_gained_by_a_refusal call refusal)

refused_loses_nothing : (call : Option BookCall) (refusal : Refusal) (part : BookPartView) → lost_part call (Refused refusal) part ≡ part
refused_loses_nothing None refusal part = refl
refused_loses_nothing (Some call) refusal part = part_with_none_more _ part (none_lost_by_a_refusal call refusal)

-- no refusal moves one of holds or of releases
pub refusal_moves_no_holds : (repeated : Bool) (call : Call) (refusal : Refusal) (part : BookPartView) → holds_part repeated call (Refused refusal) part ≡ part
refusal_moves_no_holds repeated call refusal part = refused_gains_nothing (book_call repeated call) refusal part

pub refusal_moves_no_releases : (repeated : Bool) (call : Call) (refusal : Refusal) (part : BookPartView) → releases_part repeated call (Refused refusal) part ≡ part
refusal_moves_no_releases repeated call refusal part = refused_loses_nothing (book_call repeated call) refusal part

-- What gives events

pub arrivals_are_the_teams : (call : Call) (kind : Arrival) → (row_of call).arrives ≡ Some kind → served_by call ≡ Team
arrivals_are_the_teams calls.Barrier kind arrives = refl
arrivals_are_the_teams calls.RegionEnd kind arrives = refl
arrivals_are_the_teams calls.LoopEnd kind arrives = refl
arrivals_are_the_teams calls.LoopEndCancel kind arrives = refl
arrivals_are_the_teams calls.SectionsEnd kind arrives = refl
arrivals_are_the_teams calls.SectionsEndCancel kind arrives = refl
arrivals_are_the_teams _ kind arrives = absurd (cc)

-- a call that arrives moves the part as its arrival does, or the wait after it if it is repeated
pub arrival_moves_the_events : (repeated : Bool) (call : Call) (kind : Arrival) (reply : Reply) (part : PartView) → (row_of call).arrives ≡ Some kind
    → events_part repeated call reply part ≡ part_after (arrival_op repeated false (tag_with kind 0)) reply part
arrival_moves_the_events repeated call kind reply part arrives = rw (arrivals_are_the_teams call kind arrives, arrives) refl

-- a call that starts a share moves it as a start does
pub start_moves_the_events : (repeated : Bool) (call : Call) (shape : Shape) (reply : Reply) (part : PartView) → (row_of call).starts ≡ Some shape → events_part repeated call reply part ≡ start_part reply part
start_moves_the_events repeated (calls.LoopStart loop) shape reply part starts = refl
start_moves_the_events repeated (calls.SectionsStart count end_kind) shape reply part starts = refl
start_moves_the_events repeated calls.SingleStart shape reply part starts = refl
start_moves_the_events repeated calls.SingleCopyStart shape reply part starts = refl
start_moves_the_events repeated _ shape reply part starts = absurd (cc)

-- a call that the board answers alone moves it as its operation does
pub board_moves_the_events : (repeated : Bool) (call : Call) (op : Op) (reply : Reply) (part : PartView) → served_by call ≡ Board → board_op (made_plainly repeated) call ≡ Some op
    → events_part repeated call reply part ≡ part_after op reply part
board_moves_the_events repeated call op reply part served asks = rw (served, asks) refl

-- Calls that give no event

by_book_moves_nothing : (server : Server) (repeated : Bool) (call : Call) (reply : Reply) (part : PartView) → server ≡ Book → moved_by server repeated call reply part ≡ part
by_book_moves_nothing Book repeated call reply part is = refl
by_book_moves_nothing _ repeated call reply part is = absurd (cc)

-- a call on names or locks moves none of the events, whatever it is answered
pub book_moves_no_events : (repeated : Bool) (call : Call) (reply : Reply) (part : PartView) → served_by call ≡ Book → events_part repeated call reply part ≡ part
book_moves_no_events repeated call reply part is = by_book_moves_nothing (served_by call) repeated call reply part is

no_start_moves_nothing : (starts : Option Shape) (reply : Reply) (part : PartView) → starts ≡ None → moved_by_start starts reply part ≡ part
no_start_moves_nothing None reply part none = refl
no_start_moves_nothing (Some shape) reply part none = absurd (cc)

inside_moves_nothing : (server : Server) (repeated : Bool) (call : Call) (reply : Reply) (part : PartView) → server ≡ Shares → (row_of call).starts ≡ None → moved_by server repeated call reply part ≡ part
inside_moves_nothing Shares repeated call reply part is none = no_start_moves_nothing (row_of call).starts reply part none
inside_moves_nothing _ repeated call reply part is none = absurd (cc)

-- nor does one on the share that its member is in
pub inside_call_moves_no_events : (repeated : Bool) (call : Call) (reply : Reply) (part : PartView) → served_by call ≡ Shares → (row_of call).starts ≡ None → events_part repeated call reply part ≡ part
inside_call_moves_no_events repeated call reply part is none = inside_moves_nothing (served_by call) repeated call reply part is none

-- Calls that hold or free nothing

-- who asks the book is served by it
book_call_is_the_books : (repeated : Bool) (call : Call) (asked : BookCall) → book_call repeated call ≡ Some asked → served_by call ≡ Book
book_call_is_the_books repeated (calls.CriticalStart name) asked is = refl
book_call_is_the_books repeated (calls.CriticalEnd name) asked is = refl
book_call_is_the_books repeated calls.LockInit asked is = refl
book_call_is_the_books repeated calls.NestInit asked is = refl
book_call_is_the_books repeated (calls.LockDestroy number) asked is = refl
book_call_is_the_books repeated (calls.Set number) asked is = refl
book_call_is_the_books repeated (calls.Test number) asked is = refl
book_call_is_the_books repeated (calls.Unset number) asked is = refl
book_call_is_the_books repeated (calls.SetNest number) asked is = refl
book_call_is_the_books repeated (calls.TestNest number) asked is = refl
book_call_is_the_books repeated (calls.UnsetNest number) asked is = refl
book_call_is_the_books true _ asked is = absurd (cc)
book_call_is_the_books false _ asked is = absurd (cc)

asks_book_or_not : (asked : Option BookCall) (served : Server) → ((call : BookCall) → asked ≡ Some call → served ≡ Book) → served ≢ Book → asked ≡ None
asks_book_or_not None served books other = refl
asks_book_or_not (Some call) served books other = absurd (other (books call refl))

-- and who is served otherwise asks nothing of it
other_calls_ask_no_book : (repeated : Bool) (call : Call) → served_by call ≢ Book → book_call repeated call ≡ None
other_calls_ask_no_book repeated call other = asks_book_or_not (book_call repeated call) (served_by call) (book_call_is_the_books repeated call) other

-- a call that the book does not answer moves no part of holds, and none of releases, whatever it is answered
pub other_calls_move_no_holds : (repeated : Bool) (call : Call) (reply : Reply) (part : BookPartView) → served_by call ≢ Book → holds_part repeated call reply part ≡ part
other_calls_move_no_holds repeated call reply part other = rw (other_calls_ask_no_book repeated call other) refl

pub other_calls_move_no_releases : (repeated : Bool) (call : Call) (reply : Reply) (part : BookPartView) → served_by call ≢ Book → releases_part repeated call reply part ≡ part
other_calls_move_no_releases repeated call reply part other = rw (other_calls_ask_no_book repeated call other) refl

-- Parts

parts_kept_by_op : (op : Option Op) (reply : Reply) (part : PartView) → (moved_by_op op reply part).parts ≡ part.parts
parts_kept_by_op None reply part = refl
parts_kept_by_op (Some op) reply part = refl

parts_kept_by_refusal : (refusal : Refusal) (part : PartView) → (start_part (Refused refusal) part).parts ≡ part.parts
parts_kept_by_refusal Mismatch part = refl
parts_kept_by_refusal _ part = refl

parts_kept_by_start : (starts : Option Shape) (reply : Reply) (part : PartView) → (moved_by_start starts reply part).parts ≡ part.parts
parts_kept_by_start None reply part = refl
parts_kept_by_start (Some shape) (Copied words) part = refl
parts_kept_by_start (Some shape) (Refused refusal) part = parts_kept_by_refusal refusal part
parts_kept_by_start (Some shape) _ part = refl

parts_kept_together : (arrival : Option Op) (puts : Bool) (starts : Option Shape) (reply : Reply) (part : PartView) → (moved_together arrival puts starts reply part).parts ≡ part.parts
parts_kept_together (Some op) puts starts reply part = refl
parts_kept_together None true starts reply part = refl
parts_kept_together None false starts reply part = parts_kept_by_start starts reply part

parts_kept_by_any_server : (server : Server) (repeated : Bool) (call : Call) (reply : Reply) (part : PartView) → (moved_by server repeated call reply part).parts ≡ part.parts
parts_kept_by_any_server Book repeated call reply part = refl
parts_kept_by_any_server Board repeated call reply part = parts_kept_by_op (board_op (made_plainly repeated) call) reply part
parts_kept_by_any_server Shares repeated call reply part = parts_kept_by_start (row_of call).starts reply part
parts_kept_by_any_server Team repeated call reply part = parts_kept_together (arriving_op repeated (row_of call).arrives) (row_of call).puts (row_of call).starts reply part

-- it stays as many parts of each ledger
pub call_keeps_event_parts : (repeated : Bool) (call : Call) (reply : Reply) (part : PartView) → (events_part repeated call reply part).parts ≡ part.parts
call_keeps_event_parts repeated call reply part = parts_kept_by_any_server (served_by call) repeated call reply part

gains_keep_parts : (call : Option BookCall) (reply : Reply) (part : BookPartView) → (gained_part call reply part).parts ≡ part.parts
gains_keep_parts None reply part = refl
gains_keep_parts (Some call) reply part = refl

losses_keep_parts : (call : Option BookCall) (reply : Reply) (part : BookPartView) → (lost_part call reply part).parts ≡ part.parts
losses_keep_parts None reply part = refl
losses_keep_parts (Some call) reply part = refl

pub call_keeps_hold_parts : (repeated : Bool) (call : Call) (reply : Reply) (part : BookPartView) → (holds_part repeated call reply part).parts ≡ part.parts
call_keeps_hold_parts repeated call reply part = gains_keep_parts (book_call repeated call) reply part

pub call_keeps_release_parts : (repeated : Bool) (call : Call) (reply : Reply) (part : BookPartView) → (releases_part repeated call reply part).parts ≡ part.parts
call_keeps_release_parts repeated call reply part = losses_keep_parts (book_call repeated call) reply part

-- Further tries of calls on names and locks

-- what a further try of such a call gains and loses is what the first would have
further_try_gains_the_same : (call : Call) (reply : Reply) (part : BookPartView) → holds_part true call reply part ≡ holds_part false call reply part
further_try_gains_the_same (calls.CriticalStart name) Finished part = refl
further_try_gains_the_same (calls.CriticalStart name) _ part = refl
further_try_gains_the_same (calls.Set number) Finished part = refl
further_try_gains_the_same (calls.Set number) _ part = refl
further_try_gains_the_same (calls.SetNest number) (Count count) part = refl
further_try_gains_the_same (calls.SetNest number) _ part = refl
further_try_gains_the_same _ reply part = refl

further_try_loses_the_same : (call : Call) (reply : Reply) (part : BookPartView) → releases_part true call reply part ≡ releases_part false call reply part
further_try_loses_the_same (calls.CriticalStart name) reply part = refl
further_try_loses_the_same (calls.Set number) reply part = refl
further_try_loses_the_same (calls.SetNest number) reply part = refl
further_try_loses_the_same _ reply part = refl

-- whether a call is repeated changes neither what it holds nor what it frees
pub tries_hold_alike : (one other : Bool) (call : Call) (reply : Reply) (part : BookPartView) → holds_part one call reply part ≡ holds_part other call reply part
tries_hold_alike true true call reply part = refl
tries_hold_alike true false call reply part = further_try_gains_the_same call reply part
tries_hold_alike false true call reply part = sym (further_try_gains_the_same call reply part)
tries_hold_alike false false call reply part = refl

pub tries_free_alike : (one other : Bool) (call : Call) (reply : Reply) (part : BookPartView) → releases_part one call reply part ≡ releases_part other call reply part
tries_free_alike true true call reply part = refl
tries_free_alike true false call reply part = further_try_loses_the_same call reply part
tries_free_alike false true call reply part = sym (further_try_loses_the_same call reply part)
tries_free_alike false false call reply part = refl

-- Calls without a key

first_try_without_a_key_holds_none : (call : Call) (reply : Reply) (part : BookPartView) → (row_of call).holds ≡ None → holds_part false call reply part ≡ part
first_try_without_a_key_holds_none calls.LockInit reply part none = part_with_none_more 0 part refl
first_try_without_a_key_holds_none calls.NestInit reply part none = part_with_none_more 0 part refl
first_try_without_a_key_holds_none (calls.LockDestroy number) reply part none = part_with_none_more 0 part refl
first_try_without_a_key_holds_none (calls.CriticalStart name) reply part none = absurd (cc)
first_try_without_a_key_holds_none (calls.CriticalEnd name) reply part none = absurd (cc)
first_try_without_a_key_holds_none (calls.Set number) reply part none = absurd (cc)
first_try_without_a_key_holds_none (calls.Test number) reply part none = absurd (cc)
first_try_without_a_key_holds_none (calls.Unset number) reply part none = absurd (cc)
first_try_without_a_key_holds_none (calls.SetNest number) reply part none = absurd (cc)
first_try_without_a_key_holds_none (calls.TestNest number) reply part none = absurd (cc)
first_try_without_a_key_holds_none (calls.UnsetNest number) reply part none = absurd (cc)
first_try_without_a_key_holds_none _ reply part none = refl

first_try_without_a_key_frees_none : (call : Call) (reply : Reply) (part : BookPartView) → (row_of call).holds ≡ None → releases_part false call reply part ≡ part
first_try_without_a_key_frees_none calls.LockInit reply part none = part_with_none_more 0 part refl
first_try_without_a_key_frees_none calls.NestInit reply part none = part_with_none_more 0 part refl
first_try_without_a_key_frees_none (calls.LockDestroy number) reply part none = part_with_none_more 0 part refl
first_try_without_a_key_frees_none (calls.CriticalStart name) reply part none = absurd (cc)
first_try_without_a_key_frees_none (calls.CriticalEnd name) reply part none = absurd (cc)
first_try_without_a_key_frees_none (calls.Set number) reply part none = absurd (cc)
first_try_without_a_key_frees_none (calls.Test number) reply part none = absurd (cc)
first_try_without_a_key_frees_none (calls.Unset number) reply part none = absurd (cc)
first_try_without_a_key_frees_none (calls.SetNest number) reply part none = absurd (cc)
first_try_without_a_key_frees_none (calls.TestNest number) reply part none = absurd (cc)
first_try_without_a_key_frees_none (calls.UnsetNest number) reply part none = absurd (cc)
first_try_without_a_key_frees_none _ reply part none = refl

-- a call whose row has no name or lock, as the making and the destroying of one, moves no part of holds, and none of releases
pub keyless_calls_move_no_holds : (repeated : Bool) (call : Call) (reply : Reply) (part : BookPartView) → (row_of call).holds ≡ None → holds_part repeated call reply part ≡ part
keyless_calls_move_no_holds repeated call reply part none = tries_hold_alike repeated false call reply part ∙ first_try_without_a_key_holds_none call reply part none

pub keyless_calls_move_no_releases : (repeated : Bool) (call : Call) (reply : Reply) (part : BookPartView) → (row_of call).holds ≡ None → releases_part repeated call reply part ≡ part
keyless_calls_move_no_releases repeated call reply part none = tries_free_alike repeated false call reply part ∙ first_try_without_a_key_frees_none call reply part none
