-- No call takes parts of the ledgers from a member, or gives it some: of any call, reply and member.
use Rattle.std.proofs.Common.{ℕ, ◌≡◌, ◌∙◌, ◌⊎◌, inl, inr, refl, ap, Bool, true, false, Option, Some, None}
use Rattle.gomp_types.specs.declared.call.Call.{Call}
use Rattle.gomp_types.specs.declared.call.Call.TheVariants.{Resume}
use Rattle.gomp_types.specs.declared.call.Server.{Server}
use Rattle.gomp_types.specs.declared.call.Server.TheVariants.{Shares, Board, Book, Team}
use Rattle.gomp_types.specs.declared.refusal.Refusal.TheVariants.{Mismatch}
use Rattle.gomp_types.specs.declared.reply.Reply.{Reply}
use Rattle.gomp_types.specs.declared.reply.Reply.TheVariants.{Copied, Wait, Refused}
use Rattle.gomp_types.specs.declared.shape.Shape.{Shape}
use Rattle.gomp_types.specs.Resumes.{is_resume}
use Rattle.gomp_types.specs.Servers.{served_by}
use Rattle.gomp_board.specs.declared.op.Op.{Op}
use Rattle.gomp_dispatch.specs.Serves.{board_op}
use Rattle.gomp_locks.specs.BookCalls.{BookCall}
use Rattle.gomp_member.specs.Own.{own_meant}
use Rattle.gomp_model.specs.Calls.{row_of}
use Rattle.gomp_ompt.specs.declared.record.Record.{Record}
use Rattle.gomp_team_board.specs.Parts.{PartView}
use Rattle.gomp_team_book.specs.Parts.{BookPartView}
use Rattle.gomp_team_calls.specs.Starts.{start_part}
use Rattle.gomp_team.specs.Moves.{made_plainly, moved_by_op, moved_by_start, arriving_op, moved_together, moved_by, events_part, book_call, gained_part, lost_part, holds_part, releases_part}
use Rattle.gomp_team.specs.Members.{MemberView, Called, CalledWhole}

-- Of the ledger of the team's events

op_keeps_parts : (op : Option Op) (reply : Reply) (part : PartView) → (moved_by_op op reply part).parts ≡ part.parts
op_keeps_parts None reply part = refl
op_keeps_parts (Some op) reply part = refl

start_keeps_parts : (reply : Reply) (part : PartView) → (start_part reply part).parts ≡ part.parts
start_keeps_parts (Copied words) part = refl
start_keeps_parts (Refused Mismatch) part = refl
start_keeps_parts _ part = refl

any_start_keeps_parts : (starts : Option Shape) (reply : Reply) (part : PartView) → (moved_by_start starts reply part).parts ≡ part.parts
any_start_keeps_parts None reply part = refl
any_start_keeps_parts (Some shape) reply part = start_keeps_parts reply part

together_keeps_parts : (arrival : Option Op) (puts : Bool) (starts : Option Shape) (reply : Reply) (part : PartView) → (moved_together arrival puts starts reply part).parts ≡ part.parts
together_keeps_parts (Some op) puts starts reply part = refl
together_keeps_parts None true starts reply part = refl
together_keeps_parts None false starts reply part = any_start_keeps_parts starts reply part

any_server_keeps_parts : (server : Server) (repeated : Bool) (call : Call) (reply : Reply) (part : PartView) → (moved_by server repeated call reply part).parts ≡ part.parts
any_server_keeps_parts Book repeated call reply part = refl
any_server_keeps_parts Board repeated call reply part = op_keeps_parts (board_op (made_plainly repeated) call) reply part
any_server_keeps_parts Shares repeated call reply part = any_start_keeps_parts (row_of call).starts reply part
any_server_keeps_parts Team repeated call reply part = together_keeps_parts (arriving_op repeated (row_of call).arrives) (row_of call).puts (row_of call).starts reply part

pub events_part_keeps_parts : (repeated : Bool) (call : Call) (reply : Reply) (part : PartView) → (events_part repeated call reply part).parts ≡ part.parts
events_part_keeps_parts repeated call reply part = any_server_keeps_parts (served_by call) repeated call reply part

-- Of the ledgers of holds and of releases

gain_keeps_parts : (call : Option BookCall) (reply : Reply) (part : BookPartView) → (gained_part call reply part).parts ≡ part.parts
gain_keeps_parts None reply part = refl
gain_keeps_parts (Some call) reply part = refl

loss_keeps_parts : (call : Option BookCall) (reply : Reply) (part : BookPartView) → (lost_part call reply part).parts ≡ part.parts
loss_keeps_parts None reply part = refl
loss_keeps_parts (Some call) reply part = refl

pub holds_part_keeps_parts : (repeated : Bool) (call : Call) (reply : Reply) (part : BookPartView) → (holds_part repeated call reply part).parts ≡ part.parts
holds_part_keeps_parts repeated call reply part = gain_keeps_parts (book_call repeated call) reply part

pub releases_part_keeps_parts : (repeated : Bool) (call : Call) (reply : Reply) (part : BookPartView) → (releases_part repeated call reply part).parts ≡ part.parts
releases_part_keeps_parts repeated call reply part = loss_keeps_parts (book_call repeated call) reply part

module _ {T : Type 0} (gives : T → Record → T → Type 0) where
  -- One try of a call

  pub call_keeps_events_parts : (call : Call) (reply : Reply) (before after : MemberView T) → Called gives call reply before after → after.events.parts ≡ before.events.parts
  call_keeps_events_parts call reply before after called = ap (λ part. part.parts) called.events ∙ events_part_keeps_parts (is_resume call) (own_meant before.own call) reply before.events

  pub call_keeps_holds_parts : (call : Call) (reply : Reply) (before after : MemberView T) → Called gives call reply before after → after.held.parts ≡ before.held.parts
  call_keeps_holds_parts call reply before after called = ap (λ part. part.parts) called.held ∙ holds_part_keeps_parts (is_resume call) (own_meant before.own call) reply before.held

  pub call_keeps_releases_parts : (call : Call) (reply : Reply) (before after : MemberView T) → Called gives call reply before after → after.freed.parts ≡ before.freed.parts
  call_keeps_releases_parts call reply before after called = ap (λ part. part.parts) called.freed ∙ releases_part_keeps_parts (is_resume call) (own_meant before.own call) reply before.freed

  -- A call that is gone on with until it is answered

  -- what each try keeps of a member, the whole call keeps
  tries_keep : (kept : MemberView T → ℕ) → ((call : Call) (reply : Reply) (before after : MemberView T) → Called gives call reply before after → kept after ≡ kept before)
      → (call : Call) (reply : Reply) (before after : MemberView T)
      → Called gives call reply before after ⊎ ((between : MemberView T) × Called gives call Wait before between × Called gives Resume reply between after)
      → kept after ≡ kept before
  tries_keep kept each call reply before after (inl called) = each call reply before after called
  tries_keep kept each call reply before after (inr (between, first, last)) = each Resume reply between after last ∙ each call Wait before between first

  pub whole_call_keeps_events_parts : (call : Call) (reply : Reply) (before after : MemberView T) → CalledWhole gives call reply before after → after.events.parts ≡ before.events.parts
  whole_call_keeps_events_parts call reply before after called = tries_keep (λ m. m.events.parts) call_keeps_events_parts call reply before after called.tries

  pub whole_call_keeps_holds_parts : (call : Call) (reply : Reply) (before after : MemberView T) → CalledWhole gives call reply before after → after.held.parts ≡ before.held.parts
  whole_call_keeps_holds_parts call reply before after called = tries_keep (λ m. m.held.parts) call_keeps_holds_parts call reply before after called.tries

  pub whole_call_keeps_releases_parts : (call : Call) (reply : Reply) (before after : MemberView T) → CalledWhole gives call reply before after → after.freed.parts ≡ before.freed.parts
  whole_call_keeps_releases_parts call reply before after called = tries_keep (λ m. m.freed.parts) call_keeps_releases_parts call reply before after called.tries
