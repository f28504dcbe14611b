-- What no member of a team does by a call, of any member, tool, call and reply.
use Rattle.std.proofs.Common.{ℕ, ◌≡◌, ◌≢◌, ◌+◌, Bool, true, false, List, [], ◌∷◌, Some, refl, ap, sym, ◌∙◌, subst, arith, inl, inr}
use Rattle.std.specs.Prelude.{◌⊎◌, not}
use Rattle.gomp_types.specs.declared.call.Call.{Call}
use Rattle.gomp_types.specs.declared.call.Call.TheVariants as calls
use Rattle.gomp_types.specs.declared.depend.Dep.{Dep}
use Rattle.gomp_types.specs.declared.refusal.Refusal.{Refusal}
use Rattle.gomp_types.specs.declared.refusal.Refusal.TheVariants.{Mismatch}
use Rattle.gomp_types.specs.declared.reply.Reply.{Reply}
use Rattle.gomp_types.specs.declared.reply.Reply.TheVariants.{Finished, Passed, Wait, Run, Refused}
use Rattle.gomp_types.specs.declared.task.TaskDesc.{TaskDesc}
use Rattle.gomp_types.specs.declared.call.Server.TheVariants.{Book}
use Rattle.gomp_types.specs.Resumes.{is_resume}
use Rattle.gomp_types.specs.Servers.{served_by}
use Rattle.gomp_board.specs.declared.op.Op.{Op}
use Rattle.gomp_board.specs.declared.op.Op.TheVariants as ops
use Rattle.gomp_dispatch.proofs.Refused.{no_kind_of_book}
use Rattle.gomp_ompt.specs.declared.record.Record.{Record}
use Rattle.gomp_ompt.specs.Table.{records_of}
use Rattle.gomp_ompt.specs.Tools.{AfterEach}
use Rattle.gomp_member.specs.Own.{OwnView, own_meant, own_after}
use Rattle.gomp_team_board.specs.Parts.{PartView}
use Rattle.gomp_team_book.specs.Parts.{BookPartView}
use Rattle.gomp_team.specs.Moves.{events_part, holds_part, releases_part}
use Rattle.gomp_team.specs.Members.{MemberView, AsksNoItems, BringsItems, AwaitsItems, AwaitsThese, HoldsKey, FreesKey, IsMoved, HasSameParts, Called, CalledWhole}
use Rattle.gomp_team.proofs.Meant.{call_means_itself}
use Rattle.gomp_team.proofs.Again.{waits_move_no_holds, waits_move_no_releases}
use Rattle.gomp_team.proofs.MoveLaws.{part_with_none_more, refusal_moves_no_events, refusal_moves_no_holds, refusal_moves_no_releases, tries_hold_alike, tries_free_alike}

-- One try of a call

-- it leaves the member knowing nothing else than what its call and reply say
pub never_knows_otherwise : {T : Type 0} (gives : T → Record → T → Type 0) (call : Call) (reply : Reply) (before after : MemberView T) → Called gives call reply before after → after.own ≢ own_after reply call before.own → ⊥
never_knows_otherwise gives call reply before after called other = other called.own

-- so never what it knew, where these change it
pub never_keeps_what_it_knew : {T : Type 0} (gives : T → Record → T → Type 0) (call : Call) (reply : Reply) (before after : MemberView T)
    → own_after reply call before.own ≢ before.own → Called gives call reply before after → after.own ≡ before.own → ⊥
never_keeps_what_it_knew gives call reply before after changes called keeps = changes (sym called.own ∙ keeps)

-- never as another member, or of another team
pub never_another_member : {T : Type 0} (gives : T → Record → T → Type 0) (call : Call) (reply : Reply) (before after : MemberView T) → Called gives call reply before after → after.own.number ≢ before.own.number → ⊥
never_another_member gives call reply before after called other = other (ap (λ (own : OwnView). own.number) called.own)

pub never_of_another_team : {T : Type 0} (gives : T → Record → T → Type 0) (call : Call) (reply : Reply) (before after : MemberView T) → Called gives call reply before after → after.own.team ≢ before.own.team → ⊥
never_of_another_team gives call reply before after called other = other (ap (λ (own : OwnView). own.team) called.own)

-- a task that it starts is its innermost
pub never_forgets_a_started_task : {T : Type 0} (gives : T → Record → T → Type 0) (call : Call) (task code arg : ℕ) (own : Bool) (before after : MemberView T)
    → Called gives call (Run task code arg own) before after → after.own.tasks ≢ task ∷ before.own.tasks → ⊥
never_forgets_a_started_task gives call task code arg own before after called other = other (ap (λ (own : OwnView). own.tasks) called.own)

-- a call that has to wait is the one that a resume means
pub never_forgets_its_wait : {T : Type 0} (gives : T → Record → T → Type 0) (call : Call) (before after : MemberView T) → Called gives call Wait before after → own_meant after.own calls.Resume ≢ own_meant before.own call → ⊥
never_forgets_its_wait gives call before after called other = other (ap (λ (own : OwnView). own_meant own calls.Resume) called.own)

-- its parts move by the call that it makes, as made
pub never_moves_events_otherwise : {T : Type 0} (gives : T → Record → T → Type 0) (call : Call) (reply : Reply) (before after : MemberView T)
    → is_resume call ≡ false → Called gives call reply before after → after.events ≢ events_part false call reply before.events → ⊥
never_moves_events_otherwise gives call reply before after first called other =
    let means : own_meant before.own call ≡ call = call_means_itself call before.own first in
    other (called.events ∙ rw (first, means) refl)

pub never_moves_holds_otherwise : {T : Type 0} (gives : T → Record → T → Type 0) (call : Call) (reply : Reply) (before after : MemberView T)
    → is_resume call ≡ false → Called gives call reply before after → after.held ≢ holds_part false call reply before.held → ⊥
never_moves_holds_otherwise gives call reply before after first called other =
    let means : own_meant before.own call ≡ call = call_means_itself call before.own first in
    other (called.held ∙ rw (first, means) refl)

pub never_moves_releases_otherwise : {T : Type 0} (gives : T → Record → T → Type 0) (call : Call) (reply : Reply) (before after : MemberView T)
    → is_resume call ≡ false → Called gives call reply before after → after.freed ≢ releases_part false call reply before.freed → ⊥
never_moves_releases_otherwise gives call reply before after first called other =
    let means : own_meant before.own call ≡ call = call_means_itself call before.own first in
    other (called.freed ∙ rw (first, means) refl)

-- by a resume as the call that waits does, repeated
pub never_resumes_another_call : {T : Type 0} (gives : T → Record → T → Type 0) (waiting : Call) (reply : Reply) (before after : MemberView T)
    → before.own.waits.open_call ≡ Some waiting → Called gives calls.Resume reply before after → after.events ≢ events_part true waiting reply before.events → ⊥
never_resumes_another_call gives waiting reply before after waits called other = other (called.events ∙ rw waits refl)

pub never_resumes_another_hold : {T : Type 0} (gives : T → Record → T → Type 0) (waiting : Call) (reply : Reply) (before after : MemberView T)
    → before.own.waits.open_call ≡ Some waiting → Called gives calls.Resume reply before after → after.held ≢ holds_part true waiting reply before.held → ⊥
never_resumes_another_hold gives waiting reply before after waits called other = other (called.held ∙ rw waits refl)

pub never_resumes_another_release : {T : Type 0} (gives : T → Record → T → Type 0) (waiting : Call) (reply : Reply) (before after : MemberView T)
    → before.own.waits.open_call ≡ Some waiting → Called gives calls.Resume reply before after → after.freed ≢ releases_part true waiting reply before.freed → ⊥
never_resumes_another_release gives waiting reply before after waits called other = other (called.freed ∙ rw waits refl)

-- no refusal moves a part, but a mismatch that of the events
pub never_moves_a_part_by_a_refusal : {T : Type 0} (gives : T → Record → T → Type 0) (call : Call) (refusal : Refusal) (before after : MemberView T)
    → refusal ≢ Mismatch → Called gives call (Refused refusal) before after → after.events ≢ before.events → ⊥
never_moves_a_part_by_a_refusal gives call refusal before after differs called other =
    other (called.events ∙ refusal_moves_no_events (is_resume call) (own_meant before.own call) refusal before.events differs)

pub never_holds_by_a_refusal : {T : Type 0} (gives : T → Record → T → Type 0) (call : Call) (refusal : Refusal) (before after : MemberView T) → Called gives call (Refused refusal) before after → after.held ≢ before.held → ⊥
never_holds_by_a_refusal gives call refusal before after called other = other (called.held ∙ refusal_moves_no_holds (is_resume call) (own_meant before.own call) refusal before.held)

pub never_frees_by_a_refusal : {T : Type 0} (gives : T → Record → T → Type 0) (call : Call) (refusal : Refusal) (before after : MemberView T) → Called gives call (Refused refusal) before after → after.freed ≢ before.freed → ⊥
never_frees_by_a_refusal gives call refusal before after called other = other (called.freed ∙ refusal_moves_no_releases (is_resume call) (own_meant before.own call) refusal before.freed)

-- the control variables of its region stay
pub never_other_variables : {T : Type 0} (gives : T → Record → T → Type 0) (call : Call) (reply : Reply) (before after : MemberView T) → Called gives call reply before after → after.icv ≢ before.icv → ⊥
never_other_variables gives call reply before after called other = other called.icv

-- its tool is given each record of the call, in order,
pub no_record_is_left_out : {T : Type 0} (gives : T → Record → T → Type 0) (call : Call) (reply : Reply) (given : Record) (later : List Record) (before after : MemberView T)
    → records_of (own_meant before.own call) (not (is_resume call)) reply ≡ given ∷ later → Called gives call reply before after
    → ((between : T) → gives before.tool given between → AfterEach gives between later after.tool → ⊥) → ⊥
no_record_is_left_out gives call reply given later before after records called out =
    let each : AfterEach gives before.tool (given ∷ later) after.tool = subst (λ list. AfterEach gives before.tool list after.tool) records called.tool in
    out each.0 each.1 each.2

-- and nothing else
pub never_tells_its_tool_in_vain : {T : Type 0} (gives : T → Record → T → Type 0) (call : Call) (reply : Reply) (before after : MemberView T)
    → records_of (own_meant before.own call) (not (is_resume call)) reply ≡ [] → Called gives call reply before after → after.tool ≢ before.tool → ⊥
never_tells_its_tool_in_vain gives call reply before after records called other =
    let none : AfterEach gives before.tool [] after.tool = subst (λ list. AfterEach gives before.tool list after.tool) records called.tool in
    other (sym none)

-- of a call that it makes those of a first try, of a resume those of a further one
pub no_first_record_is_left_out : {T : Type 0} (gives : T → Record → T → Type 0) (call : Call) (reply : Reply) (before after : MemberView T)
    → is_resume call ≡ false → Called gives call reply before after → (AfterEach gives before.tool (records_of call true reply) after.tool → ⊥) → ⊥
no_first_record_is_left_out gives call reply before after first called out =
    let means : own_meant before.own call ≡ call = call_means_itself call before.own first in
    let known : AfterEach gives before.tool (records_of (own_meant before.own call) (not false) reply) after.tool =
    subst (λ repeated. AfterEach gives before.tool (records_of (own_meant before.own call) (not repeated) reply) after.tool) first called.tool in
    out (subst (λ meant. AfterEach gives before.tool (records_of meant true reply) after.tool) means known)

pub no_resumed_record_is_left_out : {T : Type 0} (gives : T → Record → T → Type 0) (waiting : Call) (reply : Reply) (before after : MemberView T)
    → before.own.waits.open_call ≡ Some waiting → Called gives calls.Resume reply before after → (AfterEach gives before.tool (records_of waiting false reply) after.tool → ⊥) → ⊥
no_resumed_record_is_left_out gives waiting reply before after waits called out =
    let means : own_meant before.own calls.Resume ≡ waiting = rw waits refl in
    out (subst (λ meant. AfterEach gives before.tool (records_of meant false reply) after.tool) means called.tool)

-- a refusal is no record
pub never_tells_its_tool_of_a_refusal : {T : Type 0} (gives : T → Record → T → Type 0) (call : Call) (refusal : Refusal) (before after : MemberView T) → Called gives call (Refused refusal) before after → after.tool ≢ before.tool → ⊥
never_tells_its_tool_of_a_refusal gives call refusal before after called other = never_tells_its_tool_in_vain gives call (Refused refusal) before after refl called other

-- A call until it is answered

-- it is never answered to wait
pub never_answers_to_wait : {T : Type 0} (gives : T → Record → T → Type 0) (call : Call) (before after : MemberView T) → CalledWhole gives call Wait before after → ⊥
never_answers_to_wait gives call before after whole = whole.over refl

-- it is answered by its first try, or by the last after a wait
pub never_answered_without_a_try : {T : Type 0} (gives : T → Record → T → Type 0) (call : Call) (reply : Reply) (before after : MemberView T) → CalledWhole gives call reply before after
    → (Called gives call reply before after → ⊥) → ((between : MemberView T) → Called gives call Wait before between → Called gives calls.Resume reply between after → ⊥) → ⊥
never_answered_without_a_try gives call reply before after whole first last = elim whole.tries [
  | inl called ↦ first called
  | inr tries ↦ last tries.0 tries.1 tries.2
]

-- and has moved its part of the events by one try, or by a wait and a further try
whole_call_moves_events : {T : Type 0} (gives : T → Record → T → Type 0) (call : Call) (reply : Reply) (before after : MemberView T) → CalledWhole gives call reply before after
    → (after.events ≡ events_part (is_resume call) (own_meant before.own call) reply before.events)
    ⊎ (after.events ≡ events_part true (own_meant before.own call) reply (events_part (is_resume call) (own_meant before.own call) Wait before.events))
whole_call_moves_events gives call reply before after whole = elim whole.tries [
  | inl called ↦ inl called.events
  | inr tries ↦
      let means : own_meant tries.0.own calls.Resume ≡ own_meant before.own call = ap (λ (own : OwnView). own_meant own calls.Resume) tries.1.own in
      inr (tries.2.events ∙ rw (means, tries.1.events) refl)
]

pub never_moves_events_otherwise_in_all : {T : Type 0} (gives : T → Record → T → Type 0) (call : Call) (reply : Reply) (before after : MemberView T) → CalledWhole gives call reply before after
    → after.events ≢ events_part (is_resume call) (own_meant before.own call) reply before.events
    → after.events ≢ events_part true (own_meant before.own call) reply (events_part (is_resume call) (own_meant before.own call) Wait before.events) → ⊥
never_moves_events_otherwise_in_all gives call reply before after whole once after_a_wait = elim (whole_call_moves_events gives call reply before after whole) [
  | inl moved ↦ once moved
  | inr moved ↦ after_a_wait moved
]

-- of holds and releases a wait moves none
whole_call_moves_holds : {T : Type 0} (gives : T → Record → T → Type 0) (call : Call) (reply : Reply) (before after : MemberView T) → CalledWhole gives call reply before after
    → after.held ≡ holds_part (is_resume call) (own_meant before.own call) reply before.held
whole_call_moves_holds gives call reply before after whole = elim whole.tries [
  | inl called ↦ called.held
  | inr tries ↦
      let means : own_meant tries.0.own calls.Resume ≡ own_meant before.own call = ap (λ (own : OwnView). own_meant own calls.Resume) tries.1.own in
      let waited : tries.0.held ≡ before.held = tries.1.held ∙ waits_move_no_holds (is_resume call) (own_meant before.own call) before.held in
      tries.2.held ∙ rw (means, waited) (tries_hold_alike true (is_resume call) (own_meant before.own call) reply before.held)
]

whole_call_moves_releases : {T : Type 0} (gives : T → Record → T → Type 0) (call : Call) (reply : Reply) (before after : MemberView T) → CalledWhole gives call reply before after
    → after.freed ≡ releases_part (is_resume call) (own_meant before.own call) reply before.freed
whole_call_moves_releases gives call reply before after whole = elim whole.tries [
  | inl called ↦ called.freed
  | inr tries ↦
      let means : own_meant tries.0.own calls.Resume ≡ own_meant before.own call = ap (λ (own : OwnView). own_meant own calls.Resume) tries.1.own in
      let waited : tries.0.freed ≡ before.freed = tries.1.freed ∙ waits_move_no_releases (is_resume call) (own_meant before.own call) before.freed in
      tries.2.freed ∙ rw (means, waited) (tries_free_alike true (is_resume call) (own_meant before.own call) reply before.freed)
]

pub never_holds_otherwise_in_all : {T : Type 0} (gives : T → Record → T → Type 0) (call : Call) (reply : Reply) (before after : MemberView T) → CalledWhole gives call reply before after
    → after.held ≢ holds_part (is_resume call) (own_meant before.own call) reply before.held → ⊥
never_holds_otherwise_in_all gives call reply before after whole other = other (whole_call_moves_holds gives call reply before after whole)

pub never_frees_otherwise_in_all : {T : Type 0} (gives : T → Record → T → Type 0) (call : Call) (reply : Reply) (before after : MemberView T) → CalledWhole gives call reply before after
    → after.freed ≢ releases_part (is_resume call) (own_meant before.own call) reply before.freed → ⊥
never_frees_otherwise_in_all gives call reply before after whole other = other (whole_call_moves_releases gives call reply before after whole)

-- a lock that is set in the end is held once, however often the member tried, and one that is unset is freed once
pub never_set_without_a_hold : {T : Type 0} (gives : T → Record → T → Type 0) (number : ℕ) (before after : MemberView T) → CalledWhole gives (calls.Set number) Finished before after → after.held.amount ≢ before.held.amount + 1 → ⊥
never_set_without_a_hold gives number before after whole other = other (ap (λ (part : BookPartView). part.amount) (whole_call_moves_holds gives (calls.Set number) Finished before after whole))

pub never_unset_without_a_release : {T : Type 0} (gives : T → Record → T → Type 0) (number : ℕ) (before after : MemberView T) → CalledWhole gives (calls.Unset number) Finished before after → after.freed.amount ≢ before.freed.amount + 1 → ⊥
never_unset_without_a_release gives number before after whole other = other (ap (λ (part : BookPartView). part.amount) (whole_call_moves_releases gives (calls.Unset number) Finished before after whole))

-- a barrier that is passed in the end is passed once, and arrived at once
pub never_passed_but_once : {T : Type 0} (gives : T → Record → T → Type 0) (before after : MemberView T) → CalledWhole gives calls.Barrier Passed before after → after.events.counts.passes ≢ before.events.counts.passes + 1 → ⊥
never_passed_but_once gives before after whole other = elim (whole_call_moves_events gives calls.Barrier Passed before after whole) [
  | inl moved ↦ other (ap (λ (part : PartView). part.counts.passes) moved)
  | inr moved ↦ other (ap (λ (part : PartView). part.counts.passes) moved ∙ omega arith)
]

pub never_passed_with_other_events : {T : Type 0} (gives : T → Record → T → Type 0) (before after : MemberView T) → CalledWhole gives calls.Barrier Passed before after → after.events.amount ≢ before.events.amount + 2 → ⊥
never_passed_with_other_events gives before after whole other = elim (whole_call_moves_events gives calls.Barrier Passed before after whole) [
  | inl moved ↦ other (ap (λ (part : PartView). part.amount) moved)
  | inr moved ↦ other (ap (λ (part : PartView). part.amount) moved ∙ omega arith)
]

-- the control variables and who the member is stay
pub never_other_variables_in_all : {T : Type 0} (gives : T → Record → T → Type 0) (call : Call) (reply : Reply) (before after : MemberView T) → CalledWhole gives call reply before after → after.icv ≢ before.icv → ⊥
never_other_variables_in_all gives call reply before after whole other = elim whole.tries [
  | inl called ↦ other called.icv
  | inr tries ↦ other (tries.2.icv ∙ tries.1.icv)
]

pub never_another_member_in_all : {T : Type 0} (gives : T → Record → T → Type 0) (call : Call) (reply : Reply) (before after : MemberView T) → CalledWhole gives call reply before after → after.own.number ≢ before.own.number → ⊥
never_another_member_in_all gives call reply before after whole other = elim whole.tries [
  | inl called ↦ never_another_member gives call reply before after called other
  | inr tries ↦ other (ap (λ (own : OwnView). own.number) tries.2.own ∙ ap (λ (own : OwnView). own.number) tries.1.own)
]

-- A try that no reply is noted of yet

-- it moves the parts by its reply,
pub never_moved_events_otherwise : {T : Type 0} (room repeated : Bool) (call : Call) (reply : Reply) (before after : MemberView T) → IsMoved room repeated call reply before after → after.events ≢ events_part repeated call reply before.events → ⊥
never_moved_events_otherwise room repeated call reply before after moved other = other moved.events

pub never_moved_holds_otherwise : {T : Type 0} (room repeated : Bool) (call : Call) (reply : Reply) (before after : MemberView T) → IsMoved room repeated call reply before after → after.held ≢ holds_part repeated call reply before.held → ⊥
never_moved_holds_otherwise room repeated call reply before after moved other = other moved.held

pub never_moved_releases_otherwise : {T : Type 0} (room repeated : Bool) (call : Call) (reply : Reply) (before after : MemberView T) → IsMoved room repeated call reply before after → after.freed ≢ releases_part repeated call reply before.freed → ⊥
never_moved_releases_otherwise room repeated call reply before after moved other = other moved.freed

-- and nothing that the member knows, nor its tool or its variables
pub never_noted_before_the_end : {T : Type 0} (room repeated : Bool) (call : Call) (reply : Reply) (before after : MemberView T) → IsMoved room repeated call reply before after → after.own ≢ before.own → ⊥
never_noted_before_the_end room repeated call reply before after moved other = other moved.own

pub never_told_before_the_end : {T : Type 0} (room repeated : Bool) (call : Call) (reply : Reply) (before after : MemberView T) → IsMoved room repeated call reply before after → after.tool ≢ before.tool → ⊥
never_told_before_the_end room repeated call reply before after moved other = other moved.tool

pub never_moved_to_other_variables : {T : Type 0} (room repeated : Bool) (call : Call) (reply : Reply) (before after : MemberView T) → IsMoved room repeated call reply before after → after.icv ≢ before.icv → ⊥
never_moved_to_other_variables room repeated call reply before after moved other = other moved.icv

-- by a refusal other than a mismatch it moves none
pub never_moved_by_a_refused_try : {T : Type 0} (room repeated : Bool) (call : Call) (refusal : Refusal) (before after : MemberView T) → refusal ≢ Mismatch → IsMoved room repeated call (Refused refusal) before after
    → ((after.events ≡ before.events) × (after.held ≡ before.held) × (after.freed ≡ before.freed) × (after.icv ≡ before.icv) → ⊥) → ⊥
never_moved_by_a_refused_try room repeated call refusal before after differs moved other = other (
  moved.events ∙ refusal_moves_no_events repeated call refusal before.events differs,
  moved.held ∙ refusal_moves_no_holds repeated call refusal before.held,
  moved.freed ∙ refusal_moves_no_releases repeated call refusal before.freed,
  moved.icv,
)

-- The same parts

pub never_same_with_other_events : {T : Type 0} (before after : MemberView T) → HasSameParts before after → after.events ≢ before.events → ⊥
never_same_with_other_events before after same other = other same.events

pub never_same_with_other_holds : {T : Type 0} (before after : MemberView T) → HasSameParts before after → after.held ≢ before.held → ⊥
never_same_with_other_holds before after same other = other same.held

pub never_same_with_other_releases : {T : Type 0} (before after : MemberView T) → HasSameParts before after → after.freed ≢ before.freed → ⊥
never_same_with_other_releases before after same other = other same.freed

pub never_same_with_other_variables : {T : Type 0} (before after : MemberView T) → HasSameParts before after → after.icv ≢ before.icv → ⊥
never_same_with_other_variables before after same other = other same.icv

-- Items

-- a creation brings them once, a taskwait in each try
pub never_created_without_items : (desc : TaskDesc) → AsksNoItems false (calls.TaskCreate desc) → ⊥
never_created_without_items desc asks = cc

pub never_awaited_without_items : (repeated : Bool) (items : List Dep) → AsksNoItems repeated (calls.Taskwait items) → ⊥
never_awaited_without_items repeated items asks = asks

-- a call that brings items is one of these, and each other brings none, made or repeated
pub no_other_call_brings_items : (call : Call) → ((desc : TaskDesc) → call ≢ calls.TaskCreate desc) → ((items : List Dep) → call ≢ calls.Taskwait items) → BringsItems call → ⊥
no_other_call_brings_items (calls.TaskCreate desc) creates awaits brings = creates desc refl
no_other_call_brings_items (calls.Taskwait items) creates awaits brings = awaits items refl
no_other_call_brings_items _ creates awaits brings = brings

pub never_with_and_without_items : (call : Call) → AsksNoItems false call → BringsItems call → ⊥
never_with_and_without_items (calls.TaskCreate desc) asks brings = cc
never_with_and_without_items (calls.Taskwait items) asks brings = asks
never_with_and_without_items _ asks brings = brings

pub always_with_or_without_items : (call : Call) → (AsksNoItems false call → ⊥) → (BringsItems call → ⊥) → ⊥
always_with_or_without_items (calls.TaskCreate desc) asks brings = brings tt
always_with_or_without_items (calls.Taskwait items) asks brings = brings tt
always_with_or_without_items _ asks brings = asks tt

-- a repeated creation brings none
pub repeated_creation_brings_none : (desc : TaskDesc) → (AsksNoItems true (calls.TaskCreate desc) → ⊥) → ⊥
repeated_creation_brings_none desc asks = asks refl

-- an operation that waits by items waits by its own, and by no others
pub never_awaits_other_items : (these : List Dep) (op : Op) → AwaitsThese these op → op ≢ ops.Taskwait these → op ≢ ops.AwaitChildren these → ⊥
never_awaits_other_items these (ops.Taskwait items) awaits first further = first (ap (λ list. ops.Taskwait list) (sym awaits))
never_awaits_other_items these (ops.AwaitChildren items) awaits first further = further (ap (λ list. ops.AwaitChildren list) (sym awaits))
never_awaits_other_items these _ awaits first further = awaits

pub never_awaits_by_none : (op : Op) → AwaitsItems op → ((these : List Dep) → AwaitsThese these op → ⊥) → ⊥
never_awaits_by_none (ops.Taskwait items) awaits none = none items refl
never_awaits_by_none (ops.AwaitChildren items) awaits none = none items refl
never_awaits_by_none _ awaits none = awaits

pub no_items_awaited_by_another_op : (these : List Dep) (op : Op) → AwaitsThese these op → (AwaitsItems op → ⊥) → ⊥
no_items_awaited_by_another_op these (ops.Taskwait items) awaits none = none tt
no_items_awaited_by_another_op these (ops.AwaitChildren items) awaits none = none tt
no_items_awaited_by_another_op these _ awaits none = awaits

-- Names and locks

-- no call holds and frees
pub never_holds_and_frees : (call : Call) → HoldsKey call → FreesKey call → ⊥
never_holds_and_frees call holds frees = absurd (let one = holds.1 in let other = frees.1 in cc)

-- each call on names and locks but the making and the destroying of a lock does one of them,
pub always_holds_or_frees : (call : Call) → served_by call ≡ Book → call ≢ calls.LockInit → call ≢ calls.NestInit → ((number : ℕ) → call ≢ calls.LockDestroy number) → (HoldsKey call → ⊥) → (FreesKey call → ⊥) → ⊥
always_holds_or_frees (calls.CriticalStart name) served simple nest destroys holds frees = holds ((λ none. cc), refl)
always_holds_or_frees (calls.Set number) served simple nest destroys holds frees = holds ((λ none. cc), refl)
always_holds_or_frees (calls.Test number) served simple nest destroys holds frees = holds ((λ none. cc), refl)
always_holds_or_frees (calls.SetNest number) served simple nest destroys holds frees = holds ((λ none. cc), refl)
always_holds_or_frees (calls.TestNest number) served simple nest destroys holds frees = holds ((λ none. cc), refl)
always_holds_or_frees (calls.CriticalEnd name) served simple nest destroys holds frees = frees ((λ none. cc), refl)
always_holds_or_frees (calls.Unset number) served simple nest destroys holds frees = frees ((λ none. cc), refl)
always_holds_or_frees (calls.UnsetNest number) served simple nest destroys holds frees = frees ((λ none. cc), refl)
always_holds_or_frees calls.LockInit served simple nest destroys holds frees = simple refl
always_holds_or_frees calls.NestInit served simple nest destroys holds frees = nest refl
always_holds_or_frees (calls.LockDestroy number) served simple nest destroys holds frees = destroys number refl
always_holds_or_frees (calls.Cancel kind clause) served simple nest destroys holds frees = no_kind_of_book kind served
always_holds_or_frees (calls.Point kind) served simple nest destroys holds frees = no_kind_of_book kind served
always_holds_or_frees _ served simple nest destroys holds frees = absurd (cc)

-- and these neither
pub never_holds_by_making : HoldsKey calls.LockInit ⊎ HoldsKey calls.NestInit ⊎ FreesKey calls.LockInit ⊎ FreesKey calls.NestInit → ⊥
never_holds_by_making (inl holds) = holds.0 refl
never_holds_by_making (inr (inl holds)) = holds.0 refl
never_holds_by_making (inr (inr (inl frees))) = frees.0 refl
never_holds_by_making (inr (inr (inr frees))) = frees.0 refl

pub never_frees_by_destroying : (number : ℕ) → HoldsKey (calls.LockDestroy number) ⊎ FreesKey (calls.LockDestroy number) → ⊥
never_frees_by_destroying number (inl holds) = holds.0 refl
never_frees_by_destroying number (inr frees) = frees.0 refl

-- a call that holds frees nothing by any reply, and one that frees holds nothing
what_holds_frees_nothing : (call : Call) (reply : Reply) (part : BookPartView) → HoldsKey call → releases_part false call reply part ≡ part
what_holds_frees_nothing (calls.CriticalStart name) reply part holds = part_with_none_more 0 part refl
what_holds_frees_nothing (calls.Set number) reply part holds = part_with_none_more 0 part refl
what_holds_frees_nothing (calls.Test number) reply part holds = part_with_none_more 0 part refl
what_holds_frees_nothing (calls.SetNest number) reply part holds = part_with_none_more 0 part refl
what_holds_frees_nothing (calls.TestNest number) reply part holds = part_with_none_more 0 part refl
what_holds_frees_nothing (calls.CriticalEnd name) reply part holds = absurd (let holding = holds.1 in cc)
what_holds_frees_nothing (calls.Unset number) reply part holds = absurd (let holding = holds.1 in cc)
what_holds_frees_nothing (calls.UnsetNest number) reply part holds = absurd (let holding = holds.1 in cc)
what_holds_frees_nothing _ reply part holds = absurd (holds.0 refl)

what_frees_holds_nothing : (call : Call) (reply : Reply) (part : BookPartView) → FreesKey call → holds_part false call reply part ≡ part
what_frees_holds_nothing (calls.CriticalEnd name) reply part frees = part_with_none_more 0 part refl
what_frees_holds_nothing (calls.Unset number) reply part frees = part_with_none_more 0 part refl
what_frees_holds_nothing (calls.UnsetNest number) reply part frees = part_with_none_more 0 part refl
what_frees_holds_nothing (calls.CriticalStart name) reply part frees = absurd (let freeing = frees.1 in cc)
what_frees_holds_nothing (calls.Set number) reply part frees = absurd (let freeing = frees.1 in cc)
what_frees_holds_nothing (calls.Test number) reply part frees = absurd (let freeing = frees.1 in cc)
what_frees_holds_nothing (calls.SetNest number) reply part frees = absurd (let freeing = frees.1 in cc)
what_frees_holds_nothing (calls.TestNest number) reply part frees = absurd (let freeing = frees.1 in cc)
what_frees_holds_nothing _ reply part frees = absurd (frees.0 refl)

pub never_frees_by_what_holds : (repeated : Bool) (call : Call) (reply : Reply) (part : BookPartView) → HoldsKey call → releases_part repeated call reply part ≢ part → ⊥
never_frees_by_what_holds repeated call reply part holds other = other (tries_free_alike repeated false call reply part ∙ what_holds_frees_nothing call reply part holds)

pub never_holds_by_what_frees : (repeated : Bool) (call : Call) (reply : Reply) (part : BookPartView) → FreesKey call → holds_part repeated call reply part ≢ part → ⊥
never_holds_by_what_frees repeated call reply part frees other = other (tries_hold_alike repeated false call reply part ∙ what_frees_holds_nothing call reply part frees)
