-- What a member leaves once a call is answered, its own or another member's: the region, and the task that it executes.
use Rattle.std.proofs.Common.{◌≡◌, ℕ, Bool, true, false, List, refl, ◌∙◌}
use Rattle.std.specs.Prelude.{◌≢◌, ◌==◌, ◌&&◌, ◌||◌, if◌then◌else◌}
use Rattle.gomp_types.specs.declared.cancel.CancelKind.TheVariants.{Parallel, Taskgroup}
use Rattle.gomp_events.specs.declared.event.Event.{Event}
use Rattle.gomp_events.specs.declared.event.Event.TheVariants.{Pass, Hold, Free, Start, Done, See, Break}
use Rattle.gomp_types.specs.declared.reply.Reply.{Reply}
use Rattle.gomp_types.specs.declared.reply.Reply.TheVariants.{Run, TaskDone, Cancelled}
use Rattle.gomp_events.specs.Cancels.{same_cancel, leaves_region, leaves_task}
use Rattle.gomp_types.proofs.Booleans.{same_number, other_number, not_both}
use Rattle.gomp_model.specs.Past.{Past}
use Rattle.gomp_model.specs.Row.{Row, begun_past, events_after}
use Rattle.gomp_laws.proofs.Sound.{is_run, is_end, tells_of_cancellation, Gives, gives_of, IsSound}
use Rattle.gomp_laws.proofs.CallsKeep.{OwnKeeps, LastKeeps, since_keeps, step_keeps}

-- the member leaves after these events what it left after those
pub record LeavesTheSame (k : ℕ) (before now : List Event) : Type 0 where
  pub region : leaves_region k now ≡ leaves_region k before
  pub task : leaves_task k now ≡ leaves_task k before

same_at_once : (k : ℕ) (h : List Event) → LeavesTheSame k h h
same_at_once k h = record { region = refl; task = refl }

-- what is seen is something else
other_kind_is_not_seen : (own of_it rest : Bool) → of_it ≡ false → ((own && of_it) || rest) ≡ rest
other_kind_is_not_seen true of_it rest e = rw e refl
other_kind_is_not_seen false of_it rest e = refl

-- another member sees it
seen_by_another : (own of_it rest : Bool) → own ≡ false → ((own && of_it) || rest) ≡ rest
seen_by_another own of_it rest e = rw e refl

kept_of_another : (own rest : Bool) → own ≡ false → (if own then false else rest) ≡ rest
kept_of_another own rest e = rw e refl

-- what a call gives beside the newest event of its reply changes nothing
own_leaves : (can : Gives) (m k : ℕ) (before : List Event) → OwnKeeps can m (LeavesTheSame k before)
own_leaves can m k before (See n kind) now own same = record {
  region = other_kind_is_not_seen (n == k) (same_cancel kind Parallel) (leaves_region k now) own.1 ∙ same.region;
  task = other_kind_is_not_seen (n == k) (same_cancel kind Taskgroup) (leaves_task k now) own.2 ∙ same.task;
}
own_leaves can m k before (Pass barrier n) now own same = absurd own
own_leaves can m k before (Hold key n task) now own same = absurd own
own_leaves can m k before (Free key n task) now own same = absurd own
own_leaves can m k before (Start task n) now own same = absurd own
own_leaves can m k before (Done task n) now own same = absurd own
own_leaves can m k before (Break n place) now own same = absurd own
own_leaves can m k before _ now own same = record { region = same.region; task = same.task }

-- no event of a call changes anything of another member
last_leaves_others : (can : Gives) (m k : ℕ) (reply : Reply) (before : List Event) → m ≢ k → LastKeeps can m reply (LeavesTheSame k before)
last_leaves_others can m k reply before other (See n kind) now last same =
    let apart : (n == k) ≡ false = rw last.0 (other_number m k other) in record {
      region = seen_by_another (n == k) (same_cancel kind Parallel) (leaves_region k now) apart ∙ same.region;
      task = seen_by_another (n == k) (same_cancel kind Taskgroup) (leaves_task k now) apart ∙ same.task;
    }
last_leaves_others can m k reply before other (Start task n) now last same =
    let apart : (n == k) ≡ false = rw last.0 (other_number m k other) in
    record { region = same.region; task = kept_of_another (n == k) (leaves_task k now) apart ∙ same.task }
last_leaves_others can m k reply before other (Done task n) now last same =
    let apart : (n == k) ≡ false = rw last.0 (other_number m k other) in
    record { region = same.region; task = kept_of_another (n == k) (leaves_task k now) apart ∙ same.task }
last_leaves_others can m k reply before other _ now last same = record { region = same.region; task = same.task }

pub others_leave_the_same : (row : Row) → IsSound row → (repeated : Bool) (m k : ℕ) (p : Past) (reply : Reply) → m ≢ k → LeavesTheSame k p.events (events_after repeated row m p reply)
others_leave_the_same row sound repeated m k p reply other =
    step_keeps row sound repeated m p reply (LeavesTheSame k p.events) (last_leaves_others (gives_of row) m k reply p.events other) (same_at_once k p.events)

-- a reply that neither starts nor ends a task, nor tells of a cancellation, changes nothing
unnamed_by_a_silent_reply : (of_it tells : Bool) → (of_it ≡ true → tells ≡ true) → tells ≡ false → of_it ≡ false
unnamed_by_a_silent_reply true tells is none = absurd (not_both tells (is refl) none)
unnamed_by_a_silent_reply false tells is none = refl

last_leaves_quietly : (can : Gives) (m k : ℕ) (reply : Reply) (before : List Event) → is_run reply ≡ false → is_end reply ≡ false → tells_of_cancellation reply ≡ false → LastKeeps can m reply (LeavesTheSame k before)
last_leaves_quietly can m k reply before run end tells (See n kind) now last same = record {
  region = other_kind_is_not_seen (n == k) (same_cancel kind Parallel) (leaves_region k now) (unnamed_by_a_silent_reply (same_cancel kind Parallel) (tells_of_cancellation reply) last.1 tells) ∙ same.region;
  task = other_kind_is_not_seen (n == k) (same_cancel kind Taskgroup) (leaves_task k now) (unnamed_by_a_silent_reply (same_cancel kind Taskgroup) (tells_of_cancellation reply) last.2 tells) ∙ same.task;
}
last_leaves_quietly can m k reply before run end tells (Start task n) now last same = absurd (not_both (is_run reply) last.1 run)
last_leaves_quietly can m k reply before run end tells (Done task n) now last same = absurd (not_both (is_end reply) last.1 end)
last_leaves_quietly can m k reply before run end tells _ now last same = record { region = same.region; task = same.task }

pub quiet_reply_leaves_the_same : (row : Row) → IsSound row → (repeated : Bool) (m k : ℕ) (p : Past) (reply : Reply) → is_run reply ≡ false → is_end reply ≡ false → tells_of_cancellation reply ≡ false → LeavesTheSame k p.events (events_after repeated row m p reply)
quiet_reply_leaves_the_same row sound repeated m k p reply run end tells =
    step_keeps row sound repeated m p reply (LeavesTheSame k p.events) (last_leaves_quietly (gives_of row) m k reply p.events run end tells) (same_at_once k p.events)

-- the member that starts a task, or ends one, does not leave the one that it then executes
begun_leaves_the_same : (row : Row) → IsSound row → (repeated : Bool) (m k : ℕ) (p : Past) → LeavesTheSame k p.events (begun_past repeated row m p).events
begun_leaves_the_same row sound repeated m k p = since_keeps row sound repeated m p (LeavesTheSame k p.events) (own_leaves (gives_of row) m k p.events) (same_at_once k p.events)

pub starter_leaves_no_task : (row : Row) → IsSound row → (repeated : Bool) (m : ℕ) (p : Past) (task code arg : ℕ) (own : Bool) → row.may_reply m (begun_past repeated row m p) (Run task code arg own) →
    (leaves_region m (events_after repeated row m p (Run task code arg own)) ≡ leaves_region m p.events) × (leaves_task m (events_after repeated row m p (Run task code arg own)) ≡ false)
starter_leaves_no_task row sound repeated m p task code arg own may =
    let begun = begun_past repeated row m p in
    rw ((sound.runs m begun task code arg own may).5, same_number m) ((begun_leaves_the_same row sound repeated m m p).region, refl)

pub ender_leaves_no_task : (row : Row) → IsSound row → (repeated : Bool) (m : ℕ) (p : Past) (task : ℕ) (waiting : Bool) → row.may_reply m (begun_past repeated row m p) (TaskDone task waiting) →
    (leaves_region m (events_after repeated row m p (TaskDone task waiting)) ≡ leaves_region m p.events) × (leaves_task m (events_after repeated row m p (TaskDone task waiting)) ≡ false)
ender_leaves_no_task row sound repeated m p task waiting may =
    let begun = begun_past repeated row m p in
    rw ((sound.ends m begun task waiting may).3, same_number m) ((begun_leaves_the_same row sound repeated m m p).region, refl)

-- who is answered that the region is cancelled leaves it
pub member_answered_cancelled_leaves_the_region : (row : Row) → IsSound row → (repeated : Bool) (m : ℕ) (p : Past) → row.may_reply m (begun_past repeated row m p) Cancelled →
    (leaves_region m (events_after repeated row m p Cancelled) ≡ true) × (leaves_task m (events_after repeated row m p Cancelled) ≡ leaves_task m p.events)
member_answered_cancelled_leaves_the_region row sound repeated m p may =
    let begun = begun_past repeated row m p in
    rw ((sound.cancelled m begun may).1, same_number m) (refl, (begun_leaves_the_same row sound repeated m m p).task)
