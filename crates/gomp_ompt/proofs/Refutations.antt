-- What tools keep and count, whatever they hold already and how many records, traces and counts they take: a lemma for each line of the definitions.
use Rattle.std.proofs.Common.{◌≡◌, ◌≢◌, ℕ, ◌+◌, ◌-◌, ◌^◌, ◌<◌, ◌≤◌, Bool, true, false, List, [], ◌∷◌, ◌++◌, length, refl, arith}
use Rattle.std.specs.Prelude.{◌⊎◌, sum_by}
use Rattle.gomp_types.specs.declared.call.Call.{Call}
use Rattle.gomp_types.specs.declared.call.Call.TheVariants.{LoopEnd, LoopEndCancel, SectionsEnd, SectionsEndCancel, Cancel, Point as PointCall}
use Rattle.gomp_types.specs.declared.cancel.CancelKind.{CancelKind}
use Rattle.gomp_types.specs.declared.reply.Reply.{Reply}
use Rattle.gomp_types.specs.declared.reply.Reply.TheVariants.{Cancelling, Wait}
use Rattle.gomp_ompt.specs.declared.record.Point.{Point}
use Rattle.gomp_ompt.specs.declared.record.Point.TheVariants as points
use Rattle.gomp_ompt.specs.declared.record.Record.{Record}
use Rattle.gomp_ompt.specs.declared.record.TheConstants.{POINTS}
use Rattle.gomp_ompt.specs.Counts.{capped, count_of, with_record, AddsCounts}
use Rattle.gomp_ompt.specs.Records.{single_record}
use Rattle.gomp_ompt.specs.Table.{cancel_number, is_silent, entries_of, records_of}
use Rattle.gomp_ompt.specs.Tools.{AfterEach}
use Rattle.gomp_ompt.specs.Traces.{TraceView, with_lost, KeepsRecords, LosesRecords, TakesRecord, TakesRecords, TakesTraces}
use Rattle.gomp_ompt.proofs.Laws.{waiting_adds_no_record, record_counts_once, other_counts_stay, no_record_vanishes}

-- Counts

-- of each event all others' counts are added, however many others there are
pub counts_of_all_are_added : (old new : List ℕ) (children : List (List ℕ)) (point : Point) → AddsCounts old children new → count_of new point ≡ capped (count_of old point + sum_by (λ child. count_of child point) children)
counts_of_all_are_added old new children point adds = adds point

-- no record of an event is counted twice, or not at all
pub never_counted_but_once : (counts : List ℕ) (event : Record) → length counts ≡ POINTS → (count_of (with_record counts event) event.point ≡ capped (count_of counts event.point + 1) → ⊥) → ⊥
never_counted_but_once counts event whole wrong = wrong (record_counts_once counts event whole)

-- nor as one of another event
pub never_counted_as_another : (counts : List ℕ) (event : Record) (point : Point) → point ≢ event.point → (count_of (with_record counts event) point ≡ count_of counts point → ⊥) → ⊥
never_counted_as_another counts event point apart wrong = wrong (other_counts_stay counts event point apart)

-- The table

-- no call that waits gives in all other records than if it were answered at once
pub never_another_record_by_waiting : (call : Call) (reply : Reply) → is_silent reply ≡ false → records_of call false Wait ≡ [] → (records_of call true Wait ++ records_of call false reply ≡ records_of call true reply → ⊥) → ⊥
never_another_record_by_waiting call reply speaks waits wrong = wrong (waiting_adds_no_record call reply speaks waits)

-- a cancellation point gives what a cancel construct gives, whatever it names
pub point_gives_what_a_cancel_does : (kind : CancelKind) (clause first : Bool) (reply : Reply) → entries_of (PointCall kind) first reply ≡ entries_of (Cancel kind clause) first reply
point_gives_what_a_cancel_does kind clause first reply = refl

pub cancelled_construct_is_recorded : (kind : CancelKind) (clause first : Bool) → records_of (Cancel kind clause) first (Cancelling true) ≡ single_record points.Cancel (cancel_number kind) 0 ∷ []
cancelled_construct_is_recorded kind clause first = refl

pub uncancelled_construct_is_unrecorded : (kind : CancelKind) (clause first : Bool) → records_of (Cancel kind clause) first (Cancelling false) ≡ []
uncancelled_construct_is_unrecorded kind clause first = refl

-- all ends with a barrier give the same, whatever they are answered
pub ends_with_a_barrier_give_the_same : (first : Bool) (reply : Reply) →
    (entries_of LoopEndCancel first reply ≡ entries_of LoopEnd first reply) × (entries_of SectionsEnd first reply ≡ entries_of LoopEnd first reply) × (entries_of SectionsEndCancel first reply ≡ entries_of LoopEnd first reply)
ends_with_a_barrier_give_the_same first reply = (refl, refl, refl)

-- Tools

-- a tool is given each record in its turn, and changes without none
pub tool_is_given_each_record : {T : Type 0} (gives : T → Record → T → Type 0) (old new : T) (event : Record) (events : List Record) → AfterEach gives old (event ∷ events) new → (between : T) × gives old event between × AfterEach gives between events new
tool_is_given_each_record gives old new event events after = after

pub tool_without_a_record_stays : {T : Type 0} (gives : T → Record → T → Type 0) (old new : T) → AfterEach gives old [] new → old ≡ new
tool_without_a_record_stays gives old new after = after

-- Traces

-- what is kept stands behind all that was kept before, and what was lost stays so
pub kept_records_stand_behind : (old new : TraceView) (records : List Record) → KeepsRecords old records new → (new.records ≡ old.records ++ records) × (new.lost ≡ old.lost)
kept_records_stand_behind old new records keeps = (keeps.kept, keeps.lost)

-- what is lost is counted whole, and nothing else is lost
pub lost_records_are_all_counted : (old new : TraceView) (records : List Record) → LosesRecords old records new → (new.records ≡ old.records) × (new.lost ≡ capped (old.lost + length records))
lost_records_are_all_counted old new records loses = (loses.kept, loses.lost)

-- records for which there is room are not lost, whatever is kept already
pub no_record_is_lost_with_room : (old new : TraceView) (records : List Record) → length records ≤ old.room → LosesRecords old records new → ⊥
no_record_is_lost_with_room old new records room loses = absurd (let full = loses.full in omega (arith, room, full))

-- records are kept or lost, all of them
pub records_are_kept_or_lost : (old new : TraceView) (records : List Record) → TakesRecords old records new → KeepsRecords old records new ⊎ LosesRecords old records new
records_are_kept_or_lost old new records takes = takes

pub one_record_is_kept_or_lost : (old new : TraceView) (event : Record) → TakesRecord old event new → KeepsRecords old (event ∷ []) new ⊎ LosesRecords old (event ∷ []) new
one_record_is_kept_or_lost old new event takes = takes

-- no record is neither kept nor counted as lost, and none is both
pub never_a_record_that_vanishes : (old new : TraceView) (event : Record) → old.lost < 2 ^ 64 - 1 → TakesRecord old event new → (length new.records + new.lost ≡ length old.records + old.lost + 1 → ⊥) → ⊥
never_a_record_that_vanishes old new event few takes wrong = wrong (no_record_vanishes old new event few takes)

-- of each trace the records are taken, with what it had lost, in its turn
pub each_trace_is_taken : (old new child : TraceView) (children : List TraceView) → TakesTraces old (child ∷ children) new → (between : TraceView) × TakesRecords (with_lost old child.lost) child.records between × TakesTraces between children new
each_trace_is_taken old new child children takes = takes

pub trace_without_others_stays : (old new : TraceView) → TakesTraces old [] new → old ≡ new
trace_without_others_stays old new takes = takes

-- the lost records of another are added to its own, and what it keeps stays
pub lost_records_of_others_are_added : (trace : TraceView) (count : ℕ) → (with_lost trace count).lost ≡ capped (trace.lost + count)
lost_records_of_others_are_added trace count = refl

pub lost_records_of_others_leave_the_rest : (trace : TraceView) (count : ℕ) → ((with_lost trace count).records ≡ trace.records) × ((with_lost trace count).room ≡ trace.room)
lost_records_of_others_leave_the_rest trace count = (refl, refl)
