-- Operations whose words are not refused keep the rule of words.
use Rattle.std.proofs.Common.{◌≡◌, ℕ, zero, suc, Bool, true, false, List, [], ◌∷◌, ◌++◌, Option, Some, None, refl, ap, ◌∙◌, inl, inr}
use Rattle.std.specs.Prelude.{◌==◌, ◌&&◌, ◌%◌, if◌then◌else◌, not, bytes_eq}
use Rattle.std.proofs.lemmas.Bool.{cases_Bool}
use Rattle.std.proofs.lemmas.Slice.Eq.{bytes_eq-Decides}
use Rattle.gomp_types.specs.declared.cancel.CancelKind.{CancelKind}
use Rattle.gomp_types.specs.declared.cancel.Scope.{Scope}
use Rattle.gomp_types.specs.declared.cancel.Scope.TheVariants.{Region, OneShare, OneGroup}
use Rattle.gomp_types.specs.declared.limits.TheConstants.{OPEN_SHARES}
use Rattle.gomp_types.specs.declared.refusal.Place.{Place}
use Rattle.gomp_types.specs.declared.refusal.Refusal.{Refusal}
use Rattle.gomp_types.specs.declared.refusal.Refusal.TheVariants.{Mismatch, NotInside}
use Rattle.gomp_types.specs.declared.reply.Reply.{Reply}
use Rattle.gomp_types.specs.declared.reply.Reply.TheVariants.{Passed, Finished, Stopped, Cancelling, Run, TaskDone, Refused}
use Rattle.gomp_types.specs.Least.{least}
use Rattle.gomp_types.specs.declared.depend.Dep.{Dep}
use Rattle.gomp_events.specs.declared.event.Event.{Event}
use Rattle.gomp_events.specs.declared.event.Event.TheVariants.{Put as PutEvent, Got as GotEvent, Cancel as CancelEvent}
use Rattle.gomp_events.specs.Laws.{Always}
use Rattle.gomp_events.specs.Tasks.{executed_task, tasks_created}
use Rattle.gomp_events.specs.Breaks.{refusal_gives}
use Rattle.gomp_events.specs.Groups.{open_groups}
use Rattle.gomp_events.specs.Goals.{is_unstarted}
use Rattle.gomp_events.specs.Cancels.{is_covered, scope_of}
use Rattle.gomp_events.specs.CancelCalls.{unless_cancelled, discards_to, cancels}
use Rattle.gomp_events.specs.TaskCalls.{starts_task, ends_task, waited, opens_group, ends_group, ends_first}
use Rattle.gomp_board.specs.declared.op.Op.{Op}
use Rattle.gomp_board.specs.declared.op.Op.TheVariants.{Create, AwaitOwn, EndTask, Taskwait, AwaitChildren, OpenGroup, EndGroup, AwaitGroup, Arrive, AwaitBarrier, Reserve, Put, Got, Cancel, Point, Break}
use Rattle.gomp_board.specs.Ops.{op_gives, op_after, op_place, begun, passes_barrier, cancelled_by, named_kind, breaks}
use Rattle.gomp_board.specs.Payloads.{newest_put, share_of, words_of}
use Rattle.gomp_board.specs.KeptPayload.{kept_payload}
use Rattle.gomp_board.specs.Stored.{is_stored, stored}
use Rattle.gomp_waits.specs.Words.{is_from, come_late, are_these, payload_refusal, WordsRule}

-- Events that are no words

abbrev IsNoWord : Event → Type 0
IsNoWord (PutEvent share m words) = ⊥
IsNoWord (GotEvent share m words) = ⊥
IsNoWord event = Unit {0}

abbrev AreNoWords : List Event → Type 0
AreNoWords [] = Unit {0}
AreNoWords (event ∷ events) = IsNoWord event × AreNoWords events

rule_of_no_word : (event : Event) (h : List Event) → IsNoWord event → WordsRule event h
rule_of_no_word (PutEvent share m words) h is = absurd is
rule_of_no_word (GotEvent share m words) h is = absurd is
rule_of_no_word _ h is = tt

no_words_keep_rule : (events h : List Event) → AreNoWords events → Always WordsRule h → Always WordsRule (events ++ h)
no_words_keep_rule [] h are all = all
no_words_keep_rule (event ∷ events) h are all = (rule_of_no_word event (events ++ h) are.0, no_words_keep_rule events h are.1 all)

both_are_no_words : (one other : List Event) → AreNoWords one → AreNoWords other → AreNoWords (one ++ other)
both_are_no_words [] other first second = second
both_are_no_words (event ∷ one) other first second = (first.0, both_are_no_words one other first.1 second)

-- What an operation gives by its reply

start_is_no_word : (m : ℕ) (reply : Reply) → AreNoWords (starts_task m reply)
start_is_no_word m (Run task code arg own) = (tt, tt)
start_is_no_word m _ = tt

end_is_no_word : (m : ℕ) (reply : Reply) → AreNoWords (ends_task m reply)
end_is_no_word m (TaskDone task waiting) = (tt, tt)
end_is_no_word m _ = tt

taskwait_is_no_word : (m : ℕ) (items : List Dep) (reply : Reply) → AreNoWords (waited m items reply)
taskwait_is_no_word m items Passed = (tt, tt)
taskwait_is_no_word m items (Run task code arg own) = (tt, tt)
taskwait_is_no_word m items _ = tt

group_is_no_word : (m : ℕ) (h : List Event) (reply : Reply) → AreNoWords (opens_group m h reply)
group_is_no_word m h Finished = (tt, tt)
group_is_no_word m h _ = tt

first_end_is_no_word : (groups : List ℕ) (m : ℕ) → AreNoWords (ends_first groups m)
first_end_is_no_word [] m = tt
first_end_is_no_word (q ∷ outer) m = (tt, tt)

group_end_is_no_word : (m : ℕ) (h : List Event) (reply : Reply) → AreNoWords (ends_group m h reply)
group_end_is_no_word m h Passed = first_end_is_no_word (open_groups (executed_task m h) h) m
group_end_is_no_word m h (Run task code arg own) = (tt, tt)
group_end_is_no_word m h _ = tt

pass_is_no_word : (m : ℕ) (h : List Event) (reply : Reply) → AreNoWords (passes_barrier m h reply)
pass_is_no_word m h Passed = (tt, tt)
pass_is_no_word m h (Run task code arg own) = (tt, tt)
pass_is_no_word m h _ = tt

break_is_no_word : (m : ℕ) (place : Place) (reply : Reply) → AreNoWords (breaks m place reply)
break_is_no_word m place Stopped = (tt, tt)
break_is_no_word m place _ = tt

discards_are_no_words : (n m : ℕ) (h : List Event) → AreNoWords (discards_to n m h)
discards_are_no_words zero m h = tt
discards_are_no_words (suc k) m h = elim (cases_Bool (is_unstarted (suc k) h && is_covered (suc k) h)) [
  | inl discarded ↦ rw discarded (tt, discards_are_no_words k m h)
  | inr stays ↦ rw stays (discards_are_no_words k m h)
]

cancellation_is_no_word : (m : ℕ) (scope : Option Scope) (h : List Event) → AreNoWords (cancels m scope h)
cancellation_is_no_word m None h = tt
cancellation_is_no_word m (Some scope) h = both_are_no_words _ (CancelEvent m scope ∷ []) (discards_are_no_words (tasks_created h) m (CancelEvent m scope ∷ h)) (tt, tt)

cancelling_is_no_word : (clause : Bool) (kind : CancelKind) (m : ℕ) (h : List Event) (reply : Reply) → AreNoWords (cancelled_by clause kind m h reply)
cancelling_is_no_word true kind m h (Cancelling true) = cancellation_is_no_word m (scope_of kind m h) h
cancelling_is_no_word false kind m h (Cancelling true) = tt
cancelling_is_no_word clause kind m h (Cancelling false) = tt
cancelling_is_no_word clause kind m h _ = tt

reply_gives_no_words : (m : ℕ) (op : Op) (h : List Event) (reply : Reply) → AreNoWords (op_gives m op h reply)
reply_gives_no_words m (Create desc) h reply = start_is_no_word m reply
reply_gives_no_words m AwaitOwn h reply = start_is_no_word m reply
reply_gives_no_words m (EndTask leaving) h reply = end_is_no_word m reply
reply_gives_no_words m (Taskwait items) h reply = taskwait_is_no_word m items reply
reply_gives_no_words m (AwaitChildren items) h reply = taskwait_is_no_word m items reply
reply_gives_no_words m OpenGroup h reply = group_is_no_word m h reply
reply_gives_no_words m EndGroup h reply = group_end_is_no_word m h reply
reply_gives_no_words m AwaitGroup h reply = group_end_is_no_word m h reply
reply_gives_no_words m (Arrive tag leaving) h reply = pass_is_no_word m h reply
reply_gives_no_words m AwaitBarrier h reply = pass_is_no_word m h reply
reply_gives_no_words m (Reserve more) h reply = tt
reply_gives_no_words m (Put share words) h reply = tt
reply_gives_no_words m (Got share words) h reply = tt
reply_gives_no_words m (Cancel named clause allowed) h reply = cancelling_is_no_word clause (named_kind named) m h reply
reply_gives_no_words m (Point named allowed) h reply = tt
reply_gives_no_words m (Break place back) h reply = break_is_no_word m place reply

-- What it gives before

one_unless_cancelled : (cancelled : Bool) (event : Event) → IsNoWord event → AreNoWords (unless_cancelled cancelled (event ∷ []))
one_unless_cancelled true event is = tt
one_unless_cancelled false event is = (is, tt)

pub in_time : (late : Bool) → least ((late, NotInside) ∷ []) ≡ None → late ≡ false
in_time false fine = refl
in_time true fine = absurd (cc)

pub kept_as_noted : (words : List ℕ) (kept : Option (List ℕ)) → not (are_these words kept) ≡ false → kept ≡ Some words
kept_as_noted words None same = absurd (cc)
kept_as_noted words (Some kept) same = ap (λ (found : List ℕ). Some found) ((bytes_eq-Decides kept words).0 (told (bytes_eq kept words) same))
  where
    told : (one : Bool) → not one ≡ false → one ≡ true
    told true e = refl
    told false e = absurd (cc)

begun_keeps_rule : (m : ℕ) (op : Op) (h : List Event) → payload_refusal op h ≡ None → Always WordsRule h → Always WordsRule (begun m op h)
begun_keeps_rule m (Create desc) h fine all = no_words_keep_rule _ h (one_unless_cancelled _ _ tt) all
begun_keeps_rule m (Arrive tag leaving) h fine all = no_words_keep_rule _ h (one_unless_cancelled _ _ tt) all
begun_keeps_rule m (Put share words) h fine all = (in_time (come_late share h) fine, all)
begun_keeps_rule m (Got share words) h fine all = (kept_as_noted words (kept_payload share h) (in_time _ fine), all)
begun_keeps_rule m _ h fine all = all

-- All together

refusal_is_no_word : (refusal : Refusal) (m : ℕ) (place : Place) → AreNoWords (refusal_gives refusal m place)
refusal_is_no_word Mismatch m place = (tt, tt)
refusal_is_no_word _ m place = tt

answered_keeps_rule : (m : ℕ) (op : Op) (h : List Event) (reply : Reply) → payload_refusal op h ≡ None → Always WordsRule h → Always WordsRule (op_gives m op (begun m op h) reply ++ begun m op h)
answered_keeps_rule m op h reply fine all = no_words_keep_rule _ (begun m op h) (reply_gives_no_words m op (begun m op h) reply) (begun_keeps_rule m op h fine all)

-- an operation whose words are not refused keeps the rule, whatever it is answered
pub operation_keeps_words_rule : (m : ℕ) (op : Op) (h : List Event) (reply : Reply) → payload_refusal op h ≡ None → Always WordsRule h → Always WordsRule (op_after m op reply h)
operation_keeps_words_rule m op h (Refused refusal) fine all = no_words_keep_rule _ h (refusal_is_no_word refusal m (op_place m op h)) all
operation_keeps_words_rule m op h _ fine all = answered_keeps_rule m op h _ fine all

-- The stored events

newest_is_stored : (rest : ℕ) (h : List Event) → newest_put rest (stored h) ≡ newest_put rest h
newest_is_stored rest [] = refl
newest_is_stored rest (PutEvent share m words ∷ earlier) = elim (cases_Bool (share % OPEN_SHARES == rest)) [
  | inl near ↦ rw near refl
  | inr far ↦ rw far (newest_is_stored rest earlier)
]
newest_is_stored rest (CancelEvent m (OneShare share) ∷ earlier) = newest_is_stored rest earlier
newest_is_stored rest (CancelEvent m Region ∷ earlier) = newest_is_stored rest earlier
newest_is_stored rest (CancelEvent m (OneGroup group) ∷ earlier) = newest_is_stored rest earlier
newest_is_stored rest (_ ∷ earlier) = newest_is_stored rest earlier

rule_of_stored : (event : Event) (earlier : List Event) → WordsRule event earlier → WordsRule event (stored earlier)
rule_of_stored (PutEvent share m words) earlier rule = ap (λ newest. is_from share (share_of newest)) (newest_is_stored (share % OPEN_SHARES) earlier) ∙ rule
rule_of_stored (GotEvent share m words) earlier rule = ap (words_of share) (newest_is_stored (share % OPEN_SHARES) earlier) ∙ rule
rule_of_stored _ earlier rule = tt

kept_if_stored : (is : Bool) (event : Event) (events : List Event) → WordsRule event events → Always WordsRule events → Always WordsRule (if is then event ∷ events else events)
kept_if_stored true event events rule all = (rule, all)
kept_if_stored false event events rule all = all

-- those keep the rule too
pub stored_keep_words_rule : (h : List Event) → Always WordsRule h → Always WordsRule (stored h)
stored_keep_words_rule [] all = tt
stored_keep_words_rule (event ∷ earlier) all = kept_if_stored (is_stored event) event (stored earlier) (rule_of_stored event earlier all.0) (stored_keep_words_rule earlier all.1)
