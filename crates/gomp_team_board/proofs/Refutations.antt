-- What the counts, the parts and the board under its lock never say, of any members, operations, replies and events.
use Rattle.std.proofs.lemmas.Bool.Decides.{nat_tests}
use Rattle.std.proofs.Common.{reverse, ◌≡◌, ◌≢◌, ◌<◌, ◌≤◌, ◌+◌, ℕ, Bool, true, false, List, [], ◌∷◌, Option, Some, None, refl, ap, sym, ◌∙◌, arith}
use Rattle.gomp_types.specs.declared.limits.Limits.{Limits}
use Rattle.gomp_types.specs.declared.refusal.Place.{Place}
use Rattle.gomp_types.specs.declared.refusal.Refusal.{Refusal}
use Rattle.gomp_types.specs.declared.refusal.Refusal.TheVariants.{BadMember, Mismatch}
use Rattle.gomp_types.specs.RefusalTexts.{number_of}
use Rattle.gomp_types.specs.declared.reply.Reply.{Reply}
use Rattle.gomp_types.specs.declared.reply.Reply.TheVariants.{Finished, Passed, Cancelled, Wait, Created, Dropped, Cancelling, Run, TaskDone, Stopped, Refused}
use Rattle.gomp_types.specs.declared.task.Task.{Task}
use Rattle.gomp_types.specs.declared.task.TaskDesc.{TaskDesc}
use Rattle.gomp_types.proofs.Booleans.{other_number, same_number}
use Rattle.gomp_events.specs.declared.event.Event.{Event}
use Rattle.gomp_events.specs.declared.event.Event.TheVariants as events
use Rattle.gomp_events.specs.declared.event.Tag.{Tag}
use Rattle.gomp_events.specs.Laws.{Always}
use Rattle.gomp_events.specs.TaskRules.{TaskRule}
use Rattle.gomp_board.specs.declared.op.Op.{Op}
use Rattle.gomp_board.specs.declared.op.Op.TheVariants.{Create, EndTask, OpenGroup, EndGroup, AwaitGroup, Arrive, AwaitBarrier, Put, Got, Cancel, Break}
use Rattle.gomp_board.specs.declared.op.TeamCancel.{TeamCancel}
use Rattle.gomp_board.specs.Ops.{op_after, OpAnswer}
use Rattle.gomp_board.specs.Boards.{Stands}
use Rattle.gomp_board.specs.Stored.{is_stored}
use Rattle.gomp_board.specs.KeptLaws.{KeepsLaws}
use Rattle.gomp_waits.specs.Waits.{WaitBoardView, resumes_wait, PerformsOrWaits}
use Rattle.gomp_waits.specs.Words.{payload_refusal, WordsRule, WordsLaws}
use Rattle.gomp_team_board.specs.Counts.{is_counted, events_with, counted_events, creations_given, starts_given, ends_given, arrivals_given, passes_given, groups_given, words_given, cancels_given, stops_given, events_given}
use Rattle.gomp_team_board.specs.Parts.{PartView, IsPart, IsAtRest, part_after, counts_after, new_part, merged_part, is_creation, is_pass, is_start, counts_in}
use Rattle.gomp_team_board.specs.Locked.{team_size, locked_refusal, IsLedgerOf, IsGuarded, AnswersMember, AnswersNumber, comes_first, RefusesFound, AnswersMemberUnless, AnswersUnless, IsAnsweredUnderLock, IsAnsweredUnless, MovesCounts, KeptLaws}
use Rattle.gomp_team_board.specs.Shared.{wakes}
use Rattle.gomp_team_board.proofs.FoundRefusals.{found_is_refused}
use Rattle.gomp_team_board.proofs.Moved.{given_events_are_counted, refusal_moves_nothing, wait_moves_nothing}

-- What the ledger counts

-- no discard
pub discard_never_counted : (t m : ℕ) → is_counted (events.Discard t m) ≡ true → ⊥
discard_never_counted t m counted = cc

-- nothing that no board stores
pub never_counted_unstored : (event : Event) → is_stored event ≡ false → is_counted event ≡ true → ⊥
never_counted_unstored (events.Discard t m) unstored counted = cc
never_counted_unstored _ unstored counted = let both : false ≡ true = sym unstored ∙ counted in cc

-- and all else that one does
pub stored_never_left_out : (event : Event) → is_stored event ≡ true → ((t m : ℕ) → event ≢ events.Discard t m) → is_counted event ≡ false → ⊥
stored_never_left_out (events.Discard t m) stored differs out = differs t m refl
stored_never_left_out _ stored differs out = let both : true ≡ false = sym stored ∙ out in cc

-- an event that passes the test is counted as one, wherever it stands
pub no_other_event_counted : (test : Event → Bool) (event : Event) (h : List Event) → test event ≡ true → events_with test (event ∷ h) ≢ 1 + events_with test h → ⊥
no_other_event_counted test event h passes differs = differs (rw passes refl)

-- and one that fails it as none
pub never_counted_in_vain : (test : Event → Bool) (event : Event) (h : List Event) → test event ≡ false → events_with test (event ∷ h) ≢ events_with test h → ⊥
never_counted_in_vain test event h fails differs = differs (rw fails (omega arith))

-- of no events none is
pub none_never_counted : (test : Event → Bool) → events_with test [] ≢ 0 → ⊥
none_never_counted test some = some refl

-- What each operation gives

-- no task is created by another operation,
pub never_created_otherwise : (op : Op) (reply : Reply) → ((desc : TaskDesc) → op ≢ Create desc) → creations_given op reply ≢ 0 → ⊥
never_created_otherwise (Create desc) reply differs some = differs desc refl
never_created_otherwise _ reply differs some = some refl

-- by one that is refused or dropped,
pub never_created_if_refused : (desc : TaskDesc) (refusal : Refusal) → creations_given (Create desc) (Refused refusal) ≢ 0 → ⊥
never_created_if_refused desc refusal some = some refl

pub never_created_if_dropped : (desc : TaskDesc) → creations_given (Create desc) Dropped ≢ 0 → ⊥
never_created_if_dropped desc some = some refl

-- and each other reply says that one is
pub always_created_otherwise : (desc : TaskDesc) (reply : Reply) → reply ≢ Dropped → ((refusal : Refusal) → reply ≢ Refused refusal) → creations_given (Create desc) reply ≢ 1 → ⊥
always_created_otherwise desc Dropped dropped refused none = dropped refl
always_created_otherwise desc (Refused refusal) dropped refused none = refused refusal refl
always_created_otherwise desc _ dropped refused none = none refl

-- Run alone starts a task, whichever it is
pub always_started_by_run : (task code arg : ℕ) (own : Bool) → starts_given (Run task code arg own) ≢ 1 → ⊥
always_started_by_run task code arg own none = none refl

pub never_started_otherwise : (reply : Reply) → ((task code arg : ℕ) (own : Bool) → reply ≢ Run task code arg own) → starts_given reply ≢ 0 → ⊥
never_started_otherwise (Run task code arg own) differs some = differs task code arg own refl
never_started_otherwise _ differs some = some refl

-- TaskDone alone ends one
pub always_ended : (leaving waiting : Bool) (task : ℕ) → ends_given (EndTask leaving) (TaskDone task waiting) ≢ 1 → ⊥
always_ended leaving waiting task none = none refl

pub never_ended_otherwise : (op : Op) (reply : Reply) → ((task : ℕ) (waiting : Bool) → reply ≢ TaskDone task waiting) → ends_given op reply ≢ 0 → ⊥
never_ended_otherwise (EndTask leaving) (TaskDone task waiting) differs some = differs task waiting refl
never_ended_otherwise _ _ differs some = some refl

-- an arrival is given by an arrival, unless it is refused or sent on to the region's end
pub never_arrived_otherwise : (op : Op) (reply : Reply) → ((tag : Tag) (leaving : Bool) → op ≢ Arrive tag leaving) → arrivals_given op reply ≢ 0 → ⊥
never_arrived_otherwise (Arrive tag leaving) reply differs some = differs tag leaving refl
never_arrived_otherwise _ reply differs some = some refl

pub never_arrived_if_cancelled : (tag : Tag) (leaving : Bool) → arrivals_given (Arrive tag leaving) Cancelled ≢ 0 → ⊥
never_arrived_if_cancelled tag leaving some = some refl

pub never_arrived_if_refused : (tag : Tag) (leaving : Bool) (refusal : Refusal) → arrivals_given (Arrive tag leaving) (Refused refusal) ≢ 0 → ⊥
never_arrived_if_refused tag leaving refusal some = some refl

pub always_arrived_otherwise : (tag : Tag) (leaving : Bool) (reply : Reply) → reply ≢ Cancelled → ((refusal : Refusal) → reply ≢ Refused refusal) → arrivals_given (Arrive tag leaving) reply ≢ 1 → ⊥
always_arrived_otherwise tag leaving Cancelled cancelled refused none = cancelled refl
always_arrived_otherwise tag leaving (Refused refusal) cancelled refused none = refused refusal refl
always_arrived_otherwise tag leaving _ cancelled refused none = none refl

-- Passed passes a barrier on arrival and after a wait, and nowhere else
pub always_passed_on_arrival : (tag : Tag) (leaving : Bool) → passes_given (Arrive tag leaving) Passed ≢ 1 → ⊥
always_passed_on_arrival tag leaving none = none refl

pub always_passed_after_a_wait : passes_given AwaitBarrier Passed ≢ 1 → ⊥
always_passed_after_a_wait none = none refl

pub never_passed_otherwise : (op : Op) (reply : Reply) → reply ≢ Passed → passes_given op reply ≢ 0 → ⊥
never_passed_otherwise (Arrive tag leaving) Passed differs some = differs refl
never_passed_otherwise AwaitBarrier Passed differs some = differs refl
never_passed_otherwise _ _ differs some = some refl

pub no_pass_given_elsewhere : (op : Op) (reply : Reply) → ((tag : Tag) (leaving : Bool) → op ≢ Arrive tag leaving) → op ≢ AwaitBarrier → passes_given op reply ≢ 0 → ⊥
no_pass_given_elsewhere (Arrive tag leaving) reply arrives waits some = arrives tag leaving refl
no_pass_given_elsewhere AwaitBarrier reply arrives waits some = waits refl
no_pass_given_elsewhere _ reply arrives waits some = some refl

-- a group is opened by Finished, and ended by Passed
pub always_opened : groups_given OpenGroup Finished ≢ 1 → ⊥
always_opened none = none refl

pub always_closed : groups_given EndGroup Passed ≢ 1 → ⊥
always_closed none = none refl

pub always_closed_after_a_wait : groups_given AwaitGroup Passed ≢ 1 → ⊥
always_closed_after_a_wait none = none refl

pub no_group_otherwise : (op : Op) (reply : Reply) → op ≢ OpenGroup → op ≢ EndGroup → op ≢ AwaitGroup → groups_given op reply ≢ 0 → ⊥
no_group_otherwise OpenGroup reply opens ends awaits some = opens refl
no_group_otherwise EndGroup reply opens ends awaits some = ends refl
no_group_otherwise AwaitGroup reply opens ends awaits some = awaits refl
no_group_otherwise _ reply opens ends awaits some = some refl

pub no_group_opened_otherwise : (reply : Reply) → reply ≢ Finished → groups_given OpenGroup reply ≢ 0 → ⊥
no_group_opened_otherwise Finished differs some = differs refl
no_group_opened_otherwise _ differs some = some refl

pub no_group_closed_otherwise : (reply : Reply) → reply ≢ Passed → groups_given EndGroup reply + groups_given AwaitGroup reply ≢ 0 → ⊥
no_group_closed_otherwise Passed differs some = differs refl
no_group_closed_otherwise _ differs some = some refl

-- words are given by Put and Got
pub words_always_put : (share : ℕ) (words : List ℕ) → words_given (Put share words) Finished ≢ 1 → ⊥
words_always_put share words none = none refl

pub words_always_got : (share : ℕ) (words : List ℕ) → words_given (Got share words) Finished ≢ 1 → ⊥
words_always_got share words none = none refl

pub no_words_otherwise : (op : Op) (reply : Reply) → reply ≢ Finished → words_given op reply ≢ 0 → ⊥
no_words_otherwise (Put share words) Finished differs some = differs refl
no_words_otherwise (Got share words) Finished differs some = differs refl
no_words_otherwise _ _ differs some = some refl

pub no_words_elsewhere : (op : Op) (reply : Reply) → ((share : ℕ) (words : List ℕ) → op ≢ Put share words) → ((share : ℕ) (words : List ℕ) → op ≢ Got share words) → words_given op reply ≢ 0 → ⊥
no_words_elsewhere (Put share words) reply puts gets some = puts share words refl
no_words_elsewhere (Got share words) reply puts gets some = gets share words refl
no_words_elsewhere _ reply puts gets some = some refl

-- a cancellation by a true clause that is told so, whatever it names
pub always_cancelled : (names : TeamCancel) (allowed : Bool) → cancels_given (Cancel names true allowed) (Cancelling true) ≢ 1 → ⊥
always_cancelled names allowed none = none refl

pub never_cancelled_by_a_false_clause : (names : TeamCancel) (allowed : Bool) (reply : Reply) → cancels_given (Cancel names false allowed) reply ≢ 0 → ⊥
never_cancelled_by_a_false_clause names allowed reply some = some refl

pub never_cancelled_otherwise : (op : Op) (reply : Reply) → reply ≢ Cancelling true → cancels_given op reply ≢ 0 → ⊥
never_cancelled_otherwise (Cancel names true allowed) (Cancelling true) differs some = differs refl
never_cancelled_otherwise _ _ differs some = some refl

pub never_cancelled_elsewhere : (op : Op) (reply : Reply) → ((names : TeamCancel) (allowed : Bool) → op ≢ Cancel names true allowed) → cancels_given op reply ≢ 0 → ⊥
never_cancelled_elsewhere (Cancel names true allowed) reply differs some = differs names allowed refl
never_cancelled_elsewhere _ reply differs some = some refl

-- a stop by Stopped
pub always_stopped : (place : Place) (back : ℕ) → stops_given (Break place back) Stopped ≢ 1 → ⊥
always_stopped place back none = none refl

pub no_stop_given_otherwise : (op : Op) (reply : Reply) → reply ≢ Stopped → stops_given op reply ≢ 0 → ⊥
no_stop_given_otherwise (Break place back) Stopped differs some = differs refl
no_stop_given_otherwise _ _ differs some = some refl

-- What all of them give

-- no other number than that of the events that an operation gives after its answer, whatever it is
pub never_given_otherwise : (limits : Limits) (room kept members m : ℕ) (op : Op) (h : List Event) (reply : Reply)
    → Always (TaskRule members) h → OpAnswer limits room kept members m op h reply → counted_events (op_after m op reply h) ≢ events_given op reply + counted_events h → ⊥
never_given_otherwise limits room kept members m op h reply rule answer differs = differs (given_events_are_counted limits room kept members m op h reply rule answer)

-- a mismatch gives the break
pub mismatch_always_counted : (op : Op) → events_given op (Refused Mismatch) ≢ 1 → ⊥
mismatch_always_counted op none = none refl

-- Parts

-- no refusal moves a part, its counts neither, unless it breaks the team
pub never_moved_by_a_refusal : (op : Op) (refusal : Refusal) (part : PartView) → refusal ≢ Mismatch → part_after op (Refused refusal) part ≢ part → ⊥
never_moved_by_a_refusal op refusal part differs moved = moved (refusal_moves_nothing op refusal part differs)

-- no reply moves it to another ledger share, or by another amount
pub parts_never_move : (op : Op) (reply : Reply) (part : PartView) → (part_after op reply part).parts ≢ part.parts → ⊥
parts_never_move op reply part moved = moved refl

pub never_moved_otherwise : (op : Op) (reply : Reply) (part : PartView) → (part_after op reply part).amount ≢ part.amount + events_given op reply → ⊥
never_moved_otherwise op reply part moved = moved refl

-- each count moves by its own kind of event
pub creates_never_move_otherwise : (op : Op) (reply : Reply) (part : PartView) → (part_after op reply part).counts.creates ≢ part.counts.creates + creations_given op reply → ⊥
creates_never_move_otherwise op reply part moved = moved refl

pub passes_never_move_otherwise : (op : Op) (reply : Reply) (part : PartView) → (part_after op reply part).counts.passes ≢ part.counts.passes + passes_given op reply → ⊥
passes_never_move_otherwise op reply part moved = moved refl

pub starts_never_move_otherwise : (op : Op) (reply : Reply) (part : PartView) → (part_after op reply part).counts.starts ≢ part.counts.starts + starts_given reply → ⊥
starts_never_move_otherwise op reply part moved = moved refl

-- none of no ledger share, and none whose counts are above its amount
pub no_part_of_nothing : (part : PartView) → part.parts ≡ 0 → IsPart part → ⊥
no_part_of_nothing part none is = absurd (omega (arith, none, is.some))

pub counts_never_above_amount : (part : PartView) → part.amount < part.counts.creates + part.counts.passes + part.counts.starts → IsPart part → ⊥
counts_never_above_amount part above is = absurd (omega (arith, above, is.fits))

-- a new part has its shares, its amount and no counts
pub new_part_never_differs : (parts amount : ℕ) (part : PartView) → part ≡ new_part parts amount
    → (part.parts ≡ parts) × (part.amount ≡ amount) × (part.counts.creates ≡ 0) × (part.counts.passes ≡ 0) × (part.counts.starts ≡ 0)
new_part_never_differs parts amount part is = rw is (refl, refl, refl, refl, refl)

-- merging loses no share, and no event
pub never_lost_by_merging : (part other : PartView) → ((merged_part part other).parts ≡ part.parts + other.parts) × ((merged_part part other).amount ≡ part.amount + other.amount) × ((merged_part part other).counts ≡ part.counts)
never_lost_by_merging part other = (refl, refl, refl)

-- a ledger that no team has is some ledger, with no event, on its share neither
pub never_at_rest_with_events : (total parts amount : ℕ) → IsAtRest total parts amount → 0 < total + amount → ⊥
never_at_rest_with_events total parts amount rests some =
    let none = rests.total_none in
    let none_on_share = rests.amount_none in
    absurd (omega (arith, none, none_on_share, some))

pub never_at_rest_without_parts : (total amount : ℕ) → IsAtRest total 0 amount → ⊥
never_at_rest_without_parts total amount rests = let some = rests.some in absurd (omega (arith, some))

-- What a history has of a member

-- none of another's events
pub creation_never_anothers : (k m t : ℕ) (parent : Task) (desc : TaskDesc) → m ≢ k → is_creation k (events.Create t m parent desc) ≡ true → ⊥
creation_never_anothers k m t parent desc other counts = let none = other_number m k other in let both : false ≡ true = sym none ∙ counts in cc

pub pass_never_anothers : (k m barrier : ℕ) → m ≢ k → is_pass k (events.Pass barrier m) ≡ true → ⊥
pass_never_anothers k m barrier other counts = let none = other_number m k other in let both : false ≡ true = sym none ∙ counts in cc

pub start_never_anothers : (k m t : ℕ) → m ≢ k → is_start k (events.Start t m) ≡ true → ⊥
start_never_anothers k m t other counts = let none = other_number m k other in let both : false ≡ true = sym none ∙ counts in cc

-- all of its own
pub own_creation_never_missed : (m t : ℕ) (parent : Task) (desc : TaskDesc) → is_creation m (events.Create t m parent desc) ≡ false → ⊥
own_creation_never_missed m t parent desc missed = let own = same_number m in let both : true ≡ false = sym own ∙ missed in cc

pub own_pass_never_missed : (m barrier : ℕ) → is_pass m (events.Pass barrier m) ≡ false → ⊥
own_pass_never_missed m barrier missed = let own = same_number m in let both : true ≡ false = sym own ∙ missed in cc

pub own_start_never_missed : (m t : ℕ) → is_start m (events.Start t m) ≡ false → ⊥
own_start_never_missed m t missed = let own = same_number m in let both : true ≡ false = sym own ∙ missed in cc

-- and no other event
pub never_a_creation : (m : ℕ) (event : Event) → ((t n : ℕ) (parent : Task) (desc : TaskDesc) → event ≢ events.Create t n parent desc) → is_creation m event ≡ true → ⊥
never_a_creation m (events.Create t n parent desc) differs counts = differs t n parent desc refl
never_a_creation m _ differs counts = cc

pub never_a_pass : (m : ℕ) (event : Event) → ((barrier n : ℕ) → event ≢ events.Pass barrier n) → is_pass m event ≡ true → ⊥
never_a_pass m (events.Pass barrier n) differs counts = differs barrier n refl
never_a_pass m _ differs counts = cc

pub never_a_start : (m : ℕ) (event : Event) → ((t n : ℕ) → event ≢ events.Start t n) → is_start m event ≡ true → ⊥
never_a_start m (events.Start t n) differs counts = differs t n refl
never_a_start m _ differs counts = cc

-- each test counts for its own number
pub counts_never_mixed : (m : ℕ) (h : List Event)
    → ((counts_in m h).creates ≡ events_with (is_creation m) h) × ((counts_in m h).passes ≡ events_with (is_pass m) h) × ((counts_in m h).starts ≡ events_with (is_start m) h)
counts_never_mixed m h = (refl, refl, refl)

-- The board under its lock

-- the ledger has no other number than that of the events that it counts
pub ledger_never_differs : (total : ℕ) (view : WaitBoardView) → total ≢ counted_events view.board.history → IsLedgerOf total view → ⊥
ledger_never_differs total view differs is = differs is

-- no number that no member has is served, or changes anything
pub bad_member_never_served : (op : Op) (m : ℕ) (view after : WaitBoardView) (reply : Reply) → team_size view ≤ m → reply ≢ Refused BadMember → AnswersNumber op m view after reply → ⊥
bad_member_never_served op m view after reply outside differs answers = differs (answers.bad_member outside)

pub bad_member_never_changes : (op : Op) (m : ℕ) (view after : WaitBoardView) (reply : Reply) → team_size view ≤ m → after ≢ view → AnswersNumber op m view after reply → ⊥
bad_member_never_changes op m view after reply outside changed answers = changed (answers.same outside)

-- and a member is answered as one
pub member_never_answered_otherwise : (op : Op) (m : ℕ) (view after : WaitBoardView) (reply : Reply) → m < team_size view → (AnswersMember op m view after reply → ⊥) → AnswersNumber op m view after reply → ⊥
member_never_answered_otherwise op m view after reply inside otherwise answers = otherwise (answers.member inside)

-- so as the board with open waits has it, if its words are not refused
pub words_in_order_never_answered_otherwise : (op : Op) (m : ℕ) (view after : WaitBoardView) (reply : Reply) (h : List Event) → Stands view.board h → payload_refusal op h ≡ None → (PerformsOrWaits op m view after reply → ⊥) → AnswersMember op m view after reply → ⊥
words_in_order_never_answered_otherwise op m view after reply h st fine otherwise answers = otherwise (answers.performs h st fine)

-- and refused words are never served, change nothing, and are refused by no other than the least refusal
pub refused_words_never_served : (op : Op) (m : ℕ) (view after : WaitBoardView) (reply : Reply) (h : List Event) → Stands view.board h → payload_refusal op h ≢ None → ((refusal : Refusal) → reply ≢ Refused refusal) → AnswersMember op m view after reply → ⊥
refused_words_never_served op m view after reply h st refused served answers = let no = answers.refused h st refused in served no.found no.answer

pub refused_words_never_change : (op : Op) (m : ℕ) (view after : WaitBoardView) (reply : Reply) (h : List Event) → Stands view.board h → payload_refusal op h ≢ None → after ≢ view → AnswersMember op m view after reply → ⊥
refused_words_never_change op m view after reply h st refused changed answers = changed (answers.refused h st refused).same

pub refused_words_never_refused_otherwise : (op : Op) (m : ℕ) (view after : WaitBoardView) (found : Refusal) (h : List Event) → Stands view.board h → payload_refusal op h ≢ None → locked_refusal m view op h ≢ Some found → AnswersMember op m view after (Refused found) → ⊥
refused_words_never_refused_otherwise op m view after found h st refused otherwise answers =
    let no = answers.refused h st refused in
    let same : no.found ≡ found = let both = no.answer in cc in
    otherwise (no.least ∙ ap (λ (one : Refusal). Some one) same)

-- under the lock neither the ledger nor the words are out of order
pub never_guarded_out_of_order : (total : ℕ) (view : WaitBoardView) → (IsLedgerOf total view × Always WordsRule (reverse view.board.history) → ⊥) → IsGuarded total view → ⊥
never_guarded_out_of_order total view out is = out (is.counted, is.words)

-- no operation moves what the history has of another member, or its own by other than the reply
pub others_counts_never_move : (op : Op) (m k : ℕ) (view after : WaitBoardView) (reply : Reply) → k ≢ m → counts_in k after.board.history ≢ counts_in k view.board.history → MovesCounts op m view after reply → ⊥
others_counts_never_move op m k view after reply other moved moves = moved (moves.others k other)

pub own_counts_never_move_otherwise : (op : Op) (m : ℕ) (view after : WaitBoardView) (reply : Reply) → counts_in m after.board.history ≢ counts_after op reply (counts_in m view.board.history) → MovesCounts op m view after reply → ⊥
own_counts_never_move_otherwise op m view after reply moved moves = moved moves.own

-- under the lock no call is answered otherwise than on the board that it found, which stood for its own history
pub never_answered_otherwise_under_lock : (op : Op) (m : ℕ) (reply : Reply) (answer : IsAnsweredUnderLock op m reply) → (AnswersNumber op m answer.found answer.left reply → ⊥) → ⊥
never_answered_otherwise_under_lock op m reply answer otherwise = otherwise answer.answer

pub never_found_astray : (op : Op) (m : ℕ) (reply : Reply) (answer : IsAnsweredUnderLock op m reply) → (Stands answer.found.board (reverse answer.found.board.history) → ⊥) → ⊥
never_found_astray op m reply answer astray = astray answer.known

pub counts_never_move_otherwise_under_lock : (op : Op) (m : ℕ) (reply : Reply) (answer : IsAnsweredUnderLock op m reply) → (MovesCounts op m answer.found answer.left reply → ⊥) → ⊥
counts_never_move_otherwise_under_lock op m reply answer otherwise = otherwise answer.counts

-- a history that is given out keeps the laws of tasks and of barriers, and those of words
pub laws_never_left_out : (members : ℕ) (h : List Event) → KeptLaws members h → KeepsLaws members h × WordsLaws h
laws_never_left_out members h kept = (kept.board, kept.words)

-- Of an operation of which its caller found a refusal, or none

-- none comes first if none was found,
pub nothing_found_never_first : (other : Option Refusal) → comes_first None other ≡ true → ⊥
nothing_found_never_first other first = cc

-- one that was found never comes after none,
pub found_never_after_none : (found : Refusal) → comes_first (Some found) None ≡ false → ⊥
found_never_after_none found later = cc

-- nor first before one with a lesser number, nor after another
pub lesser_never_passed_over : (found other : Refusal) → number_of other < number_of found → comes_first (Some found) (Some other) ≡ true → ⊥
lesser_never_passed_over found other less first = grind (arith, nat_tests)

pub found_never_after_a_greater : (found other : Refusal) → number_of found ≤ number_of other → comes_first (Some found) (Some other) ≡ false → ⊥
found_never_after_a_greater found other less later = grind (arith, nat_tests)

-- a refusal that was not found answers nothing,
pub nothing_found_never_refuses : (view after : WaitBoardView) (reply : Reply) → RefusesFound None view after reply → ⊥
nothing_found_never_refuses view after reply refuses = let both = refuses.is_found in cc

-- one that was is answered as it is, and changes nothing
pub found_never_answered_otherwise : (found : Refusal) (view after : WaitBoardView) (reply : Reply) → reply ≢ Refused found → RefusesFound (Some found) view after reply → ⊥
found_never_answered_otherwise found view after reply differs refuses =
    let both = refuses.is_found in
    let same : refuses.refusal ≡ found = cc in
    differs (refuses.answer ∙ ap (λ (one : Refusal). Refused one) same)

pub found_never_changes : (found : Option Refusal) (view after : WaitBoardView) (reply : Reply) → after ≢ view → RefusesFound found view after reply → ⊥
found_never_changes found view after reply changed refuses = changed refuses.same

-- a member's operation is never answered otherwise than by what was found, if that comes first,
pub first_never_passed_over : (found : Option Refusal) (op : Op) (m : ℕ) (view after : WaitBoardView) (reply : Reply) (h : List Event)
    → Stands view.board h → comes_first found (locked_refusal m view op h) ≡ true → (RefusesFound found view after reply → ⊥) → AnswersMemberUnless found op m view after reply → ⊥
first_never_passed_over found op m view after reply h st first otherwise answers = otherwise (answers.first h st first)

-- nor otherwise than as if nothing was found, if it does not
pub later_never_answered_otherwise : (found : Option Refusal) (op : Op) (m : ℕ) (view after : WaitBoardView) (reply : Reply) (h : List Event)
    → Stands view.board h → comes_first found (locked_refusal m view op h) ≡ false → (AnswersMember op m view after reply → ⊥) → AnswersMemberUnless found op m view after reply → ⊥
later_never_answered_otherwise found op m view after reply h st later otherwise answers = otherwise (answers.other h st later)

-- no operation of which a refusal was found is served
pub found_never_served : (found : Refusal) (op : Op) (m : ℕ) (view after : WaitBoardView) (reply : Reply) (h : List Event)
    → m < team_size view → Stands view.board h → ((refusal : Refusal) → reply ≢ Refused refusal) → AnswersUnless (Some found) op m view after reply → ⊥
found_never_served found op m view after reply h inside st served answers = let (refusal, answer, least) = found_is_refused found op m view after reply h inside st answers in served refusal answer

-- no number that no member has is served, or changes anything, whatever was found; a member's is answered as one
pub bad_member_never_served_unless : (found : Option Refusal) (op : Op) (m : ℕ) (view after : WaitBoardView) (reply : Reply) → team_size view ≤ m → reply ≢ Refused BadMember → AnswersUnless found op m view after reply → ⊥
bad_member_never_served_unless found op m view after reply outside differs answers = differs (answers.bad_member outside)

pub bad_member_never_changes_unless : (found : Option Refusal) (op : Op) (m : ℕ) (view after : WaitBoardView) (reply : Reply) → team_size view ≤ m → after ≢ view → AnswersUnless found op m view after reply → ⊥
bad_member_never_changes_unless found op m view after reply outside changed answers = changed (answers.same outside)

pub member_never_answered_otherwise_unless : (found : Option Refusal) (op : Op) (m : ℕ) (view after : WaitBoardView) (reply : Reply)
    → m < team_size view → (AnswersMemberUnless found op m view after reply → ⊥) → AnswersUnless found op m view after reply → ⊥
member_never_answered_otherwise_unless found op m view after reply inside otherwise answers = otherwise (answers.member inside)

-- under the lock it is answered so on the board that it found, which stood for its own history, and moves the counts so
pub never_answered_otherwise_unless : (refusal : Option Refusal) (op : Op) (m : ℕ) (reply : Reply) (answer : IsAnsweredUnless refusal op m reply) → (AnswersUnless refusal op m answer.found answer.left reply → ⊥) → ⊥
never_answered_otherwise_unless refusal op m reply answer otherwise = otherwise answer.answer

pub never_found_astray_unless : (refusal : Option Refusal) (op : Op) (m : ℕ) (reply : Reply) (answer : IsAnsweredUnless refusal op m reply) → (Stands answer.found.board (reverse answer.found.board.history) → ⊥) → ⊥
never_found_astray_unless refusal op m reply answer astray = astray answer.known

pub counts_never_move_otherwise_unless : (refusal : Option Refusal) (op : Op) (m : ℕ) (reply : Reply) (answer : IsAnsweredUnless refusal op m reply) → (MovesCounts op m answer.found answer.left reply → ⊥) → ⊥
counts_never_move_otherwise_unless refusal op m reply answer otherwise = otherwise answer.counts

-- Of members that wait

-- an answer to wait wakes none,
pub never_woken_by_a_wait : (op : Op) → wakes op Wait ≡ true → ⊥
never_woken_by_a_wait op woken = cc

-- nor does a refusal that changes nothing,
pub never_woken_by_a_refusal : (op : Op) (refusal : Refusal) → refusal ≢ Mismatch → wakes op (Refused refusal) ≡ true → ⊥
never_woken_by_a_refusal op Mismatch differs woken = differs refl
never_woken_by_a_refusal op _ differs woken = cc

-- nor the start of a task,
pub never_woken_by_a_start : (op : Op) (task code arg : ℕ) (own : Bool) → wakes op (Run task code arg own) ≡ true → ⊥
never_woken_by_a_start op task code arg own woken = cc

-- nor the pass of a barrier after a wait
pub never_woken_by_a_later_pass : (op : Op) → ((tag : Tag) (leaving : Bool) → op ≢ Arrive tag leaving) → wakes op Passed ≡ true → ⊥
never_woken_by_a_later_pass (Arrive tag leaving) differs woken = differs tag leaving refl
never_woken_by_a_later_pass _ differs woken = cc

-- a mismatch wakes them,
pub always_woken_by_a_mismatch : (op : Op) → wakes op (Refused Mismatch) ≡ false → ⊥
always_woken_by_a_mismatch op asleep = cc

-- so does a task that is created for all,
pub always_woken_by_a_creation : (desc : TaskDesc) (task : ℕ) → wakes (Create desc) (Created task) ≡ false → ⊥
always_woken_by_a_creation desc task asleep = cc

-- one that is ended,
pub always_woken_by_an_end : (leaving waiting : Bool) (task : ℕ) → wakes (EndTask leaving) (TaskDone task waiting) ≡ false → ⊥
always_woken_by_an_end leaving waiting task asleep = cc

-- the last arrival,
pub always_woken_by_the_last_arrival : (tag : Tag) (leaving : Bool) → wakes (Arrive tag leaving) Passed ≡ false → ⊥
always_woken_by_the_last_arrival tag leaving asleep = cc

-- words,
pub always_woken_by_words : (share : ℕ) (words : List ℕ) → wakes (Put share words) Finished ≡ false → ⊥
always_woken_by_words share words asleep = cc

-- a cancellation,
pub always_woken_by_a_cancellation : (named : TeamCancel) (allowed : Bool) → wakes (Cancel named true allowed) (Cancelling true) ≡ false → ⊥
always_woken_by_a_cancellation named allowed asleep = cc

-- and a stop
pub always_woken_by_a_stop : (place : Place) (back : ℕ) → wakes (Break place back) Stopped ≡ false → ⊥
always_woken_by_a_stop place back asleep = cc

-- nothing else does
pub never_woken_otherwise : (op : Op) (reply : Reply) → reply ≢ Refused Mismatch → ((desc : TaskDesc) → op ≢ Create desc) → ((leaving : Bool) → op ≢ EndTask leaving)
    → ((tag : Tag) (leaving : Bool) → op ≢ Arrive tag leaving) → ((share : ℕ) (words : List ℕ) → op ≢ Put share words) → ((named : TeamCancel) (allowed : Bool) → op ≢ Cancel named true allowed)
    → ((place : Place) (back : ℕ) → op ≢ Break place back) → wakes op reply ≡ true → ⊥
never_woken_otherwise op (Refused refusal) mismatch creates ends arrives puts cancels breaks woken = never_woken_by_a_refusal op refusal (λ same. mismatch (ap (λ (one : Refusal). Refused one) same)) woken
never_woken_otherwise (Create desc) _ mismatch creates ends arrives puts cancels breaks woken = creates desc refl
never_woken_otherwise (EndTask leaving) _ mismatch creates ends arrives puts cancels breaks woken = ends leaving refl
never_woken_otherwise (Arrive tag leaving) _ mismatch creates ends arrives puts cancels breaks woken = arrives tag leaving refl
never_woken_otherwise (Put share words) _ mismatch creates ends arrives puts cancels breaks woken = puts share words refl
never_woken_otherwise (Cancel named true allowed) _ mismatch creates ends arrives puts cancels breaks woken = cancels named allowed refl
never_woken_otherwise (Break place back) _ mismatch creates ends arrives puts cancels breaks woken = breaks place back refl
never_woken_otherwise _ _ mismatch creates ends arrives puts cancels breaks woken = cc

-- and a wait that goes on moves no part
pub never_moved_by_a_wait : (op : Op) (part : PartView) → resumes_wait op ≡ true → part_after op Wait part ≢ part → ⊥
never_moved_by_a_wait op part resumes moved = moved (wait_moves_nothing op part resumes)
