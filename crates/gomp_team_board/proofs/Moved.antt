-- What an operation moves: the number of events that the ledger counts, and what the history has of its member and of others.
use Rattle.std.proofs.Common.{◌≡◌, ◌≢◌, ℕ, ◌+◌, true, false, List, reverse, refl, sym, arith}
use Rattle.gomp_types.specs.declared.limits.Limits.{Limits}
use Rattle.gomp_types.specs.declared.refusal.Refusal.{Refusal}
use Rattle.gomp_types.specs.declared.refusal.Refusal.TheVariants.{Mismatch}
use Rattle.gomp_types.specs.declared.reply.Reply.{Reply}
use Rattle.gomp_types.specs.declared.reply.Reply.TheVariants.{Wait, Refused}
use Rattle.gomp_types.proofs.Booleans.{other_number, same_number}
use Rattle.gomp_events.specs.declared.event.Event.{Event}
use Rattle.gomp_events.specs.declared.event.Event.TheVariants as events
use Rattle.gomp_events.specs.Laws.{Always}
use Rattle.gomp_events.specs.TaskRules.{TaskRule}
use Rattle.gomp_board.specs.declared.op.Op.{Op}
use Rattle.gomp_board.specs.declared.op.Op.TheVariants as ops
use Rattle.gomp_board.specs.Boards.{Stands, members_of}
use Rattle.gomp_board.specs.Ops.{op_after, OpAnswer}
use Rattle.gomp_board.specs.Stored.{is_stored}
use Rattle.gomp_waits.specs.Waits.{WaitBoardView, resumes_wait, PerformsOrWaits}
use Rattle.gomp_team_board.specs.declared.part.PartCounts.{PartCounts}
use Rattle.gomp_team_board.specs.Counts.{is_counted, counted_events, events_given, creations_given, passes_given, starts_given}
use Rattle.gomp_team_board.specs.Parts.{PartView, is_creation, is_pass, is_start, counts_in, counts_after, part_after}
use Rattle.gomp_team_board.specs.Locked.{MovesCounts}
use Rattle.gomp_team_board.proofs.Given.{Kinds, Tells, whole_tally, answer_count, asked_count}

-- The tests

abbrev each_kind : Kinds
each_kind = record { creates = 1; starts = 1; ends = 1; arrivals = 1; passes = 1; groups = 1; words = 1; cancels = 1; breaks = 1 }

abbrev no_kind : Kinds
no_kind = record { creates = 0; starts = 0; ends = 0; arrivals = 0; passes = 0; groups = 0; words = 0; cancels = 0; breaks = 0 }

abbrev creations_alone : Kinds
creations_alone = record no_kind { creates = 1 }

abbrev passes_alone : Kinds
passes_alone = record no_kind { passes = 1 }

abbrev starts_alone : Kinds
starts_alone = record no_kind { starts = 1 }

unstored_is_uncounted : (event : Event) → is_stored event ≡ false → is_counted event ≡ false
unstored_is_uncounted (events.Discard t m) is = refl
unstored_is_uncounted _ is = is

-- the ledger counts all that is stored, discards aside
counted_tells : (m : ℕ) → Tells is_counted m each_kind
counted_tells m = record {
  creates = λ t parent desc. refl;
  starts = λ t. refl;
  ends = λ t. refl;
  arrivals = λ barrier tag. refl;
  passes = λ barrier. refl;
  opens = λ q. refl;
  closes = λ q. refl;
  puts = λ share words. refl;
  gets = λ share words. refl;
  region = refl;
  group = λ q. refl;
  breaks = λ place. refl;
  discards = λ t. refl;
  unstored = unstored_is_uncounted;
}

unstored_no_creation : (m : ℕ) (event : Event) → is_stored event ≡ false → is_creation m event ≡ false
unstored_no_creation m (events.Create t by parent desc) is = absurd (cc)
unstored_no_creation m _ is = refl

unstored_no_pass : (m : ℕ) (event : Event) → is_stored event ≡ false → is_pass m event ≡ false
unstored_no_pass m (events.Pass barrier by) is = absurd (cc)
unstored_no_pass m _ is = refl

unstored_no_start : (m : ℕ) (event : Event) → is_stored event ≡ false → is_start m event ≡ false
unstored_no_start m (events.Start t by) is = absurd (cc)
unstored_no_start m _ is = refl

-- a member's creations, passes and starts are its own
creations_of_the_member : (m : ℕ) → Tells (is_creation m) m creations_alone
creations_of_the_member m = record {
  creates = λ t parent desc. rw (same_number m) refl;
  starts = λ t. refl;
  ends = λ t. refl;
  arrivals = λ barrier tag. refl;
  passes = λ barrier. refl;
  opens = λ q. refl;
  closes = λ q. refl;
  puts = λ share words. refl;
  gets = λ share words. refl;
  region = refl;
  group = λ q. refl;
  breaks = λ place. refl;
  discards = λ t. refl;
  unstored = unstored_no_creation m;
}

passes_of_the_member : (m : ℕ) → Tells (is_pass m) m passes_alone
passes_of_the_member m = record {
  creates = λ t parent desc. refl;
  starts = λ t. refl;
  ends = λ t. refl;
  arrivals = λ barrier tag. refl;
  passes = λ barrier. rw (same_number m) refl;
  opens = λ q. refl;
  closes = λ q. refl;
  puts = λ share words. refl;
  gets = λ share words. refl;
  region = refl;
  group = λ q. refl;
  breaks = λ place. refl;
  discards = λ t. refl;
  unstored = unstored_no_pass m;
}

starts_of_the_member : (m : ℕ) → Tells (is_start m) m starts_alone
starts_of_the_member m = record {
  creates = λ t parent desc. refl;
  starts = λ t. rw (same_number m) refl;
  ends = λ t. refl;
  arrivals = λ barrier tag. refl;
  passes = λ barrier. refl;
  opens = λ q. refl;
  closes = λ q. refl;
  puts = λ share words. refl;
  gets = λ share words. refl;
  region = refl;
  group = λ q. refl;
  breaks = λ place. refl;
  discards = λ t. refl;
  unstored = unstored_no_start m;
}

-- and no other's
others_creations : (k m : ℕ) → m ≢ k → Tells (is_creation k) m no_kind
others_creations k m other = record {
  creates = λ t parent desc. rw (other_number m k other) refl;
  starts = λ t. refl;
  ends = λ t. refl;
  arrivals = λ barrier tag. refl;
  passes = λ barrier. refl;
  opens = λ q. refl;
  closes = λ q. refl;
  puts = λ share words. refl;
  gets = λ share words. refl;
  region = refl;
  group = λ q. refl;
  breaks = λ place. refl;
  discards = λ t. refl;
  unstored = unstored_no_creation k;
}

others_passes : (k m : ℕ) → m ≢ k → Tells (is_pass k) m no_kind
others_passes k m other = record {
  creates = λ t parent desc. refl;
  starts = λ t. refl;
  ends = λ t. refl;
  arrivals = λ barrier tag. refl;
  passes = λ barrier. rw (other_number m k other) refl;
  opens = λ q. refl;
  closes = λ q. refl;
  puts = λ share words. refl;
  gets = λ share words. refl;
  region = refl;
  group = λ q. refl;
  breaks = λ place. refl;
  discards = λ t. refl;
  unstored = unstored_no_pass k;
}

others_starts : (k m : ℕ) → m ≢ k → Tells (is_start k) m no_kind
others_starts k m other = record {
  creates = λ t parent desc. refl;
  starts = λ t. rw (other_number m k other) refl;
  ends = λ t. refl;
  arrivals = λ barrier tag. refl;
  passes = λ barrier. refl;
  opens = λ q. refl;
  closes = λ q. refl;
  puts = λ share words. refl;
  gets = λ share words. refl;
  region = refl;
  group = λ q. refl;
  breaks = λ place. refl;
  discards = λ t. refl;
  unstored = unstored_no_start k;
}

-- What they count of an operation

all_given : (op : Op) (reply : Reply) → whole_tally each_kind op reply ≡ events_given op reply
all_given op (Refused Mismatch) = refl
all_given op (Refused _) = refl
all_given op _ = omega arith

none_given : (op : Op) (reply : Reply) → whole_tally no_kind op reply ≡ 0
none_given op (Refused Mismatch) = refl
none_given op (Refused _) = refl
none_given op _ = omega arith

-- a refusal is no creation, even of a mismatch
no_creation_refused : (op : Op) (refusal : Refusal) → creations_given op (Refused refusal) ≡ 0
no_creation_refused (ops.Create desc) refusal = refl
no_creation_refused _ refusal = refl

no_pass_refused : (op : Op) (refusal : Refusal) → passes_given op (Refused refusal) ≡ 0
no_pass_refused (ops.Arrive tag leaving) refusal = refl
no_pass_refused _ refusal = refl

creations_tallied : (op : Op) (reply : Reply) → whole_tally creations_alone op reply ≡ creations_given op reply
creations_tallied op (Refused Mismatch) = rw (no_creation_refused op Mismatch) refl
creations_tallied op (Refused refusal) = rw (no_creation_refused op refusal) (low refusal)
  where
    low : (refusal : Refusal) → whole_tally creations_alone op (Refused refusal) ≡ 0
    low Mismatch = refl
    low _ = refl
creations_tallied op _ = omega arith

passes_tallied : (op : Op) (reply : Reply) → whole_tally passes_alone op reply ≡ passes_given op reply
passes_tallied op (Refused refusal) = rw (no_pass_refused op refusal) (low refusal)
  where
    low : (refusal : Refusal) → whole_tally passes_alone op (Refused refusal) ≡ 0
    low Mismatch = refl
    low _ = refl
passes_tallied op _ = omega arith

starts_tallied : (op : Op) (reply : Reply) → whole_tally starts_alone op reply ≡ starts_given reply
starts_tallied op (Refused refusal) = low refusal
  where
    low : (refusal : Refusal) → whole_tally starts_alone op (Refused refusal) ≡ 0
    low Mismatch = refl
    low _ = refl
starts_tallied op _ = omega arith

-- Boards

-- the number of events that the ledger counts
pub ledger_moves : (op : Op) (m : ℕ) (view after : WaitBoardView) (reply : Reply)
    → Stands view.board (reverse view.board.history) → Always (TaskRule (members_of view.board)) (reverse view.board.history) → PerformsOrWaits op m view after reply
    → counted_events after.board.history ≡ counted_events view.board.history + events_given op reply
ledger_moves op m view after reply known rule performs =
    let a = asked_count is_counted m each_kind (counted_tells m) op view after reply known rule performs in
    let b = all_given op reply in
    omega (arith, a, b)

same_counts : (c d e : ℕ) (counts : PartCounts) → c ≡ counts.creates → d ≡ counts.passes → e ≡ counts.starts → record { creates = c; passes = d; starts = e } ≡ counts
same_counts c d e counts one two three = rw (one, two, three) refl

-- what the history has of the member, and of another
pub counts_move : (op : Op) (m : ℕ) (view after : WaitBoardView) (reply : Reply)
    → Stands view.board (reverse view.board.history) → Always (TaskRule (members_of view.board)) (reverse view.board.history) → PerformsOrWaits op m view after reply
    → MovesCounts op m view after reply
counts_move op m view after reply known rule performs = record { own = own_move; others = others_stay }
  where
    own_move : counts_in m after.board.history ≡ counts_after op reply (counts_in m view.board.history)
    own_move =
        let a = asked_count (is_creation m) m creations_alone (creations_of_the_member m) op view after reply known rule performs in
        let b = asked_count (is_pass m) m passes_alone (passes_of_the_member m) op view after reply known rule performs in
        let c = asked_count (is_start m) m starts_alone (starts_of_the_member m) op view after reply known rule performs in
        let d = creations_tallied op reply in
        let e = passes_tallied op reply in
        let f = starts_tallied op reply in
        same_counts _ _ _ (counts_after op reply (counts_in m view.board.history)) (omega (arith, a, d)) (omega (arith, b, e)) (omega (arith, c, f))

    others_stay : (k : ℕ) → k ≢ m → counts_in k after.board.history ≡ counts_in k view.board.history
    others_stay k other =
        let differs : m ≢ k = λ e. other (sym e) in
        let a = asked_count (is_creation k) m no_kind (others_creations k m differs) op view after reply known rule performs in
        let b = asked_count (is_pass k) m no_kind (others_passes k m differs) op view after reply known rule performs in
        let c = asked_count (is_start k) m no_kind (others_starts k m differs) op view after reply known rule performs in
        let d = none_given op reply in
        same_counts _ _ _ (counts_in k view.board.history) (omega (arith, a, d)) (omega (arith, b, d)) (omega (arith, c, d))

-- Refusals

-- a refusal counts nothing
pub refusal_counts_nothing : (op : Op) (refusal : Refusal) (counts : PartCounts) → counts_after op (Refused refusal) counts ≡ counts
refusal_counts_nothing op refusal counts =
    let a = no_creation_refused op refusal in
    let b = no_pass_refused op refusal in
    same_counts _ _ _ counts (omega (arith, a)) (omega (arith, b)) (omega arith)

no_event_refused : (op : Op) (refusal : Refusal) → refusal ≢ Mismatch → events_given op (Refused refusal) ≡ 0
no_event_refused op Mismatch differs = absurd (differs refl)
no_event_refused op _ differs = refl

same_part : (parts amount : ℕ) (counts : PartCounts) (part : PartView) → parts ≡ part.parts → amount ≡ part.amount → counts ≡ part.counts → record { parts = parts; amount = amount; counts = counts } ≡ part
same_part parts amount counts part one two three = rw (one, two, three) refl

-- nor does it move a part, save that a mismatch breaks the team
pub refusal_moves_nothing : (op : Op) (refusal : Refusal) (part : PartView) → refusal ≢ Mismatch → part_after op (Refused refusal) part ≡ part
refusal_moves_nothing op refusal part differs =
    let none = no_event_refused op refusal differs in
    same_part _ _ _ part refl (omega (arith, none)) (refusal_counts_nothing op refusal part.counts)

-- Waits

no_event_on_wait : (op : Op) → resumes_wait op ≡ true → events_given op Wait ≡ 0
no_event_on_wait ops.AwaitOwn resumes = refl
no_event_on_wait (ops.AwaitChildren items) resumes = refl
no_event_on_wait ops.AwaitGroup resumes = refl
no_event_on_wait ops.AwaitBarrier resumes = refl
no_event_on_wait _ resumes = absurd (cc)

wait_counts_nothing : (op : Op) (counts : PartCounts) → resumes_wait op ≡ true → counts_after op Wait counts ≡ counts
wait_counts_nothing ops.AwaitOwn counts resumes = same_counts _ _ _ counts (omega arith) (omega arith) (omega arith)
wait_counts_nothing (ops.AwaitChildren items) counts resumes = same_counts _ _ _ counts (omega arith) (omega arith) (omega arith)
wait_counts_nothing ops.AwaitGroup counts resumes = same_counts _ _ _ counts (omega arith) (omega arith) (omega arith)
wait_counts_nothing ops.AwaitBarrier counts resumes = same_counts _ _ _ counts (omega arith) (omega arith) (omega arith)
wait_counts_nothing _ counts resumes = absurd (cc)

-- a wait that goes on moves no part
pub wait_moves_nothing : (op : Op) (part : PartView) → resumes_wait op ≡ true → part_after op Wait part ≡ part
wait_moves_nothing op part resumes =
    let none = no_event_on_wait op resumes in
    same_part _ _ _ part refl (omega (arith, none)) (wait_counts_nothing op part.counts resumes)

-- Of any list of events

-- the ledger counts as many of an operation's events as it gives
pub given_events_are_counted : (limits : Limits) (room kept members m : ℕ) (op : Op) (h : List Event) (reply : Reply)
    → Always (TaskRule members) h → OpAnswer limits room kept members m op h reply → counted_events (op_after m op reply h) ≡ events_given op reply + counted_events h
given_events_are_counted limits room kept members m op h reply rule answer =
    let a = answer_count is_counted m each_kind (counted_tells m) limits room kept members op h reply rule answer in
    let b = all_given op reply in
    omega (arith, a, b)
