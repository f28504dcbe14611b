-- The part of a team's ledger that a member holds, with counts of what the member was answered. (own)
use Rattle.std.specs.Prelude.{ℕ, ◌≡◌, ◌+◌, ◌<◌, ◌≤◌, ◌==◌, Bool, false, List}
use Rattle.gomp_types.specs.declared.reply.Reply.{Reply}
use Rattle.gomp_events.specs.declared.event.Event.{Event}
use Rattle.gomp_events.specs.declared.event.Event.TheVariants.{Create, Pass, Start}
use Rattle.gomp_board.specs.declared.op.Op.{Op}
use Rattle.gomp_team_board.specs.declared.part.PartCounts.{PartCounts}
use Rattle.gomp_team_board.specs.Counts.{events_with, creations_given, passes_given, starts_given, events_given}

-- a part of a ledger, as data
pub record PartView : Type 0 where
  -- of so many parts of the ledger
  pub parts : ℕ
  -- so many events are on it
  pub amount : ℕ
  -- so many of these are creations and starts of tasks, and passes of barriers
  pub counts : PartCounts

-- the part of so many parts, with so many events, and these counts
abbrev pub part_of : ℕ → ℕ → PartCounts → PartView
part_of parts amount counts = record { parts = parts; amount = amount; counts = counts }

-- what holds of every part: it is some part, and its counts are of events that its amount has
pub record IsPart (part : PartView) : Type 0 where
  pub some : 0 < part.parts
  pub fits : part.counts.creates + part.counts.passes + part.counts.starts ≤ part.amount

-- nothing was counted
abbrev pub no_counts : PartCounts
no_counts = record { creates = 0; passes = 0; starts = 0 }

-- a part of a member that was answered nothing
abbrev pub new_part : ℕ → ℕ → PartView
new_part parts amount = part_of parts amount no_counts

-- the counts after an operation and its reply
abbrev pub counts_after : Op → Reply → PartCounts → PartCounts
counts_after op reply counts = record {
  creates = counts.creates + creations_given op reply;
  passes = counts.passes + passes_given op reply;
  starts = counts.starts + starts_given reply;
}

-- the part after an operation and its reply: as many parts, and the events that these give
abbrev pub part_after : Op → Reply → PartView → PartView
part_after op reply part = record {
  parts = part.parts;
  amount = part.amount + events_given op reply;
  counts = counts_after op reply part.counts;
}

-- a part that has taken in another: its parts and its amount, and none of its counts
abbrev pub merged_part : PartView → PartView → PartView
merged_part part other = record {
  parts = part.parts + other.parts;
  amount = part.amount + other.amount;
  counts = part.counts;
}

-- a ledger that no team has: nothing is on it, and its share, which has some part, has no event
pub record IsAtRest (total parts amount : ℕ) : Type 0 where
  pub total_none : total ≡ 0
  pub amount_none : amount ≡ 0
  pub some : 0 < parts

-- In a list of events

-- the member created a task
abbrev pub is_creation : ℕ → Event → Bool
is_creation m (Create task by parent desc) = by == m
is_creation m _ = false

-- it passed a barrier
abbrev pub is_pass : ℕ → Event → Bool
is_pass m (Pass barrier by) = by == m
is_pass m _ = false

-- it started a task
abbrev pub is_start : ℕ → Event → Bool
is_start m (Start task by) = by == m
is_start m _ = false

-- how many of each the member has in a history
abbrev pub counts_in : ℕ → List Event → PartCounts
counts_in m history = record {
  creates = events_with (is_creation m) history;
  passes = events_with (is_pass m) history;
  starts = events_with (is_start m) history;
}
