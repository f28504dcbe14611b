-- What a part counts is of the events that its amount has, and these are no more than a history has.
use Rattle.std.proofs.Common.{◌≡◌, ℕ, ◌+◌, ◌≤◌, Bool, true, false, List, [], ◌∷◌, length, refl, cond, arith}
use Rattle.std.specs.Prelude.{if◌then◌else◌}
use Rattle.std.specs.List.{count_by}
use Rattle.std.proofs.lemmas.List.Recursion.{is_count_by}
use Rattle.gomp_types.specs.declared.refusal.Refusal.TheVariants.{Mismatch}
use Rattle.gomp_types.specs.declared.reply.Reply.{Reply}
use Rattle.gomp_types.specs.declared.reply.Reply.TheVariants.{Refused}
use Rattle.gomp_events.specs.declared.event.Event.{Event}
use Rattle.gomp_board.specs.declared.op.Op.{Op}
use Rattle.gomp_board.specs.declared.op.Op.TheVariants as ops
use Rattle.gomp_team_board.specs.Counts.{events_with, creations_given, passes_given, starts_given, events_given}

-- the counts of a reply are of events that it gives
pub reply_fits : (op : Op) (reply : Reply) → creations_given op reply + passes_given op reply + starts_given reply ≤ events_given op reply
reply_fits (ops.Create desc) (Refused Mismatch) = omega arith
reply_fits (ops.Create desc) (Refused _) = omega arith
reply_fits (ops.Arrive tag leaving) (Refused Mismatch) = omega arith
reply_fits (ops.Arrive tag leaving) (Refused _) = omega arith
reply_fits _ (Refused Mismatch) = omega arith
reply_fits _ (Refused _) = omega arith
reply_fits op _ = omega arith

-- a test that an event passes once passes no more events than there are
at_most_one : (b : Bool) → (if b then 1 else 0) ≤ 1
at_most_one true = omega arith
at_most_one false = omega arith

pub no_more_than_events : (test : Event → Bool) (h : List Event) → events_with test h ≤ length h
no_more_than_events test [] = omega arith
no_more_than_events test (event ∷ h) = let one = at_most_one (test event) in let more = no_more_than_events test h in omega (arith, one, more)

-- how many pass it is what std counts
one_event_more : (b : Bool) (n : ℕ) → (if b then 1 else 0) + n ≡ cond b (1 + n) n
one_event_more true n = refl
one_event_more false n = omega arith

pub counted_by : (test : Event → Bool) (h : List Event) → events_with test h ≡ count_by test h
counted_by test h = is_count_by (events_with test) test refl (λ event earlier. one_event_more (test event) (events_with test earlier)) h
