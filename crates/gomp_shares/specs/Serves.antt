-- What the calls of a member on its team's shares promise alike. (own)
use Rattle.std.specs.Prelude.{ℕ, ◌≡◌, ◌++◌, List, Result, Ok, Err}
use Rattle.gomp_events.specs.declared.event.Event.{Event}
use Rattle.gomp_types.specs.declared.refusal.Refusal.{Refusal}
use Rattle.gomp_types.specs.declared.reply.Reply.{Reply}
use Rattle.gomp_types.specs.declared.reply.Reply.TheVariants.{Wait, Refused, Finished}
use Rattle.gomp_events.specs.declared.seen.Seen.{Seen}
use Rattle.gomp_types.specs.Tests.{Test, outcome}
use Rattle.gomp_types.specs.Least.{least}
use Rattle.gomp_events.specs.Seen.{seen_of}
use Rattle.gomp_shares.specs.Calls.{EachStands, left_unless_refused}
use Rattle.gomp_shares.specs.Starts.{leaves}

-- a call that answers a reply: which replies may be given after the events, and the events after a reply
pub record Serves {S : Type 0} (stands : S → List Event → Type 0) (before after : S) (reply : Reply) (May : Reply → List Event → Type 0) (then_given : Reply → List Event → List Event) : Type 0 where
  -- the shares stand for some events
  pub known : (h : List Event) × stands before h
  -- after each list of events that they stand for, the reply is one that may be given
  pub answer : EachStands (stands before) (May reply)
  -- and they then stand for the events after it
  pub stands_for : EachStands (stands before) (λ h. stands after (then_given reply h))
  -- a refusal changes nothing
  pub kept : (refusal : Refusal) → reply ≡ Refused refusal → after ≡ before
  -- nor does a wait
  pub waits : reply ≡ Wait → after ≡ before

-- the end of a single, which has a part above the shares: it is refused by the least of these tests that holds, and else the member has left its share
pub record LeavesConstruct {S : Type 0} (stands : S → List Event → Type 0) (before after : S) (result : Result (Unit {0}) Refusal) (tests : Seen → List Test) (m : ℕ) : Type 0 where
  pub known : (h : List Event) × stands before h
  pub answer : EachStands (stands before) (λ h. result ≡ outcome (least (tests (seen_of m h))) tt)
  pub stands_for : EachStands (stands before) (λ h. stands after (left_unless_refused result m h))
  pub kept : (refusal : Refusal) → result ≡ Err refusal → after ≡ before

-- the events after a member has ended its loop or sections, or was refused
abbrev pub ended_unless_refused : {A : Type 0} → Result A Refusal → ℕ → List Event → List Event
ended_unless_refused (Ok done) m h = leaves m h ++ h
ended_unless_refused (Err refusal) m h = h

-- the end of a loop or sections, which has a part above the shares: it is refused by the least of these tests that holds, and else the member has left its share
pub record Ends {S : Type 0} (stands : S → List Event → Type 0) (before after : S) (result : Result (Unit {0}) Refusal) (tests : ℕ → List Event → List Test) (m : ℕ) : Type 0 where
  pub known : (h : List Event) × stands before h
  pub answer : EachStands (stands before) (λ h. result ≡ outcome (least (tests m h)) tt)
  pub stands_for : EachStands (stands before) (λ h. stands after (ended_unless_refused result m h))
  pub kept : (found : Refusal) → result ≡ Err found → after ≡ before

-- the answer of a call that is done at once, since its tests let it
abbrev pub IsDone : Reply → List Event → Type 0
IsDone reply h = reply ≡ Finished
