-- What a call promises, by what the call promises that it makes: for the crates of the calls above.
use Rattle.std.proofs.Common.{◌≡◌, ℕ, List, Ok, Err, refl, sym}
use Rattle.gomp_events.specs.declared.event.Event.{Event}
use Rattle.gomp_types.specs.declared.refusal.Refusal.{Refusal}
use Rattle.gomp_types.specs.declared.reply.Reply.{Reply}
use Rattle.gomp_types.specs.declared.reply.Reply.TheVariants.{Refused, Finished}
use Rattle.gomp_types.specs.Tests.{Test}
use Rattle.gomp_types.specs.Least.{least, Answers}
use Rattle.gomp_types.proofs.TestRows.{outcome_refused}
use Rattle.gomp_shares.specs.Serves.{Ends, Serves}
use Rattle.gomp_shares.specs.Starts.{left_at_once}
use Rattle.gomp_shares.proofs.Admitted.{outcome_none}

-- a reply that may be given to the call below may be given to this one
pub serves_above : {S : Type 0} (stands : S → List Event → Type 0) (before after : S) (reply : Reply) (Below May : Reply → List Event → Type 0) (below given : Reply → List Event → List Event) →
    ((h : List Event) → stands before h → Below reply h → May reply h) → ((h : List Event) → stands before h → below reply h ≡ given reply h) →
    Serves stands before after reply Below below → Serves stands before after reply May given
serves_above stands before after reply Below May below given may same served = record {
  known = served.known;
  answer = λ h st. may h st (served.answer h st);
  stands_for = λ h st. rw (← same h st) (served.stands_for h st);
  kept = served.kept;
  waits = served.waits;
}

-- a call that its member's own tests refuse changes nothing
pub serves_refused : {S : Type 0} (stands : S → List Event → Type 0) (here : S) (refusal : Refusal) (May : Reply → List Event → Type 0) (given : Reply → List Event → List Event) →
    (h : List Event) × stands here h → ((h : List Event) → stands here h → May (Refused refusal) h) → ((h : List Event) → given (Refused refusal) h ≡ h) →
    Serves stands here here (Refused refusal) May given
serves_refused stands here refusal May given known may same = record {
  known = known;
  answer = may;
  stands_for = λ h st. rw (same h) st;
  kept = λ other is. refl;
  waits = λ is. refl;
}

-- the end of a construct, as a reply

pub end_serves_refused : {S : Type 0} (stands : S → List Event → Type 0) (before after : S) (refusal : Refusal) (tests : ℕ → List Event → List Test) (m : ℕ) →
    Ends stands before after (Err refusal) tests m →
    Serves stands before after (Refused refusal) (λ reply h. Answers (tests m h) (λ given. given ≡ Finished) reply) (left_at_once m)
end_serves_refused stands before after refusal tests m ended = record {
  known = ended.known;
  answer = λ h st. outcome_refused (least (tests m h)) tt refusal (sym (ended.answer h st));
  stands_for = ended.stands_for;
  kept = λ other is. ended.kept refusal refl;
  waits = λ is. absurd (cc);
}

pub end_serves_done : {S : Type 0} (stands : S → List Event → Type 0) (before after : S) (tests : ℕ → List Event → List Test) (m : ℕ) →
    Ends stands before after (Ok tt) tests m →
    Serves stands before after Finished (λ reply h. Answers (tests m h) (λ given. given ≡ Finished) reply) (left_at_once m)
end_serves_done stands before after tests m ended = record {
  known = ended.known;
  answer = λ h st. (sym (outcome_none (least (tests m h)) tt tt (sym (ended.answer h st))), refl);
  stands_for = ended.stands_for;
  kept = λ other is. absurd (cc);
  waits = λ is. absurd (cc);
}
