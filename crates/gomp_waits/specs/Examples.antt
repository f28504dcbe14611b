-- The first member of a team of two at a board with open waits, with the usual limits, room asked for 5 events, and none kept. (own)
use Rattle.std.specs.Prelude.{◌≡◌, Bool, List, [], ◌∷◌, Option}
use Rattle.gomp_types.specs.declared.refusal.Refusal.{Refusal}
use Rattle.gomp_types.specs.declared.reply.Reply.{Reply}
use Rattle.gomp_events.specs.declared.event.Event.{Event}
use Rattle.gomp_board.specs.declared.op.Op.{Op}
use Rattle.gomp_board.specs.Examples.{usual_limits}
use Rattle.gomp_waits.specs.Waits.{asked_refusal, waits_on, AskedAnswer}

-- why its operation is refused, if its wait is open or not
abbrev pub refusal_amid : Bool → Op → List Event → Option Refusal
refusal_amid waiting op h = asked_refusal (record { limits = usual_limits; room = 5; kept = 0 }) 0 waiting op h

-- it may be answered so, and its wait is then open or not
abbrev pub AnsweredAmid : Bool → Op → List Event → Reply → Bool → Type 0
AnsweredAmid waiting op h reply after = AskedAnswer usual_limits 5 0 2 0 waiting op h reply × (waits_on reply waiting ≡ after)

-- it is not answered so
abbrev pub NeverAmid : Bool → Op → List Event → List Reply → Type 0
NeverAmid waiting op h [] = Unit {0}
NeverAmid waiting op h (reply ∷ replies) = (AskedAnswer usual_limits 5 0 2 0 waiting op h reply → ⊥) × NeverAmid waiting op h replies
