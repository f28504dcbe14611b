-- A call that may go on is answered, and one that may not waits. (own)
use Rattle.std.specs.Prelude.{◌≡◌, Bool, true, false}
use Rattle.gomp_types.specs.declared.reply.Reply.{Reply}
use Rattle.gomp_types.specs.declared.reply.Reply.TheVariants.{Wait}

-- the answer to one that may go on, or may not: so, or to wait
abbrev pub AnsweredOrWaits : Bool → (Reply → Type 0) → Reply → Type 0
AnsweredOrWaits true Given reply = Given reply
AnsweredOrWaits false Given reply = reply ≡ Wait
