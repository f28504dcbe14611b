-- What a member knows of itself, and whether it has room for a task that it starts. (own)
use Rattle.std.specs.Prelude.{Bool}
use Rattle.gomp_types.specs.declared.reply.Reply.{Reply}
use Rattle.gomp_types.specs.declared.reply.Reply.TheVariants.{Run}
use Rattle.gomp_member.specs.Own.{OwnView}

pub record StateView : Type 0 where
  -- what it knows
  pub own : OwnView
  -- whether there is memory for one more task that it starts
  pub room : Bool

-- a reply by which a member starts a task
abbrev pub StartsTask : Reply → Type 0
StartsTask (Run task code arg own) = Unit {0}
StartsTask reply = ⊥
