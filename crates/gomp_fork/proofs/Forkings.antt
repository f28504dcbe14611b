-- Members whose regions went by one relation, went by each that it lies within.
use Rattle.std.proofs.Common.{ℕ, Bool, true, false, List, [], ◌∷◌, Option, Some, None}
use Rattle.gomp_types.specs.declared.reply.Reply.{Reply}
use Rattle.gomp_ompt.specs.declared.tool.Tool.{Ghosts as ToolGhosts}
use Rattle.gomp_course.specs.declared.program.Act.{Act}
use Rattle.gomp_course.specs.declared.program.Act.TheVariants.{Do, Parallel}
use Rattle.gomp_course.specs.declared.program.Program.{Ghosts as ProgramGhosts}
use Rattle.gomp_course.specs.Exchanges.{Exchange}
use Rattle.gomp_course.specs.Runs.{ComesBy, HasRun, ServesIf}
use Rattle.gomp_fork.specs.Teams.{EndView, ForksRelation, IsWithin}

module _ {P T : Type 0} (program : ProgramGhosts P) (tool : ToolGhosts T) (some all : ForksRelation P T) (within : IsWithin some all) where
  served : (nested : Bool) (act : Option Act) (reply : Reply) (before after : EndView P T) → ServesIf program tool some nested act reply before after → ServesIf program tool all nested act reply before after
  served false act reply before after serves = serves
  served true (Some (Parallel num_threads if_clause)) reply before after (tested, tests, has) =
      (tested, tests, record { forked = within (record { num_threads = num_threads; if_clause = if_clause }) _ _ reply has.forked; member_is = has.member_is })
  served true (Some (Do call)) reply before after serves = absurd serves
  served true None reply before after serves = absurd serves

  came : (start end : EndView P T) (exchanges : List Exchange) → ComesBy program tool some start exchanges end → ComesBy program tool all start exchanges end
  came start end [] comes = comes
  came start end (exchange ∷ earlier) (before, comes, goes) = (
    before,
    came start before earlier comes,
    record {
      goes = goes.goes;
      prog = goes.prog;
      asked = goes.asked;
      served = served exchange.nested exchange.act exchange.reply (record (before) { prog = goes.prog }) end goes.served;
    },
  )

  pub ran_within : (start end : EndView P T) (taken : ℕ) → HasRun program tool some start end taken → HasRun program tool all start end taken
  ran_within start end taken ran = record { exchanges = ran.exchanges; came = came start end ran.exchanges ran.came; over = ran.over; taken_is = ran.taken_is }
