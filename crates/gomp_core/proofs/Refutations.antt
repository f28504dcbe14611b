-- What a step keeps of a team, of any team, call and refusal: a lemma for each line of `Keeps` that speaks of a reply.
use Rattle.std.proofs.Common.{◌≡◌, ◌≢◌, refl}
use Rattle.gomp_types.specs.declared.call.Call.{Call}
use Rattle.gomp_types.specs.declared.call.Call.TheVariants.{Resume}
use Rattle.gomp_types.specs.declared.refusal.Refusal.{Refusal}
use Rattle.gomp_types.specs.declared.refusal.Refusal.TheVariants.{Mismatch, NoMemory}
use Rattle.gomp_types.specs.declared.reply.Reply.TheVariants.{Wait, Refused}
use Rattle.gomp_board.specs.Boards.{IsSame}
use Rattle.gomp_core.specs.Stands.{TeamView, Keeps, BreaksBoard}

-- a refused step keeps all of the team, whatever refuses it but want of memory and a mismatch
pub refused_step_keeps_the_team : {S : Type 0} (team after : TeamView S) (call : Call) (refusal : Refusal) → refusal ≢ Mismatch → refusal ≢ NoMemory → Keeps team after call (Refused refusal) → after ≡ team
refused_step_keeps_the_team team after call refusal other lack keeps = keeps.refused refusal refl other lack

-- want of memory keeps all but the memory that the board has
pub want_of_memory_keeps_all_but_the_board : {S : Type 0} (team after : TeamView S) (call : Call) → Keeps team after call (Refused NoMemory) → (after ≡ record team { board = after.board }) × IsSame team.board after.board
want_of_memory_keeps_all_but_the_board team after call keeps = keeps.lacks refl

-- a mismatch keeps all but the break on the board
pub mismatch_keeps_all_but_the_board : {S : Type 0} (team after : TeamView S) (call : Call) → Keeps team after call (Refused Mismatch) → (after ≡ record team { board = after.board }) × BreaksBoard team.board after.board
mismatch_keeps_all_but_the_board team after call keeps = keeps.broken refl

-- and a resume that waits on keeps all
pub waiting_resume_keeps_the_team : {S : Type 0} (team after : TeamView S) → Keeps team after Resume Wait → after ≡ team
waiting_resume_keeps_the_team team after keeps = keeps.waits refl refl
