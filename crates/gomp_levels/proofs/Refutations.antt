-- What never comes of a region that is forked within the last level.
use Rattle.std.proofs.Common.{◌≢◌}
use Rattle.gomp_types.specs.declared.refusal.Refusal.TheVariants.{TooManyLevels}
use Rattle.gomp_types.specs.declared.reply.Reply.{Reply}
use Rattle.gomp_types.specs.declared.reply.Reply.TheVariants as replies
use Rattle.gomp_course.specs.declared.forking.RegionAsked.{RegionAsked}
use Rattle.gomp_course.specs.Forkers.{ForkerView}
use Rattle.gomp_fork.specs.Counts.{HoldCounts}
use Rattle.gomp_levels.specs.Levels.{NoneForked}

-- another reply than TooManyLevels
pub none_is_forked : {P T : Type 0} (asked : RegionAsked) (before after : ForkerView HoldCounts P T) (reply : Reply) → NoneForked asked before reply after → reply ≢ replies.Refused TooManyLevels → ⊥
none_is_forked asked before after reply forked other = other forked.0
