use Rattle.std.proofs.Common.{◌+◌, ◌*◌}
use Rattle.gomp_tasks.proofs.tasks.+release.Given as goal

abbrev pub decreases-release : goal.decreases-release
decreases-release l = 2 * l.task

abbrev pub decreases-release_parent : goal.decreases-release_parent
decreases-release_parent l = 2 * l.parent + 1
