use Rattle.std.proofs.Common.{◌≡◌, drop}
use Rattle.gomp_service.specs.Statuses.{status_of}
use Rattle.gomp_service.proofs.answer.status_of.Given as goal

-- the replies that are left decide
abbrev pub invariant-loop-reply : goal.invariant-loop-reply
invariant-loop-reply l = status_of (drop l.reply-index l.replies) ≡ status_of l.replies
