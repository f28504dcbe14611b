use Rattle.std.proofs.Common.{◌≡◌, string_bytes, take}
use Rattle.std.specs.Prelude.{flat_map}
use Rattle.gomp_script.specs.Printing.{reply_line}
use Rattle.gomp_script.proofs.print.print_replies.Given as goal

-- the lines of the replies so far
abbrev pub invariant-loop-reply : goal.invariant-loop-reply
invariant-loop-reply l = string_bytes l.text ≡ flat_map reply_line (take l.reply-index l.replies)
