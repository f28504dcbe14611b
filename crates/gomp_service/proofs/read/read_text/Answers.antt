use Rattle.std.proofs.lemmas.Grind.{common_steps}
use Rattle.std.proofs.Common.{rules, ◌≤◌, length, arith}
use Rattle.gomp_service.proofs.ReadLemmas.{read_all}
use Rattle.gomp_service.proofs.read.read_text.Goals as goal

pub returns-clause-whole : goal.returns-clause-whole
returns-clause-whole g c =
    let items = c.read_to_end.new.buf.items in
    let short : length items ≤ c.args.limit = let len = c.len.ensures in let within = c.if-len-limit.false in let ok = c.read_to_end.new.buf.ok in omega arith in
    let bytes = rw (c.new-text.ensures.items, c.take-bounded.ensures.limit, c.take-bounded.ensures.inner) at c.in_default.ensures.bytes in
    read_all c.args.limit (g.R.Read.remaining c.args.reader) items bytes short

pub returns-clause-unread : goal.returns-clause-unread
returns-clause-unread g c = search rules

pub returns-in-Err-clause-unread : goal.returns-in-Err-clause-unread
returns-in-Err-clause-unread g c = search rules

pub returns-in-Err-clause-whole : goal.returns-in-Err-clause-whole
returns-in-Err-clause-whole g c = search rules

pub returns-then-len-limit-clause-unread : goal.returns-then-len-limit-clause-unread
returns-then-len-limit-clause-unread g c = grind (arith, common_steps)

pub returns-then-len-limit-clause-whole : goal.returns-then-len-limit-clause-whole
returns-then-len-limit-clause-whole g c = search rules
