use Rattle.gomp_depend.proofs.Keeping.{discarded_as_done, discarded_keeps_nothing}
use Rattle.gomp_depend.proofs.depends.Depends.discard.Goals as goal

pub returns : goal.returns
returns c = record {
  freed = λ h m st is its. c.complete.ensures.freed h m st is its;
  waiting = c.complete.ensures.waiting;
  stands = λ h m st is its. discarded_as_done c.complete.new.self c.args.task m h (c.complete.ensures.stands h m st is its);
  gone = λ h m st is its. discarded_keeps_nothing c.args.task m c.args.items.now h c.complete.new.self (c.complete.ensures.gone h m st is its);
}
