use Rattle.gomp_depend.proofs.depends.Depends.new.Goals as goal

pub returns : goal.returns
returns c = record {
  stands = record { order = tt; books = record { stand = λ p a. c.new.ensures p a 1; agree = λ t. c.new-2.ensures.rows t } };
  freed = λ t. c.new-2.ensures.freed t;
  waiting = c.new-2.ensures.listed;
}
