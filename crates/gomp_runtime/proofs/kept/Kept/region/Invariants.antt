use Rattle.gomp_runtime.proofs.kept.Kept.region.Given as goal

abbrev pub ghosts-outermost : goal.ghosts-outermost
ghosts-outermost g a = record { name = a.ground.threads.blank.name; parts = a.ground.threads.blank.parts }
