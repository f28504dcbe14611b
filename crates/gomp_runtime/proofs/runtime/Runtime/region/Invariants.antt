use Rattle.gomp_runtime.proofs.runtime.Runtime.region.Given as goal

abbrev pub ghosts-sized_region : goal.ghosts-sized_region
ghosts-sized_region g a = record { name = a.ground.threads.blank.name; parts = a.ground.threads.blank.parts }
