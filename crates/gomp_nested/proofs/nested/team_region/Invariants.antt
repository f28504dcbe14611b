use Rattle.gomp_nested.proofs.nested.team_region.Given as goal

abbrev pub ghosts-spawned : goal.ghosts-spawned
ghosts-spawned g a = record { name = a.blank.name; parts = a.blank.parts }
