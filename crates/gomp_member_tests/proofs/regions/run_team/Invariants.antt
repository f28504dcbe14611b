use Rattle.gomp_team_region.specs.Regions.{seats_of}
use Rattle.gomp_member_tests.specs.Seats.{first_size, first_table}
use Rattle.gomp_member_tests.proofs.regions.run_team.Given as goal

-- the members' ring is that of the first of them
abbrev pub ghosts-walk_all : goal.ghosts-walk_all
ghosts-walk_all g a = record { table = first_table (seats_of a.members.items); members = first_size (seats_of a.members.items) }
