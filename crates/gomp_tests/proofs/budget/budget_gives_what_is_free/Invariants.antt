use Rattle.gomp_tests.proofs.budget.budget_gives_what_is_free.Given as goal

abbrev pub ghosts-gifts_of_four : goal.ghosts-gifts_of_four
ghosts-gifts_of_four g a = record { name = a.blank.name; parts = a.blank.parts }
