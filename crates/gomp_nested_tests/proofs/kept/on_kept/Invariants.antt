use Rattle.gomp_nested_tests.proofs.kept.on_kept.Given as goal

abbrev pub ghosts-with_kept-L-Ledger : goal.ghosts-with_kept-L-Ledger
ghosts-with_kept-L-Ledger g a = record { name = a.blanks.events.name; parts = a.blanks.events.parts }

abbrev pub ghosts-with_kept-H-Ledger : goal.ghosts-with_kept-H-Ledger
ghosts-with_kept-H-Ledger g a = record { name = a.blanks.held.name; parts = a.blanks.held.parts }

abbrev pub ghosts-with_kept-H-HoldLedger : goal.ghosts-with_kept-H-HoldLedger
ghosts-with_kept-H-HoldLedger g a = record { before = 0 }

abbrev pub ghosts-with_kept-F-Ledger : goal.ghosts-with_kept-F-Ledger
ghosts-with_kept-F-Ledger g a = record { name = a.blanks.freed.name; parts = a.blanks.freed.parts }
