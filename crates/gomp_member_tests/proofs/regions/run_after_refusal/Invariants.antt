use Rattle.gomp_member_tests.proofs.regions.run_after_refusal.Given as goal

abbrev pub ghosts-run_all-L-Ledger : goal.ghosts-run_all-L-Ledger
ghosts-run_all-L-Ledger g a = record { name = a.blanks.events.name; parts = a.blanks.events.parts }

abbrev pub ghosts-run_all-H-Ledger : goal.ghosts-run_all-H-Ledger
ghosts-run_all-H-Ledger g a = record { name = a.blanks.held.name; parts = a.blanks.held.parts }

abbrev pub ghosts-run_all-H-HoldLedger : goal.ghosts-run_all-H-HoldLedger
ghosts-run_all-H-HoldLedger g a = record { before = 0 }

abbrev pub ghosts-run_all-F-Ledger : goal.ghosts-run_all-F-Ledger
ghosts-run_all-F-Ledger g a = record { name = a.blanks.freed.name; parts = a.blanks.freed.parts }
