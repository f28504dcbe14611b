use Rattle.gomp_run.proofs.answer.run_script.Given as goal

abbrev pub ghosts-run_region-L-Ledger : goal.ghosts-run_region-L-Ledger
ghosts-run_region-L-Ledger g a = record { name = a.blanks.events.name; parts = a.blanks.events.parts }

abbrev pub ghosts-run_region-H-Ledger : goal.ghosts-run_region-H-Ledger
ghosts-run_region-H-Ledger g a = record { name = a.blanks.held.name; parts = a.blanks.held.parts }

abbrev pub ghosts-run_region-H-HoldLedger : goal.ghosts-run_region-H-HoldLedger
ghosts-run_region-H-HoldLedger g a = record { before = 0 }

abbrev pub ghosts-run_region-F-Ledger : goal.ghosts-run_region-F-Ledger
ghosts-run_region-F-Ledger g a = record { name = a.blanks.freed.name; parts = a.blanks.freed.parts }
