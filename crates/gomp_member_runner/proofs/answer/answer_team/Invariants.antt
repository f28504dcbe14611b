use Rattle.gomp_member_runner.proofs.answer.answer_team.Given as goal

abbrev pub ghosts-replies_of-L-Ledger : goal.ghosts-replies_of-L-Ledger
ghosts-replies_of-L-Ledger g a = record { name = a.blanks.events.name; parts = a.blanks.events.parts }

abbrev pub ghosts-replies_of-H-Ledger : goal.ghosts-replies_of-H-Ledger
ghosts-replies_of-H-Ledger g a = record { name = a.blanks.held.name; parts = a.blanks.held.parts }

abbrev pub ghosts-replies_of-H-HoldLedger : goal.ghosts-replies_of-H-HoldLedger
ghosts-replies_of-H-HoldLedger g a = record { before = 0 }

abbrev pub ghosts-replies_of-F-Ledger : goal.ghosts-replies_of-F-Ledger
ghosts-replies_of-F-Ledger g a = record { name = a.blanks.freed.name; parts = a.blanks.freed.parts }
