use Rattle.gomp_locks.specs.Book.{open_holds}
use Rattle.gomp_runtime.proofs.sized.sized_region.Given as goal

abbrev pub ghosts-region_with_book-L-Ledger : goal.ghosts-region_with_book-L-Ledger
ghosts-region_with_book-L-Ledger g a = record { name = a.blanks.events.name; parts = a.blanks.events.parts }

abbrev pub ghosts-region_with_book-H-Ledger : goal.ghosts-region_with_book-H-Ledger
ghosts-region_with_book-H-Ledger g a = record { name = a.blanks.held.name; parts = a.blanks.held.parts }

abbrev pub ghosts-region_with_book-H-HoldLedger : goal.ghosts-region_with_book-H-HoldLedger
ghosts-region_with_book-H-HoldLedger g a = record { before = open_holds a.closed.book }

abbrev pub ghosts-region_with_book-F-Ledger : goal.ghosts-region_with_book-F-Ledger
ghosts-region_with_book-F-Ledger g a = record { name = a.blanks.freed.name; parts = a.blanks.freed.parts }
