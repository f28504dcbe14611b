-- What the parts of a team end as, once the book with them was lent. (own)
use Rattle.std.specs.Prelude.{ℕ}
use Rattle.std.specs.Borrow.{Lends, Fml, RattleType, MutBor}
use Rattle.std.specs.declared.sync.ledger.Ledger.{Ghosts}
use Rattle.gomp_team_region.specs.declared.book_share.BookShare.{BookShare}
use Rattle.gomp_team_region.specs.contracts.book_share.BookShare.{the_row as share_row}
use Rattle.gomp_nested.specs.Ledgers.{PartsView}
use Rattle.gomp_nested.specs.contracts.pool.TeamParts.{the_row as parts_row}

-- they are those of the share that is left behind the borrow
module _ (H F : RattleType) (before : ℕ) (ledgers : Ghosts H.Denot × Ghosts F.Denot) where
  abbrev pub lends_share : MutBor PartsView → MutBor (BookShare H.Denot F.Denot) → Fml
  lends_share parts share = Lends (parts_row H F (record { before = before }) ledgers.0 ledgers.1) (share_row H F (record { before = before }) ledgers.0 ledgers.1)
      parts share (λ last. record { held = last.held; freed = last.freed })
