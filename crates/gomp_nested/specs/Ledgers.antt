-- Ledgers that are not begun yet, and parts of those of the book. (own)
use Rattle.std.specs.Prelude.{ℕ, ◌≡◌}
use Rattle.gomp_team_book.specs.Parts.{BookPartView}

-- one of this name, with as many parts as it is to have
pub record IsLedger (name parts wanted blank_name blank_parts : ℕ) : Type 0 where
  pub name_is : blank_name ≡ name
  pub parts_are : blank_parts ≡ parts
  pub as_wanted : blank_parts ≡ wanted

-- what a team has of the ledger of holds, and of that of releases
pub record PartsView : Type 0 where
  pub held : BookPartView
  pub freed : BookPartView

-- what no team has of them, and how many parts of each there are
pub record PoolView : Type 0 where
  pub left : ℕ
  pub held : BookPartView
  pub freed : BookPartView

-- there are so many of each, and nothing was counted on them: what teams held and freed is counted on parts that their members have, or the members that forked them
pub record IsPool (pool : PoolView) : Type 0 where
  pub held_are : pool.held.parts ≡ pool.left
  pub freed_are : pool.freed.parts ≡ pool.left
  pub none_held : pool.held.amount ≡ 0
  pub none_freed : pool.freed.amount ≡ 0
