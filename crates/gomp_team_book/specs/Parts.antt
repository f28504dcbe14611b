-- The part of a ledger that a member has. (own)
use Rattle.std.specs.Prelude.{ℕ, ◌+◌, ◌<◌}

-- a part of a ledger, as data
pub record BookPartView : Type 0 where
  -- it is so many parts of the ledger
  pub parts : ℕ
  -- so much was counted on it
  pub amount : ℕ

-- what holds of every part: it is some part
abbrev pub IsSomePart : BookPartView → Type 0
IsSomePart part = 0 < part.parts

-- so many parts, on which nothing was counted
abbrev pub new_book_part : ℕ → BookPartView
new_book_part parts = record { parts = parts; amount = 0 }

-- as many parts, and so much more counted on them
abbrev pub counted_more : ℕ → BookPartView → BookPartView
counted_more more part = record { parts = part.parts; amount = part.amount + more }

-- two parts in one
abbrev pub merged_book_part : BookPartView → BookPartView → BookPartView
merged_book_part part other = record { parts = part.parts + other.parts; amount = part.amount + other.amount }
