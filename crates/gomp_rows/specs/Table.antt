-- How a table keeps its rows. No public clause cites this module. (own)
use Rattle.std.specs.Prelude.{ℕ, ◌<◌, ◌≤◌, ◌≡◌, ◌++◌, List, Option, None, length, replicate, slice_index_or, slice_set}
use Rattle.std.proofs.Common.{suc, zero}
use Rattle.slab.specs.Slab.{Slab, get, ContainsKey}
use Rattle.gomp_rows.specs.declared.rows.TheConstants.{MAX_ROWS}

-- for each number, in order, one more than the key of its row, or 0: those of the lowest numbers, which are 0, are not stored
abbrev pub all_keys : ℕ → List ℕ → List ℕ
all_keys base keys = replicate base 0 ++ keys

-- that of one number
abbrev pub key_at : List ℕ → ℕ → ℕ
key_at all zero = 0
key_at all (suc place) = slice_index_or all place 0

-- the keys with 0 for one number
abbrev pub without_key : List ℕ → ℕ → List ℕ
without_key all zero = all
without_key all (suc place) = slice_set all place 0

-- the row that it leads to
abbrev pub kept : {T : Type 0} → Slab T → ℕ → Option T
kept slab zero = None
kept slab (suc key) = get slab key

-- each number that has a key has a row, no two have one key, each row stands under a number, and there are not too many
pub record IsTable {T : Type 0} (slab : Slab T) (all : List ℕ) : Type 0 where
  pub there : (place key : ℕ) → slice_index_or all place 0 ≡ suc key → ContainsKey slab key
  pub apart : (place other key : ℕ) → slice_index_or all place 0 ≡ suc key → slice_index_or all other 0 ≡ suc key → place ≡ other
  pub only : (key : ℕ) → ContainsKey slab key → (place : ℕ) × (slice_index_or all place 0 ≡ suc key)
  pub few : length all ≤ MAX_ROWS

-- so many of the stored keys, the first, are 0
abbrev pub StartsDead : ℕ → List ℕ → Type 0
StartsDead dead keys = (dead ≤ length keys) × ((place : ℕ) → place < dead → slice_index_or keys place 0 ≡ 0)

-- and the one after them, if there is one, is not
abbrev pub IsFront : ℕ → List ℕ → Type 0
IsFront dead keys = StartsDead dead keys × (dead < length keys → 0 < slice_index_or keys dead 0)
