-- What filling and verifying keep while they pass over the bytes. `block` is B, `per` is b, q a superblock's number and r a block's.
use Rattle.std.specs.Prelude.{ℕ, suc, ◌+◌, ◌*◌, ◌/◌, ◌≤◌, min, ◌≡◌, Bool, true, false, List, map, length, get_or, take, drop}
use Rattle.base.specs.Lists.{range_from}
use Rattle.directory.specs.Counters.{superblock_row, block_row, block_rows}
use Rattle.directory.specs.Tables.{first_rows}

-- 256 sums: for each x below 256 number x of the one list and number x of the other
unfoldable pub sums : List ℕ → List ℕ → List ℕ
sums xs ys = map (λ x. get_or xs x 0 + get_or ys x 0) (range_from 0 256)

-- 256 counters that are kept in two lanes, one behind the other: counter x is the sum of number x of each lane
unfoldable pub counters : List ℕ → List ℕ
counters lanes = sums lanes (drop 256 lanes)

-- the bytes of block r, fewer where the bytes end in it
abbrev pub block_bytes : ℕ → List ℕ → ℕ → List ℕ
block_bytes block bytes r = take block (drop (r * block) bytes)

-- the first block row past superblock q, or past the last block row
abbrev pub rows_end : ℕ → ℕ → ℕ → ℕ → ℕ
rows_end block per n q = min (q * per + per) (suc (n / block))

-- a table begins with the first n of the rows f
abbrev pub BeginsWithRows : (ℕ → List ℕ) → ℕ → List ℕ → Type 0
BeginsWithRows f n table = take (n * 256) table ≡ first_rows f n

-- superblock q is there, the totals are its row, and the block rows begin with those before it
pub record Reached (block per : ℕ) (bytes blocks totals : List ℕ) (q : ℕ) : Type 0 where
  pub here : q * (block * per) ≤ length bytes
  pub total : totals ≡ superblock_row block per bytes q
  pub before : BeginsWithRows (block_row block per bytes) (q * per) blocks

-- true: the block rows of superblock q are there too, and the totals are the next row; false: the list is not the block rows
pub record Passed (block per : ℕ) (bytes blocks totals : List ℕ) (q : ℕ) (r : Bool) : Type 0 where
  pub yes : r ≡ true → BeginsWithRows (block_row block per bytes) (rows_end block per (length bytes) q) blocks × (totals ≡ superblock_row block per bytes (q + 1))
  pub no : r ≡ false → blocks ≡ block_rows block per bytes → ⊥
