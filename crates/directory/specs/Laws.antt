-- Statement: which rows the two tables of a directory have, and what they are.
use Rattle.std.specs.Prelude.{ℕ, ◌*◌, ◌/◌, ◌≤◌, ◌<◌, ◌≡◌, ◌↔◌, List, [], length, take, drop, replicate}
use Rattle.directory.specs.Counters.{superblock_row, block_row, superblock_rows, block_rows}

-- a table has 256 numbers a row, and holds row r of the rows f exactly if r times the span is at most the number of bytes
pub record RowsOf (f : ℕ → List ℕ) (span : ℕ) (bytes table : List ℕ) : Type 0 where
  pub whole : length table ≡ length table / 256 * 256
  pub here : (r : ℕ) → (r < length table / 256) ↔ (r * span ≤ length bytes)
  pub row : (r : ℕ) → r * span ≤ length bytes → take 256 (drop (r * 256) table) ≡ f r

pub record RowsExact : Type 0 where
  -- a superblock row for each r with r × S ≤ L, and no other
  pub superblocks :
      (block per : ℕ) (bytes : List ℕ) → 1 ≤ block → 1 ≤ per →
      RowsOf (superblock_row block per bytes) (block * per) bytes (superblock_rows block per bytes)
  -- a block row for each r with r × B ≤ L, and no other
  pub blocks :
      (block per : ℕ) (bytes : List ℕ) → 1 ≤ block →
      RowsOf (block_row block per bytes) block bytes (block_rows block per bytes)
  -- no bytes have one row of zeros in each table
  pub empty : (block per : ℕ) → (superblock_rows block per [] ≡ replicate 256 0) × (block_rows block per [] ≡ replicate 256 0)
