-- Which rows the two tables of a directory have, and what they are. Assumes nothing.
use Prim.Native.Nat.{ℕ, suc, ◌*◌, ◌/◌, ◌≤◌}
use mathlib.Core.Path.{◌≡◌, refl}
use mathlib.Core.List.{List}
use native.Mathlib.Nat.{le-div_iff_mul-le, mul-pos}
use native.Mathlib.Omega.{arith}
use lib.ListN.{length}
use Rattle.base.proofs.Parts.{quotient_inside}
use Rattle.directory.specs.Counters.{superblock_row, block_row, superblock_rows, block_rows}
use Rattle.directory.specs.Tables.{first_rows}
use Rattle.directory.specs.Laws.{RowsOf, RowsExact}
use Rattle.directory.proofs.FirstRows.{first_rows_row}
use Rattle.directory.proofs.Rows.{superblock_row_length, block_row_length, table_length, table_rows, empty_rows}

module _ (f : ℕ → List ℕ) (wide : (r : ℕ) → length (f r) ≡ 256) (m : ℕ) (some : 1 ≤ m) (bytes : List ℕ) where
  -- the first rows, of which there are so many, are the rows
  rows_of : RowsOf f m bytes (first_rows f (suc (length bytes / m)))
  rows_of = record {
    whole = omega (arith, table_length f wide m (length bytes) some table refl, table_rows f wide m (length bytes) some table refl);
    here = λ r. (
      (λ h. (le-div_iff_mul-le some).0 (omega (arith, table_rows f wide m (length bytes) some table refl))),
      (λ h. omega (arith, table_rows f wide m (length bytes) some table refl, quotient_inside (length bytes) m r some h)),
    );
    row = λ r h. first_rows_row f 256 wide (suc (length bytes / m)) r (quotient_inside (length bytes) m r some h);
  }
    where
      table : List ℕ
      table = first_rows f (suc (length bytes / m))

pub rows_exact : RowsExact
unfolding superblock_rows block_rows
rows_exact = record {
  superblocks = λ block per bytes b p. rows_of (superblock_row block per bytes) (superblock_row_length block per bytes) (block * per) (mul-pos b p) bytes;
  blocks = λ block per bytes b. rows_of (block_row block per bytes) (block_row_length block per bytes) block b bytes;
  empty = empty_rows;
}
