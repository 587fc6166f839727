-- What the numbers of a directory say: of superblock row q, of block row r, and of the two together. Assumes nothing.
use Prim.Native.Nat.{ℕ, suc, ◌+◌, ◌-◌, ◌*◌, ◌/◌, ◌≤◌, ◌<◌}
use mathlib.Core.Path.{◌≡◌, sym, ap, ◌∙◌}
use mathlib.Core.Bool.{true, false}
use mathlib.Core.List.{List, [], flatten}
use native.Mathlib.Nat.{le_trans, zero-div, div-mul-le_self, mul-le-mul_right, le-mul_of_pos_right, mul-pos, mul_assoc, mul_comm, add-mul, one-mul, suc-mul, mul-div_cancel, div-eq_of_lt-le}
use native.Mathlib.Omega.{arith}
use lib.ListN.{length, get_or, take, drop, replicate, get_or-replicate}
use lib.Seq.{slice, ext_get_or, take-nil, drop-nil}
use Rattle.base.specs.Lists.{count_of, same}
use Rattle.base.specs.Texts.{max_superblock}
use Rattle.base.proofs.Tests.{and_left, and_right, and_true, false_of}
use Rattle.base.proofs.Lists.{same_yes, same_true}
use Rattle.base.proofs.Counts.{count_slice, count_part}
use Rattle.base.proofs.Ranges.{length_map_range, get_d-map_range}
use Rattle.directory.specs.Counters.{row, superblock_row, block_row, superblock_rows, block_rows, is_directory, Directory, max_bytes, Sizes}
use Rattle.directory.specs.Tables.{first_rows}
use Rattle.base.proofs.Parts.{quotient_inside}
use Rattle.directory.proofs.FirstRows.{first_rows_suc, first_rows_length, first_rows_at}

-- ---- one row

-- a row has 256 numbers
pub row_length : (bytes : List ℕ) → length (row bytes) ≡ 256
unfolding row
row_length bytes = length_map_range (λ (e : ℕ). count_of e bytes) 0 256

-- number x of a row
pub row_at : (bytes : List ℕ) (x : ℕ) → x < 256 → get_or (row bytes) x 0 ≡ count_of x bytes
unfolding row
row_at bytes x h = get_d-map_range (λ (e : ℕ). count_of e bytes) 256 x 0 h

-- no byte
pub row_none : row [] ≡ replicate 256 0
row_none = ext_get_or 0 (row []) (replicate 256 0) (row_length []) (λ x h.
    let l : x < 256 = omega (arith, row_length []) in
    row_at [] x l ∙ sym (get_or-replicate {A = ℕ} 256 x 0 0 l))

module _ (block per : ℕ) (bytes : List ℕ) (r : ℕ) where
  -- a superblock row has 256 numbers
  pub superblock_row_length : length (superblock_row block per bytes r) ≡ 256
  unfolding superblock_row
  superblock_row_length = row_length _

  -- and so has a block row
  pub block_row_length : length (block_row block per bytes r) ≡ 256
  unfolding block_row
  block_row_length = row_length _

-- ---- blocks and superblocks

-- the start of superblock q is that of its first block
pub first_block : (block per q : ℕ) → q * per * block ≡ q * (block * per)
first_block block per q = mul_assoc q per block ∙ ap (λ (n : ℕ). q * n) (mul_comm per block)

-- the end of superblock q is the start of the next
pub next_block : (block per q : ℕ) → (q * per + per) * block ≡ suc q * (block * per)
next_block block per q = ap (λ (n : ℕ). n * block) (sym (suc-mul q per)) ∙ first_block block per (suc q)

-- the superblock of block r starts at it or before it
pub start_before : (block per r : ℕ) → r / per * (block * per) ≤ r * block
start_before block per r = rw (first_block block per (r / per)) at (mul-le-mul_right block (div-mul-le_self r per))

-- a block row from the first to before the first of the next superblock is in superblock q
pub in_superblock : (per q r : ℕ) → q * per ≤ r → r < q * per + per → r / per ≡ q
in_superblock per q r h l = div-eq_of_lt-le per h (rw (add-mul q 1 per, one-mul per) l)

module _ {block per : ℕ} {bytes : List ℕ} (sizes : Sizes block per bytes) where
  -- a superblock has a byte
  pub superblock_some : 1 ≤ block * per
  superblock_some = mul-pos sizes.block_some sizes.per_some

  -- the block length is a small number
  pub block_most : block ≤ max_superblock
  block_most = le_trans (le-mul_of_pos_right block sizes.per_some) sizes.superblock_most

  -- and so are the block rows of a superblock that is there
  pub rows_most : (q : ℕ) → q * (block * per) ≤ length bytes → q * per + per ≤ max_bytes + max_superblock
  rows_most q here =
      omega (
        arith,
        rw (first_block block per q) at (le-mul_of_pos_right (q * per) sizes.block_some),
        rw (mul_comm per block) at (le-mul_of_pos_right per sizes.block_some),
        sizes.superblock_most,
        sizes.bytes_most,
      )

-- ---- a table: a row of 256 numbers for each r with r × m at most n

module _ (f : ℕ → List ℕ) (wide : (r : ℕ) → length (f r) ≡ 256) (m n : ℕ) (some : 1 ≤ m) (table : List ℕ) (is : table ≡ first_rows f (suc (n / m))) where
  -- it has 256 numbers a row
  pub table_length : length table ≡ suc (n / m) * 256
  table_length = ap length is ∙ first_rows_length f 256 wide (suc (n / m))

  -- it has a row for each r
  pub table_rows : length table / 256 ≡ suc (n / m)
  table_rows = ap (λ (l : ℕ). l / 256) table_length ∙ mul-div_cancel (suc (n / m)) (omega arith)

  module _ (r x : ℕ) (here : r * m ≤ n) (byte : x < 256) where
    -- number x of row r is inside
    pub table_inside : r * 256 + x < length table
    table_inside = omega (arith, table_length, quotient_inside n m r some here)

    -- number x of row r
    pub table_at : get_or table (r * 256 + x) 0 ≡ get_or (f r) x 0
    table_at = ap (λ (l : List ℕ). get_or l (r * 256 + x) 0) is ∙ first_rows_at f 256 wide (suc (n / m)) r x (quotient_inside n m r some here) byte

-- ---- the two tables of a directory

module _ (block per : ℕ) (bytes : List ℕ) where
  -- the superblock rows have 256 numbers for each r with r × S ≤ L
  pub superblock_rows_length : length (superblock_rows block per bytes) ≡ suc (length bytes / (block * per)) * 256
  unfolding superblock_rows
  superblock_rows_length = first_rows_length (superblock_row block per bytes) 256 (superblock_row_length block per bytes) (suc (length bytes / (block * per)))

  -- and the block rows for each r with r × B ≤ L
  pub block_rows_length : length (block_rows block per bytes) ≡ suc (length bytes / block) * 256
  unfolding block_rows
  block_rows_length = first_rows_length (block_row block per bytes) 256 (block_row_length block per bytes) (suc (length bytes / block))

  -- two slices that are the rows pass the test of a directory
  pub is_directory_lem : (superblocks blocks : List ℕ) → Directory block per bytes superblocks blocks → is_directory block per bytes superblocks blocks ≡ true
  unfolding is_directory
  is_directory_lem superblocks blocks d =
      and_true (same superblocks (superblock_rows block per bytes)) (same blocks (block_rows block per bytes))
      (same_yes superblocks (superblock_rows block per bytes) d.superblocks_are) (same_yes blocks (block_rows block per bytes) d.blocks_are)

  -- and two slices that pass it are the rows
  pub directory_of : (superblocks blocks : List ℕ) → is_directory block per bytes superblocks blocks ≡ true → Directory block per bytes superblocks blocks
  unfolding is_directory
  directory_of superblocks blocks e = record {
    superblocks_are = same_true superblocks (superblock_rows block per bytes) (and_left (same superblocks (superblock_rows block per bytes)) (same blocks (block_rows block per bytes)) e);
    blocks_are = same_true blocks (block_rows block per bytes) (and_right (same superblocks (superblock_rows block per bytes)) (same blocks (block_rows block per bytes)) e);
  }

-- empty bytes have one row of zeros in each table
pub empty_rows : (block per : ℕ) → (superblock_rows block per [] ≡ replicate 256 0) × (block_rows block per [] ≡ replicate 256 0)
unfolding flatten superblock_rows block_rows superblock_row block_row
empty_rows block per = (
  one (superblock_row block per []) (block * per) (ap row (take-nil (0 * (block * per)))),
  one (block_row block per []) block (ap row (ap (drop (0 / per * (block * per))) (take-nil (0 * block)) ∙ drop-nil (0 / per * (block * per)))),
)
  where
    one : (f : ℕ → List ℕ) (m : ℕ) → f 0 ≡ row [] → first_rows f (suc (0 / m)) ≡ replicate 256 0
    one f m e = ap (λ (n : ℕ). first_rows f (suc n)) (zero-div m) ∙ first_rows_suc f 0 ∙ e ∙ row_none

-- two slices that are not the rows fail the test
pub not_directory : (block per : ℕ) (bytes superblocks blocks : List ℕ) → (Directory block per bytes superblocks blocks → ⊥) → is_directory block per bytes superblocks blocks ≡ false
not_directory block per bytes superblocks blocks n = false_of (is_directory block per bytes superblocks blocks) (λ e. n (directory_of block per bytes superblocks blocks e))

-- ---- the numbers of a directory

module _ {block per : ℕ} {bytes superblocks blocks : List ℕ} (sizes : Sizes block per bytes) (directory : Directory block per bytes superblocks blocks) where
  superblocks_table : superblocks ≡ first_rows (superblock_row block per bytes) (suc (length bytes / (block * per)))
  unfolding superblock_rows
  superblocks_table = directory.superblocks_are

  blocks_table : blocks ≡ first_rows (block_row block per bytes) (suc (length bytes / block))
  unfolding block_rows
  blocks_table = directory.blocks_are

  -- there is a superblock row for each r with r × S ≤ L
  pub superblock_rows_lem : length superblocks / 256 ≡ suc (length bytes / (block * per))
  superblock_rows_lem = table_rows (superblock_row block per bytes) (superblock_row_length block per bytes) (block * per) (length bytes) (superblock_some sizes) superblocks superblocks_table

  -- and a block row for each r with r × B ≤ L
  pub block_rows_lem : length blocks / 256 ≡ suc (length bytes / block)
  block_rows_lem = table_rows (block_row block per bytes) (block_row_length block per bytes) block (length bytes) sizes.block_some blocks blocks_table

  module _ (q x : ℕ) (here : q * (block * per) ≤ length bytes) (byte : x < 256) where
    -- the number of x in superblock row q is inside
    pub superblock_inside : q * 256 + x < length superblocks
    superblock_inside = table_inside (superblock_row block per bytes) (superblock_row_length block per bytes) (block * per) (length bytes) (superblock_some sizes) superblocks superblocks_table q x here byte

    -- superblock row q counts the bytes before superblock q
    pub superblock_is : get_or superblocks (q * 256 + x) 0 ≡ count_of x (take (q * (block * per)) bytes)
    unfolding superblock_row
    superblock_is =
        table_at (superblock_row block per bytes) (superblock_row_length block per bytes) (block * per) (length bytes) (superblock_some sizes) superblocks superblocks_table q x here byte
        ∙ row_at (take (q * (block * per)) bytes) x byte

  module _ (r x : ℕ) (here : r * block ≤ length bytes) (byte : x < 256) where
    -- the number of x in block row r is inside
    pub block_inside : r * 256 + x < length blocks
    block_inside = table_inside (block_row block per bytes) (block_row_length block per bytes) block (length bytes) sizes.block_some blocks blocks_table r x here byte

    -- block row r counts the bytes from the start of its superblock to block r
    pub block_is : get_or blocks (r * 256 + x) 0 ≡ count_of x (slice (r / per * (block * per)) (r * block) bytes)
    unfolding block_row
    block_is =
        table_at (block_row block per bytes) (block_row_length block per bytes) block (length bytes) sizes.block_some blocks blocks_table r x here byte
        ∙ row_at (slice (r / per * (block * per)) (r * block) bytes) x byte

    -- the two numbers together count the bytes before block r
    pub both_are : get_or superblocks (r / per * 256 + x) 0 + get_or blocks (r * 256 + x) 0 ≡ count_of x (take (r * block) bytes)
    both_are =
        omega (
          arith,
          superblock_is (r / per) x (le_trans (start_before block per r) here) byte,
          block_is,
          count_slice x (r / per * (block * per)) (r * block) bytes (start_before block per r),
        )

  module _ (i x : ℕ) (here : i ≤ length bytes) (byte : x < 256) where
    -- the block of position i starts within the bytes
    pub block_here : i / block * block ≤ length bytes
    block_here = omega (arith, div-mul-le_self i block)

    -- and so does its superblock
    pub superblock_here : i / block / per * (block * per) ≤ length bytes
    superblock_here = le_trans (start_before block per (i / block)) block_here

    -- the two numbers and those of the block before position i count the bytes before it
    pub parts_are :
        get_or superblocks (i / block / per * 256 + x) 0 + get_or blocks (i / block * 256 + x) 0 + count_of x (take (i - i / block * block) (drop (i / block * block) bytes))
        ≡ count_of x (take i bytes)
    parts_are =
        let start = i / block * block in
        let e : start + (i - start) ≡ i = omega (arith, div-mul-le_self i block) in
        rw (both_are (i / block) x block_here byte, ← count_part x start (i - start) bytes, e)
