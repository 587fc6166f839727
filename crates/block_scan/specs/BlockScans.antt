-- The scan of one block for the occurrence of a byte that has j others before it.
use Rattle.std.specs.Prelude.{ℕ, suc, ◌+◌, ◌≤◌, ◌≡◌, cond, List, ltb, length, take, get_or, Option, Some, None}
use Rattle.std.specs.declared.ops.ControlFlow.{ControlFlow}
use Rattle.std.specs.declared.ops.ControlFlow.TheVariants.{Continue, Break}
use Rattle.base.specs.Lists.{count_of, nth}
use Rattle.block_scan.specs.declared.Scanned.{Scanned}
use Rattle.block_scan.specs.declared.Progress.{Progress}

-- what the scan of a block for the x with j others before it gives: its position, and the number of bytes from the block's start through
-- it, which are read; where the block has at most j of x, none, and the whole block is read
unfoldable pub scan_of : ℕ → ℕ → List ℕ → Scanned
scan_of x j block =
    cond (ltb j (count_of x block))
    (record { stands = Some (nth x j block); read = suc (nth x j block) })
    (record { stands = None; read = length block })

-- the position that is sought, in a block of n bytes: n where it is nowhere
abbrev pub position_of : Option ℕ → ℕ → ℕ
position_of (Some p) n = p
position_of None n = n

-- how far a scan has come: so many bytes are read, and the x among them, with those left to pass, are j
pub record ReadSoFar (x j : ℕ) (block : List ℕ) (p : Progress) : Type 0 where
  pub inside : p.read ≤ length block
  pub passed : count_of x (take p.read block) + p.left ≡ j

-- bytes were read on from a position, and the last of them is the first x since
pub record Met (x from : ℕ) (block : List ℕ) (read : ℕ) : Type 0 where
  pub at : ℕ
  pub onward : from ≤ at
  pub last : read ≡ suc at
  pub inside : read ≤ length block
  pub stands : get_or block at 0 ≡ x
  pub before : count_of x (take at block) ≡ count_of x (take from block)

-- bytes were read on from a position, and none of them is x
pub record Clear (x from : ℕ) (block : List ℕ) (read : ℕ) : Type 0 where
  pub onward : from ≤ read
  pub inside : read ≤ length block
  pub none : count_of x (take read block) ≡ count_of x (take from block)

-- bytes were read on from a position: the last of them is the first x since, or there was none
abbrev pub Looked : ℕ → ℕ → List ℕ → ControlFlow ℕ ℕ → Type 0
Looked x from block (Break read) = Met x from block read
Looked x from block (Continue read) = Clear x from block read

-- the number of bytes that were read
abbrev pub read_of : ControlFlow ℕ ℕ → ℕ
read_of (Break read) = read
read_of (Continue read) = read
