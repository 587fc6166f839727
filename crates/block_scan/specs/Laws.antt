-- Statement: what a scan gives is the occurrence and the bytes through it, and nothing behind them matters.
use Rattle.std.specs.Prelude.{ℕ, suc, ◌≤◌, ◌<◌, ◌≡◌, List, ◌++◌, length, take, get_or, Some, None}
use Rattle.base.specs.Lists.{count_of}
use Rattle.block_scan.specs.BlockScans.{scan_of}

pub record ScanExact (x j : ℕ) (block : List ℕ) : Type 0 where
  -- in a block with more than j of x the position is that of an x with j others before it, and the bytes through it are read
  pub found :
      j < count_of x block →
      (p : ℕ) × (p < length block) × (get_or block p 0 ≡ x) × (count_of x (take p block) ≡ j)
      × (scan_of x j block ≡ record { stands = Some p; read = suc p })
  -- a block with at most j is read whole, and none is given
  pub none : count_of x block ≤ j → scan_of x j block ≡ record { stands = None; read = length block }
  -- whatever stands behind the bytes that are read, the answer is the same
  pub enough :
      (rest : List ℕ) → j < count_of x block →
      scan_of x j (take (scan_of x j block).read block ++ rest) ≡ scan_of x j block

-- of every byte, ordinal and block
abbrev pub ScansExact : Type 0
ScansExact = (x j : ℕ) (block : List ℕ) → ScanExact x j block
