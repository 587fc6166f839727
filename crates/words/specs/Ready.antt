-- What the functions of this crate require: arrays that have passed the check, and where their nodes start.
use Rattle.std.specs.Prelude.{ℕ, suc, ◌-◌, ◌≤◌, ◌<◌, ◌≡◌, true, List, length, take, drop, get_or}
use Rattle.dense.specs.Code.{Closing}
use Rattle.directory.specs.Counters.{Sizes, Directory}
use Rattle.index.specs.declared.Shape.{Shape}
use Rattle.index.specs.Arrays.{Arrays, arrays, text_in, passes}
use Rattle.starts.specs.Starts.{NodeStarts}
use Rattle.index.specs.Exact.{WithinLimits}

-- the arrays have passed the check
pub record Checked (s : ℕ) (shape : Shape) (a : Arrays) : Type 0 where
  -- there is a code with s closing values
  pub closing : Closing s
  -- V, B and b are within their limits
  pub limits : WithinLimits s shape
  -- some text of the vocabulary has the arrays as its index
  pub passed : passes s shape a ≡ true

-- the bytes of node k by a table of node starts: from its start on, as many as lie before the next start
abbrev pub node_from : List ℕ → List ℕ → ℕ → List ℕ
node_from bytes starts k = take (get_or starts (suc k) 0 - get_or starts k 0) (drop (get_or starts k 0) bytes)

-- node k of such a table starts inside the bytes or at their end, and the counters are those of the bytes
pub record Counted (shape : Shape) (bytes superblocks blocks starts : List ℕ) (k : ℕ) : Type 0 where
  pub sizes : Sizes shape.block shape.per_superblock bytes
  pub directory : Directory shape.block shape.per_superblock bytes superblocks blocks
  pub there : k < length starts
  pub inside : get_or starts k 0 ≤ length bytes

-- the arrays have passed the check, and the table has the starts of their nodes
pub record Ready (s : ℕ) (shape : Shape) (a : Arrays) (starts : List ℕ) : Type 0 where
  pub checked : Checked s shape a
  pub nodes : NodeStarts a.lengths starts

-- n is the number of words of the text of arrays with these node lengths, whatever their other slices
abbrev pub WordsOf : List ℕ → ℕ → Type 0
WordsOf lengths n =
    (s : ℕ) (shape : Shape) (ys us ks : List ℕ) → Checked s shape (arrays lengths ys us ks) →
    n ≡ length (text_in s (arrays lengths ys us ks))
