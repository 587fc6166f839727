-- Where the nodes start in the node bytes.
use Rattle.std.specs.Prelude.{ℕ, ◌≤◌, ◌<◌, ◌≡◌, List, length, take, get_or}
use Rattle.base.specs.Lists.{total}

-- the most elements of a table of node starts: one for each of 65,281 nodes, the most that an index has at any number of closing
-- values, and one for the end of the last
abbrev pub max_starts : ℕ
max_starts = 65282

-- a table has, for each node, its start in the node bytes, and then the end of the last node; what stands past that does not matter
pub record NodeStarts (lengths starts : List ℕ) : Type 0 where
  -- there is an element for each node and one for the end
  pub room : length lengths < length starts
  -- each is the sum of the lengths of the nodes before it
  pub sums : (k : ℕ) → k ≤ length lengths → get_or starts k 0 ≡ total (take k lengths)
