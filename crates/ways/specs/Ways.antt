-- The way of a rank from the node where its codeword ends up to the root, by a table of node starts, and a walk along its occurrences.
use Rattle.std.specs.Prelude.{ℕ, zero, suc, ◌-◌, ◌≤◌, ◌<◌, ◌≡◌, min, List, length, take, get_or}
use Rattle.base.specs.Lists.{count_of}
use Rattle.tree.specs.Nodes.{parent, digit, node_of, closing_byte}
use Rattle.words.specs.declared.Step.{Step}
use Rattle.words.specs.Ready.{node_from}
use Rattle.words.specs.Steps.{StepIn}
use Rattle.ways.specs.declared.Way.{Way}
use Rattle.ways.specs.declared.Track.{Track}

-- step k of a way, the first at 0
abbrev pub step_of : Way → ℕ → Step
step_of w zero = w.first
step_of w (suc k) = get_or w.above k (record { node = 0; byte = 0; skipped = 0 })

-- a step looks for the digit of the node of the one before it, which is not the root, in that node's parent
pub record StepUp (s : ℕ) (bytes starts : List ℕ) (x y : Step) : Type 0 where
  pub goes_on : 1 ≤ x.node
  pub step : StepIn bytes starts (parent s x.node) (digit s x.node) y

-- how many steps a way has: as many as its length says, and three where that is more
abbrev pub steps_in : Way → ℕ
steps_in w = min w.length 3

-- the steps of rank i: the first looks for its closing byte in the node where its codeword ends, and the last looks in the root
pub record WayOf (s : ℕ) (bytes starts : List ℕ) (i : ℕ) (w : Way) : Type 0 where
  pub some : 1 ≤ w.length
  pub first : StepIn bytes starts (node_of s i) (closing_byte s i) w.first
  pub above : (k : ℕ) → suc k < steps_in w → StepUp s bytes starts (step_of w k) (step_of w (suc k))
  pub ends : (step_of w (steps_in w - 1)).node ≡ 0

-- a walk along rank i has passed so many of its occurrences: as many closing bytes stand in its node before the position of the walk
pub record TrackOf (s : ℕ) (bytes starts : List ℕ) (i : ℕ) (x : Track) : Type 0 where
  pub inside : x.at.0 ≤ length (node_from bytes starts (node_of s i))
  pub passed : count_of (closing_byte s i) (take x.at.0 (node_from bytes starts (node_of s i))) ≡ x.ordinal
