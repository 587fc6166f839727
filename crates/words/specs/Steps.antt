-- A step of the way from a word up to the root, and the closing bytes of a rank below a position, by a table of node starts.
use Rattle.std.specs.Prelude.{ℕ, ◌≤◌, ◌≡◌, List, length, get_or, take}
use Rattle.base.specs.Lists.{count_of}
use Rattle.tree.specs.Nodes.{node_of, closing_byte}
use Rattle.words.specs.declared.Step.{Step}
use Rattle.words.specs.declared.Below.{Below}
use Rattle.words.specs.Ready.{node_from}

-- a step looks for the byte in node k, and says how often the byte stands before the node
pub record StepIn (bytes starts : List ℕ) (k byte : ℕ) (x : Step) : Type 0 where
  pub node_is : x.node ≡ k
  pub byte_is : x.byte ≡ byte
  pub skipped_is : x.skipped ≡ count_of byte (take (get_or starts k 0) bytes)

-- as many closing bytes of rank i stand in the node where its codeword ends, below a position of it
pub record BelowOf (s : ℕ) (bytes starts : List ℕ) (i : ℕ) (x : Below) : Type 0 where
  pub inside : x.at.0 ≤ length (node_from bytes starts (node_of s i))
  pub counted : count_of (closing_byte s i) (take x.at.0 (node_from bytes starts (node_of s i))) ≡ x.count
