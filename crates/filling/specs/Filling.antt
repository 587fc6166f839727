-- What is kept while the bytes of the nodes of a text are counted and written.
use Rattle.std.specs.Prelude.{ℕ, ◌+◌, ◌≤◌, ◌<◌, ◌≡◌, List, map, length, get_or}
use Rattle.base.specs.Lists.{All, Below, range_from, total}
use Rattle.dense.specs.Code.{Closing, max_vocabulary}
use Rattle.directory.specs.Counters.{max_bytes}
use Rattle.tree.specs.Nodes.{max_nodes, node_of, node_bytes}
use Rattle.starts.specs.Starts.{NodeStarts}

-- the first n nodes of a text
unfoldable pub first_nodes : ℕ → ℕ → List ℕ → List (List ℕ)
first_nodes s n t = map (λ k. node_bytes s k t) (range_from 0 n)

-- the length of each of them
unfoldable pub node_lengths : ℕ → ℕ → List ℕ → List ℕ
node_lengths s n t = map (λ k. length (node_bytes s k t)) (range_from 0 n)

-- the first n nodes hold all bytes of a text, of which there are at most as many as the longest text has
pub record InNodes (s n : ℕ) (t : List ℕ) : Type 0 where
  pub closing : Closing s
  pub number : n ≤ max_nodes s
  pub codes : Below (max_vocabulary s) t
  pub ends : All (λ i. node_of s i < n) t
  pub most : total (node_lengths s n t) ≤ max_bytes

-- each length is that of the bytes f of its node
pub record LengthsCounted (f : ℕ → List ℕ) (lengths : List ℕ) : Type 0 where
  pub counted : (k : ℕ) → k < length lengths → get_or lengths k 0 ≡ length (f k)

-- the bytes are parted among the first n nodes of a text: for each node as many as it has, from its start on
pub record Parted (s n : ℕ) (t starts bytes : List ℕ) : Type 0 where
  pub begin : NodeStarts (node_lengths s n t) starts
  pub whole : total (node_lengths s n t) ≡ length bytes

-- from the start of each of the first n nodes on stand the bytes f of the node
pub record Stands (f : ℕ → List ℕ) (n : ℕ) (starts bytes : List ℕ) : Type 0 where
  pub stands : (k i : ℕ) → k < n → i < length (f k) → get_or bytes (get_or starts k 0 + i) 0 ≡ get_or (f k) i 0
