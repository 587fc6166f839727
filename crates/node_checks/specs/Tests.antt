-- What the check tests of the node lengths and node bytes, node by node and byte value by byte value.
use Rattle.std.specs.Prelude.{ℕ, Bool, cond, ◌||◌, List, [], eqb, ltb, length, get_or}
use Rattle.base.specs.Lists.{all_pass, range_from, count_of, segments}
use Rattle.dense.specs.Code.{closes}
use Rattle.tree.specs.Nodes.{child, rank_in}

-- whether byte value e may stand n times in node k: a continuing one as often as its child has bytes, which is 0 past the last node; a
-- closing one not at all where it names no rank below V
abbrev pub value_test : ℕ → ℕ → List ℕ → ℕ → ℕ → ℕ → Bool
value_test s vocab lengths k e n = cond (closes s e) (eqb n 0 || ltb (rank_in s k e) vocab) (eqb n (get_or lengths (child s k e) 0))

-- whether all 256 byte values may stand in node k as often as they do in its bytes
unfoldable pub node_passes : ℕ → ℕ → List ℕ → ℕ → List ℕ → Bool
node_passes s vocab lengths k part = all_pass (λ e. value_test s vocab lengths k e (count_of e part)) (range_from 0 256)

-- whether all nodes pass
unfoldable pub nodes_pass : ℕ → ℕ → List ℕ → List ℕ → Bool
nodes_pass s vocab lengths bytes = all_pass (λ k. node_passes s vocab lengths k (get_or (segments lengths bytes) k [])) (range_from 0 (length lengths))
