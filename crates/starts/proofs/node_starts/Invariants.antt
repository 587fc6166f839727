-- The loop of `starts::node_starts`: the start is the sum of the lengths before the node, and each start before it is written.
use Rattle.std.proofs.Common.{ℕ, ◌≡◌, ◌<◌, take, get_or}
use Rattle.base.specs.Lists.{total}
use Rattle.starts.proofs.node_starts.Given as goal

abbrev pub invariant-loop-node : goal.invariant-loop-node
invariant-loop-node l = record {
  begun : l.start ≡ total (take l.node l.lengths);
  listed : (j : ℕ) → j < l.node → get_or l.starts j 0 ≡ total (take j l.lengths);
}
