-- The loop's invariant: the lengths count the words passed.
use Rattle.std.proofs.Common.{take}
use Rattle.tree.specs.Nodes.{node_bytes}
use Rattle.filling.specs.Filling.{LengthsCounted}
use Rattle.filling.proofs.count_nodes.Given as goal

abbrev pub invariant-loop-place : goal.invariant-loop-place
invariant-loop-place l = LengthsCounted (λ k. node_bytes l.s k (take l.place l.text)) l.lengths
