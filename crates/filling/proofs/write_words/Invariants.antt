-- The loop's invariant: the words passed stand in their nodes.
use Rattle.std.proofs.Common.{length, take}
use Rattle.tree.specs.Nodes.{node_bytes}
use Rattle.filling.specs.Filling.{LengthsCounted, Stands}
use Rattle.filling.proofs.write_words.Given as goal

abbrev pub invariant-loop-place : goal.invariant-loop-place
invariant-loop-place l =
    LengthsCounted (λ k. node_bytes l.s k (take l.place l.text)) l.lengths
    × Stands (λ k. node_bytes l.s k (take l.place l.text)) (length l.lengths) l.starts l.bytes
