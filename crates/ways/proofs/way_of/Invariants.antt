-- The steps up to the node.
use Rattle.ways.proofs.Rising.{Rising}
use Rattle.ways.proofs.way_of.Given as goal

abbrev pub invariant-loop-node : goal.invariant-loop-node
invariant-loop-node l = Rising l.text l.rank (record { length = l.length; first = l.first; above = l.above }) l.node

abbrev pub decreases-loop-node : goal.decreases-loop-node
decreases-loop-node l = l.node
