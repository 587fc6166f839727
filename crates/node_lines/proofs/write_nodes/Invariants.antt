-- the loop's invariant: the lines of the nodes passed are written, and the next node starts where they end
use Rattle.std.proofs.Common.{◌≡◌, take}
use Rattle.base.specs.Lists.{total, segments}
use Rattle.formatting.specs.Writing.{Wrote}
use Rattle.node_lines.specs.Lines.{node_lines}
use Rattle.node_lines.proofs.write_nodes.Given as goal

abbrev pub invariant-loop-node : goal.invariant-loop-node
invariant-loop-node l = record {
  starts : l.start ≡ total (take l.node l.lengths);
  lines : Wrote (node_lines 0 (take l.node (segments l.lengths l.bytes))) l.at l.initial.output l.next l.output;
}
