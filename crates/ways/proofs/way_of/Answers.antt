-- Each step looks for the digit of the node before it in that node's parent. Assumes nothing.
use Rattle.std.proofs.Common.{◌<◌, length, refl, arith}
use Rattle.tree.specs.Nodes.{parent, digit}
use Rattle.words.specs.Steps.{StepIn}
use Rattle.words.proofs.Positions.{end_there}
use Rattle.ways.proofs.Rising.{rise}
use Rattle.ways.proofs.way_of.Goals as goal
use Rattle.ways.proofs.way_of.Goals.{After-node_of-node}

-- the node of the rank is there
here : (c : After-node_of-node) → c.node_of-node.result < length c.args.text.now.index.lengths.now
here c = rw c.node_of-node.ensures (end_there c.args.text.now.ready.checked c.args.rank c.requires)

pub step_in-first-requires : goal.step_in-first-requires
step_in-first-requires c = here (goal.at.step_in-first-requires c).After-node_of-node

pub loop-node-init : goal.loop-node-init
loop-node-init c = record {
  some = omega arith;
  most = omega arith;
  room = refl;
  inside = here (goal.at.loop-node-init c).After-node_of-node;
  at = c.step_in-first.ensures.node_is;
  one = λ h. c.node_of-node.ensures;
  two = λ h. absurd (omega arith);
  three = λ h. absurd (omega arith);
  first = rw (← c.node_of-node.ensures, ← c.closing_byte-byte.ensures) c.step_in-first.ensures;
  above = λ k h. absurd (omega arith);
}

pub loop-node-preserved : goal.loop-node-preserved
loop-node-preserved c =
    let text = c.args.text.now in
    let k = c.loop-node.node in
    let e : StepIn text.index.bytes.now text.starts.now (parent text.index.s k) (digit text.index.s k) c.step_in.result = rw (← c.parent-up.ensures, ← c.digit-digit.ensures) c.step_in.ensures in
    rw c.parent-up.ensures (rise text c.args.rank c.requires c.loop-node.invariant (omega arith) c.step_in.result e)
