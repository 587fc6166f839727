-- the next node's line is written behind those before it
use Rattle.std.proofs.Common.{◌≡◌, ℕ, ◌+◌, ◌-◌, ◌≤◌, ◌<◌, List, [], length, take, drop, get_or, sym, add-one, arith}
use Rattle.std.proofs.Math.Seq.{take_all}
use Rattle.base.specs.Lists.{total, segments}
use Rattle.base.proofs.Sums.{total_take_suc, total_take_whole}
use Rattle.base.proofs.Segments.{segment_at, count_segments}
use Rattle.formatting.proofs.Wrote.{wrote_none}
use Rattle.node_lines.proofs.NodeLines.{lines_next_room, lines_next_written}
use Rattle.node_lines.proofs.write_nodes.Goals as goal

-- where a node ends: where the node after it starts, inside the bytes
node_end : (lengths : List ℕ) (node start room : ℕ) → node < length lengths → start ≡ total (take node lengths) → total lengths ≤ room
    → (start + get_or lengths node 0 ≡ total (take (node + 1) lengths)) × (start + get_or lengths node 0 ≤ room)
node_end lengths node start room h e fits =
    let next : total (take (node + 1) lengths) ≡ total (take node lengths) + get_or lengths node 0 = rw add-one (total_take_suc lengths node h) in
    (omega arith, omega (arith, total_take_whole lengths (node + 1)))

-- the part of the bytes that is lent is the node
lent : (lengths bytes : List ℕ) (node start : ℕ) → start ≡ total (take node lengths)
    → take (start + get_or lengths node 0 - start) (drop start bytes) ≡ get_or (segments lengths bytes) node []
lent lengths bytes node start e =
    let n : start + get_or lengths node 0 - start ≡ get_or lengths node 0 = omega arith in
    rw (n, e) (sym (segment_at lengths bytes node))

pub loop-node-init : goal.loop-node-init
loop-node-init c = record { starts = omega arith; lines = wrote_none c.args.at c.args.output.now }

pub overflow_add-end : goal.overflow_add-end
overflow_add-end c =
    let loop = c.loop-node in
    omega (arith, (node_end c.args.lengths.now loop.node loop.start (length c.args.bytes.now) c.loop-node-test.true loop.invariant.starts c.requires.0).1)

pub slice_bounds-write_node-end : goal.slice_bounds-write_node-end
slice_bounds-write_node-end c =
    let loop = c.loop-node in
    (node_end c.args.lengths.now loop.node loop.start (length c.args.bytes.now) c.loop-node-test.true loop.invariant.starts c.requires.0).1

pub write_node-next-requires : goal.write_node-next-requires
write_node-next-requires c =
    let loop = c.loop-node in
    rw (lent c.args.lengths.now c.args.bytes.now loop.node loop.start loop.invariant.starts)
    (lines_next_room (segments c.args.lengths.now c.args.bytes.now) c.args.at loop.node c.args.output.now loop.output loop.next c.requires.1 loop.invariant.lines (rw (count_segments c.args.lengths.now c.args.bytes.now) c.loop-node-test.true))

pub loop-node-preserved : goal.loop-node-preserved
loop-node-preserved c =
    let loop = c.loop-node in
    let ns = segments c.args.lengths.now c.args.bytes.now in
    let line = rw (lent c.args.lengths.now c.args.bytes.now loop.node loop.start loop.invariant.starts) at c.write_node-next.ensures in
    record {
      starts = (node_end c.args.lengths.now loop.node loop.start (length c.args.bytes.now) c.loop-node-test.true loop.invariant.starts c.requires.0).0;
      lines = lines_next_written ns c.args.at loop.node c.args.output.now loop.output loop.next c.requires.1 loop.invariant.lines (rw (count_segments c.args.lengths.now c.args.bytes.now) c.loop-node-test.true) line;
    }

pub returns : goal.returns
returns c =
    let ns = segments c.args.lengths.now c.args.bytes.now in
    rw (take_all c.loop-node.node ns (omega (arith, count_segments c.args.lengths.now c.args.bytes.now))) at c.loop-node.invariant.lines
