-- What is tested of a node are the bytes of its segment. Assumes nothing.
use Rattle.std.proofs.Common.{suc, [], ◌+◌, ◌-◌, ◌≤◌, ◌≡◌, length, get_or, take, drop, sym, ap, ◌∙◌, add-one, arith}
use Rattle.base.specs.Lists.{total, segments}
use Rattle.base.proofs.Ranges.{pass_range_suc}
use Rattle.base.proofs.Sums.{total_take_suc, total_take_whole}
use Rattle.base.proofs.Segments.{segment_at}
use Rattle.node_checks.specs.Tests.{node_passes, nodes_pass}
use Rattle.node_checks.proofs.Tested.{node_fails}
use Rattle.node_checks.proofs.nodes_pass.Goals as goal
use Rattle.node_checks.proofs.nodes_pass.Goals.{In-loop-node, After-node_passes}

-- the next node lies in the bytes
inside : (c : In-loop-node) → c.loop-node.start + get_or c.args.index.now.lengths.now c.loop-node.node 0 ≤ length c.args.counted.now.bytes.now
inside c =
    let lengths = c.args.index.now.lengths.now in
    let k = c.loop-node.node in
    omega (arith, c.loop-node.invariant.0, total_take_suc lengths k c.loop-node-test.true, total_take_whole lengths (suc k), c.requires.2)

-- the test of a node
tested : (c : After-node_passes) → let a = c.args in let k = c.loop-node.node in
    c.node_passes.result ≡ node_passes a.index.now.s a.index.now.shape.vocabulary a.index.now.lengths.now k (get_or (segments a.index.now.lengths.now a.counted.now.bytes.now) k [])
tested c =
    let a = c.args in
    let l = c.loop-node in
    let lengths = a.index.now.lengths.now in
    let bytes = a.counted.now.bytes.now in
    let n : l.start + get_or lengths l.node 0 - l.start ≡ get_or lengths l.node 0 = omega arith in
    c.node_passes.ensures
    ∙ ap (node_passes a.index.now.s a.index.now.shape.vocabulary lengths l.node)
    (ap (λ m. take m (drop l.start bytes)) n ∙ ap (λ m. take (get_or lengths l.node 0) (drop m bytes)) l.invariant.0 ∙ sym (segment_at lengths bytes l.node))

pub overflow_add-end : goal.overflow_add-end
overflow_add-end c = omega (arith, inside ((goal.at.overflow_add-end c).In-loop-node), c.args.counted.now.sizes.bytes_most)

pub node_passes-requires : goal.node_passes-requires
node_passes-requires c =
    (c.requires.0, omega (arith, c.loop-node-test.true, c.requires.1), omega arith, inside ((goal.at.node_passes-requires c).In-loop-node))

pub returns-then-not-node_passes : goal.returns-then-not-node_passes
returns-then-not-node_passes c =
    let a = c.args in
    sym (node_fails a.index.now.s a.index.now.shape.vocabulary a.index.now.lengths.now a.counted.now.bytes.now c.loop-node.node c.loop-node-test.true
    (sym (tested ((goal.at.returns-then-not-node_passes c).After-node_passes)) ∙ c.if-not-node_passes.true))

pub loop-node-preserved : goal.loop-node-preserved
loop-node-preserved c =
    let l = c.loop-node in
    let lengths = c.args.index.now.lengths.now in (
      sym (ap (λ n. total (take n lengths)) (add-one l.node) ∙ total_take_suc lengths l.node c.loop-node-test.true ∙ ap (λ n. n + get_or lengths l.node 0) (sym l.invariant.0)),
      pass_range_suc _ l.node l.invariant.1 (sym (tested ((goal.at.loop-node-preserved c).After-node_passes)) ∙ c.if-not-node_passes.false),
    )

pub returns : goal.returns
unfolding nodes_pass
returns c =
    let last : c.loop-node.node ≡ length c.args.index.now.lengths.now = omega arith in
    sym (rw last at c.loop-node.invariant.1)
