-- `starts::node_starts`: each start is the one before it and that node's length, and the sum of all lengths is small.
use Rattle.std.proofs.Common.{ℕ, ◌≡◌, ◌+◌, ◌<◌, List, length, take, get_or, add-one, arith}
use Rattle.base.proofs.Sums.{total_take_suc, total_take_whole}
use Rattle.base.proofs.Fronts.{set_below}
use Rattle.base.specs.Lists.{total}
use Rattle.starts.proofs.node_starts.Goals as goal

-- the start of the next node
next : (lengths : List ℕ) (k : ℕ) → k < length lengths → total (take (k + 1) lengths) ≡ total (take k lengths) + get_or lengths k 0
next lengths k h = rw (add-one k) (total_take_suc lengths k h)

pub overflow_add-start : goal.overflow_add-start
overflow_add-start c =
    let lengths = c.args.lengths.now in
    let k = c.loop-node.node in
    omega (arith, next lengths k c.loop-node-test.true, total_take_whole lengths (k + 1), c.requires.1)

pub loop-node-preserved : goal.loop-node-preserved
loop-node-preserved c =
    let lengths = c.args.lengths.now in
    let l = c.loop-node in
    record {
      begun = omega (arith, next lengths l.node c.loop-node-test.true);
      listed = set_below (λ (k : ℕ). total (take k lengths)) l.starts l.node l.start (omega arith) l.invariant.begun l.invariant.listed;
    }
