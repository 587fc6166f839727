-- The loop's invariant: the nodes passed pass, and the next starts where they end.
use Rattle.std.proofs.Common.{◌≡◌, true, get_or, take, []}
use Rattle.base.specs.Lists.{all_pass, range_from, total, segments}
use Rattle.node_checks.specs.Tests.{node_passes}
use Rattle.node_checks.proofs.nodes_pass.Given as goal

abbrev pub invariant-loop-node : goal.invariant-loop-node
invariant-loop-node l =
    (l.start ≡ total (take l.node l.index.lengths.now))
    × (all_pass (λ k. node_passes l.index.s l.index.shape.vocabulary l.index.lengths.now k (get_or (segments l.index.lengths.now l.counted.bytes.now) k [])) (range_from 0 l.node) ≡ true)
