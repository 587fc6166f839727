-- The loop's invariant: the values passed may stand as often as they do.
use Rattle.std.proofs.Common.{◌≡◌, ◌-◌, true, take, drop}
use Rattle.base.specs.Lists.{all_pass, range_from, count_of}
use Rattle.node_checks.specs.Tests.{value_test}
use Rattle.node_checks.proofs.node_passes.Given as goal

abbrev pub invariant-loop-value : goal.invariant-loop-value
invariant-loop-value l =
    all_pass
    (λ e. value_test l.index.s l.index.shape.vocabulary l.index.lengths.now l.node e (count_of e (take (l.end - l.start) (drop l.start l.counted.bytes.now))))
    (range_from 0 l.value)
    ≡ true
