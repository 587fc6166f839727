-- What is tested of a value is how often it stands in the node. Assumes nothing.
use Rattle.std.proofs.Common.{◌-◌, ◌≡◌, get_or, take, drop, sym, ap, ◌∙◌, arith}
use Rattle.base.specs.Lists.{count_of}
use Rattle.base.proofs.Ranges.{pass_range_suc}
use Rattle.directory.proofs.Rows.{row_at}
use Rattle.node_checks.specs.Tests.{value_test, node_passes}
use Rattle.node_checks.proofs.Tested.{value_fails}
use Rattle.node_checks.proofs.node_passes.Goals as goal
use Rattle.node_checks.proofs.node_passes.Goals.{After-value_passes}

-- the test of a value
tested : (c : After-value_passes) → let a = c.args in let e = c.loop-value.value in
    c.value_passes.result ≡ value_test a.index.now.s a.index.now.shape.vocabulary a.index.now.lengths.now a.node e (count_of e (take (a.end - a.start) (drop a.start a.counted.now.bytes.now)))
tested c =
    let a = c.args in
    let e = c.loop-value.value in
    c.value_passes.ensures
    ∙ ap (value_test a.index.now.s a.index.now.shape.vocabulary a.index.now.lengths.now a.node e)
    (ap (λ xs. get_or xs e 0) c.node_row-counts.ensures
    ∙ row_at (take (a.end - a.start) (drop a.start a.counted.now.bytes.now)) e (omega arith))

pub returns-then-not-value_passes : goal.returns-then-not-value_passes
returns-then-not-value_passes c =
    let a = c.args in
    sym (value_fails a.index.now.s a.index.now.shape.vocabulary a.index.now.lengths.now a.node (take (a.end - a.start) (drop a.start a.counted.now.bytes.now)) c.loop-value.value (omega arith)
    (sym (tested ((goal.at.returns-then-not-value_passes c).After-value_passes)) ∙ c.if-not-value_passes.true))

pub loop-value-preserved : goal.loop-value-preserved
loop-value-preserved c =
    pass_range_suc _ c.loop-value.value c.loop-value.invariant (sym (tested ((goal.at.loop-value-preserved c).After-value_passes)) ∙ c.if-not-value_passes.false)

pub returns : goal.returns
unfolding node_passes
returns c =
    let last : c.loop-value.value ≡ 256 = omega arith in
    sym (rw last at c.loop-value.invariant)
