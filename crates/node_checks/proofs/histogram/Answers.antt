-- One byte more adds 1 to its counter. Assumes nothing.
use Rattle.std.proofs.Common.{◌+◌, ◌<◌, get_or, set, take, sym, ap, ◌∙◌, arith}
use Rattle.base.proofs.Counts.{count_take_most}
use Rattle.directory.proofs.Rows.{row_at, row_none}
use Rattle.node_checks.proofs.Tested.{row_more}
use Rattle.node_checks.proofs.histogram.Goals as goal

pub loop-byte-init : goal.loop-byte-init
loop-byte-init c = sym row_none

pub overflow_add-counts : goal.overflow_add-counts
overflow_add-counts c =
    let part = c.args.part.now in
    let i = c.loop-byte.byte-index in
    let byte : get_or part i 0 < 256 = omega (arith, c.type_inv.part i) in
    rw c.from.ensures (omega (arith, ap (λ xs. get_or xs (get_or part i 0) 0) c.loop-byte.invariant ∙ row_at (take i part) (get_or part i 0) byte, count_take_most (get_or part i 0) i part, c.requires))

pub loop-byte-preserved : goal.loop-byte-preserved
loop-byte-preserved c =
    let part = c.args.part.now in
    let i = c.loop-byte.byte-index in
    rw c.from.ensures
    (ap (λ xs. set xs (get_or part i 0) (get_or xs (get_or part i 0) 0 + 1)) c.loop-byte.invariant ∙ row_more part i c.loop-byte-test.true (omega (arith, c.type_inv.part i)))
