-- One number more is compared.
use Rattle.std.proofs.Common.{sym, arith}
use Rattle.tallies.specs.Tallies.{counters}
use Rattle.tallies.proofs.Sums.{counters_length, counters_at, counter_fits}
use Rattle.tallies.proofs.Tables.{compared_start, compared_next, compared_end}
use Rattle.counter_checks.proofs.same_block.Goals as goal

pub loop-x-init : goal.loop-x-init
loop-x-init c = compared_start c.args.blocks.now c.args.row (counters c.args.lanes.now)

pub overflow_add-equal-in-loop-x-2 : goal.overflow_add-equal-in-loop-x-2
overflow_add-equal-in-loop-x-2 c = omega (arith, counter_fits c.args.lanes.now c.requires.1 c.loop-x.x c.loop-x-test.true)

pub loop-x-preserved : goal.loop-x-preserved
loop-x-preserved c =
    let a = c.args in
    compared_next a.blocks.now a.row (counters a.lanes.now) (omega arith) (counters_length a.lanes.now) c.loop-x.invariant _ (sym (counters_at a.lanes.now c.loop-x.x c.loop-x-test.true)) (omega arith)

pub returns : goal.returns
returns c =
    let a = c.args in
    compared_end a.blocks.now a.row (counters a.lanes.now) (omega arith) (counters_length a.lanes.now) c.loop-x.invariant (omega arith)
