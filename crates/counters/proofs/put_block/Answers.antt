-- One counter more is written.
use Rattle.std.proofs.Common.{sym, arith}
use Rattle.tallies.specs.Tallies.{counters}
use Rattle.tallies.proofs.Sums.{counters_length, counters_at, counter_fits}
use Rattle.tallies.proofs.Tables.{put_start, put_length, put_next, put_end}
use Rattle.counters.proofs.put_block.Goals as goal

pub loop-x-init : goal.loop-x-init
loop-x-init c = put_start c.args.blocks.now c.args.row (counters c.args.lanes.now)

pub overflow_add-blocks-in-loop-x : goal.overflow_add-blocks-in-loop-x
overflow_add-blocks-in-loop-x c = omega (arith, counter_fits c.args.lanes.now c.requires.1 c.loop-x.x c.loop-x-test.true)

pub loop-x-preserved : goal.loop-x-preserved
loop-x-preserved c =
    let a = c.args in
    put_next a.blocks.now a.row (counters a.lanes.now) (omega arith) (counters_length a.lanes.now) c.loop-x.invariant _ (sym (counters_at a.lanes.now c.loop-x.x c.loop-x-test.true)) (omega arith)

pub returns : goal.returns
returns c =
    let a = c.args in
    put_end a.blocks.now a.row (counters a.lanes.now) c.loop-x.invariant (omega arith)
