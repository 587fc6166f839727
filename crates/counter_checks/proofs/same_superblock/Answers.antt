-- One number more is compared.
use Rattle.std.proofs.Common.{refl, arith}
use Rattle.tallies.proofs.Tables.{compared_start, compared_next, compared_end}
use Rattle.counter_checks.proofs.same_superblock.Goals as goal

pub loop-x-init : goal.loop-x-init
loop-x-init c = compared_start c.args.superblocks.now c.args.row c.args.totals.now

pub loop-x-preserved : goal.loop-x-preserved
loop-x-preserved c =
    let a = c.args in
    compared_next a.superblocks.now a.row a.totals.now (omega arith) c.requires.1 c.loop-x.invariant _ refl (omega arith)

pub returns : goal.returns
returns c =
    let a = c.args in
    compared_end a.superblocks.now a.row a.totals.now (omega arith) c.requires.1 c.loop-x.invariant (omega arith)
