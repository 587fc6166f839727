-- The scan ends at the occurrence, or with the whole block.
use Rattle.std.proofs.Common.{arith}
use Rattle.block_scan.proofs.BlockScans.{scan_whole}
use Rattle.block_scan.proofs.Looks.{met_ends, met_counts}
use Rattle.block_scan.proofs.scan.Goals as goal

pub returns-then-left-eq0 : goal.returns-then-left-eq0
returns-then-left-eq0 c = met_ends c.in-Break.ensures.0 (omega arith)

pub loop-read-preserved-in-Break : goal.loop-read-preserved-in-Break
loop-read-preserved-in-Break c = (c.in-Break.ensures.0.inside, omega (arith, (met_counts c.in-Break.ensures.0).1))

pub returns : goal.returns
returns c =
    let a = c.args in
    scan_whole a.byte a.j c.loop-read.read a.block.now (omega arith) (omega arith)
