-- Eight bytes more are there, and the next occurrence is not past the one sought.
use Rattle.std.proofs.Common.{arith}
use Rattle.block_scan.proofs.Sought.read_eights.Goals as goal

pub read_eight-requires : goal.read_eight-requires
read_eight-requires c = (omega arith, omega (arith, c.loop-read.invariant.none, c.requires.1))
