-- The next byte is not past the occurrence.
use Rattle.std.proofs.Common.{arith}
use Rattle.block_scan.proofs.Looks.{clear_before}
use Rattle.block_scan.proofs.Sought.read_on.Goals as goal

pub read_byte-requires : goal.read_byte-requires
read_byte-requires c = (omega arith, clear_before c.args.self.now.j c.loop-read.invariant c.requires.1)
