-- The next byte of the eight is there, and is not past the occurrence.
use Rattle.std.proofs.Common.{arith}
use Rattle.block_scan.proofs.Looks.{clear_before}
use Rattle.block_scan.proofs.Sought.read_eight.Goals as goal

pub read_byte-requires : goal.read_byte-requires
read_byte-requires c = (omega arith, clear_before c.args.self.now.j c.loop.invariant.1 c.requires.1)
