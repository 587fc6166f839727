-- None of the bytes read since the start is the byte.
use Rattle.std.proofs.Common.{length, ◌-◌}
use Rattle.block_scan.specs.BlockScans.{Clear}
use Rattle.block_scan.proofs.Sought.read_eights.Given as goal

abbrev pub invariant-loop-read : goal.invariant-loop-read
invariant-loop-read l = Clear l.self.byte l.from l.self.block.now l.read

abbrev pub decreases-loop-read : goal.decreases-loop-read
decreases-loop-read l = length l.self.block.now - l.read
