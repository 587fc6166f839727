-- None of the bytes read since the start is the byte, and as many of the eight are read as turns are done.
use Rattle.std.proofs.Common.{◌≡◌, ◌+◌}
use Rattle.block_scan.specs.BlockScans.{Clear}
use Rattle.block_scan.proofs.Sought.read_eight.Given as goal

abbrev pub invariant-loop : goal.invariant-loop
invariant-loop l = (l.read ≡ l.from + l.counter) × Clear l.self.byte l.from l.self.block.now l.read
