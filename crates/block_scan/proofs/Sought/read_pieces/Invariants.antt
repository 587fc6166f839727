-- The occurrences among the bytes read, with those left to pass, are j.
use Rattle.std.proofs.Common.{length, ◌-◌, ◌≡◌, ◌+◌, ◌≤◌, take}
use Rattle.base.specs.Lists.{count_of}
use Rattle.block_scan.proofs.Sought.read_pieces.Given as goal

abbrev pub invariant-loop-piece : goal.invariant-loop-piece
invariant-loop-piece l = (l.read ≤ length l.self.block.now) × (count_of l.self.byte (take l.read l.self.block.now) + l.left ≡ l.self.j)

abbrev pub decreases-loop-piece : goal.decreases-loop-piece
decreases-loop-piece l = length l.self.block.now - l.read
