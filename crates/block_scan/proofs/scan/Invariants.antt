-- The occurrences among the bytes read, with those left to pass, are j.
use Rattle.std.proofs.Common.{length, ◌-◌, ◌≡◌, ◌+◌, ◌≤◌, take}
use Rattle.base.specs.Lists.{count_of}
use Rattle.block_scan.proofs.scan.Given as goal

abbrev pub invariant-loop-read : goal.invariant-loop-read
invariant-loop-read l = (l.read ≤ length l.block) × (count_of l.byte (take l.read l.block) + l.left ≡ l.j)

abbrev pub decreases-loop-read : goal.decreases-loop-read
decreases-loop-read l = length l.block - l.read
