-- The occurrences before i, with those left to pass, are as many as are before the one sought.
use Rattle.std.proofs.Common.{◌≡◌, ◌+◌, ◌-◌, ◌≤◌, length, take}
use Rattle.base.specs.Lists.{count_of}
use Rattle.directory.proofs.piece_in.Given as goal

abbrev pub invariant-loop-i : goal.invariant-loop-i
invariant-loop-i l = (l.i ≤ length l.part) × (count_of l.byte (take l.i l.part) + l.left ≡ l.rest)

abbrev pub decreases-loop-i : goal.decreases-loop-i
decreases-loop-i l = length l.part - l.i
