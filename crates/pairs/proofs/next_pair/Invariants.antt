-- There is no pair before i.
use Rattle.std.proofs.Common.{◌-◌, ◌≤◌, length}
use Rattle.pairs.specs.Pairs.{first_pair}
use Rattle.pairs.proofs.next_pair.Given as goal

abbrev pub invariant-loop-i : goal.invariant-loop-i
invariant-loop-i l = (l.i ≤ length l.here) × (l.i ≤ first_pair l.x l.y l.here l.there)

abbrev pub decreases-loop-i : goal.decreases-loop-i
decreases-loop-i l = length l.here - l.i
