-- The counters are those at entry with the row of the first i bytes added.
use Rattle.std.proofs.Common.{◌≡◌, length, take}
use Rattle.directory.specs.Counters.{row}
use Rattle.tallies.specs.Tallies.{sums, counters}
use Rattle.tallies.proofs.tally.Given as goal

abbrev pub invariant-loop-i : goal.invariant-loop-i
invariant-loop-i l = (length l.lanes ≡ 512) × (counters l.lanes ≡ sums (counters l.initial.lanes) (row (take l.i l.part)))
