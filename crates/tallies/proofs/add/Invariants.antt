-- The first x sums are written over the totals.
use Rattle.tallies.specs.Tallies.{sums, counters}
use Rattle.tallies.proofs.Tables.{Put}
use Rattle.tallies.proofs.add.Given as goal

abbrev pub invariant-loop-x : goal.invariant-loop-x
invariant-loop-x l = Put l.initial.totals 0 (sums l.initial.totals (counters l.lanes)) 0 l.totals l.x
