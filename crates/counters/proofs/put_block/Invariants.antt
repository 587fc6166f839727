-- The first x counters are written to the row.
use Rattle.tallies.specs.Tallies.{counters}
use Rattle.tallies.proofs.Tables.{Put}
use Rattle.counters.proofs.put_block.Given as goal

abbrev pub invariant-loop-x : goal.invariant-loop-x
invariant-loop-x l = Put l.initial.blocks l.row (counters l.lanes) l.at l.blocks l.x
