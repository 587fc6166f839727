-- `equal` is whether the first x numbers of the row are those of the counters.
use Rattle.tallies.specs.Tallies.{counters}
use Rattle.tallies.proofs.Tables.{Compared}
use Rattle.counter_checks.proofs.same_block.Given as goal

abbrev pub invariant-loop-x : goal.invariant-loop-x
invariant-loop-x l = Compared l.blocks l.row (counters l.lanes) l.at l.equal l.x
