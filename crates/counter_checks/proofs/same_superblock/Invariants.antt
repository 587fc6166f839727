-- `equal` is whether the first x numbers of the row are those of the totals.
use Rattle.tallies.proofs.Tables.{Compared}
use Rattle.counter_checks.proofs.same_superblock.Given as goal

abbrev pub invariant-loop-x : goal.invariant-loop-x
invariant-loop-x l = Compared l.superblocks l.row l.totals l.at l.equal l.x
