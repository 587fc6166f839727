-- The counters are those from the start of the superblock to the row, and the rows before it are right.
use Rattle.directory.specs.Counters.{block_row}
use Rattle.tallies.specs.Tallies.{BeginsWithRows}
use Rattle.tallies.proofs.Turns.{Tallied}
use Rattle.counter_checks.proofs.verify_superblock.Given as goal

abbrev pub invariant-loop-row : goal.invariant-loop-row
invariant-loop-row l = Tallied l.block l.per l.bytes l.superblock l.end l.row l.lanes × BeginsWithRows (block_row l.block l.per l.bytes) l.row l.blocks
