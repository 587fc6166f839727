-- The totals are the superblock's row, and all rows before the superblock are right.
use Rattle.directory.specs.Counters.{superblock_row, block_row}
use Rattle.tallies.specs.Tallies.{BeginsWithRows}
use Rattle.tallies.proofs.Turns.{Totalled, rows_to}
use Rattle.counter_checks.proofs.verify.Given as goal

abbrev pub invariant-loop-superblock : goal.invariant-loop-superblock
invariant-loop-superblock l =
    Totalled l.block l.per l.bytes l.end l.superblock l.totals × BeginsWithRows (superblock_row l.block l.per l.bytes) l.superblock l.superblocks
    × BeginsWithRows (block_row l.block l.per l.bytes) (rows_to l.block l.per l.bytes l.superblock) l.blocks
