-- The totals are the superblock's row, and all rows before the superblock are written.
use Rattle.std.proofs.Common.{◌≡◌}
use Rattle.base.specs.Answers.{front}
use Rattle.directory.specs.Counters.{superblock_row, block_row}
use Rattle.directory.specs.Tables.{first_rows}
use Rattle.tallies.proofs.Turns.{Totalled, rows_to}
use Rattle.counters.proofs.fill.Given as goal

abbrev pub invariant-loop-superblock : goal.invariant-loop-superblock
invariant-loop-superblock l =
    Totalled l.block l.per l.bytes l.end l.superblock l.totals
    × (l.superblocks ≡ front (first_rows (superblock_row l.block l.per l.bytes) l.superblock) l.initial.superblocks)
    × (l.blocks ≡ front (first_rows (block_row l.block l.per l.bytes) (rows_to l.block l.per l.bytes l.superblock)) l.initial.blocks)
