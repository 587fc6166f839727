-- The counters are those from the start of the superblock to the row, and the rows before it are written.
use Rattle.std.proofs.Common.{◌≡◌}
use Rattle.base.specs.Answers.{front}
use Rattle.directory.specs.Counters.{block_row}
use Rattle.directory.specs.Tables.{first_rows}
use Rattle.tallies.proofs.Turns.{Tallied}
use Rattle.counters.proofs.fill_superblock.Given as goal

abbrev pub invariant-loop-row : goal.invariant-loop-row
invariant-loop-row l =
    Tallied l.block l.per l.bytes l.superblock l.end l.row l.lanes × (l.blocks ≡ front (first_rows (block_row l.block l.per l.bytes) l.row) l.initial.blocks)
