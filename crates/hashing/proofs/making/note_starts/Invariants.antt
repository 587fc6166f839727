-- The loop's invariant: the starts and the buckets of the words passed are noted, and the others are left.
use Rattle.std.proofs.Common.{◌≡◌, drop}
use Rattle.hashing.specs.HashTables.{Starts, Buckets}
use Rattle.scanning.specs.Scans.{words_at, WordBegins}
use Rattle.hashing.proofs.making.note_starts.Given as goal

abbrev pub invariant-loop-word : goal.invariant-loop-word
invariant-loop-word l =
    Starts l.letters.table.now l.list l.from l.word l.starts
    × Buckets l.letters.table.now l.list l.from l.word l.buckets
    × WordBegins l.letters.table.now l.list l.at
    × (words_at l.letters.table.now l.list l.at ≡ drop l.word (words_at l.letters.table.now l.list l.from))
