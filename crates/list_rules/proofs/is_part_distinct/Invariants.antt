-- The loop's invariant: no word passed is spelled like a later one of the part.
use Rattle.std.proofs.Common.{◌≡◌, ℕ, ◌<◌}
use Rattle.hashing.specs.HashTables.{spelled_at}
use Rattle.list_rules.proofs.is_part_distinct.Given as goal

abbrev pub invariant-loop-word : goal.invariant-loop-word
invariant-loop-word l =
    (i : ℕ) → i < l.word → (j : ℕ) → i < j → j < l.part.count →
    spelled_at l.part.list.now.letters.table.now l.part.list.now.bytes.now l.part.from i
    ≡ spelled_at l.part.list.now.letters.table.now l.part.list.now.bytes.now l.part.from j → ⊥
