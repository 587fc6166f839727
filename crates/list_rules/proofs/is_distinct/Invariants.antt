-- The loop's invariant: no word of the parts passed is there again.
use Rattle.std.proofs.Common.{◌≡◌, ℕ, ◌-◌, ◌≤◌, ◌<◌, [], length, get_or}
use Rattle.hashing.proofs.Parts.{WordsBefore}
use Rattle.hashing.specs.HashTables.{Room}
use Rattle.hashing.specs.Parts.{words_of}
use Rattle.scanning.specs.Scans.{WordBegins}
use Rattle.list_rules.proofs.is_distinct.Given as goal

abbrev pub invariant-loop-first : goal.invariant-loop-first
invariant-loop-first l =
    (l.first ≤ l.list.size)
    × WordBegins l.list.letters.table.now l.list.bytes.now l.from
    × WordsBefore l.list.letters.table.now l.list.bytes.now l.from l.first
    × ((i j : ℕ) → i < l.first → i < j → j < length (words_of l.list) → get_or (words_of l.list) i [] ≡ get_or (words_of l.list) j [] → ⊥)
    × Room l.heads l.links l.starts

abbrev pub decreases-loop-first : goal.decreases-loop-first
decreases-loop-first l = l.list.size - l.first
