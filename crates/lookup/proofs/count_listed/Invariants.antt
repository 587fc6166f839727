-- The loop's invariant: the words that are in the parts passed are counted.
use Rattle.std.proofs.Common.{◌≡◌, ◌-◌, ◌≤◌, take}
use Rattle.hashing.proofs.Parts.{WordsBefore}
use Rattle.hashing.specs.HashTables.{Room}
use Rattle.hashing.specs.Parts.{words_of}
use Rattle.lookup.specs.Lookups.{count_listed}
use Rattle.scanning.specs.Scans.{words_at, WordBegins}
use Rattle.lookup.proofs.count_listed.Given as goal

abbrev pub invariant-loop-first : goal.invariant-loop-first
invariant-loop-first l =
    (l.first ≤ l.list.size)
    × WordBegins l.list.letters.table.now l.list.bytes.now l.from
    × WordsBefore l.list.letters.table.now l.list.bytes.now l.from l.first
    × (l.found ≡ count_listed (take l.first (words_of l.list)) (take l.size (words_at l.list.letters.table.now l.text l.at)))
    × Room l.heads l.links l.starts

abbrev pub decreases-loop-first : goal.decreases-loop-first
decreases-loop-first l = l.list.size - l.first
