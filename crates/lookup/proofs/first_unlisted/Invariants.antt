-- The loop's invariant: the first word that is not listed is among those left, and one of so many from here on is not listed.
use Rattle.std.proofs.Common.{◌≡◌, ◌≤◌, length, take}
use Rattle.hashing.specs.HashTables.{Room}
use Rattle.hashing.specs.Parts.{words_of}
use Rattle.lexicon.specs.Reading.{text_words}
use Rattle.lookup.specs.Lookups.{count_listed, first_missing}
use Rattle.scanning.specs.Scans.{words_at, WordBegins}
use Rattle.lookup.proofs.first_unlisted.Given as goal

abbrev pub invariant-loop-left : goal.invariant-loop-left
invariant-loop-left l =
    WordBegins l.list.letters.table.now l.text l.at
    × (l.left ≤ length (words_at l.list.letters.table.now l.text l.at))
    × (first_missing (words_of l.list) (length l.text) (words_at l.list.letters.table.now l.text l.at)
    ≡ first_missing (words_of l.list) (length l.text) (text_words l.list.letters.table.now l.text))
    × (count_listed (words_of l.list) (take l.left (words_at l.list.letters.table.now l.text l.at)) ≡ l.left → ⊥)
    × Room l.heads l.links l.starts

abbrev pub decreases-loop-left : goal.decreases-loop-left
decreases-loop-left l = l.left
