-- The loop's invariant: the words found and those to be found among the words left are all.
use Rattle.std.proofs.Common.{◌≡◌, ◌+◌, ◌-◌, ◌≤◌, length, take}
use Rattle.lookup.specs.Lookups.{count_in_part}
use Rattle.scanning.specs.Scans.{words_at, WordBegins}
use Rattle.lookup.proofs.count_found.Given as goal

abbrev pub invariant-loop : goal.invariant-loop
invariant-loop l =
    WordBegins l.part.list.now.letters.table.now l.text l.start
    × (l.size - l.counter ≤ length (words_at l.part.list.now.letters.table.now l.text l.start))
    × (l.found ≤ l.counter)
    × (l.found + count_in_part l.part (take (l.size - l.counter) (words_at l.part.list.now.letters.table.now l.text l.start))
    ≡ count_in_part l.part (take l.size (words_at l.part.list.now.letters.table.now l.text l.at)))
