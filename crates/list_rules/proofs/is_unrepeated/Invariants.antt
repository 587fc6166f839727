-- The loop's invariant: the words passed are found nowhere else.
use Rattle.std.proofs.Common.{◌≡◌, ℕ, ◌<◌, true, drop}
use Rattle.list_rules.specs.Repeats.{is_own}
use Rattle.scanning.specs.Scans.{words_at, WordBegins}
use Rattle.list_rules.proofs.is_unrepeated.Given as goal

abbrev pub invariant-loop : goal.invariant-loop
invariant-loop l =
    WordBegins l.part.list.now.letters.table.now l.part.list.now.bytes.now l.at
    × (words_at l.part.list.now.letters.table.now l.part.list.now.bytes.now l.at ≡ drop l.counter (words_at l.part.list.now.letters.table.now l.part.list.now.bytes.now l.part.from))
    × ((q : ℕ) → q < l.counter → is_own l.part.list.now.letters.table.now l.part.list.now.bytes.now l.part.from l.part.count q ≡ true)
