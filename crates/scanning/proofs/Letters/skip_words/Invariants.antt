-- The loop's invariant: the words from here on are those behind the ones passed.
use Rattle.std.proofs.Common.{◌≡◌, drop}
use Rattle.scanning.specs.Scans.{words_at, WordBegins}
use Rattle.scanning.proofs.Letters.skip_words.Given as goal

abbrev pub invariant-loop : goal.invariant-loop
invariant-loop l =
    WordBegins l.self.table.now l.text l.start
    × (words_at l.self.table.now l.text l.start ≡ drop l.counter (words_at l.self.table.now l.text l.at))
