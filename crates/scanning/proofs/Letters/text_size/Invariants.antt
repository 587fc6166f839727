-- The loop's invariant: the words counted and those left are all words.
use Rattle.std.proofs.Common.{◌≡◌, ◌+◌, ◌-◌, ◌≤◌, length}
use Rattle.lexicon.specs.Reading.{text_words}
use Rattle.scanning.specs.Scans.{words_at, WordBegins}
use Rattle.scanning.proofs.Letters.text_size.Given as goal

abbrev pub invariant-loop-start : goal.invariant-loop-start
invariant-loop-start l =
    WordBegins l.self.table.now l.text l.start
    × (l.words ≤ l.start)
    × (l.words + length (words_at l.self.table.now l.text l.start) ≡ length (text_words l.self.table.now l.text))

abbrev pub decreases-loop-start : goal.decreases-loop-start
decreases-loop-start l = length l.text - l.start
