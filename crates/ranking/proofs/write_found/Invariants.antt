-- The loop's invariant: the ranks of the words passed that are found are written.
use Rattle.std.proofs.Common.{◌≡◌, take, drop}
use Rattle.lexicon.specs.Reading.{text_words}
use Rattle.ranking.specs.Ranks.{Ranked}
use Rattle.scanning.specs.Scans.{words_at, WordBegins}
use Rattle.ranking.proofs.write_found.Given as goal

abbrev pub invariant-loop-place : goal.invariant-loop-place
invariant-loop-place l =
    WordBegins l.part.list.now.letters.table.now l.text l.at
    × (words_at l.part.list.now.letters.table.now l.text l.at ≡ drop l.place (text_words l.part.list.now.letters.table.now l.text))
    × Ranked l.part.list.now.letters.table.now l.part.list.now.bytes.now l.part.from l.part.count l.first
    (take l.place (text_words l.part.list.now.letters.table.now l.text)) l.initial.ranks l.ranks
