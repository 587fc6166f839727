-- The loop's invariant: of the words passed it is noted where each begins and appears first, and the distinct ones are in the hash table.
use Rattle.std.proofs.Common.{◌≡◌, ◌-◌, ◌≤◌, length, take, drop}
use Rattle.base.specs.Answers.{front}
use Rattle.lexicon.specs.Reading.{text_words, spellings}
use Rattle.scanning.specs.Scans.{words_at, WordBegins}
use Rattle.word_places.specs.Places.{first_appearances, DistinctChained, Begun}
use Rattle.word_places.proofs.note_words.Given as goal

abbrev pub invariant-loop-at : goal.invariant-loop-at
invariant-loop-at l =
    (l.place ≤ length (spellings l.letters.table.now l.text))
    × WordBegins l.letters.table.now l.text l.at
    × (words_at l.letters.table.now l.text l.at ≡ drop l.place (text_words l.letters.table.now l.text))
    × Begun l.letters.table.now l.text l.place l.starts
    × DistinctChained (spellings l.letters.table.now l.text) l.place l.heads l.links
    × (l.firsts ≡ front (take l.place (first_appearances (spellings l.letters.table.now l.text))) l.initial.firsts)

abbrev pub decreases-loop-at : goal.decreases-loop-at
decreases-loop-at l = length (spellings l.letters.table.now l.text) - l.place
