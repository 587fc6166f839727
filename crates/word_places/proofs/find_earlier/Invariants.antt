-- The loop's invariant: the word is not at a place of its bucket that was passed.
use Rattle.lexicon.specs.Reading.{spellings}
use Rattle.word_places.proofs.Chains.{Along}
use Rattle.word_places.proofs.find_earlier.Given as goal

abbrev pub invariant-loop-other : goal.invariant-loop-other
invariant-loop-other l = Along (spellings l.letters.table.now l.text) l.place l.other

abbrev pub decreases-loop-other : goal.decreases-loop-other
decreases-loop-other l = l.other
