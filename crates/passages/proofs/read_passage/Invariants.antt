-- The front of the slice has the words from the place on.
use Rattle.std.proofs.Common.{◌≡◌, take, drop}
use Rattle.base.specs.Answers.{front}
use Rattle.words.specs.Texts.{text_of}
use Rattle.passages.proofs.read_passage.Given as goal

abbrev pub invariant-loop-i : goal.invariant-loop-i
invariant-loop-i l = l.ranks ≡ front (take l.i (drop l.place.0 (text_of l.text))) l.fn.ranks
