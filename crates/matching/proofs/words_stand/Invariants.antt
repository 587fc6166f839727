use Rattle.std.proofs.Common.{◌≡◌, ℕ, ◌+◌, ◌<◌, get_or}
use Rattle.words.specs.Texts.{text_of}
use Rattle.matching.proofs.words_stand.Given as goal

-- the words before i are those from the place on
abbrev pub invariant-loop-i : goal.invariant-loop-i
invariant-loop-i l = (k : ℕ) → k < l.i → get_or (text_of l.text) (l.place.0 + k) 0 ≡ get_or l.words k 0
