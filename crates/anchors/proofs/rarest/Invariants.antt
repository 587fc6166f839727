use Rattle.std.proofs.Common.{◌≡◌, ℕ, ◌<◌, ◌≤◌, get_or}
use Rattle.words.specs.Words.{frequency}
use Rattle.words.specs.Texts.{text_of}
use Rattle.anchors.proofs.rarest.Given as goal

-- no word before i stands less often than the rarest of them
abbrev pub invariant-loop-i : goal.invariant-loop-i
invariant-loop-i l = record {
  before : l.rare < l.i;
  is_least : l.least ≡ frequency (text_of l.text) (get_or l.words l.rare 0);
  least : (k : ℕ) → k < l.i → l.least ≤ frequency (text_of l.text) (get_or l.words k 0);
}
