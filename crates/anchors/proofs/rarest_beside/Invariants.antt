use Rattle.std.proofs.Common.{◌<◌, length}
use Rattle.anchors.proofs.rarest_beside.Given as goal

-- the number is that of a word
abbrev pub invariant-loop-i : goal.invariant-loop-i
invariant-loop-i l = l.second < length l.words
