-- The loop's invariant: the bytes passed are counted, and lead to the node.
use Rattle.std.proofs.Common.{◌≡◌}
use Rattle.filling.specs.Filling.{LengthsCounted}
use Rattle.filling.proofs.Filling.{node_at, held}
use Rattle.filling.proofs.count_word.Given as goal

abbrev pub invariant-loop-byte : goal.invariant-loop-byte
invariant-loop-byte l = (l.node ≡ node_at l.s l.text l.at l.byte-index) × LengthsCounted (held l.s l.text l.at l.byte-index) l.lengths
