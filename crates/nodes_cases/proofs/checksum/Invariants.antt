-- both halves of a checksum stay below the number that it is taken by
use Rattle.std.proofs.Common.{◌<◌}
use Rattle.nodes_cases.proofs.checksum.Given as goal

abbrev pub invariant-loop-byte : goal.invariant-loop-byte
invariant-loop-byte l = (l.low < 65521) × (l.high < 65521)
