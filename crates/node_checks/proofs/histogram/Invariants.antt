-- The loop's invariant: the counters are those of the bytes passed.
use Rattle.std.proofs.Common.{◌≡◌, take}
use Rattle.directory.specs.Counters.{row}
use Rattle.node_checks.proofs.histogram.Given as goal

abbrev pub invariant-loop-byte : goal.invariant-loop-byte
invariant-loop-byte l = l.counts ≡ row (take l.byte-index l.part)
