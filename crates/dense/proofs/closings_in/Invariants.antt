-- The loop of `dense::closings_in`: the closing bytes passed are counted.
use Rattle.std.proofs.Common.{◌≡◌, ◌≤◌, take}
use Rattle.dense.specs.Streams.{closings}
use Rattle.dense.proofs.closings_in.Given as goal

abbrev pub invariant-loop-byte : goal.invariant-loop-byte
invariant-loop-byte l = record { few : l.found ≤ l.byte-index; counted : l.found ≡ closings l.s (take l.byte-index l.part) }
