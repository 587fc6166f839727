-- The loop of `dense::count_closings`: the closing bytes counted and those of the parts that are left are all.
use Rattle.std.proofs.Common.{◌≡◌, ◌+◌}
use Rattle.dense.specs.Streams.{closings}
use Rattle.dense.proofs.count_closings.Given as goal

abbrev pub invariant-loop-part : goal.invariant-loop-part
invariant-loop-part l = l.found + closings l.s l.part-iterator.rest.now ≡ closings l.s l.stream
