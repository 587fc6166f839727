-- `found` and the count of the bytes that are left are the count of all.
use Rattle.std.proofs.Common.{◌≡◌, ◌+◌}
use Rattle.std.specs.Slice.Iter.{chunks_rest, chunks_size}
use Rattle.base.specs.Lists.{count_of}
use Rattle.directory.proofs.count_in.Given as goal

abbrev pub invariant-loop-few : goal.invariant-loop-few
invariant-loop-few l = (chunks_size l.few-iterator ≡ 192) × (l.found + count_of l.byte (chunks_rest l.few-iterator) ≡ count_of l.byte l.part)
