-- The loop of `dense::read_codewords`: the bytes before the index are passed, and their words stand in front.
use Rattle.dense.proofs.Reading.{Passed}
use Rattle.dense.proofs.read_codewords.Given as goal

abbrev pub invariant-loop-byte : goal.invariant-loop-byte
invariant-loop-byte l = Passed l.s l.stream l.initial.text l.byte-index l.node l.place l.text
