-- The loop of `dense::write_text`: the codewords of the words passed stand in front.
use Rattle.std.proofs.Common.{◌≡◌, take, length}
use Rattle.base.specs.Answers.{front}
use Rattle.dense.specs.Streams.{stream as streamOf}
use Rattle.dense.proofs.write_text.Given as goal

abbrev pub invariant-loop-rank : goal.invariant-loop-rank
invariant-loop-rank l = record {
  so_far : l.at ≡ length (streamOf l.s (take l.rank-index l.text));
  in_front : l.stream ≡ front (streamOf l.s (take l.rank-index l.text)) l.initial.stream;
}
