-- `dense::stream_length`: the length of a stream is the sum of the lengths of its codewords.
use Rattle.std.proofs.Common.{rules}
use Rattle.std.proofs.iter.runs.Made.{chains}
use Rattle.base.proofs.StdWords.{total_is}
use Rattle.dense.proofs.Streams.{stream_length_lem}
use Rattle.dense.proofs.stream_length.Goals as goal

pub returns : goal.returns
returns c = rw (stream_length_lem, total_is) (search (rules, chains))
