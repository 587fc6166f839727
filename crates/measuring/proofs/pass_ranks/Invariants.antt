-- The loop's invariant: what was passed and what is left are the text, the first rank outside the vocabulary is one of those left, and the
-- bytes are those of the words passed.
use Rattle.std.proofs.Common.{◌≡◌, ◌+◌, length, leb}
use Rattle.base.specs.Lists.{first_where}
use Rattle.dense.specs.Streams.{stream}
use Rattle.measuring.proofs.pass_ranks.Given as goal

abbrev pub invariant-loop-part : goal.invariant-loop-part
invariant-loop-part l =
    (l.at + length l.part-iterator.rest.now ≡ length l.text)
    × (l.at + first_where (λ w. leb l.vocabulary w) l.part-iterator.rest.now ≡ first_where (λ w. leb l.vocabulary w) l.text)
    × (l.bytes + length (stream l.s l.part-iterator.rest.now) ≡ length (stream l.s l.text))
