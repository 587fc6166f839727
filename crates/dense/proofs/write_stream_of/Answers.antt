-- `dense::write_stream_of`: past all tests, the text has a stream, of which there is room.
use Rattle.std.proofs.Common.{arith}
use Rattle.base.proofs.Lists.{below_weaken}
use Rattle.base.proofs.Texts.{below_of_test, no_rank_outside}
use Rattle.dense.specs.Code.{max_vocabulary}
use Rattle.dense.proofs.write_stream_of.Goals as goal

pub write_text-requires : goal.write_text-requires
write_text-requires c =
    let a = c.args in
    let ranks = below_of_test a.vocabulary a.text.now (no_rank_outside a.vocabulary a.text.now (rw (← c.first_outside-place.ensures) c.if-place-text.false)) in
    (c.requires, below_weaken a.vocabulary (max_vocabulary a.s) a.text.now (rw (← c.max_vocabulary.ensures) c.if-max_vocabulary-vocabulary.false) ranks, omega arith)
