-- A part is refused, or passed with its bytes. Assumes nothing.
use Rattle.std.proofs.Common.{arith}
use Rattle.dense.proofs.Streams.{stream_most}
use Rattle.measuring.proofs.Passes.{words_left, bytes_left, refused_in_part, first_behind, all_passed}
use Rattle.measuring.proofs.pass_ranks.Goals as goal

pub returns-then-place-part : goal.returns-then-place-part
returns-then-place-part c =
    let l = c.loop-part in
    refused_in_part c.args.s c.args.vocabulary c.args.text.now l.part-iterator.rest.now c.in-Some.part.now c.next.new.self.rest.now l.at l.bytes c.in-Some.ensures.steps.1.0 l.invariant.0 l.invariant.1 _ c.first_outside-place.ensures c.if-place-part.true

pub overflow_add-bytes : goal.overflow_add-bytes
overflow_add-bytes c =
    let l = c.loop-part in
    omega (
      arith,
      bytes_left c.args.s c.args.vocabulary c.args.text.now l.part-iterator.rest.now c.in-Some.part.now c.next.new.self.rest.now l.at l.bytes c.in-Some.ensures.steps.1.0 l.invariant.2,
      c.stream_length-bytes.ensures,
      stream_most c.args.s c.args.text.now,
      c.requires.1,
    )

pub loop-part-preserved : goal.loop-part-preserved
loop-part-preserved c =
    let l = c.loop-part in
    let t = c.args.text.now in
    let cut = c.in-Some.ensures.steps.1.0 in (
      words_left c.args.s c.args.vocabulary t l.part-iterator.rest.now c.in-Some.part.now c.next.new.self.rest.now l.at l.bytes cut l.invariant.0,
      first_behind c.args.s c.args.vocabulary t l.part-iterator.rest.now c.in-Some.part.now c.next.new.self.rest.now l.at l.bytes cut l.invariant.1 (omega (arith, c.first_outside-place.ensures, c.if-place-part.false)),
      omega (arith, bytes_left c.args.s c.args.vocabulary t l.part-iterator.rest.now c.in-Some.part.now c.next.new.self.rest.now l.at l.bytes cut l.invariant.2, c.stream_length-bytes.ensures),
    )

pub returns : goal.returns
returns c =
    let l = c.loop-part in
    all_passed c.args.s c.args.vocabulary c.args.text.now l.part-iterator.rest.now l.at l.bytes c.in-None.ensures.steps.1.0 l.invariant.0 l.invariant.1 l.invariant.2
