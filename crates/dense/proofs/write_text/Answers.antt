-- `dense::write_text`: there is room for the next codeword, which is written behind those before it.
use Rattle.std.proofs.Common.{◌<◌, get_or, sym, ◌∙◌, arith}
use Rattle.base.proofs.Lists.{all_at}
use Rattle.base.proofs.Fronts.{front_none}
use Rattle.dense.specs.Code.{max_vocabulary}
use Rattle.dense.proofs.Codewords.{code_length_lem}
use Rattle.dense.proofs.Streams.{stream_none, stream_length_more, stream_room, stream_written_lem}
use Rattle.dense.proofs.write_text.Goals as goal

pub loop-rank-init : goal.loop-rank-init
loop-rank-init c = rw stream_none (record { so_far = omega arith; in_front = sym (front_none c.args.stream.now) })

pub write_codeword-at-requires : goal.write_codeword-at-requires
write_codeword-at-requires c =
    let i = c.loop-rank.rank-index in
    let text = c.args.text.now in
    (c.requires.0, all_at (λ i. i < max_vocabulary c.args.s) text 0 i c.requires.1 c.loop-rank-test.true, omega (arith, stream_room c.args.s text i c.loop-rank-test.true, c.requires.2))

pub loop-rank-preserved : goal.loop-rank-preserved
loop-rank-preserved c =
    let i = c.loop-rank.rank-index in
    let text = c.args.text.now in
    let call = c.write_codeword-at.ensures in
    record {
      so_far = omega (arith, call.0, stream_length_more c.args.s text i c.loop-rank-test.true, code_length_lem c.args.s (get_or text i 0));
      in_front = call.1 ∙ rw (c.loop-rank.invariant.in_front, c.loop-rank.invariant.so_far) (stream_written_lem c.args.s text c.args.stream.now i c.loop-rank-test.true);
    }
