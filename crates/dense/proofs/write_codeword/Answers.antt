-- `dense::write_codeword`, by the length of the codeword.
use Rattle.std.proofs.Common.{◌≡◌, arith, length-set}
use Rattle.dense.proofs.Words.{encoded_length, encoded_some, encoded_room, stored_one, stored_two, stored_three}
use Rattle.dense.proofs.write_codeword.Goals as goal

pub returns-then-count-eq1 : goal.returns-then-count-eq1
returns-then-count-eq1 c =
    let word = c.encode-word in (
      omega (arith, encoded_length c.args.s c.args.rank word.result word.ensures.0 word.ensures.1),
      stored_one c.args.s c.args.rank word.result word.ensures.0 word.ensures.1 c.args.stream.now c.args.at c.requires.2 c.if-count-eq1.true,
    )

pub bounds-stream-at-2 : goal.bounds-stream-at-2
bounds-stream-at-2 c = simp length-set (omega (arith, encoded_room c.args.s c.args.rank c.encode-word.result c.encode-word.ensures.0 c.encode-word.ensures.1 c.args.at, encoded_some c.args.s c.args.rank c.encode-word.result c.encode-word.ensures.0 c.encode-word.ensures.1))

pub returns-then-count-eq2 : goal.returns-then-count-eq2
returns-then-count-eq2 c =
    let word = c.encode-word in (
      omega (arith, encoded_length c.args.s c.args.rank word.result word.ensures.0 word.ensures.1),
      stored_two c.args.s c.args.rank word.result word.ensures.0 word.ensures.1 c.args.stream.now c.args.at c.requires.2 c.if-count-eq2.true,
    )

pub bounds-stream-at-3 : goal.bounds-stream-at-3
bounds-stream-at-3 c = simp length-set (omega (arith, encoded_room c.args.s c.args.rank c.encode-word.result c.encode-word.ensures.0 c.encode-word.ensures.1 c.args.at, encoded_some c.args.s c.args.rank c.encode-word.result c.encode-word.ensures.0 c.encode-word.ensures.1))

pub returns : goal.returns
returns c =
    let word = c.encode-word in
    let long : word.result.length ≡ 3 = omega (arith, encoded_some c.args.s c.args.rank word.result word.ensures.0 word.ensures.1) in (
      omega (arith, encoded_length c.args.s c.args.rank word.result word.ensures.0 word.ensures.1),
      stored_three c.args.s c.args.rank word.result word.ensures.0 word.ensures.1 c.args.stream.now c.args.at c.requires.2 long,
    )
