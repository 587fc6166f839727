-- `dense::three_open`: fewer than three bytes are left, which have no three that continue.
use Rattle.std.proofs.Common.{◌<◌, length, sym, ◌∙◌, arith}
use Rattle.dense.proofs.Reading.{or_false, three_short}
use Rattle.dense.proofs.three_open.Goals as goal

pub returns : goal.returns
returns c =
    let left = c.loop-x.x-iterator.parts.rest.now in
    let few : length left < 3 = omega (arith, c.in-None.ensures.steps.1.0) in
    sym (c.loop-x.invariant ∙ rw (three_short c.args.s left few) (or_false c.loop-x.found))
