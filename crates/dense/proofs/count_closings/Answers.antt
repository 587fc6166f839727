-- `dense::count_closings`: a part has the closing bytes that those after it lack of what was left.
use Rattle.std.proofs.Common.{◌≡◌, ◌+◌, arith}
use Rattle.dense.specs.Streams.{closings}
use Rattle.dense.proofs.Streams.{closings_append, closings_most}
use Rattle.dense.proofs.count_closings.Goals as goal
use Rattle.dense.proofs.count_closings.Goals.{After-from-found}

-- the part that is counted and those after it have the closing bytes of what was left
counted : (c : After-from-found) → c.from-found.result + closings c.args.s c.next.new.self.rest.now ≡ closings c.args.s c.loop-part.part-iterator.rest.now
counted c =
    rw (c.from-found.ensures, c.closings_in.ensures, c.in-Some.ensures.steps.1.0, closings_append)

pub overflow_add-found : goal.overflow_add-found
overflow_add-found c = omega (arith, counted c, closings_most c.args.s c.args.stream.now)

pub loop-part-preserved : goal.loop-part-preserved
loop-part-preserved c = omega (arith, counted c)

pub returns : goal.returns
returns c = omega (arith, closings_most c.args.s c.loop-part.part-iterator.rest.now, c.in-None.ensures.steps.1.0)
