-- The bytes that are left begin with the part counted.
use Rattle.std.proofs.Common.{ap, ◌∙◌, arith}
use Rattle.std.specs.Slice.Iter.{chunks_rest}
use Rattle.base.specs.Lists.{count_of}
use Rattle.base.proofs.Counts.{count_append, count_most}
use Rattle.directory.proofs.count_in.Goals as goal

pub overflow_add-found : goal.overflow_add-found
overflow_add-found c =
    let a = c.args in
    let few = c.in-Some.ensures.steps.1.0 in
    omega (arith, ap (count_of a.byte) few, count_append a.byte c.in-Some.few.now (chunks_rest c.next.new.self), count_most a.byte a.part.now)

pub loop-few-preserved : goal.loop-few-preserved
loop-few-preserved c =
    let a = c.args in
    let steps = c.in-Some.ensures.steps in (
      steps.0 ∙ c.loop-few.invariant.0,
      omega (arith, ap (count_of a.byte) steps.1.0, count_append a.byte c.in-Some.few.now (chunks_rest c.next.new.self)),
    )
