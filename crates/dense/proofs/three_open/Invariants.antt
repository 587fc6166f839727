-- The loop of `dense::three_open`: three that continue are found, or else the bytes that are left decide.
use Rattle.std.proofs.Common.{◌≡◌, true}
use Rattle.std.specs.Prelude.{cond}
use Rattle.dense.specs.Words.{three_open}
use Rattle.dense.proofs.three_open.Given as goal

abbrev pub invariant-loop-x : goal.invariant-loop-x
invariant-loop-x l = three_open l.s l.stream ≡ cond l.found true (three_open l.s l.x-iterator.parts.rest.now)
