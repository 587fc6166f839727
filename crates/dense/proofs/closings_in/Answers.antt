-- `dense::closings_in`: one byte more is one closing byte more, or none.
use Rattle.std.proofs.Common.{refl, arith}
use Rattle.std.proofs.lemmas.Bool.Decides.{nat_tests}
use Rattle.std.proofs.lemmas.Grind.{common_steps}
use Rattle.dense.specs.Streams.{closings}
use Rattle.dense.proofs.Streams.{closings_more}
use Rattle.dense.proofs.closings_in.Goals as goal

pub loop-byte-init : goal.loop-byte-init
unfolding closings
loop-byte-init c = record { few = omega arith; counted = refl }

pub loop-byte-preserved : goal.loop-byte-preserved
loop-byte-preserved c = grind (arith, common_steps, nat_tests, closings_more)
