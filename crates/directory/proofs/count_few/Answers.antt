-- One byte more is passed.
use Rattle.std.proofs.Common.{arith, add-one}
use Rattle.base.proofs.Counts.{count_hit, count_miss}
use Rattle.directory.proofs.count_few.Goals as goal
use Rattle.directory.proofs.count_few.Goals.{then-here-byte, else-here-byte}

pub loop-here-preserved : goal.loop-here-preserved
loop-here-preserved c =
    let a = c.args in
    let i = c.loop-here.here-index in
    rw (add-one i) (elim c.if-here-byte.branch [
      | then-here-byte w ↦ (omega (arith, count_hit a.byte a.part.now i (omega arith) w.if-here-byte.true), omega arith)
      | else-here-byte w ↦ (omega (arith, count_miss a.byte a.part.now i (omega arith) w.if-here-byte.false), omega arith)
    ])
