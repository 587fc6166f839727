-- Of the bytes before the occurrence the next one is read, and counted where it is the byte sought.
use Rattle.std.proofs.Common.{arith}
use Rattle.base.proofs.Counts.{nth_most}
use Rattle.block_scan.proofs.Looks.{met_counts}
use Rattle.block_scan.proofs.Sought.read_piece.Goals as goal
use Rattle.block_scan.proofs.Sought.read_piece.Goals.{in-Break, in-Continue}

pub read_byte-requires : goal.read_byte-requires
read_byte-requires c =
    let s = c.args.self.now in
    (omega (arith, nth_most s.byte s.j s.block.now), omega arith)

pub loop-preserved : goal.loop-preserved
loop-preserved c =
    elim c.match-read_byte.branch [
      | in-Break w ↦
          let e = w.in-Break.ensures in
          rw (w.read-is, w.found-is) (omega (arith, e.0), omega (arith, (met_counts e.1).1), omega arith)
      | in-Continue w ↦
          let e = w.in-Continue.ensures in
          rw (w.read-is, w.found-is) (omega (arith, e.0), omega (arith, e.1.none), omega arith)
    ]
