-- A piece is read where as many others are left to pass, and has at most so many.
use Rattle.std.proofs.Common.{arith}
use Rattle.block_scan.proofs.BlockScans.{not_past, piece_most}
use Rattle.block_scan.proofs.Sought.read_pieces.Goals as goal

pub read_piece-piece-requires : goal.read_piece-piece-requires
read_piece-piece-requires c =
    let s = c.args.self.now in
    (omega arith, not_past s.byte s.j c.loop-piece.read c.args.width s.block.now (omega arith) (omega arith))

pub overflow_sub-left : goal.overflow_sub-left
overflow_sub-left c =
    let s = c.args.self.now in
    let r = c.read_piece-piece.ensures in
    omega (arith, rw r.0 at r.1, piece_most s.byte c.loop-piece.read c.args.width s.block.now)

pub loop-piece-preserved : goal.loop-piece-preserved
loop-piece-preserved c =
    let s = c.args.self.now in
    let r = c.read_piece-piece.ensures in
    (omega arith, omega (arith, rw r.0 at r.1, piece_most s.byte c.loop-piece.read c.args.width s.block.now))
