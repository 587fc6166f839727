-- The block holds the occurrence, and the piece that is found in the block too. Assumes nothing.
use Rattle.std.proofs.Common.{ℕ, ◌+◌, ◌-◌, ◌≤◌, ◌<◌, drop, arith}
use Rattle.std.proofs.Math.ListN.{length-take, length-drop}
use Rattle.base.specs.Lists.{nth}
use Rattle.base.proofs.Counts.{nth_found}
use Rattle.directory.specs.Blocks.{held_part}
use Rattle.directory.proofs.counted_bytes.CountedBytes.piece_of.Goals as goal
use Rattle.directory.proofs.counted_bytes.CountedBytes.piece_of.Goals.{After-piece_in}

-- the occurrence is at the start of its piece or past it, less than 64 bytes, and in the block
held : (c : After-piece_in) → let a = c.args in let p = nth a.byte a.j a.self.now.bytes.now in let h = c.block_with-held.result in (h.start + c.piece_in.result ≤ p) × (p < h.start + c.piece_in.result + 64) × (p < h.stop)
held c =
    let a = c.args in
    let bytes = a.self.now.bytes.now in
    let h = c.block_with-held.result in
    let w = c.block_with-held.ensures in
    let n : ℕ = h.stop - h.start in
    let f = nth_found a.byte h.rest (held_part bytes h) (w.more c.requires) in (
      omega (arith, w.position, c.piece_in.ensures),
      omega (arith, w.position, c.piece_in.ensures),
      omega (arith, w.position, f.inside, length-take n (drop h.start bytes), length-drop h.start bytes, w.inside),
    )

pub overflow_add-from : goal.overflow_add-from
overflow_add-from c =
    omega (arith, held (goal.at.overflow_add-from c).After-piece_in, c.block_with-held.ensures.inside)

pub overflow_add-from-2 : goal.overflow_add-from-2
overflow_add-from-2 c =
    omega (arith, held (goal.at.overflow_add-from-2 c).After-piece_in, c.block_with-held.ensures.inside, c.args.self.now.sizes.bytes_most)

pub returns : goal.returns
returns c =
    let h = held (goal.at.returns c).After-piece_in in
    let e = c.min-to.ensures in
    (h.0, omega (arith, h.1, h.2, e), omega (arith, e), omega (arith, e, c.block_with-held.ensures.inside))
