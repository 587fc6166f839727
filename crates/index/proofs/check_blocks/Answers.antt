-- The three tests are that of the definition: the product is tested by a quotient. Assumes nothing.
use Rattle.std.proofs.Common.{◌≤◌, refl, arith}
use Rattle.std.proofs.Math.Nat.{div-lt_iff_lt-mul, mul_comm, le-div_iff_mul-le}
use Rattle.index.proofs.Limits.{no_block, no_per, superblock_long, blocks_inside}
use Rattle.index.proofs.check_blocks.Goals as goal

pub returns-then-shape-lt1 : goal.returns-then-shape-lt1
returns-then-shape-lt1 c = (refl, no_block c.args.shape.block c.args.shape.per_superblock (omega arith))

pub returns-then-shape-lt1-2 : goal.returns-then-shape-lt1-2
returns-then-shape-lt1-2 c = (refl, no_per c.args.shape.block c.args.shape.per_superblock (omega arith))

pub returns-then-shape : goal.returns-then-shape
returns-then-shape c =
    let shape = c.args.shape in
    let some : 1 ≤ shape.block = c.if-shape-lt1.false in
    (refl, superblock_long shape.block shape.per_superblock (rw (mul_comm shape.per_superblock shape.block) at ((div-lt_iff_lt-mul some).0 c.if-shape.true)))

pub returns : goal.returns
returns c =
    let shape = c.args.shape in
    let some : 1 ≤ shape.block = c.if-shape-lt1.false in
    blocks_inside shape.block shape.per_superblock some c.if-shape-lt1-2.false (rw (mul_comm shape.per_superblock shape.block) at ((le-div_iff_mul-le some).0 c.if-shape.false))
