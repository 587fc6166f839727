-- The two numbers of the directory count the bytes before the block, and `count_in` those of the block before i. Assumes nothing.
use Rattle.std.proofs.Common.{◌≡◌, ◌+◌, ◌/◌, take, arith}
use Rattle.base.specs.Lists.{count_of}
use Rattle.base.proofs.Counts.{count_take_most}
use Rattle.directory.proofs.Rows.{superblock_inside, block_inside, block_here, superblock_here, parts_are}
use Rattle.directory.proofs.counted_bytes.CountedBytes.count_below.Goals as goal
use Rattle.directory.proofs.counted_bytes.CountedBytes.count_below.Goals.{After-count_in}

-- what is added up counts the first i bytes
all : (c : After-count_in) → let a = c.args in c.number_at-above.result + c.number_at-within.result + c.count_in.result ≡ count_of a.byte (take a.i a.self.now.bytes.now)
all c =
    let a = c.args in
    rw (c.number_at-above.ensures 0, c.number_at-within.ensures 0, c.count_in.ensures)
    (parts_are a.self.now.sizes a.self.now.directory a.i a.byte c.requires c.ranges.byte.fits)

pub number_at-above-requires : goal.number_at-above-requires
number_at-above-requires c =
    let a = c.args in
    let s = a.self.now in
    superblock_inside s.sizes s.directory (a.i / s.block / s.per) a.byte (superblock_here s.sizes s.directory a.i a.byte c.requires c.ranges.byte.fits) c.ranges.byte.fits

pub number_at-within-requires : goal.number_at-within-requires
number_at-within-requires c =
    let a = c.args in
    let s = a.self.now in
    block_inside s.sizes s.directory (a.i / s.block) a.byte (block_here s.sizes s.directory a.i a.byte c.requires c.ranges.byte.fits) c.ranges.byte.fits

pub overflow_add-result : goal.overflow_add-result
overflow_add-result c =
    let a = c.args in
    let s = a.self.now in
    omega (
      arith,
      c.number_at-above.ensures 0,
      c.number_at-within.ensures 0,
      parts_are s.sizes s.directory a.i a.byte c.requires c.ranges.byte.fits,
      count_take_most a.byte a.i s.bytes.now,
      s.sizes.bytes_most,
    )

pub overflow_add-result-2 : goal.overflow_add-result-2
overflow_add-result-2 c =
    let a = c.args in
    omega (arith, all (goal.at.overflow_add-result-2 c).After-count_in, count_take_most a.byte a.i a.self.now.bytes.now, a.self.now.sizes.bytes_most)

pub returns : goal.returns
returns c = all (goal.at.returns c).After-count_in
