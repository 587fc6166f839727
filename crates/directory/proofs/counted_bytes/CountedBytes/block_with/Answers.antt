-- The two searches find the block that holds the occurrence. Assumes nothing.
use Rattle.std.proofs.Common.{◌≡◌, ◌+◌, ◌*◌, ◌-◌, take, arith}
use Rattle.base.specs.Lists.{count_of}
use Rattle.directory.proofs.Rows.{rows_most, block_most, superblock_rows_lem}
use Rattle.directory.proofs.Searches.{Holds, last_row_of, number_same, position, held_more, superblock_holds, zero_most, first_inside, first_most, both_of, block_holds}
use Rattle.directory.proofs.counted_bytes.CountedBytes.block_with.Goals as goal
use Rattle.directory.proofs.counted_bytes.CountedBytes.block_with.Goals.{After-superblock_near-superblock, After-last_row-row}

-- what the superblock search finds
in_superblock : (c : After-superblock_near-superblock) → let a = c.args in let s = a.self.now in Holds (s.block * s.per) s.bytes.now a.byte a.j c.superblock_near-superblock.result
in_superblock c =
    let a = c.args in
    let s = a.self.now in
    superblock_holds s.sizes s.directory a.byte a.j c.ranges.byte.fits c.superblock_near-superblock.result c.superblock_near-superblock.ensures

-- what the block search finds
in_block : (c : After-last_row-row) → let a = c.args in let s = a.self.now in Holds s.block s.bytes.now a.byte a.j c.last_row-row.result
in_block c =
    let a = c.args in
    let s = a.self.now in
    let q = superblock_holds s.sizes s.directory a.byte a.j c.ranges.byte.fits c.superblock_near-superblock.result c.superblock_near-superblock.ensures in
    block_holds s.sizes s.directory a.byte a.j c.ranges.byte.fits q c.min-end.result c.min-end.ensures c.last_row-row.result
    (rw (c.number_at.ensures 0) at (last_row_of (c.last_row-row.ensures 0)))

pub superblock_near-superblock-requires : goal.superblock_near-superblock-requires
superblock_near-superblock-requires c =
    let a = c.args in
    let s = a.self.now in
    (omega (arith, superblock_rows_lem s.sizes s.directory), zero_most s.sizes s.directory a.byte a.j c.ranges.byte.fits)

pub overflow_mul-first : goal.overflow_mul-first
overflow_mul-first c =
    let q = in_superblock (goal.at.overflow_mul-first c).After-superblock_near-superblock in
    omega (arith, rows_most c.args.self.now.sizes c.superblock_near-superblock.result q.here)

pub overflow_add-first : goal.overflow_add-first
overflow_add-first c =
    let q = in_superblock (goal.at.overflow_add-first c).After-superblock_near-superblock in
    omega (arith, rows_most c.args.self.now.sizes c.superblock_near-superblock.result q.here)

pub last_row-row-requires-clause-inside : goal.last_row-row-requires-clause-inside
last_row-row-requires-clause-inside c =
    let a = c.args in
    let s = a.self.now in
    let q = in_superblock (goal.at.last_row-row-requires-clause-inside c).After-superblock_near-superblock in
    (first_inside s.sizes s.directory a.byte a.j c.ranges.byte.fits q c.min-end.result c.min-end.ensures, omega arith, omega arith)

pub last_row-row-requires-clause-most : goal.last_row-row-requires-clause-most
last_row-row-requires-clause-most c =
    let a = c.args in
    let s = a.self.now in
    let q = in_superblock (goal.at.last_row-row-requires-clause-most c).After-superblock_near-superblock in
    let inside = first_inside s.sizes s.directory a.byte a.j c.ranges.byte.fits q c.min-end.result c.min-end.ensures in
    number_same s.blocks.now (c.superblock_near-superblock.result * s.per * 256 + a.byte) (a.j - c.number_at.result) (omega (arith, inside)) (rw (c.number_at.ensures 0) (first_most s.sizes s.directory a.byte a.j c.ranges.byte.fits q))

pub number_at-requires-2 : goal.number_at-requires-2
number_at-requires-2 c = let f = c.last_row-row.ensures 0 in omega (arith, f.inside)

pub overflow_sub-rest : goal.overflow_sub-rest
overflow_sub-rest c = let f = c.last_row-row.ensures 0 in omega (arith, f.most, c.number_at-2.ensures 0)

pub overflow_mul-start : goal.overflow_mul-start
overflow_mul-start c = omega (arith, (in_block (goal.at.overflow_mul-start c).After-last_row-row).here)

pub overflow_add-start : goal.overflow_add-start
overflow_add-start c =
    let s = c.args.self.now in
    omega (arith, (in_block (goal.at.overflow_add-start c).After-last_row-row).here, s.sizes.bytes_most, block_most s.sizes)

pub returns : goal.returns
returns c =
    let a = c.args in
    let s = a.self.now in
    let r = c.last_row-row.result in
    let f = c.last_row-row.ensures 0 in
    let stop = c.min-stop.result in
    let e = c.min-stop.ensures in
    let q = in_superblock (goal.at.returns c).After-superblock_near-superblock in
    let h = in_block (goal.at.returns c).After-last_row-row in
    let both = both_of s.sizes s.directory a.byte a.j c.ranges.byte.fits q r f.from (omega (arith, f.inside)) h.here in
    let left : a.j - c.number_at.result - c.number_at-2.result ≡ a.j - count_of a.byte (take (r * s.block) s.bytes.now) =
    omega (arith, both, c.number_at.ensures 0, c.number_at-2.ensures 0) in record {
      order = omega (arith, h.here, e);
      inside = omega (arith, e);
      position = rw left (position stop h e);
      more = λ m. rw left (held_more stop h e m);
    }
