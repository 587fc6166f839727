-- One superblock row more is compared, and the block rows of the superblock.
use Rattle.std.proofs.Common.{◌≡◌, suc, ◌*◌, ◌/◌, length, ap, sym, ◌∙◌, arith}
use Rattle.std.proofs.Math.Nat.{div-le_self}
use Rattle.directory.specs.Counters.{superblock_row, block_row, superblock_rows, block_rows}
use Rattle.directory.proofs.Rows.{superblock_row_length, block_row_length, superblock_some, superblock_rows_length, block_rows_length, is_directory_lem, not_directory}
use Rattle.tallies.proofs.Tables.{begins_none, right_row, wrong_row, begins_whole}
use Rattle.tallies.proofs.Turns.{totalled_start, totalled_length, totalled_reached, totalled_next, rows_none, rows_next, rows_all}
use Rattle.counter_checks.proofs.verify.Goals as goal

pub row_count-end-requires : goal.row_count-end-requires
row_count-end-requires c = (superblock_some c.requires, c.requires.bytes_most)

pub overflow_mul-end : goal.overflow_mul-end
overflow_mul-end c =
    let a = c.args in
    omega (arith, c.row_count-end.ensures, c.requires.bytes_most, div-le_self (length a.bytes.now) (a.block * a.per))

pub returns-then-superblocks-end : goal.returns-then-superblocks-end
returns-then-superblocks-end c =
    let a = c.args in
    sym (not_directory a.block a.per a.bytes.now a.superblocks.now a.blocks.now (λ d.
    omega (arith, c.if-superblocks-end.true, ap length d.superblocks_are, superblock_rows_length a.block a.per a.bytes.now, c.row_count-end.ensures)))

pub overflow_mul-row_count : goal.overflow_mul-row_count
overflow_mul-row_count c =
    let a = c.args in
    omega (arith, c.row_count.ensures, c.requires.bytes_most, div-le_self (length a.bytes.now) a.block)

pub returns-then-blocks-row_count : goal.returns-then-blocks-row_count
returns-then-blocks-row_count c =
    let a = c.args in
    sym (not_directory a.block a.per a.bytes.now a.superblocks.now a.blocks.now (λ d.
    omega (arith, c.if-blocks-row_count.true, ap length d.blocks_are, block_rows_length a.block a.per a.bytes.now, c.row_count.ensures)))

pub loop-superblock-init : goal.loop-superblock-init
loop-superblock-init c =
    let a = c.args in (
      totalled_start a.block a.per a.bytes.now c.row_count-end.result c.row_count-end.ensures,
      begins_none (superblock_row a.block a.per a.bytes.now) a.superblocks.now,
      rw (rows_none a.block a.per a.bytes.now) (begins_none (block_row a.block a.per a.bytes.now) a.blocks.now),
    )

pub same_superblock-requires : goal.same_superblock-requires
same_superblock-requires c = (omega (arith, c.if-superblocks-end.false), totalled_length c.loop-superblock.invariant.0)

pub returns-then-not-same_superblock : goal.returns-then-not-same_superblock
unfolding superblock_rows
returns-then-not-same_superblock c =
    let a = c.args in
    let l = c.loop-superblock in
    sym (not_directory a.block a.per a.bytes.now a.superblocks.now a.blocks.now (λ d.
    wrong_row (superblock_row a.block a.per a.bytes.now) (superblock_row_length a.block a.per a.bytes.now) (suc (length a.bytes.now / (a.block * a.per))) l.superblock a.superblocks.now l.totals
    (omega (arith, l.invariant.0.ends)) l.invariant.0.total (sym c.same_superblock.ensures ∙ c.if-not-same_superblock.true) d.superblocks_are))

pub verify_superblock-requires : goal.verify_superblock-requires
verify_superblock-requires c =
    let l = c.loop-superblock in
    (c.requires, totalled_reached c.requires l.invariant.0 c.args.blocks.now c.loop-superblock-test.true l.invariant.2, omega (arith, c.if-blocks-row_count.false, c.row_count.ensures))

pub returns-then-not-verify_superblock : goal.returns-then-not-verify_superblock
returns-then-not-verify_superblock c =
    let a = c.args in
    sym (not_directory a.block a.per a.bytes.now a.superblocks.now a.blocks.now (λ d. c.verify_superblock.ensures.no c.if-not-verify_superblock.true d.blocks_are))

pub loop-superblock-preserved : goal.loop-superblock-preserved
loop-superblock-preserved c =
    let a = c.args in
    let l = c.loop-superblock in
    let p = c.verify_superblock.ensures.yes c.if-not-verify_superblock.false in (
      totalled_next c.requires l.invariant.0 c.loop-superblock-test.true _ p.1,
      right_row (superblock_row a.block a.per a.bytes.now) (superblock_row_length a.block a.per a.bytes.now) l.superblock a.superblocks.now l.totals l.invariant.1
          l.invariant.0.total (sym c.same_superblock.ensures ∙ c.if-not-same_superblock.false),
      rw (rows_next c.requires l.invariant.0) at p.0,
    )

pub returns : goal.returns
unfolding superblock_rows block_rows
returns c =
    let a = c.args in
    let l = c.loop-superblock in
    let e : l.superblock ≡ suc (length a.bytes.now / (a.block * a.per)) = omega (arith, l.invariant.0.most, l.invariant.0.ends, c.loop-superblock-test.false) in
    sym (is_directory_lem a.block a.per a.bytes.now a.superblocks.now a.blocks.now (record {
      superblocks_are = begins_whole (superblock_row a.block a.per a.bytes.now) (superblock_row_length a.block a.per a.bytes.now) (suc (length a.bytes.now / (a.block * a.per))) a.superblocks.now
          (omega (arith, c.if-superblocks-end.false, c.row_count-end.ensures)) (rw e at l.invariant.1);
      blocks_are = begins_whole (block_row a.block a.per a.bytes.now) (block_row_length a.block a.per a.bytes.now) (suc (length a.bytes.now / a.block)) a.blocks.now
          (omega (arith, c.if-blocks-row_count.false, c.row_count.ensures)) (rw (rows_all c.requires l.invariant.0 c.loop-superblock-test.false) at l.invariant.2);
    }))
