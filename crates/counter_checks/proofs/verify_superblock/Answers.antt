-- One block row more is compared, and its block is tallied.
use Rattle.std.proofs.Common.{◌/◌, suc, length, sym, ◌∙◌, arith}
use mathlib.Core.Bool.{false≢true}
use Rattle.directory.specs.Counters.{block_row, block_rows}
use Rattle.directory.proofs.Rows.{block_row_length}
use Rattle.tallies.specs.Tallies.{counters}
use Rattle.tallies.proofs.Tables.{right_row, wrong_row}
use Rattle.tallies.proofs.Turns.{end_asks, tallied_start, tallied_below, tallied_row, tally_asks, tallied_next, ended, total_next, add_asks}
use Rattle.counter_checks.proofs.verify_superblock.Goals as goal

pub overflow_mul-first : goal.overflow_mul-first
overflow_mul-first c = omega (arith, (end_asks c.requires.0 c.requires.1).2)

pub rows_end-end-requires : goal.rows_end-end-requires
rows_end-end-requires c = end_asks c.requires.0 c.requires.1

pub loop-row-init : goal.loop-row-init
loop-row-init c = (tallied_start c.requires.0 c.requires.1 c.rows_end-end.result c.rows_end-end.ensures, c.requires.1.before)

pub same_block-requires : goal.same_block-requires
same_block-requires c =
    let t = c.loop-row.invariant.0 in
    (omega (arith, t.ends), tallied_below c.requires.0 c.requires.1 t)

pub returns-then-not-same_block : goal.returns-then-not-same_block
unfolding block_rows
returns-then-not-same_block c =
    let a = c.args in
    let l = c.loop-row in
    let t = l.invariant.0 in
    record {
      yes = λ e. absurd (false≢true e);
      no = λ e whole. wrong_row (block_row a.block a.per a.bytes.now) (block_row_length a.block a.per a.bytes.now) (suc (length a.bytes.now / a.block)) l.row a.blocks.now (counters l.lanes)
          (omega (arith, t.ends)) (tallied_row c.requires.0 c.requires.1 t c.loop-row-test.true) (sym c.same_block.ensures ∙ c.if-not-same_block.true) whole;
    }

pub tally_block-requires : goal.tally_block-requires
tally_block-requires c =
    let t = tally_asks c.requires.0 c.requires.1 c.loop-row.invariant.0 c.loop-row-test.true in
    record { block_in_bounds = t.0; lanes_len = t.1 }

pub loop-row-preserved : goal.loop-row-preserved
loop-row-preserved c =
    let a = c.args in
    let l = c.loop-row in (
      tallied_next c.requires.0 c.requires.1 l.invariant.0 c.loop-row-test.true _ c.tally_block.ensures.0 c.tally_block.ensures.1,
      right_row (block_row a.block a.per a.bytes.now) (block_row_length a.block a.per a.bytes.now) l.row a.blocks.now (counters l.lanes) l.invariant.1
          (tallied_row c.requires.0 c.requires.1 l.invariant.0 c.loop-row-test.true) (sym c.same_block.ensures ∙ c.if-not-same_block.false),
    )

pub add-requires : goal.add-requires
add-requires c = add_asks c.requires.0 c.requires.1 c.loop-row.invariant.0 c.loop-row-test.false

pub returns : goal.returns
returns c =
    let l = c.loop-row in
    record {
      yes = λ _. (
        rw (ended c.requires.0 c.requires.1 l.invariant.0 c.loop-row-test.false) at l.invariant.1,
        c.add.ensures ∙ total_next c.requires.0 c.requires.1 l.invariant.0 c.loop-row-test.false,
      );
      no = λ t whole. false≢true (sym t);
    }
