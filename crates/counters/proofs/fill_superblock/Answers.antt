-- One block row more is written, and its block is tallied.
use Rattle.std.proofs.Common.{ℕ, ◌*◌, ap, ◌∙◌, arith}
use Rattle.base.specs.Answers.{front}
use Rattle.directory.specs.Counters.{block_row}
use Rattle.directory.specs.Tables.{first_rows}
use Rattle.directory.proofs.Rows.{block_row_length}
use Rattle.tallies.specs.Tallies.{counters}
use Rattle.tallies.proofs.Tables.{rows_put, front_begins}
use Rattle.tallies.proofs.Turns.{end_asks, tallied_start, tallied_below, tallied_row, tally_asks, tallied_next, ended, total_next, add_asks}
use Rattle.counters.proofs.fill_superblock.Goals as goal

pub overflow_mul-first : goal.overflow_mul-first
overflow_mul-first c = omega (arith, (end_asks c.requires.0 c.requires.1).2)

pub rows_end-end-requires : goal.rows_end-end-requires
rows_end-end-requires c = end_asks c.requires.0 c.requires.1

pub loop-row-init : goal.loop-row-init
loop-row-init c =
    let a = c.args in (
      tallied_start c.requires.0 c.requires.1 c.rows_end-end.result c.rows_end-end.ensures,
      front_begins (block_row a.block a.per a.bytes.now) (block_row_length a.block a.per a.bytes.now) (a.superblock * a.per) a.blocks.now c.requires.1.before,
    )

pub put_block-requires : goal.put_block-requires
put_block-requires c =
    let t = c.loop-row.invariant.0 in
    (omega (arith, t.ends), tallied_below c.requires.0 c.requires.1 t)

pub tally_block-requires : goal.tally_block-requires
tally_block-requires c =
    let t = tally_asks c.requires.0 c.requires.1 c.loop-row.invariant.0 c.loop-row-test.true in
    record { block_in_bounds = t.0; lanes_len = t.1 }

pub loop-row-preserved : goal.loop-row-preserved
loop-row-preserved c =
    let a = c.args in
    let l = c.loop-row in (
      tallied_next c.requires.0 c.requires.1 l.invariant.0 c.loop-row-test.true _ c.tally_block.ensures.0 c.tally_block.ensures.1,
      c.put_block.ensures
          ∙ rows_put (block_row a.block a.per a.bytes.now) (block_row_length a.block a.per a.bytes.now) l.row a.blocks.now l.blocks (counters l.lanes) l.invariant.1 (tallied_row c.requires.0 c.requires.1 l.invariant.0 c.loop-row-test.true),
    )

pub add-requires : goal.add-requires
add-requires c = add_asks c.requires.0 c.requires.1 c.loop-row.invariant.0 c.loop-row-test.false

pub returns : goal.returns
returns c =
    let a = c.args in
    let l = c.loop-row in (
      l.invariant.1 ∙ ap (λ (n : ℕ). front (first_rows (block_row a.block a.per a.bytes.now) n) a.blocks.now) (ended c.requires.0 c.requires.1 l.invariant.0 c.loop-row-test.false),
      c.add.ensures ∙ total_next c.requires.0 c.requires.1 l.invariant.0 c.loop-row-test.false,
    )
