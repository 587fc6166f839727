-- One superblock row more is written, and the block rows of the superblock.
use Rattle.std.proofs.Common.{ℕ, suc, ◌≡◌, ◌*◌, ◌/◌, List, length, ap, ◌∙◌, arith}
use Rattle.base.specs.Answers.{front}
use Rattle.directory.specs.Counters.{superblock_row, block_row, superblock_rows, block_rows}
use Rattle.directory.specs.Tables.{first_rows}
use Rattle.directory.proofs.Rows.{superblock_row_length, block_row_length, superblock_some, superblock_rows_length, block_rows_length}
use Rattle.tallies.specs.Tallies.{rows_end}
use Rattle.tallies.proofs.Tables.{rows_put, rows_over, begins_none, begins_front, front_begins}
use Rattle.tallies.proofs.Turns.{rows_to, totalled_start, totalled_length, totalled_reached, totalled_next, rows_none, rows_next, rows_all}
use Rattle.counters.proofs.fill.Goals as goal

pub row_count-end-requires : goal.row_count-end-requires
row_count-end-requires c = (superblock_some c.requires.0, c.requires.0.bytes_most)

pub loop-superblock-init : goal.loop-superblock-init
loop-superblock-init c =
    let a = c.args in
    let f : ℕ → List ℕ = superblock_row a.block a.per a.bytes.now in
    let g : ℕ → List ℕ = block_row a.block a.per a.bytes.now in (
      totalled_start a.block a.per a.bytes.now c.row_count-end.result c.row_count-end.ensures,
      front_begins f (superblock_row_length a.block a.per a.bytes.now) 0 a.superblocks.now (begins_none f a.superblocks.now),
      rw (rows_none a.block a.per a.bytes.now) (front_begins g (block_row_length a.block a.per a.bytes.now) 0 a.blocks.now (begins_none g a.blocks.now)),
    )

pub put_superblock-requires : goal.put_superblock-requires
put_superblock-requires c =
    let a = c.args in
    let t = c.loop-superblock.invariant.0 in
    (omega (arith, superblock_rows_length a.block a.per a.bytes.now, t.ends), totalled_length t)

pub fill_superblock-requires : goal.fill_superblock-requires
fill_superblock-requires c =
    let a = c.args in
    let l = c.loop-superblock in (
      c.requires.0,
      totalled_reached c.requires.0 l.invariant.0 l.blocks c.loop-superblock-test.true
          (rw l.invariant.2 (begins_front (block_row a.block a.per a.bytes.now) (block_row_length a.block a.per a.bytes.now) (rows_to a.block a.per a.bytes.now l.superblock) a.blocks.now)),
      omega (arith, block_rows_length a.block a.per a.bytes.now),
    )

pub loop-superblock-preserved : goal.loop-superblock-preserved
loop-superblock-preserved c =
    let a = c.args in
    let l = c.loop-superblock in
    let g : ℕ → List ℕ = block_row a.block a.per a.bytes.now in
    let end : ℕ = rows_end a.block a.per (length a.bytes.now) l.superblock in (
      totalled_next c.requires.0 l.invariant.0 c.loop-superblock-test.true _ c.fill_superblock.ensures.1,
      c.put_superblock.ensures
          ∙ rows_put (superblock_row a.block a.per a.bytes.now) (superblock_row_length a.block a.per a.bytes.now) l.superblock a.superblocks.now l.superblocks l.totals l.invariant.1 l.invariant.0.total,
      c.fill_superblock.ensures.0 ∙ ap (front (first_rows g end)) l.invariant.2
          ∙ rows_over g (block_row_length a.block a.per a.bytes.now) (rows_to a.block a.per a.bytes.now l.superblock) end a.blocks.now (omega arith)
          ∙ ap (λ (n : ℕ). front (first_rows g n) a.blocks.now) (rows_next c.requires.0 l.invariant.0),
    )

pub returns : goal.returns
unfolding superblock_rows block_rows
returns c =
    let a = c.args in
    let l = c.loop-superblock in
    let e : l.superblock ≡ suc (length a.bytes.now / (a.block * a.per)) = omega (arith, l.invariant.0.most, l.invariant.0.ends, c.loop-superblock-test.false) in (
      l.invariant.1 ∙ ap (λ (n : ℕ). front (first_rows (superblock_row a.block a.per a.bytes.now) n) a.superblocks.now) e,
      l.invariant.2 ∙ ap (λ (n : ℕ). front (first_rows (block_row a.block a.per a.bytes.now) n) a.blocks.now) (rows_all c.requires.0 l.invariant.0 c.loop-superblock-test.false),
    )
