-- The part that is tallied is the block.
use Rattle.std.proofs.Common.{ℕ, ◌*◌, List, ap, ◌∙◌, arith}
use Rattle.base.proofs.Parts.{part_cut}
use Rattle.directory.specs.Counters.{row}
use Rattle.tallies.specs.Tallies.{sums, counters}
use Rattle.tallies.proofs.tally_block.Goals as goal

pub tally-requires : goal.tally-requires
tally-requires c =
    let a = c.args in (
      c.requires.lanes_len.0,
      rw (part_cut a.bytes.now (a.row * a.block) a.block c.min-to.result c.requires.block_in_bounds.0 (omega (arith, c.min-to.ensures))) c.requires.lanes_len.1,
    )

pub returns : goal.returns
returns c =
    let a = c.args in (
      c.tally.ensures.0,
      c.tally.ensures.1 ∙ ap (λ (t : List ℕ). sums (counters a.lanes.now) (row t))
          (part_cut a.bytes.now (a.row * a.block) a.block c.min-to.result c.requires.block_in_bounds.0 (omega (arith, c.min-to.ensures))),
    )
