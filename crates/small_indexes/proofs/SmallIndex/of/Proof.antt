-- `small_indexes::SmallIndex::of` meets its contract: the index is built with B 256 and b 8. Assumes nothing.
use borrow.Author.Rules.{rules}
use mathlib.Core.Path.{◌∙◌}
use Rattle.small_indexes.proofs.SmallIndex.of.Statement.{statement}
use Rattle.small_indexes.proofs.SmallIndex.of.Tie as tie

shape-of-requires : tie.Need-shape_of-requires
shape-of-requires c κs = search rules

lent-sizes-requires : tie.Need-lent_sizes-requires
lent-sizes-requires c κs = search rules

built-requires : tie.Need-built-requires
built-requires c κs = search rules

returns : tie.Need-returns
returns c = c.built.ensures ∙ rw (c.shape_of.ensures, c.lent_sizes.ensures)

pub of_spec : {M : Type 1} → statement M
of_spec =
    tie.close
    (tie.spec
    shape-of-requires
    lent-sizes-requires
    built-requires
    returns)
