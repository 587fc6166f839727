-- `small_indexes::SmallIndex::with_sizes` meets its contract: only the sizes are set. Assumes nothing.
use borrow.Author.Rules.{rules}
use mathlib.Core.Path.{ap}
use Rattle.small_indexes.specs.declared.LentSizes.{LentSizes}
use Rattle.small_indexes.specs.Lent.{resized}
use Rattle.small_indexes.proofs.SmallIndex.with_sizes.Statement.{statement}
use Rattle.small_indexes.proofs.SmallIndex.with_sizes.Tie as tie

lent-sizes-requires : tie.Need-lent_sizes-self-requires
lent-sizes-requires c κs = search rules

returns : tie.Need-returns
returns c = ap (λ (sizes : LentSizes). resized sizes c.args.self) c.lent_sizes-self.ensures

pub with_sizes_spec : {M : Type 1} → statement M
with_sizes_spec =
    tie.close
    (tie.spec
    lent-sizes-requires
    returns)
