-- `small_indexes::SmallIndex::with_shape` meets its contract: only V, B and b are set. Assumes nothing.
use borrow.Author.Rules.{rules}
use mathlib.Core.Path.{ap}
use Rattle.index.specs.declared.Shape.{Shape}
use Rattle.small_indexes.specs.Lent.{reshaped}
use Rattle.small_indexes.proofs.SmallIndex.with_shape.Statement.{statement}
use Rattle.small_indexes.proofs.SmallIndex.with_shape.Tie as tie

shape-of-requires : tie.Need-shape_of-self-requires
shape-of-requires c κs = search rules

returns : tie.Need-returns
returns c = ap (λ (shape : Shape). reshaped shape c.args.self) c.shape_of-self.ensures

pub with_shape_spec : {M : Type 1} → statement M
with_shape_spec =
    tie.close
    (tie.spec
    shape-of-requires
    returns)
