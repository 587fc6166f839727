-- `small_indexes::front` lends the part that its contract says: as many elements as there are. Assumes nothing.
use mathlib.Core.Path.{sym}
use native.Mathlib.Omega.{arith}
use lib.Seq.{length-take-le}
use borrow.Author.Rules.{rules}
use Rattle.small_indexes.proofs.Lent.{lent_least}
use Rattle.small_indexes.proofs.front.Statement.{statement}
use Rattle.small_indexes.proofs.front.Tie as tie

least-requires : tie.Need-least-count-requires
least-requires c κs = search rules

slice-aggregate-result : tie.Need-slice_bounds-result-end
slice-aggregate-result c = sym (length-take-le _ _ (omega (arith, c.least-count.ensures)))

returns : tie.Need-returns
returns c = lent_least _ _ _ c.least-count.ensures

pub front_spec : {M : Type 1} → statement M
front_spec =
    tie.close
    (tie.spec
    least-requires
    slice-aggregate-result
    returns)
