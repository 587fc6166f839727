-- `small_indexes::SmallIndex::built` meets its contract: the index is built in arrays of nothing but 7. Assumes nothing.
use borrow.Author.Rules.{rules}
use Rattle.small_indexes.proofs.Lent.{built_is}
use Rattle.small_indexes.proofs.SmallIndex.built.Statement.{statement}
use Rattle.small_indexes.proofs.SmallIndex.built.Tie as tie

slice-aggregate-build : tie.Need-slice_bounds-build-end
slice-aggregate-build c = search rules

slice-aggregate-build-2 : tie.Need-slice_bounds-build-end-2
slice-aggregate-build-2 c = search rules

slice-aggregate-build-3 : tie.Need-slice_bounds-build-end-3
slice-aggregate-build-3 c = search rules

slice-aggregate-build-4 : tie.Need-slice_bounds-build-end-4
slice-aggregate-build-4 c = search rules

build-requires : tie.Need-build-answer-requires
build-requires c κs = search rules

returns : tie.Need-returns
returns c =
    built_is c.args.shape c.args.text.now c.args.sizes _ _ c.build-answer.ensures.0 c.build-answer.ensures.1

pub built_spec : {M : Type 1} → statement M
built_spec =
    tie.close
    (tie.spec
    slice-aggregate-build
    slice-aggregate-build-2
    slice-aggregate-build-3
    slice-aggregate-build-4
    build-requires
    returns)
