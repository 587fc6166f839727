-- `small_indexes::SmallIndex::passage` meets its contract: the passage is read from the arrays that are lent. Assumes nothing.
use borrow.Author.Rules.{rules}
use mathlib.Core.Path.{ap, ◌∙◌}
use Rattle.index.specs.Arrays.{Arrays}
use Rattle.questions.specs.Passages.{passage_answer, passage_exit}
use Rattle.small_indexes.proofs.Lent.{four_lent}
use Rattle.small_indexes.proofs.SmallIndex.passage.Statement.{statement}
use Rattle.small_indexes.proofs.SmallIndex.passage.Tie as tie

slice-aggregate-front : tie.Need-slice_bounds-front-end
slice-aggregate-front c = search rules

front-requires : tie.Need-front-requires
front-requires c κs = search rules

slice-aggregate-front-bytes : tie.Need-slice_bounds-front_bytes-end
slice-aggregate-front-bytes c = search rules

front-bytes-requires : tie.Need-front_bytes-requires
front-bytes-requires c κs = search rules

slice-aggregate-front-2 : tie.Need-slice_bounds-front-end-2
slice-aggregate-front-2 c = search rules

front-requires-2 : tie.Need-front-requires-2
front-requires-2 c κs = search rules

slice-aggregate-front-blocks : tie.Need-slice_bounds-front_blocks-end
slice-aggregate-front-blocks c = search rules

front-blocks-requires : tie.Need-front_blocks-requires
front-blocks-requires c κs = search rules

passage-requires : tie.Need-passage-requires
passage-requires c κs = search rules

same_length : tie.Need-shape_of-ranks
same_length c = search rules

returns : tie.Need-returns
returns c =
    let four = four_lent c.args.self c.front.ensures c.front_bytes.ensures c.front-2.ensures c.front_blocks.ensures in (
      c.passage.ensures.0 ∙ ap (λ (a : Arrays). passage_answer 128 c.args.self.shape a c.args.place c.args.ranks.now) four,
      c.passage.ensures.1 ∙ ap (λ (a : Arrays). passage_exit 128 c.args.self.shape a c.args.place c.args.ranks.now) four,
    )

pub passage_spec : {M : Type 1} → statement M
passage_spec =
    tie.close
    (tie.spec
    slice-aggregate-front
    front-requires
    slice-aggregate-front-bytes
    front-bytes-requires
    slice-aggregate-front-2
    front-requires-2
    slice-aggregate-front-blocks
    front-blocks-requires
    passage-requires
    same_length
    returns)
