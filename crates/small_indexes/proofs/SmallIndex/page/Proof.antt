-- `small_indexes::SmallIndex::page` meets its contract: the page is that of the arrays that are lent. Assumes nothing.
use borrow.Author.Rules.{rules}
use mathlib.Core.Path.{ap, ◌∙◌}
use lib.ListN.{length}
use Rattle.index.specs.Arrays.{Arrays, text_in}
use Rattle.documents.specs.Documents.{one_start}
use Rattle.listing.specs.Paging.{call_of, page_of}
use Rattle.small_indexes.proofs.Lent.{four_lent}
use Rattle.small_indexes.proofs.SmallIndex.page.Statement.{statement}
use Rattle.small_indexes.proofs.SmallIndex.page.Tie as tie

slice-aggregate-front : tie.Need-slice_bounds-front-end
slice-aggregate-front c = search rules

front-requires : tie.Need-front-requires
front-requires c κs = search rules

slice-aggregate-front-bytes : tie.Need-slice_bounds-front_bytes-end
slice-aggregate-front-bytes c = search rules

front-bytes-requires : tie.Need-front_bytes-requires
front-bytes-requires c κs = search rules

slice-aggregate-front-2 : tie.Need-slice_bounds-front-end-2
slice-aggregate-front-2 c = search rules

front-requires-2 : tie.Need-front-requires-2
front-requires-2 c κs = search rules

slice-aggregate-front-blocks : tie.Need-slice_bounds-front_blocks-end
slice-aggregate-front-blocks c = search rules

front-blocks-requires : tie.Need-front_blocks-requires
front-blocks-requires c κs = search rules

page-requires : tie.Need-page-requires
page-requires c κs = search rules

same_length : tie.Need-shape_of-lines
same_length c = search rules

returns : tie.Need-returns
returns c =
    let four = four_lent c.args.self c.front.ensures c.front_bytes.ensures c.front-2.ensures c.front_blocks.ensures in (
      c.page.ensures.0 ∙ ap (λ (a : Arrays). (page_of (call_of 128 c.args.self.shape a (one_start (length (text_in 128 a))) c.args.words.now c.args.start c.args.count c.args.lines.now) c.args.state).page) four,
      c.page.ensures.1 ∙ ap (λ (a : Arrays). (page_of (call_of 128 c.args.self.shape a (one_start (length (text_in 128 a))) c.args.words.now c.args.start c.args.count c.args.lines.now) c.args.state).lines) four,
    )

pub page_spec : {M : Type 1} → statement M
page_spec =
    tie.close
    (tie.spec
    slice-aggregate-front
    front-requires
    slice-aggregate-front-bytes
    front-bytes-requires
    slice-aggregate-front-2
    front-requires-2
    slice-aggregate-front-blocks
    front-blocks-requires
    page-requires
    same_length
    returns)
