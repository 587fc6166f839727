-- `small_indexes::SmallIndex::ask_in_documents` meets its contract: the question is asked of the arrays and the starts that are lent. Assumes nothing.
use borrow.Author.Rules.{rules}
use mathlib.Core.Path.{ap, ◌∙◌}
use Rattle.index.specs.Arrays.{Arrays}
use Rattle.questions.specs.Answering.{ask_answer_in}
use Rattle.small_indexes.proofs.Lent.{four_lent}
use Rattle.small_indexes.proofs.SmallIndex.ask_in_documents.Statement.{statement}
use Rattle.small_indexes.proofs.SmallIndex.ask_in_documents.Tie as tie

slice-aggregate-front : tie.Need-slice_bounds-front-end
slice-aggregate-front c = search rules

front-requires : tie.Need-front-requires
front-requires c κs = search rules

slice-aggregate-front-bytes : tie.Need-slice_bounds-front_bytes-end
slice-aggregate-front-bytes c = search rules

front-bytes-requires : tie.Need-front_bytes-requires
front-bytes-requires c κs = search rules

slice-aggregate-front-2 : tie.Need-slice_bounds-front-end-2
slice-aggregate-front-2 c = search rules

front-requires-2 : tie.Need-front-requires-2
front-requires-2 c κs = search rules

slice-aggregate-front-blocks : tie.Need-slice_bounds-front_blocks-end
slice-aggregate-front-blocks c = search rules

front-blocks-requires : tie.Need-front_blocks-requires
front-blocks-requires c κs = search rules

ask-in-documents-requires : tie.Need-ask_in_documents-requires
ask-in-documents-requires c κs = search rules

returns : tie.Need-returns
returns c =
    c.ask_in_documents.ensures ∙ ap (λ (a : Arrays). ask_answer_in 128 c.args.self.shape a c.args.documents.now c.args.words.now c.args.question) (four_lent c.args.self c.front.ensures c.front_bytes.ensures c.front-2.ensures c.front_blocks.ensures)

pub ask_in_documents_spec : {M : Type 1} → statement M
ask_in_documents_spec =
    tie.close
    (tie.spec
    slice-aggregate-front
    front-requires
    slice-aggregate-front-bytes
    front-bytes-requires
    slice-aggregate-front-2
    front-requires-2
    slice-aggregate-front-blocks
    front-blocks-requires
    ask-in-documents-requires
    returns)
