-- `concordance::concordance_answer_sheet` meets its contract: what is said with the starts that `one_start` gives is what the contract says. Assumes nothing.
use Rattle.std.proofs.Common.{ℕ, List, length, ap, ◌∙◌}
use Rattle.index.specs.Arrays.{arrays}
use Rattle.sheet_calls.specs.Sheets.{sheet_answer, sheet_exit}
use Rattle.sheet_calls.proofs.Whole.{sheet_whole}
use Rattle.concordance.proofs.Published.{closing_128}
use Rattle.concordance.proofs.concordance_answer_sheet.Goals as goal

pub returns : goal.returns
returns c =
    let a = arrays c.args.lengths.now c.args.bytes.now c.args.superblocks.now c.args.blocks.now in
    let qs = c.args.questions.now in
    let zs = c.args.answers.now in
    let said = c.concordance_answer_sheet_in_documents.ensures in
    let starts = c.one_start-documents.ensures in
    let whole = sheet_whole 128 closing_128 c.args.shape a c.args.words.now qs zs in (
      said.0 ∙ ap (λ (documents : List ℕ). sheet_answer 128 c.args.shape a documents (length qs) (length zs)) starts ∙ whole.0,
      said.1 ∙ ap (λ (documents : List ℕ). sheet_exit 128 c.args.shape a documents c.args.words.now qs zs) starts ∙ whole.1,
    )
