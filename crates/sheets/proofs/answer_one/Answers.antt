use Rattle.std.proofs.Common.{◌≤◌, ◌*◌, suc, ap, ◌∙◌, arith}
use Rattle.base.specs.declared.Answer.{Answer}
use Rattle.base.specs.Answers.{written}
use Rattle.base.specs.Texts.{max_words}
use Rattle.index.specs.Lent.{slices_of}
use Rattle.sheet_calls.specs.Sheets.{pair_of}
use Rattle.sheet_calls.proofs.Values.{value_most}
use Rattle.sheet_calls.proofs.Tested.{pair_written}
use Rattle.sheets.proofs.answer_one.Goals as goal
use Rattle.sheets.proofs.answer_one.Goals.{After-from-answer}

-- the value of an answer fits the numbers of a pair
small : (c : After-from-answer) → c.from-answer.result.value ≤ suc max_words
small c =
    let x = c.args.text.now.index in
    rw (c.from-answer.ensures, c.answer.ensures)
    (value_most x.s x.shape (slices_of x) c.args.text.now.ready.checked _ c.args.words.now c.args.question)

pub overflow_cast-answers : goal.overflow_cast-answers
overflow_cast-answers c = omega (arith, small (goal.at.overflow_cast-answers c).After-from-answer)

pub returns : goal.returns
returns c =
    let z = c.args.answers.now in
    pair_written c.from-answer.result z (2 * c.args.i) c.requires.1 ∙ ap (λ (r : Answer). written (pair_of r) (2 * c.args.i) z) (c.from-answer.ensures ∙ c.answer.ensures)
