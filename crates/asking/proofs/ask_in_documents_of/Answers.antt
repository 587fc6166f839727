use Rattle.std.proofs.Common.{◌≡◌, sym, ap, ◌∙◌, arith}
use Rattle.base.proofs.Outcomes.{answer_from_refused, tested_err}
use Rattle.index.specs.Arrays.{text_in}
use Rattle.index.specs.Lent.{slices_of}
use Rattle.words.proofs.Parts.{checked_some, checked_most, checked_total}
use Rattle.words.proofs.Positions.{text_most}
use Rattle.documents.proofs.Starts.{starts_are}
use Rattle.questions.specs.Answering.{phrase_answer, question_answer, ask_answer_in}
use Rattle.questions.proofs.Answered.{kind_5}
use Rattle.questions.proofs.Read.{ask_in_passed, ask_in_refused}
use Rattle.document_checks.proofs.Cleared.{Cleared, cleared}
use Rattle.asking.proofs.ask_in_documents_of.Goals as goal
use Rattle.asking.proofs.ask_in_documents_of.Goals.{In_ok-check_in_documents}

pub returns-in_err-check_in_documents : goal.returns-in_err-check_in_documents
returns-in_err-check_in_documents c =
    let x = c.args.index.now in
    let e = tested_err _ c.in_err-check_in_documents.field-0.0 _ c.in_err-check_in_documents.was c.check_in_documents.ensures in
    answer_from_refused _ _ c.from_residual.ensures.1 ∙ e.1 ∙ sym (ask_in_refused x.s x.shape (slices_of x) c.args.documents.now c.args.words.now c.args.question e.0)

-- past the check the question is answered of the text
module _ (c : In_ok-check_in_documents) where
  clear : Cleared c.args.index.now.s c.args.index.now.shape (slices_of c.args.index.now) c.args.documents.now
  clear = cleared c.args.index.now.s c.args.index.now.shape (slices_of c.args.index.now) c.args.documents.now c.requires _ c.in_ok-check_in_documents.field-0 c.in_ok-check_in_documents.was c.check_in_documents.ensures

  answered : let x = c.args.index.now in
      ask_answer_in x.s x.shape (slices_of x) c.args.documents.now c.args.words.now c.args.question
      ≡ question_answer x.shape.vocabulary (text_in x.s (slices_of x)) c.args.documents.now c.args.words.now c.args.question
  answered =
      let x = c.args.index.now in
      ask_in_passed x.s x.shape (slices_of x) c.args.documents.now c.args.words.now c.args.question clear.passed clear.starts

pub text_length-n-requires : goal.text_length-n-requires
text_length-n-requires c = checked_some (clear (goal.at.text_length-n-requires c).In_ok-check_in_documents).checked

pub answer_no_words-requires : goal.answer_no_words-requires
answer_no_words-requires c =
    let h = clear (goal.at.answer_no_words-requires c).In_ok-check_in_documents in
    omega (arith, c.text_length-n.ensures.1 _ _ _ _ _ h.checked, text_most h.checked)

pub returns-then-question-eq0 : goal.returns-then-question-eq0
returns-then-question-eq0 c =
    let h = (goal.at.returns-then-question-eq0 c).In_ok-check_in_documents in
    let x = c.args.index.now in
    let t = text_in x.s (slices_of x) in
    c.answer_no_words.ensures x.shape.vocabulary t c.args.documents.now (sym (c.text_length-n.ensures.1 _ _ _ _ _ (clear h).checked))
    ∙ ap (phrase_answer x.shape.vocabulary t c.args.documents.now c.args.words.now c.args.question.start) (sym c.if-question-eq0.true)
    ∙ sym (answered h ∙ kind_5 x.shape.vocabulary t c.args.documents.now c.args.words.now c.args.question c.if-question.true)

pub node_starts-requires : goal.node_starts-requires
node_starts-requires c =
    let h = clear (goal.at.node_starts-requires c).In_ok-check_in_documents in
    (omega (arith, checked_most h.checked), checked_total h.checked)

pub invariant_of-text : goal.invariant_of-text
invariant_of-text c = record { ready = record { checked = (clear (goal.at.invariant_of-text c).In_ok-check_in_documents).checked; nodes = c.node_starts.ensures } }

pub answer-requires : goal.answer-requires
answer-requires c = (starts_are _ _ (clear (goal.at.answer-requires c).In_ok-check_in_documents).starts).ascending

pub returns : goal.returns
returns c = c.answer.ensures ∙ sym (answered (goal.at.returns c).In_ok-check_in_documents)
