-- `concordance::concordance_answer_sheet_in_documents` meets its contract: the loop answers the questions one after the other. All that the proof knows of `prepare` and of `answer_one` is that each meets its contract. Assumes nothing.
use Rattle.std.proofs.Common.{◌≡◌, ◌*◌, ◌≤◌, true, length, sym, ap, ◌∙◌, arith, add-one, get_or, ne_eqb, pos}
use Rattle.base.specs.declared.Answer.{Answer}
use Rattle.base.specs.Answers.{accepted, is_accepted, written}
use Rattle.base.specs.Outcomes.{number_of, refused_answer}
use Rattle.base.proofs.Outcomes.{refusal_some}
use Rattle.index.specs.Arrays.{Arrays, arrays, text_in}
use Rattle.index.specs.Entries.{check_answer}
use Rattle.words.proofs.Parts.{accepted_checked}
use Rattle.documents.specs.Documents.{are_starts}
use Rattle.questions.specs.declared.Question.{Question}
use Rattle.questions.specs.Answering.{question_answer}
use Rattle.sheet_calls.specs.Sheets.{pair_of, sheet_answer}
use Rattle.sheet_calls.proofs.Tested.{sheet_clear, sheet_filled, sheet_untouched, after, after_none, after_next, after_all}
use Rattle.concordance.proofs.Published.{closing_128}
use Rattle.concordance.proofs.concordance_answer_sheet_in_documents.Goals as goal
use Rattle.concordance.proofs.concordance_answer_sheet_in_documents.Goals.{In-Ok}

pub returns-in-Err : goal.returns-in-Err
returns-in-Err c =
    let a = arrays c.args.lengths.now c.args.bytes.now c.args.superblocks.now c.args.blocks.now in
    let x = c.in-Err.refused in
    let e : refused_answer x ≡ sheet_answer 128 c.args.shape a c.args.documents.now (length c.args.questions.now) (length c.args.answers.now) = c.in-Err.ensures.answered in (
      c.into.ensures ∙ e,
      sym (sheet_untouched 128 c.args.shape a c.args.documents.now c.args.words.now c.args.questions.now c.args.answers.now
          (ap is_accepted (sym e) ∙ ne_eqb (number_of x.refusal) 0 (refusal_some x.refusal))),
    )

-- past the tests the sheet is accepted
module _ (c : In-Ok) where
  abbrev four : Arrays
  four = arrays c.args.lengths.now c.args.bytes.now c.args.superblocks.now c.args.blocks.now

  told : accepted c.in-Ok.size ≡ sheet_answer 128 c.args.shape four c.args.documents.now (length c.args.questions.now) (length c.args.answers.now)
  told = c.in-Ok.ensures.answered

  clear : (check_answer 128 c.args.shape four ≡ accepted 0) × (are_starts (length (text_in 128 four)) c.args.documents.now ≡ true) × (2 * length c.args.questions.now ≤ length c.args.answers.now)
  clear = sheet_clear 128 c.args.shape four c.args.documents.now (length c.args.questions.now) (length c.args.answers.now) (ap (λ (r : Answer). r.refusal) (sym told))

pub loop-i-init : goal.loop-i-init
loop-i-init c =
    let a = arrays c.args.lengths.now c.args.bytes.now c.args.superblocks.now c.args.blocks.now in
    sym (after_none (question_answer c.args.shape.vocabulary (text_in 128 a) c.args.documents.now c.args.words.now) c.args.questions.now c.args.answers.now)

pub invariant_of-text : goal.invariant_of-text
invariant_of-text c =
    let h = (goal.at.invariant_of-text c).In-Ok in
    record { ready = record { checked = accepted_checked 128 closing_128 c.args.shape (four h) (ap (λ (r : Answer). r.refusal) (clear h).0); nodes = c.in-Ok.ensures.ready.1 } }

pub answer_one-requires : goal.answer_one-requires
answer_one-requires c =
    (c.in-Ok.ensures.ready.0, omega (arith, (clear (goal.at.answer_one-requires c).In-Ok).2, c.loop-i.auto.answers, c.loop-i-test.true))

pub loop-i-preserved : goal.loop-i-preserved
loop-i-preserved c =
    let a = arrays c.args.lengths.now c.args.bytes.now c.args.superblocks.now c.args.blocks.now in
    let f = question_answer c.args.shape.vocabulary (text_in 128 a) c.args.documents.now c.args.words.now in
    let qs = c.args.questions.now in
    let zs = c.args.answers.now in
    let i = c.loop-i.i in
    let none : Question = record { kind = 0; w = 0; v = 0; d = pos 0; p = 0; start = 0; length = 0 } in
    c.answer_one.ensures
    ∙ ap (written (pair_of (f (get_or qs i none))) (2 * i)) c.loop-i.invariant
    ∙ after_next f qs zs i none c.loop-i-test.true
    ∙ ap (after f qs zs) (sym (add-one i))

pub returns : goal.returns
returns c =
    let h = (goal.at.returns c).In-Ok in
    let f = question_answer c.args.shape.vocabulary (text_in 128 (four h)) c.args.documents.now c.args.words.now in
    let e : c.loop-i.i ≡ length c.args.questions.now = omega arith in (
      c.accepted.ensures ∙ told h,
      c.loop-i.invariant ∙ ap (after f c.args.questions.now c.args.answers.now) e ∙ after_all f c.args.questions.now c.args.answers.now
          ∙ sym (sheet_filled 128 c.args.shape (four h) c.args.documents.now c.args.words.now c.args.questions.now c.args.answers.now (ap is_accepted (sym (told h)))),
    )
