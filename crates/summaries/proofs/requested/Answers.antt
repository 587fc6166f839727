use Rattle.std.proofs.Common.{sym, ap, ◌∙◌, arith}
use Rattle.base.specs.Answers.{refused}
use Rattle.base.proofs.Outcomes.{refusal_some, match_err}
use Rattle.summaries.proofs.Tested.{request_no_words, request_phrase, request_short, request_none}
use Rattle.summaries.proofs.requested.Goals as goal

pub returns-then-count-eq0 : goal.returns-then-count-eq0
returns-then-count-eq0 c = request_no_words c.args.vocabulary c.args.words.now c.args.start c.args.count c.args.documents c.args.room c.if-count-eq0.true

pub returns-in_err-phrase : goal.returns-in_err-phrase
returns-in_err-phrase c =
    let e = c.in_err-phrase.ensures in
    let x = c.in_err-phrase.field-0.0 in
    match_err _ _ _ x c.from_residual.ensures.1
    (request_phrase c.args.vocabulary c.args.words.now c.args.start c.args.count c.args.documents c.args.room (omega (arith, c.if-count-eq0.false)) (λ z. refusal_some x (sym e ∙ z)) ∙ ap refused e)

pub returns-then-room-documents : goal.returns-then-room-documents
returns-then-room-documents c =
    request_short c.args.vocabulary c.args.words.now c.args.start c.args.count c.args.documents c.args.room (omega (arith, c.if-count-eq0.false)) c.in_ok-phrase.ensures.0 c.if-room-documents.true

pub returns : goal.returns
returns c = (
  request_none c.args.vocabulary c.args.words.now c.args.start c.args.count c.args.documents c.args.room (omega (arith, c.if-count-eq0.false)) c.in_ok-phrase.ensures.0 c.if-room-documents.false,
  c.in_ok-phrase.ensures.1,
)
