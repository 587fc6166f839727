use Rattle.std.proofs.Common.{sym, ap, ◌∙◌}
use Rattle.base.specs.Answers.{refused}
use Rattle.base.proofs.Outcomes.{refusal_some, match_err}
use Rattle.listing.proofs.Paged.{request_phrase, request_place, request_page, request_none}
use Rattle.listing.proofs.requested.Goals as goal

pub returns-in_err-phrase : goal.returns-in_err-phrase
returns-in_err-phrase c =
    let e = c.in_err-phrase.ensures in
    let x = c.in_err-phrase.field-0.0 in
    match_err _ _ _ x c.from_residual.ensures.1
    (request_phrase c.args.vocabulary c.args.words.now c.args.start c.args.count c.args.n c.args.next c.args.room (λ z. refusal_some x (sym e ∙ z)) ∙ ap refused e)

pub returns-then-n-next : goal.returns-then-n-next
returns-then-n-next c =
    request_place c.args.vocabulary c.args.words.now c.args.start c.args.count c.args.n c.args.next c.args.room c.in_ok-phrase.ensures.0 c.if-n-next.true

pub returns-then-room-eq0 : goal.returns-then-room-eq0
returns-then-room-eq0 c =
    request_page c.args.vocabulary c.args.words.now c.args.start c.args.count c.args.n c.args.next c.args.room c.in_ok-phrase.ensures.0 c.if-n-next.false c.if-room-eq0.true

pub returns : goal.returns
returns c = (
  request_none c.args.vocabulary c.args.words.now c.args.start c.args.count c.args.n c.args.next c.args.room c.in_ok-phrase.ensures.0 c.if-n-next.false c.if-room-eq0.false,
  c.in_ok-phrase.ensures.1,
)
