use Rattle.std.proofs.Common.{[], sym, ap, ◌∙◌, arith}
use Rattle.base.specs.Answers.{accepted}
use Rattle.base.proofs.Tests.{below_range, above_range}
use Rattle.words.specs.Words.{frequency}
use Rattle.words.specs.Texts.{text_of, vocabulary_of}
use Rattle.words.proofs.Positions.{ranks_below_lem}
use Rattle.documents.proofs.Absent.{absent_words}
use Rattle.questions.proofs.Answered.{place_rank, place_outside, place_never, place_inside}
use Rattle.answering.proofs.answer_place.Goals as goal

pub returns-then-vocabulary-rank : goal.returns-then-vocabulary-rank
returns-then-vocabulary-rank c = rw c.into.ensures (sym (place_rank (vocabulary_of c.args.text.now) _ c.args.rank c.args.p c.if-vocabulary-rank.true))

-- an absent word has no place
pub returns-then-vocabulary-rank-2 : goal.returns-then-vocabulary-rank-2
returns-then-vocabulary-rank-2 c =
    let v = vocabulary_of c.args.text.now in
    let t = text_of c.args.text.now in
    rw c.into-then-vocabulary-rank-2.ensures
    (sym (place_never v t c.args.rank c.args.p c.if-vocabulary-rank.false (ap (frequency t) (sym c.if-vocabulary-rank-2.true) ∙ (absent_words v [] t (ranks_below_lem c.args.text.now.ready.checked)).never)))

pub returns-then-p-lt1 : goal.returns-then-p-lt1
returns-then-p-lt1 c =
    rw c.into-then-p-lt1.ensures (sym (place_outside (vocabulary_of c.args.text.now) _ c.args.rank c.args.p c.if-vocabulary-rank.false (below_range 1 _ c.args.p c.if-p-lt1.true)))

pub returns-then-often-p : goal.returns-then-often-p
returns-then-often-p c =
    let t = text_of c.args.text.now in
    rw c.into-then-often-p.ensures
    (sym (place_outside (vocabulary_of c.args.text.now) t c.args.rank c.args.p c.if-vocabulary-rank.false (above_range 1 (frequency t c.args.rank) c.args.p (omega (arith, c.frequency_by-often.ensures, c.if-often-p.true)))))

pub returns : goal.returns
returns c =
    ap accepted c.place_along-next.ensures
    ∙ sym (place_inside (vocabulary_of c.args.text.now) _ c.args.rank c.args.p c.if-vocabulary-rank.false c.if-p-lt1.false (omega (arith, c.frequency_by-often.ensures, c.if-often-p.false)))
