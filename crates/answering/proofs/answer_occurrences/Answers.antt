use Rattle.std.proofs.Common.{ℕ, [], sym, ap, ◌∙◌, arith}
use Rattle.base.specs.Answers.{accepted}
use Rattle.words.specs.Words.{occurrences_below}
use Rattle.words.specs.Texts.{text_of, vocabulary_of}
use Rattle.words.proofs.Positions.{ranks_below_lem}
use Rattle.documents.proofs.Absent.{absent_words}
use Rattle.questions.proofs.Answered.{occurrences_rank, occurrences_outside, occurrences_inside}
use Rattle.answering.proofs.answer_occurrences.Goals as goal

pub returns-then-vocabulary-rank : goal.returns-then-vocabulary-rank
returns-then-vocabulary-rank c = rw c.into.ensures (sym (occurrences_rank (vocabulary_of c.args.text.now) _ c.args.rank c.args.place c.if-vocabulary-rank.true))

pub returns-then-length-place : goal.returns-then-length-place
returns-then-length-place c =
    rw c.into-then-length-place.ensures
    (sym (occurrences_outside (vocabulary_of c.args.text.now) _ c.args.rank c.args.place c.if-vocabulary-rank.false (omega (arith, c.length.ensures, c.if-length-place.true))))

-- an absent word is counted nowhere
pub returns-then-rank-vocabulary : goal.returns-then-rank-vocabulary
returns-then-rank-vocabulary c =
    let v = vocabulary_of c.args.text.now in
    let t = text_of c.args.text.now in
    ap accepted (sym (ap (λ (w : ℕ). occurrences_below t w c.args.place) c.if-rank-vocabulary.true ∙ (absent_words v [] t (ranks_below_lem c.args.text.now.ready.checked)).below c.args.place))
    ∙ sym (occurrences_inside v t c.args.rank c.args.place c.if-vocabulary-rank.false (omega (arith, c.length.ensures, c.if-length-place.false)))

pub returns : goal.returns
returns c =
    ap accepted c.occurrences_below.ensures
    ∙ sym (occurrences_inside (vocabulary_of c.args.text.now) _ c.args.rank c.args.place c.if-vocabulary-rank.false (omega (arith, c.length.ensures, c.if-length-place.false)))
