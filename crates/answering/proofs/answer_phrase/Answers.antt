use Rattle.std.proofs.Common.{◌≡◌, ℕ, List, length, sym, ap, ◌∙◌, arith}
use Rattle.base.specs.Answers.{accepted, refused}
use Rattle.base.specs.Outcomes.{number_of}
use Rattle.base.proofs.Outcomes.{answer_from_refusal, refusal_some}
use Rattle.words.specs.Texts.{text_of, vocabulary_of}
use Rattle.words.proofs.Positions.{text_most, ranks_below_lem}
use Rattle.documents.specs.Documents.{places_in}
use Rattle.documents.proofs.Absent.{absent_words}
use Rattle.questions.specs.Answering.{has_absent, phrase_in, phrase_refusal, phrase_answer}
use Rattle.questions.proofs.Askable.{askable_below, absent_at}
use Rattle.questions.proofs.Answered.{PhraseFits, phrase_fits, phrase_refused, phrase_counted, part_length}
use Rattle.answering.proofs.answer_phrase.Goals as goal
use Rattle.answering.proofs.answer_phrase.Goals.{After-has_absent}

pub answer_no_words-requires : goal.answer_no_words-requires
answer_no_words-requires c = omega (arith, c.length.ensures, text_most c.args.text.now.ready.checked)

pub returns-in_err-phrase : goal.returns-in_err-phrase
returns-in_err-phrase c =
    let a = c.args in
    let x = c.in_err-phrase.field-0.0 in
    let e : phrase_refusal (vocabulary_of a.text.now) a.words.now a.start a.count ≡ number_of x = c.in_err-phrase.ensures in
    answer_from_refusal _ x c.from_residual.ensures.1 ∙ ap refused (sym e)
    ∙ sym (phrase_refused (vocabulary_of a.text.now) a.words.now a.start a.count (text_of a.text.now) a.documents.now (λ z. absurd (refusal_some x (sym e ∙ z))))

-- a phrase that has no refusal
module _ (c : After-has_absent) where
  none : phrase_refusal (vocabulary_of c.args.text.now) c.args.words.now c.args.start c.args.count ≡ 0
  none = c.in_ok-phrase.ensures.0

  phrase_is : c.in_ok-phrase.phrase.now ≡ phrase_in c.args.words.now c.args.start c.args.count
  phrase_is = c.in_ok-phrase.ensures.1

  fits : PhraseFits (vocabulary_of c.args.text.now) c.args.words.now c.args.start c.args.count
  fits = phrase_fits (vocabulary_of c.args.text.now) c.args.words.now c.args.start c.args.count none

  counted : phrase_answer (vocabulary_of c.args.text.now) (text_of c.args.text.now) c.args.documents.now c.args.words.now c.args.start c.args.count
      ≡ accepted (length (places_in c.args.documents.now (text_of c.args.text.now) (phrase_in c.args.words.now c.args.start c.args.count)))
  counted = phrase_counted (vocabulary_of c.args.text.now) c.args.words.now c.args.start c.args.count (text_of c.args.text.now) c.args.documents.now none

-- a phrase with an absent word stands nowhere
pub returns-then-has_absent : goal.returns-then-has_absent
returns-then-has_absent c =
    let h = (goal.at.returns-then-has_absent c).After-has_absent in
    let v = vocabulary_of c.args.text.now in
    let phrase = phrase_in c.args.words.now c.args.start c.args.count in
    let at = absent_at v phrase (sym (c.has_absent.ensures ∙ ap (has_absent v) (phrase_is h)) ∙ c.if-has_absent.true) in
    let absent = absent_words v c.args.documents.now (text_of c.args.text.now) (ranks_below_lem c.args.text.now.ready.checked) in
    ap (λ (ps : List ℕ). accepted (length ps)) (sym (absent.nowhere phrase at.0 at.1 at.2)) ∙ sym (counted h)

pub count_phrase-requires : goal.count_phrase-requires
count_phrase-requires c =
    let h = (goal.at.count_phrase-requires c).After-has_absent in
    let v = vocabulary_of c.args.text.now in
    let phrase = phrase_in c.args.words.now c.args.start c.args.count in
    let n : length phrase ≡ c.args.count = part_length v c.args.words.now c.args.start c.args.count (fits h).inside in
    rw (phrase_is h) (
      omega (arith, n, c.if-count-eq0.false),
      omega (arith, n, (fits h).most),
      askable_below v phrase (fits h).askable (sym (c.has_absent.ensures ∙ ap (has_absent v) (phrase_is h)) ∙ c.if-has_absent.false),
      c.requires,
    )

pub returns : goal.returns
returns c =
    let h = (goal.at.returns c).After-has_absent in
    ap accepted (c.count_phrase.ensures ∙ ap (λ (ws : List ℕ). length (places_in c.args.documents.now (text_of c.args.text.now) ws)) (phrase_is h)) ∙ sym (counted h)
