use Rattle.std.proofs.Common.{◌≡◌, ℕ, sym, ap, ◌∙◌, arith}
use mir.Facts.{to_z-of_z}
use Rattle.base.specs.Answers.{accepted}
use Rattle.words.specs.Texts.{text_of, vocabulary_of}
use Rattle.words.proofs.Positions.{ranks_below_lem}
use Rattle.documents.specs.Absent.{AbsentWord}
use Rattle.documents.specs.Documents.{neighbours_in}
use Rattle.documents.proofs.Absent.{absent_words}
use Rattle.questions.specs.Answering.{neighbours_answer}
use Rattle.questions.proofs.Answered.{offset_left, offset_right, offset_near, neighbours_first, neighbours_second, neighbours_far, neighbours_near}
use Rattle.answering.proofs.answer_neighbours.Goals as goal
use Rattle.answering.proofs.answer_neighbours.Goals.{Else-offset-gt-MAX_OFFSET}

pub returns-then-vocabulary-w : goal.returns-then-vocabulary-w
returns-then-vocabulary-w c =
    rw c.into.ensures (sym (neighbours_first (vocabulary_of c.args.text.now) _ c.args.documents.now c.args.w c.args.v c.args.offset c.if-vocabulary-w.true))

pub returns-then-vocabulary-v : goal.returns-then-vocabulary-v
returns-then-vocabulary-v c =
    rw c.into-then-vocabulary-v.ensures (sym (neighbours_second (vocabulary_of c.args.text.now) _ c.args.documents.now c.args.w c.args.v c.args.offset c.if-vocabulary-v.true))

pub returns-then-offset : goal.returns-then-offset
returns-then-offset c =
    rw c.into-then-offset.ensures
    (sym (neighbours_far (vocabulary_of c.args.text.now) _ c.args.documents.now c.args.w c.args.v c.args.offset c.if-vocabulary-w.false c.if-vocabulary-v.false (offset_left c.args.offset (rw (to_z-of_z c.ranges.offset) at c.if-offset.true))))

pub returns-then-offset-gt-MAX_OFFSET : goal.returns-then-offset-gt-MAX_OFFSET
returns-then-offset-gt-MAX_OFFSET c =
    rw c.into-then-offset-gt-MAX_OFFSET.ensures
    (sym (neighbours_far (vocabulary_of c.args.text.now) _ c.args.documents.now c.args.w c.args.v c.args.offset c.if-vocabulary-w.false c.if-vocabulary-v.false (offset_right c.args.offset (rw (to_z-of_z c.ranges.offset) at c.if-offset-gt-MAX_OFFSET.true))))

-- past the four tests both ranks may be asked about, and the offset is near
module _ (c : Else-offset-gt-MAX_OFFSET) where
  answered : neighbours_answer (vocabulary_of c.args.text.now) (text_of c.args.text.now) c.args.documents.now c.args.w c.args.v c.args.offset
      ≡ accepted (neighbours_in c.args.documents.now (text_of c.args.text.now) c.args.w c.args.v c.args.offset)
  answered =
      neighbours_near (vocabulary_of c.args.text.now) (text_of c.args.text.now) c.args.documents.now c.args.w c.args.v c.args.offset c.if-vocabulary-w.false c.if-vocabulary-v.false
      (offset_near c.args.offset (rw (to_z-of_z c.ranges.offset) at c.if-offset.false) (rw (to_z-of_z c.ranges.offset) at c.if-offset-gt-MAX_OFFSET.false))

  -- an absent word stands nowhere
  absent : AbsentWord (vocabulary_of c.args.text.now) c.args.documents.now (text_of c.args.text.now)
  absent = absent_words (vocabulary_of c.args.text.now) c.args.documents.now (text_of c.args.text.now) (ranks_below_lem c.args.text.now.ready.checked)

pub returns-then-w-vocabulary : goal.returns-then-w-vocabulary
returns-then-w-vocabulary c =
    let h = (goal.at.returns-then-w-vocabulary c).Else-offset-gt-MAX_OFFSET in
    ap accepted (sym (ap (λ (w : ℕ). neighbours_in c.args.documents.now (text_of c.args.text.now) w c.args.v c.args.offset) c.if-w-vocabulary.true ∙ (absent h).first c.args.v c.args.offset))
    ∙ sym (answered h)

pub returns-then-v-vocabulary : goal.returns-then-v-vocabulary
returns-then-v-vocabulary c =
    let h = (goal.at.returns-then-v-vocabulary c).Else-offset-gt-MAX_OFFSET in
    ap accepted (sym (ap (λ (v : ℕ). neighbours_in c.args.documents.now (text_of c.args.text.now) c.args.w v c.args.offset) c.if-v-vocabulary.true ∙ (absent h).second c.args.w c.args.offset))
    ∙ sym (answered h)

pub returns : goal.returns
returns c =
    ap accepted (c.neighbours.ensures ∙ ap (neighbours_in c.args.documents.now _ c.args.w c.args.v) (to_z-of_z c.ranges.offset))
    ∙ sym (answered (goal.at.returns c).Else-offset-gt-MAX_OFFSET)

pub neighbours-requires : goal.neighbours-requires
neighbours-requires c = (
  omega (arith, c.if-vocabulary-w.false, c.if-w-vocabulary.false),
  omega (arith, c.if-vocabulary-v.false, c.if-v-vocabulary.false),
  rw (to_z-of_z c.ranges.offset) (offset_near c.args.offset (rw (to_z-of_z c.ranges.offset) at c.if-offset.false) (rw (to_z-of_z c.ranges.offset) at c.if-offset-gt-MAX_OFFSET.false)),
  c.requires,
)
