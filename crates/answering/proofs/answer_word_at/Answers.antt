use Rattle.std.proofs.Common.{sym, ap, ◌∙◌, arith}
use Rattle.base.specs.Answers.{accepted}
use Rattle.questions.proofs.Answered.{word_at_outside, word_at_inside}
use Rattle.answering.proofs.answer_word_at.Goals as goal

pub returns-then-length-place : goal.returns-then-length-place
returns-then-length-place c = rw c.into.ensures (sym (word_at_outside _ c.args.place (omega (arith, c.length.ensures, c.if-length-place.true))))

pub returns : goal.returns
returns c = ap accepted c.word_at-rank.ensures ∙ sym (word_at_inside _ c.args.place (omega (arith, c.length.ensures, c.if-length-place.false)))
