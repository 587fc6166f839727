use Rattle.std.proofs.Common.{refl, sym, ap, ◌∙◌, arith}
use Rattle.base.specs.Answers.{accepted}
use Rattle.questions.proofs.NoWords.{no_words_counted, no_words_past}
use Rattle.phrase_checks.proofs.answer_no_words.Goals as goal

pub returns-then-start-words : goal.returns-then-start-words
returns-then-start-words c vocab t documents e =
    ap accepted (omega arith) ∙ sym (no_words_counted vocab t documents c.args.words.now c.args.start 0 refl (omega (arith, c.if-start-words.true)))

pub returns : goal.returns
returns c vocab t documents e =
    rw c.into.ensures (sym (no_words_past vocab t documents c.args.words.now c.args.start 0 refl (omega (arith, c.if-start-words.false))))
