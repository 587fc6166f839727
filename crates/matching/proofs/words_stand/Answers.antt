use Rattle.std.proofs.Common.{sym, ◌∙◌, arith}
use borrow.Author.Tests.{eqb-false}
use Rattle.words.specs.Texts.{text_of}
use Rattle.words.proofs.Positions.{text_most}
use Rattle.phrases.proofs.Standing.{stands_yes, stands_other}
use Rattle.matching.proofs.words_stand.Goals as goal

pub overflow_add-place : goal.overflow_add-place
overflow_add-place c = omega (arith, text_most c.args.text.now.ready.checked)

pub returns-then-not-agrees_at : goal.returns-then-not-agrees_at
returns-then-not-agrees_at c =
    sym (stands_other (text_of c.args.text.now) c.args.words.now c.args.place.0 c.loop-i.i (omega arith) (eqb-false _ _ (sym c.agrees_at.ensures ∙ c.if-not-agrees_at.true)))

pub returns : goal.returns
returns c = sym (stands_yes (text_of c.args.text.now) c.args.words.now c.args.place.0 c.requires (λ k h. c.loop-i.invariant k (omega arith)))
