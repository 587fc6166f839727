-- `scanning::Letters::same_word` meets its contract. Assumes nothing.
use Rattle.std.proofs.Common.{◌≡◌, ℕ, ◌+◌, sym, ◌∙◌, arith}
use mathlib.Core.Path.{ap₂}
use Rattle.base.specs.Lists.{same}
use Rattle.scanning.proofs.Scans.{letter_below, same_letter, other_letter, both_end}
use Rattle.scanning.specs.Scans.{run_at}
use Rattle.scanning.proofs.Letters.same_word.Goals as goal

pub returns-then-letter-letter_at : goal.returns-then-letter-letter_at
returns-then-letter-letter_at c =
    let a = c.args in
    let i = c.loop-start.i in
    sym (c.loop-start.invariant.2
    ∙ other_letter a.self.now.table.now a.text.now a.list.now (a.start + i) (a.at + i)
    (λ q. c.if-letter-letter_at.true (c.letter_at-letter.ensures ∙ q ∙ sym c.letter_at.ensures)))

pub returns-then-letter-eq0 : goal.returns-then-letter-eq0
returns-then-letter-eq0 c =
    let a = c.args in
    let i = c.loop-start.i in
    sym (c.loop-start.invariant.2
    ∙ both_end a.self.now.table.now a.text.now a.list.now (a.start + i) (a.at + i)
    (sym c.letter_at-letter.ensures ∙ c.if-letter-letter_at.false ∙ c.letter_at.ensures) (sym c.letter_at-letter.ensures ∙ c.if-letter-eq0.true))

pub loop-start-smaller : goal.loop-start-smaller
loop-start-smaller c =
    let a = c.args in
    omega (arith, letter_below a.self.now.table.now a.text.now (a.start + c.loop-start.i) (λ q. c.if-letter-eq0.false (c.letter_at-letter.ensures ∙ q)))

pub loop-start-preserved : goal.loop-start-preserved
loop-start-preserved c =
    let a = c.args in
    let table = a.self.now.table.now in
    let i = c.loop-start.i in
    let agree = sym c.letter_at-letter.ensures ∙ c.if-letter-letter_at.false ∙ c.letter_at.ensures in
    let e : a.start + i + 1 ≡ a.start + (i + 1) = omega arith in
    let f : a.at + i + 1 ≡ a.at + (i + 1) = omega arith in (
      omega (arith, letter_below table a.text.now (a.start + i) (λ q. c.if-letter-eq0.false (c.letter_at-letter.ensures ∙ q))),
      omega (arith, letter_below table a.list.now (a.at + i) (λ q. c.if-letter-eq0.false (c.letter_at-letter.ensures ∙ agree ∙ q))),
      c.loop-start.invariant.2
          ∙ same_letter table a.text.now a.list.now (a.start + i) (a.at + i) agree (λ q. c.if-letter-eq0.false (c.letter_at-letter.ensures ∙ q))
          ∙ ap₂ (λ (m n : ℕ). same (run_at table a.text.now m) (run_at table a.list.now n)) e f,
    )
