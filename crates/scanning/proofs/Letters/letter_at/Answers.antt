-- `scanning::Letters::letter_at` meets its contract. Assumes nothing.
use Rattle.std.proofs.Common.{ℕ, get_or, sym, ◌∙◌, ap, arith}
use Rattle.lexicon.proofs.Tables.{table_sized}
use Rattle.scanning.proofs.Scans.{letter_inside, letter_end}
use Rattle.scanning.proofs.Letters.letter_at.Goals as goal

pub bounds-self-from : goal.bounds-self-from
bounds-self-from c = omega (arith, table_sized c.args.self.now.table.now c.args.self.now.rule)

pub returns-then-at-text : goal.returns-then-at-text
returns-then-at-text c =
    ap (λ (b : ℕ). get_or c.args.self.now.table.now b 0) c.from.ensures
    ∙ sym (letter_inside c.args.self.now.table.now c.args.text.now c.args.at c.if-at-text.true)

pub returns-else-at-text : goal.returns-else-at-text
returns-else-at-text c = sym (letter_end c.args.self.now.table.now c.args.text.now c.args.at c.if-at-text.false)
