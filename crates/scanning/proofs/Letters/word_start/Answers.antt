-- `scanning::Letters::word_start` meets its contract. Assumes nothing.
use Rattle.std.proofs.Common.{◌≡◌, ℕ, length, get_or, sym, ◌∙◌, ap, arith}
use Rattle.lexicon.proofs.Tables.{table_sized}
use Rattle.scanning.proofs.Scans.{start_letter, start_separator, start_end}
use Rattle.scanning.proofs.Letters.word_start.Goals as goal

pub bounds-self-from : goal.bounds-self-from
bounds-self-from c = omega (arith, table_sized c.args.self.now.table.now c.args.self.now.rule)

pub returns-then-self-from-gt0 : goal.returns-then-self-from-gt0
returns-then-self-from-gt0 c =
    let e = ap (λ (b : ℕ). get_or c.args.self.now.table.now b 0) c.from.ensures in
    sym (c.loop-start.invariant
    ∙ start_letter c.args.self.now.table.now c.args.text.now c.loop-start.start c.loop-start-test.true (λ z. omega (arith, e, z, c.if-self-from-gt0.true)))

pub loop-start-preserved : goal.loop-start-preserved
loop-start-preserved c =
    let e = ap (λ (b : ℕ). get_or c.args.self.now.table.now b 0) c.from.ensures in
    c.loop-start.invariant
    ∙ start_separator c.args.self.now.table.now c.args.text.now c.loop-start.start c.loop-start-test.true (omega (arith, e, c.if-self-from-gt0.false))

pub returns : goal.returns
returns c =
    let end : c.loop-start.start ≡ length c.args.text.now = omega arith in
    sym end ∙ sym (c.loop-start.invariant ∙ start_end c.args.self.now.table.now c.args.text.now c.loop-start.start c.loop-start-test.false)
