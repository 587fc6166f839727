-- `scanning::Letters::scan_word` meets its contract. Assumes nothing.
use Rattle.std.proofs.Common.{ℕ, ◌+◌, ◌∷◌, length, get_or, refl, sym, ◌∙◌, ap, arith}
use Rattle.lexicon.proofs.Tables.{table_sized}
use Rattle.scanning.proofs.Scans.{run_at_letter, run_at_separator, run_at_end, bucket_first}
use Rattle.scanning.specs.Scans.{run_at, bucket_from}
use Rattle.scanning.proofs.Letters.scan_word.Goals as goal

pub loop-end-init : goal.loop-end-init
loop-end-init c = (omega arith, refl, bucket_first (run_at c.args.self.now.table.now c.args.text.now c.args.start))

pub bounds-self-from : goal.bounds-self-from
bounds-self-from c = omega (arith, table_sized c.args.self.now.table.now c.args.self.now.rule)

pub returns-then-letter-eq0 : goal.returns-then-letter-eq0
returns-then-letter-eq0 c =
    let loop = c.loop-end in
    let table = c.args.self.now.table.now in
    let e = c.from-letter.ensures ∙ ap (λ (b : ℕ). get_or table b 0) c.from.ensures in
    let none = run_at_separator table c.args.text.now loop.end c.loop-end-test.true (sym e ∙ c.if-letter-eq0.true) in
    (omega (arith, ap length none, loop.invariant.1), sym (loop.invariant.2 ∙ ap (bucket_from loop.bucket) none))

pub loop-end-preserved : goal.loop-end-preserved
loop-end-preserved c =
    let loop = c.loop-end in
    let table = c.args.self.now.table.now in
    let e = c.from-letter.ensures ∙ ap (λ (b : ℕ). get_or table b 0) c.from.ensures in
    let more = run_at_letter table c.args.text.now loop.end c.loop-end-test.true (λ z. c.if-letter-eq0.false (e ∙ z)) in
    let grown = more ∙ ap (λ (x : ℕ). x ∷ run_at table c.args.text.now (loop.end + 1)) (sym e) in
    (omega arith, omega (arith, ap length more, loop.invariant.1), loop.invariant.2 ∙ ap (bucket_from loop.bucket) grown)

pub returns : goal.returns
returns c =
    let loop = c.loop-end in
    let none = run_at_end c.args.self.now.table.now c.args.text.now loop.end c.loop-end-test.false in
    (omega (arith, ap length none, loop.invariant.1), sym (loop.invariant.2 ∙ ap (bucket_from loop.bucket) none))
