-- `scanning::Letters::text_size` meets its contract. Assumes nothing.
use Rattle.std.proofs.Common.{ℕ, ◌+◌, length, ◌∙◌, ap, arith}
use Rattle.scanning.proofs.Scans.{begins, words_end, next, words_first}
use Rattle.scanning.specs.Scans.{words_at, start_from}
use Rattle.scanning.proofs.Letters.text_size.Goals as goal

pub loop-start-init : goal.loop-start-init
loop-start-init c =
    let table = c.args.self.now.table.now in
    let text = c.args.text.now in (
      rw c.word_start-start.ensures (begins table text 0 (omega arith)),
      omega arith,
      ap (λ (n : ℕ). 0 + length (words_at table text n)) c.word_start-start.ensures ∙ omega (arith, ap length (words_first table text)),
    )

pub word_start-start-requires-in-loop-start : goal.word_start-start-requires-in-loop-start
word_start-start-requires-in-loop-start c =
    let n = next c.args.self.now.table.now c.args.text.now c.loop-start.start c.loop-start.invariant.0 c.loop-start-test.true in
    omega (arith, c.scan_word-scan.ensures.0, n.inside)

pub loop-start-smaller : goal.loop-start-smaller
loop-start-smaller c =
    let n = next c.args.self.now.table.now c.args.text.now c.loop-start.start c.loop-start.invariant.0 c.loop-start-test.true in
    let stepped = c.word_start-start-in-loop-start.ensures ∙ ap (start_from c.args.self.now.table.now c.args.text.now) c.scan_word-scan.ensures.0 in
    omega (arith, stepped, n.further, c.loop-start-test.true)

pub loop-start-preserved : goal.loop-start-preserved
loop-start-preserved c =
    let table = c.args.self.now.table.now in
    let text = c.args.text.now in
    let loop = c.loop-start in
    let n = next table text loop.start loop.invariant.0 c.loop-start-test.true in
    let stepped = c.word_start-start-in-loop-start.ensures ∙ ap (start_from table text) c.scan_word-scan.ensures.0 in (
      rw stepped n.begun,
      omega (arith, loop.invariant.1, stepped, n.further),
      omega (arith, loop.invariant.2, ap length n.words, ap (λ (m : ℕ). length (words_at table text m)) stepped),
    )

pub returns : goal.returns
returns c = omega (arith, c.loop-start.invariant.2, ap length (words_end c.args.self.now.table.now c.args.text.now c.loop-start.start c.loop-start-test.false))
