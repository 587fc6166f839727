-- `scanning::Letters::skip_words` meets its contract. Assumes nothing.
use Rattle.std.proofs.Common.{◌≡◌, ◌<◌, length, refl, ◌∙◌, ap, arith}
use Rattle.scanning.proofs.Scans.{left_next, next_left}
use Rattle.scanning.specs.Scans.{words_at, start_from}
use Rattle.scanning.proofs.Letters.skip_words.Goals as goal

pub loop-init : goal.loop-init
loop-init c = (c.requires.0, refl)

pub scan_word-scan-requires : goal.scan_word-scan-requires
scan_word-scan-requires c = c.loop.invariant.0.inside

pub word_start-start-requires : goal.word_start-start-requires
word_start-start-requires c =
    let a = c.args in
    let h : c.loop.counter < length (words_at a.self.now.table.now a.text.now a.at) = omega (arith, c.loop-test.true, c.requires.1) in
    let n = next_left a.self.now.table.now a.text.now a.at c.loop.start c.loop.counter c.loop.invariant.0 c.loop.invariant.1 h in
    omega (arith, c.scan_word-scan.ensures.0, n.inside)

pub loop-preserved : goal.loop-preserved
loop-preserved c =
    let a = c.args in
    let table = a.self.now.table.now in
    let h : c.loop.counter < length (words_at table a.text.now a.at) = omega (arith, c.loop-test.true, c.requires.1) in
    let n = next_left table a.text.now a.at c.loop.start c.loop.counter c.loop.invariant.0 c.loop.invariant.1 h in
    let stepped = c.word_start-start.ensures ∙ ap (start_from table a.text.now) c.scan_word-scan.ensures.0 in (
      rw stepped n.begun,
      ap (words_at table a.text.now) stepped ∙ left_next (words_at table a.text.now a.at) _ _ _ c.loop.counter c.loop.invariant.1 n.words,
    )

pub returns : goal.returns
returns c =
    let e : c.loop.counter ≡ c.args.size = omega arith in
    (c.loop.invariant.0, rw (← e) c.loop.invariant.1)
