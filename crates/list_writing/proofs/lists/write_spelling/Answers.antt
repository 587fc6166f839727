-- `list_writing::lists::write_spelling` meets its contract. Assumes nothing.
use Rattle.std.proofs.Common.{◌≡◌, ◌+◌, length, get_or, sym, ◌∙◌, ap, arith}
use Rattle.std.proofs.Math.Seq.{take-length}
use Rattle.scanning.specs.Scans.{letter_at, run_at}
use Rattle.list_writing.proofs.Words.{written_none, written_next, written_last, lettered, word_ended}
use Rattle.list_writing.proofs.lists.write_spelling.Goals as goal

pub loop-letter-init : goal.loop-letter-init
loop-letter-init c =
    let a = c.args in
    let table = a.letters.now.table.now in
    let z : c.args.start ≡ c.args.start + 0 = omega arith in (
      omega arith,
      ap (run_at table a.text.now) z,
      c.letter_at-letter.ensures ∙ ap (letter_at table a.text.now) z,
      sym (written_none c.args.list.now c.args.at),
    )

pub loop-letter-smaller : goal.loop-letter-smaller
loop-letter-smaller c =
    let a = c.args in
    let loop = c.loop-letter in
    let l = lettered a.letters.now.table.now a.text.now c.args.start loop.i loop.invariant.1 (λ e. omega (arith, c.loop-letter-test.true, loop.invariant.2)) in
    omega (arith, l.inside)

pub loop-letter-preserved : goal.loop-letter-preserved
loop-letter-preserved c =
    let a = c.args in
    let table = a.letters.now.table.now in
    let loop = c.loop-letter in
    let word = run_at table a.text.now c.args.start in
    let l = lettered table a.text.now c.args.start loop.i loop.invariant.1 (λ e. omega (arith, c.loop-letter-test.true, loop.invariant.2)) in
    let e : loop.letter ≡ get_or word loop.i 0 = loop.invariant.2 ∙ sym l.letter in (
      omega (arith, l.inside),
      l.rest,
      c.letter_at-letter-in-loop-letter.ensures,
      rw (e, loop.invariant.3) (written_next word c.args.list.now c.args.at loop.i l.inside (omega (arith, c.requires.1))),
    )

pub returns : goal.returns
returns c =
    let a = c.args in
    let table = a.letters.now.table.now in
    let loop = c.loop-letter in
    let word = run_at table a.text.now c.args.start in
    let ended : loop.i ≡ length word =
    word_ended table a.text.now c.args.start loop.i loop.invariant.1 loop.invariant.0 (omega (arith, c.loop-letter-test.false, loop.invariant.2)) in (
      omega (arith, ended),
      rw (loop.invariant.3, ended, take-length word) (written_last word c.args.list.now c.args.at 10 c.requires.1),
    )
