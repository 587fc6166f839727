-- `lookup::count_found` meets its contract. Assumes nothing.
use Rattle.std.proofs.Common.{◌≡◌, ℕ, ◌+◌, ◌-◌, ◌<◌, take, sym, ◌∙◌, ap, arith}
use Rattle.hashing.proofs.Links.{link_some, link_none}
use Rattle.lookup.proofs.Listed.{count_in_hit, count_in_miss, count_in_none}
use Rattle.lookup.specs.Lookups.{count_in}
use Rattle.scanning.proofs.Scans.{next, left_step, some_left}
use Rattle.scanning.specs.Scans.{words_at, start_from}
use Rattle.lookup.proofs.count_found.Goals as goal
use Rattle.lookup.proofs.count_found.Goals.{then-is_some, else-is_some}

pub word_start-start-requires : goal.word_start-start-requires
word_start-start-requires c =
    let table = c.args.part.now.list.now.letters.table.now in
    let text = c.args.text.now in
    let n = next table text c.loop.start c.loop.invariant.0 (some_left table text c.loop.start (omega (arith, c.loop-test.true, c.loop.invariant.1))) in
    omega (arith, c.scan_word-scan.ensures.0, n.inside)

pub loop-preserved : goal.loop-preserved
loop-preserved c =
    let p = c.args.part.now in
    let table = p.list.now.letters.table.now in
    let list = p.list.now.bytes.now in
    let text = c.args.text.now in
    let loop = c.loop in
    let left = c.args.size - loop.counter in
    let h : 0 < left = omega (arith, c.loop-test.true) in
    let n = next table text loop.start loop.invariant.0 (some_left table text loop.start (omega (arith, h, loop.invariant.1))) in
    let s = left_step _ _ _ left n.words h loop.invariant.1 in
    let stepped = c.word_start-start.ensures ∙ ap (start_from table text) c.scan_word-scan.ensures.0 in
    let fewer : c.args.size - (loop.counter + 1) ≡ left - 1 = omega arith in
    let m = ap (λ (k : ℕ). count_in table list p.from p.count (take (left - 1) (words_at table text k))) stepped in
    elim c.if-is_some.branch [
      | then-is_some w ↦
          let found = link_some c.find-word.result (sym c.is_some.ensures ∙ w.if-is_some.true) in
          rw fewer (
            rw stepped n.begun,
            rw stepped s.1,
            omega (arith, w.found-is, loop.invariant.2),
            omega (arith, w.found-is, loop.invariant.3, m, count_in_hit table list p.from p.count _ _ _ left n.words h (omega (arith, c.find-word.ensures, found.1))),
          )
      | else-is_some w ↦
          let none = link_none c.find-word.result (sym c.is_some.ensures ∙ w.if-is_some.false) in
          rw fewer (
            rw stepped n.begun,
            rw stepped s.1,
            omega (arith, w.found-is, loop.invariant.2),
            omega (arith, w.found-is, loop.invariant.3, m, count_in_miss table list p.from p.count _ _ _ left n.words h (omega (arith, c.find-word.ensures, none))),
          )
    ]

pub returns : goal.returns
returns c =
    let p = c.args.part.now in
    let table = p.list.now.letters.table.now in
    let list = p.list.now.bytes.now in
    let e : c.args.size - c.loop.counter ≡ 0 = omega arith in
    omega (
      arith,
      c.loop.invariant.3,
      ap (λ (k : ℕ). count_in table list p.from p.count (take k (words_at table c.args.text.now c.loop.start))) e,
      count_in_none table list p.from p.count,
    )
