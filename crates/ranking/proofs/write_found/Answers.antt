-- `ranking::write_found` meets its contract. Assumes nothing.
use Rattle.std.proofs.Common.{◌<◌, length, take, sym, ◌∙◌, ap, arith}
use Rattle.std.proofs.Math.Seq.{length-take-le}
use Rattle.hashing.proofs.HashTables.{index_most}
use Rattle.lexicon.specs.Reading.{text_words}
use Rattle.ranking.proofs.Ranks.{ranked_none, ranked_found, ranked_other}
use Rattle.scanning.proofs.Scans.{begins, words_first, left_next, take_next, text_next}
use Rattle.scanning.specs.Scans.{words_at, run_at, start_from}
use Rattle.ranking.proofs.write_found.Goals as goal
use Rattle.ranking.proofs.write_found.Goals.{in-Some, in_default}

pub loop-place-init : goal.loop-place-init
loop-place-init c =
    let p = c.args.part.now in
    let table = p.list.now.letters.table.now in
    let text = c.args.text.now in (
      rw c.word_start-at.ensures (begins table text 0 (omega arith)),
      ap (words_at table text) c.word_start-at.ensures ∙ sym (words_first table text),
      ranked_none table p.list.now.bytes.now p.from p.count c.args.first c.args.ranks.now,
    )

pub overflow_add-ranks : goal.overflow_add-ranks
overflow_add-ranks c =
    let p = c.args.part.now in
    let table = p.list.now.letters.table.now in
    omega (arith, c.requires.0, c.in-Some.ensures, index_most table p.list.now.bytes.now p.from (run_at table c.args.text.now c.loop-place.at) p.count)

pub overflow_cast-ranks : goal.overflow_cast-ranks
overflow_cast-ranks c =
    let p = c.args.part.now in
    let table = p.list.now.letters.table.now in
    omega (arith, c.requires.0, c.in-Some.ensures, index_most table p.list.now.bytes.now p.from (run_at table c.args.text.now c.loop-place.at) p.count)

pub word_start-at-requires-in-loop-place : goal.word_start-at-requires-in-loop-place
word_start-at-requires-in-loop-place c =
    let table = c.args.part.now.list.now.letters.table.now in
    let text = c.args.text.now in
    let loop = c.loop-place in
    let h : loop.place < length (text_words table text) = omega (arith, c.loop-place-test.true, c.requires.1) in
    let n = text_next table text loop.at loop.place loop.invariant.0 loop.invariant.1 h in
    omega (arith, c.scan_word-scan.ensures.0, n.inside)

pub loop-place-preserved : goal.loop-place-preserved
loop-place-preserved c =
    let p = c.args.part.now in
    let table = p.list.now.letters.table.now in
    let list = p.list.now.bytes.now in
    let text = c.args.text.now in
    let loop = c.loop-place in
    let ws = text_words table text in
    let h : loop.place < length ws = omega (arith, c.loop-place-test.true, c.requires.1) in
    let n = text_next table text loop.at loop.place loop.invariant.0 loop.invariant.1 h in
    let stepped = c.word_start-at-in-loop-place.ensures ∙ ap (start_from table text) c.scan_word-scan.ensures.0 in
    let more = left_next ws _ _ _ loop.place loop.invariant.1 n.words in
    let passed = take_next ws _ _ _ loop.place loop.invariant.1 n.words in
    let long : loop.place < length c.args.ranks.now = omega (arith, h, c.requires.1, c.requires.2) in
    elim c.match-find.branch [
      | in-Some w ↦ (
        rw stepped n.begun,
        ap (words_at table text) stepped ∙ more,
        rw (passed, w.ranks-is)
            (ranked_found table list p.from p.count c.args.first (take loop.place ws) _ c.args.ranks.now loop.ranks loop.place (length-take-le loop.place ws (omega (arith, h))) long loop.invariant.2 w.in-Some.word (sym w.in-Some.ensures)),
      )
      | in_default w ↦ (
        rw stepped n.begun,
        ap (words_at table text) stepped ∙ more,
        rw (passed, w.ranks-is)
            (ranked_other table list p.from p.count c.args.first (take loop.place ws) _ c.args.ranks.now loop.ranks loop.place (length-take-le loop.place ws (omega (arith, h))) long loop.invariant.2 (sym w.in_default.ensures)),
      )
    ]
