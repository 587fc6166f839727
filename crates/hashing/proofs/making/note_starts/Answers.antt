-- `hashing::making::note_starts` meets its contract. Assumes nothing.
use Rattle.std.proofs.Common.{◌<◌, length, sym, ◌∙◌, ap, arith}
use Rattle.hashing.proofs.HashTables.{bucket_below, starts_more, buckets_more, spelled_here}
use Rattle.scanning.proofs.Scans.{next_left, left_next}
use Rattle.scanning.specs.Scans.{words_at, run_at, start_from, bucket_of}
use Rattle.hashing.proofs.making.note_starts.Goals as goal

pub overflow_cast-buckets : goal.overflow_cast-buckets
overflow_cast-buckets c =
    omega (arith, c.scan_word-scan.ensures.1, bucket_below (run_at c.args.letters.now.table.now c.args.list.now c.loop-word.at))

pub word_start-at-requires : goal.word_start-at-requires
word_start-at-requires c =
    let table = c.args.letters.now.table.now in
    let list = c.args.list.now in
    let loop = c.loop-word in
    let h : loop.word < length (words_at table list c.args.from) = omega (arith, c.loop-word-test.true, c.requires.2) in
    let n = next_left table list c.args.from loop.at loop.word loop.invariant.2 loop.invariant.3 h in
    omega (arith, c.scan_word-scan.ensures.0, n.inside)

pub loop-word-preserved : goal.loop-word-preserved
loop-word-preserved c =
    let table = c.args.letters.now.table.now in
    let list = c.args.list.now in
    let from = c.args.from in
    let loop = c.loop-word in
    let h : loop.word < length (words_at table list from) = omega (arith, c.loop-word-test.true, c.requires.2) in
    let n = next_left table list from loop.at loop.word loop.invariant.2 loop.invariant.3 h in
    let e = spelled_here table list from loop.at loop.word _ loop.invariant.3 n.words in
    let stepped = c.word_start-at.ensures ∙ ap (start_from table list) c.scan_word-scan.ensures.0 in (
      starts_more table list from loop.word loop.starts loop.at loop.invariant.0 (omega (arith, c.requires.1)) loop.invariant.2.inside (sym e),
      buckets_more table list from loop.word loop.buckets c.scan_word-scan.result.bucket loop.invariant.1 (omega (arith, c.requires.1)) (c.scan_word-scan.ensures.1 ∙ ap bucket_of (sym e)),
      rw stepped n.begun,
      ap (words_at table list) stepped ∙ left_next (words_at table list from) _ _ _ loop.word loop.invariant.3 n.words,
    )
