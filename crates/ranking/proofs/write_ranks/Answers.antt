-- `ranking::write_ranks` meets its contract. Assumes nothing.
use Rattle.std.proofs.Common.{◌+◌, ◌≤◌, length, arith}
use Rattle.hashing.proofs.HashTables.{room_of}
use Rattle.hashing.proofs.Parts.{words_left, words_before_first, words_before_more}
use Rattle.hashing.specs.Parts.{words_of}
use Rattle.lexicon.specs.Reading.{text_words, spellings}
use Rattle.ranking.proofs.Ranks.{ranks_none, ranks_more, ranks_all}
use Rattle.scanning.proofs.Scans.{begins}
use Rattle.ranking.proofs.write_ranks.Goals as goal

pub loop-first-init : goal.loop-first-init
loop-first-init c =
    let list = c.args.list.now in (
      omega arith,
      rw c.word_start-from.ensures (begins list.letters.table.now list.bytes.now 0 (omega arith)),
      rw c.word_start-from.ensures (words_before_first list.letters.table.now list.bytes.now),
      ranks_none (words_of list) (text_words list.letters.table.now c.args.text.now) c.args.ranks.now,
      c.requires.2,
    )

pub hash_part-behind-requires : goal.hash_part-behind-requires
hash_part-behind-requires c =
    let list = c.args.list.now in
    let loop = c.loop-first in
    let l = words_left list.letters.table.now list.bytes.now loop.from loop.first loop.invariant.2 in
    (loop.invariant.1, omega (arith, c.min-count.ensures), omega (arith, c.min-count.ensures, l, list.counted), loop.invariant.4)

pub loop-first-preserved : goal.loop-first-preserved
loop-first-preserved c =
    let list = c.args.list.now in
    let loop = c.loop-first in
    let count = c.min-count.result in
    let inside : loop.first + count ≤ length (words_of list) = omega (arith, c.min-count.ensures, list.counted, c.loop-first-test.true) in
    let hashed = c.hash_part-behind.ensures in (
      omega (arith, inside, list.counted),
      hashed.1,
      words_before_more list.letters.table.now list.bytes.now loop.from loop.first c.hash_part-behind.result count loop.invariant.2 hashed.2,
      ranks_more list.letters.table.now list.bytes.now loop.from loop.first count loop.invariant.2 inside c.requires.0.once
          (text_words list.letters.table.now c.args.text.now) c.args.ranks.now loop.ranks _ loop.invariant.3 c.write_found.ensures,
      room_of hashed.0,
    )

pub returns : goal.returns
unfolding spellings
returns c =
    let list = c.args.list.now in
    let asked = c.requires.0 in
    ranks_all (words_of list) (text_words list.letters.table.now c.args.text.now) c.loop-first.first c.args.ranks.now c.loop-first.ranks
    (omega (arith, list.counted, c.loop-first-test.false)) (omega (arith, asked.sized, c.requires.1)) (λ p h. asked.listed p (omega (arith, asked.sized, h))) c.loop-first.invariant.3
