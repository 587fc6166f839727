-- `lookup::count_listed` meets its contract. Assumes nothing.
use Rattle.std.proofs.Common.{◌+◌, ◌≤◌, length, take, sym, arith, length-take}
use Rattle.hashing.proofs.HashTables.{room_of}
use Rattle.hashing.proofs.Parts.{words_left, words_before_first, words_before_more}
use Rattle.hashing.specs.Parts.{words_of}
use Rattle.lookup.proofs.Listed.{count_parts, listed_most, listed_none}
use Rattle.scanning.proofs.Scans.{begins}
use Rattle.scanning.specs.Scans.{words_at}
use Rattle.lookup.proofs.count_listed.Goals as goal

pub loop-first-init : goal.loop-first-init
loop-first-init c =
    let list = c.args.list.now in (
      omega arith,
      rw c.word_start-from.ensures (begins list.letters.table.now list.bytes.now 0 (omega arith)),
      rw c.word_start-from.ensures (words_before_first list.letters.table.now list.bytes.now),
      sym (listed_none (take c.args.size (words_at list.letters.table.now c.args.text.now c.args.at))),
      c.requires.3,
    )

pub hash_part-behind-requires : goal.hash_part-behind-requires
hash_part-behind-requires c =
    let list = c.args.list.now in
    let loop = c.loop-first in
    let l = words_left list.letters.table.now list.bytes.now loop.from loop.first loop.invariant.2 in
    (loop.invariant.1, omega (arith, c.min-count.ensures), omega (arith, c.min-count.ensures, l, list.counted), loop.invariant.4)

pub overflow_add-found : goal.overflow_add-found
overflow_add-found c =
    let list = c.args.list.now in
    let loop = c.loop-first in
    let ws = words_at list.letters.table.now c.args.text.now c.args.at in
    let inside : loop.first + c.min-count.result ≤ length (words_of list) = omega (arith, c.min-count.ensures, list.counted, c.loop-first-test.true) in
    omega (
      arith,
      loop.invariant.3,
      c.count_found-found.ensures,
      count_parts list.letters.table.now list.bytes.now loop.from loop.first loop.invariant.2 c.min-count.result inside c.requires.0 (take c.args.size ws),
      listed_most (take (loop.first + c.min-count.result) (words_of list)) (take c.args.size ws),
      length-take c.args.size ws,
      c.ranges.size,
    )

pub loop-first-preserved : goal.loop-first-preserved
loop-first-preserved c =
    let list = c.args.list.now in
    let loop = c.loop-first in
    let ws = words_at list.letters.table.now c.args.text.now c.args.at in
    let inside : loop.first + c.min-count.result ≤ length (words_of list) = omega (arith, c.min-count.ensures, list.counted, c.loop-first-test.true) in
    let hashed = c.hash_part-behind.ensures in (
      omega (arith, inside, list.counted),
      hashed.1,
      words_before_more list.letters.table.now list.bytes.now loop.from loop.first c.hash_part-behind.result c.min-count.result loop.invariant.2 hashed.2,
      omega (
        arith,
        loop.invariant.3,
        c.count_found-found.ensures,
        count_parts list.letters.table.now list.bytes.now loop.from loop.first loop.invariant.2 c.min-count.result inside c.requires.0 (take c.args.size ws),
      ),
      room_of hashed.0,
    )
