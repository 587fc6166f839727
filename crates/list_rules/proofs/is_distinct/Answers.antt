-- `list_rules::is_distinct` meets its contract. Assumes nothing.
use Rattle.std.proofs.Common.{◌≡◌, ◌+◌, ◌-◌, ◌≤◌, ◌<◌, length, sym, ◌∙◌, arith}
use Rattle.hashing.proofs.HashTables.{room_of}
use Rattle.hashing.proofs.Parts.{words_left, words_before_first, words_before_more}
use Rattle.hashing.specs.Parts.{words_of}
use Rattle.lexicon.proofs.Members.{distinct_of}
use Rattle.list_rules.proofs.Repeats.{unrepeated_more, repeated, unrepeated_which}
use Rattle.scanning.proofs.Scans.{begins}
use Rattle.list_rules.proofs.is_distinct.Goals as goal

pub loop-first-init : goal.loop-first-init
loop-first-init c =
    let list = c.args.list.now in (
      omega arith,
      rw c.word_start-from.ensures (begins list.letters.table.now list.bytes.now 0 (omega arith)),
      rw c.word_start-from.ensures (words_before_first list.letters.table.now list.bytes.now),
      λ i j (h : i < 0) l m q. omega arith,
      c.requires,
    )

pub hash_part-behind-requires : goal.hash_part-behind-requires
hash_part-behind-requires c =
    let list = c.args.list.now in
    let loop = c.loop-first in
    let l = words_left list.letters.table.now list.bytes.now loop.from loop.first loop.invariant.2 in
    (loop.invariant.1, omega (arith, c.min-count.ensures), omega (arith, c.min-count.ensures, l, list.counted), loop.invariant.4)

pub is_part_unrepeated-requires : goal.is_part_unrepeated-requires
is_part_unrepeated-requires c =
    let list = c.args.list.now in
    let loop = c.loop-first in
    let l = words_left list.letters.table.now list.bytes.now loop.from loop.first loop.invariant.2 in
    (omega (arith, c.min-count.ensures), omega (arith, l, list.counted))

pub returns-then-not-is_part_unrepeated : goal.returns-then-not-is_part_unrepeated
returns-then-not-is_part_unrepeated c =
    let list = c.args.list.now in
    let loop = c.loop-first in
    let left = list.size - loop.first in
    let few : c.min-count.result ≤ left = omega (arith, c.min-count.ensures) in
    let all : loop.first + left ≡ length (words_of list) = omega (arith, list.counted, c.loop-first-test.true) in
    let w = unrepeated_which list.letters.table.now list.bytes.now loop.from c.min-count.result left (sym c.is_part_unrepeated.ensures ∙ c.if-not-is_part_unrepeated.true) in
    sym (repeated list.letters.table.now list.bytes.now loop.from loop.first loop.invariant.2 c.min-count.result left _ all few w.0 w.1)

pub loop-first-preserved : goal.loop-first-preserved
loop-first-preserved c =
    let list = c.args.list.now in
    let loop = c.loop-first in
    let count = c.min-count.result in
    let left = list.size - loop.first in
    let few : count ≤ left = omega (arith, c.min-count.ensures) in
    let all : loop.first + left ≡ length (words_of list) = omega (arith, list.counted, c.loop-first-test.true) in
    let hashed = c.hash_part-behind.ensures in (
      omega (arith, few, c.loop-first-test.true),
      hashed.1,
      words_before_more list.letters.table.now list.bytes.now loop.from loop.first c.hash_part-behind.result count loop.invariant.2 hashed.2,
      unrepeated_more list.letters.table.now list.bytes.now loop.from loop.first loop.invariant.2 count left all few
          (sym c.is_part_unrepeated.ensures ∙ c.if-not-is_part_unrepeated.false) loop.invariant.3,
      room_of hashed.0,
    )

pub returns : goal.returns
returns c =
    let list = c.args.list.now in
    sym (distinct_of (words_of list) (λ i j l m. c.loop-first.invariant.3 i j (omega (arith, list.counted, c.loop-first-test.false, l, m)) l m))
