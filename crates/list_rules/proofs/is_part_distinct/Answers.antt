-- `list_rules::is_part_distinct` meets its contract. Assumes nothing.
use Rattle.std.proofs.Common.{◌≡◌, ℕ, suc, ◌-◌, ◌<◌, List, get_or, sym, ◌∙◌, ap, arith, below_more}
use Rattle.hashing.proofs.HashTables.{next_in_most, next_in_bucket, index_later, index_no_later}
use Rattle.hashing.proofs.Links.{link_some, link_none}
use Rattle.hashing.specs.HashTables.{spelled_at, next_in, index_from}
use Rattle.hashing.specs.Parts.{link_to}
use Rattle.list_rules.proofs.Repeats.{part_repeated, part_unrepeated}
use Rattle.scanning.specs.Scans.{bucket_of}
use Rattle.list_rules.proofs.is_part_distinct.Goals as goal
use Rattle.list_rules.proofs.is_part_distinct.Goals.{After-find_from-later}

pub find_from-later-requires : goal.find_from-later-requires
find_from-later-requires c =
    let p = c.args.part.now in
    let table = p.list.now.letters.table.now in
    let list = p.list.now.bytes.now in
    let word = c.loop-word.word in
    let b = bucket_of (spelled_at table list p.from word) in
    let e = p.hashed.chained.linked.link word (omega arith) c.loop-word-test.true in
    let started = p.hashed.begun.start word c.loop-word-test.true in (
      started.0,
      omega (arith, e, next_in_most table list p.from p.count b (suc word) c.loop-word-test.true),
      λ (h : 0 < get_or p.links.now word 0).
          next_in_bucket table list p.from p.count b (suc word) (get_or p.links.now word 0 - 1) (omega (arith, e, h)) ∙ ap bucket_of (sym started.1),
    )

-- the first later word that is alike
found_of : (c : After-find_from-later) → link_to c.find_from-later.result
    ≡ index_from c.args.part.now.list.now.letters.table.now c.args.part.now.list.now.bytes.now c.args.part.now.from c.args.part.now.count
    (spelled_at c.args.part.now.list.now.letters.table.now c.args.part.now.list.now.bytes.now c.args.part.now.from c.loop-word.word)
    (next_in c.args.part.now.list.now.letters.table.now c.args.part.now.list.now.bytes.now c.args.part.now.from c.args.part.now.count
    (bucket_of (spelled_at c.args.part.now.list.now.letters.table.now c.args.part.now.list.now.bytes.now c.args.part.now.from c.loop-word.word)) (suc c.loop-word.word))
found_of c =
    let p = c.args.part.now in
    let table = p.list.now.letters.table.now in
    let list = p.list.now.bytes.now in
    let word = c.loop-word.word in
    c.find_from-later.ensures
    ∙ ap (λ (w : List ℕ). index_from table list p.from p.count w (get_or p.links.now word 0)) (p.hashed.begun.start word c.loop-word-test.true).1
    ∙ ap (index_from table list p.from p.count (spelled_at table list p.from word)) (p.hashed.chained.linked.link word (omega arith) c.loop-word-test.true)

pub returns-then-is_some : goal.returns-then-is_some
returns-then-is_some c =
    let p = c.args.part.now in
    let table = p.list.now.letters.table.now in
    let list = p.list.now.bytes.now in
    let word = c.loop-word.word in
    let found = link_some c.find_from-later.result (sym c.is_some.ensures ∙ c.if-is_some.true) in
    let later = index_later table list p.from (spelled_at table list p.from word) p.count word found.0 c.loop-word-test.true
    (sym (found_of (goal.at.returns-then-is_some c).After-find_from-later) ∙ found.1) in
    sym (part_repeated table list p.from p.count word found.0 later.0 later.1 later.2)

pub loop-word-preserved : goal.loop-word-preserved
loop-word-preserved c =
    let p = c.args.part.now in
    let table = p.list.now.letters.table.now in
    let list = p.list.now.bytes.now in
    let word = c.loop-word.word in
    let none = link_none c.find_from-later.result (sym c.is_some.ensures ∙ c.if-is_some.false) in
    below_more _ word c.loop-word.invariant
    (λ j l h q. index_no_later table list p.from (spelled_at table list p.from word) p.count word j (sym (found_of (goal.at.loop-word-preserved c).After-find_from-later) ∙ none) l h q)

pub returns : goal.returns
returns c =
    let p = c.args.part.now in
    let e : c.loop-word.word ≡ p.count = omega arith in
    sym (part_unrepeated p.list.now.letters.table.now p.list.now.bytes.now p.from p.count (λ i (h : i < p.count). c.loop-word.invariant i (omega arith)))
