-- `list_rules::is_unrepeated` meets its contract. Assumes nothing.
use Rattle.std.proofs.Common.{◌≡◌, ◌<◌, length, sym, ◌∙◌, ap, arith, below_more}
use Rattle.hashing.proofs.HashTables.{spelled_here, index_most}
use Rattle.hashing.proofs.Links.{link_some, link_none}
use Rattle.hashing.specs.HashTables.{spelled_at, index_in}
use Rattle.hashing.specs.Parts.{link_to}
use Rattle.list_rules.proofs.Repeats.{own_none, own_not, unrepeated_yes, unrepeated_not, unrepeated_own}
use Rattle.scanning.proofs.Scans.{Next, next_left, left_next}
use Rattle.scanning.specs.Scans.{words_at, start_from}
use Rattle.list_rules.proofs.is_unrepeated.Goals as goal
use Rattle.list_rules.proofs.is_unrepeated.Goals.{After-scan_word-scan, After-find-found}

next_of : (c : After-scan_word-scan) → Next c.args.part.now.list.now.letters.table.now c.args.part.now.list.now.bytes.now c.loop.at
next_of c =
    let p = c.args.part.now in
    let table = p.list.now.letters.table.now in
    let list = p.list.now.bytes.now in
    let h : c.loop.counter < length (words_at table list p.from) = omega (arith, c.loop-test.true, c.requires.2) in
    next_left table list p.from c.loop.at c.loop.counter c.loop.invariant.0 c.loop.invariant.1 h

-- where the word at the position is found
found_of : (c : After-find-found) → link_to c.find-found.result
    ≡ index_in c.args.part.now.list.now.letters.table.now c.args.part.now.list.now.bytes.now c.args.part.now.from c.args.part.now.count
    (spelled_at c.args.part.now.list.now.letters.table.now c.args.part.now.list.now.bytes.now c.args.part.now.from c.loop.counter)
found_of c =
    let p = c.args.part.now in
    let table = p.list.now.letters.table.now in
    let list = p.list.now.bytes.now in
    let h : c.loop.counter < length (words_at table list p.from) = omega (arith, c.loop-test.true, c.requires.2) in
    let n = next_left table list p.from c.loop.at c.loop.counter c.loop.invariant.0 c.loop.invariant.1 h in
    c.find-found.ensures ∙ ap (index_in table list p.from p.count) (sym (spelled_here table list p.from c.loop.at c.loop.counter _ c.loop.invariant.1 n.words))

pub loop-init : goal.loop-init
loop-init c =
    let p = c.args.part.now in
    (p.begun, p.left, λ q h. unrepeated_own p.list.now.letters.table.now p.list.now.bytes.now p.from p.count p.count q c.requires.0 h)

pub scan_word-scan-requires : goal.scan_word-scan-requires
scan_word-scan-requires c = c.loop.invariant.0.inside

pub find-found-requires : goal.find-found-requires
find-found-requires c = (c.loop.invariant.0.inside, c.scan_word-scan.ensures.1)

pub returns-then-is_some : goal.returns-then-is_some
returns-then-is_some c =
    let p = c.args.part.now in
    let table = p.list.now.letters.table.now in
    let list = p.list.now.bytes.now in
    let word = c.loop.counter in
    let found = link_some c.find-found.result (sym c.is_some.ensures ∙ c.if-is_some.true) in
    let f = sym (found_of (goal.at.returns-then-is_some c).After-find-found) ∙ found.1 in
    sym (unrepeated_not table list p.from p.count c.args.size word c.loop-test.true
    (own_not table list p.from p.count word (omega (arith, f)) (λ q. omega (arith, index_most table list p.from (spelled_at table list p.from word) p.count, q))))

pub word_start-at-requires : goal.word_start-at-requires
word_start-at-requires c = omega (arith, c.scan_word-scan.ensures.0, (next_of (goal.at.word_start-at-requires c).After-scan_word-scan).inside)

pub loop-preserved : goal.loop-preserved
loop-preserved c =
    let p = c.args.part.now in
    let table = p.list.now.letters.table.now in
    let list = p.list.now.bytes.now in
    let n = next_of (goal.at.loop-preserved c).After-scan_word-scan in
    let none = link_none c.find-found.result (sym c.is_some.ensures ∙ c.if-is_some.false) in
    let f = found_of (goal.at.loop-preserved c).After-find-found in
    let stepped = c.word_start-at.ensures ∙ ap (start_from table list) c.scan_word-scan.ensures.0 in (
      rw stepped n.begun,
      ap (words_at table list) stepped ∙ left_next (words_at table list p.from) _ _ _ c.loop.counter c.loop.invariant.1 n.words,
      below_more _ c.loop.counter c.loop.invariant.2 (own_none table list p.from p.count c.loop.counter (sym f ∙ none)),
    )

pub returns : goal.returns
returns c =
    let p = c.args.part.now in
    let e : c.loop.counter ≡ c.args.size = omega (arith, c.requires.1) in
    sym (unrepeated_yes p.list.now.letters.table.now p.list.now.bytes.now p.from p.count c.args.size (rw (← e) c.loop.invariant.2))
