-- `finding::first_alike` meets its contract. Assumes nothing.
use Rattle.std.proofs.Common.{◌≡◌, ℕ, ◌+◌, ◌<◌, List, [], length, get_or, drop, refl, sym, ◌∙◌, ap, arith, below_more}
use Rattle.base.specs.Lists.{same}
use Rattle.base.proofs.Lists.{first_where_at, first_where_none}
use Rattle.hashing.proofs.HashTables.{spelled_here}
use Rattle.hashing.proofs.Parts.{WordsBefore, spelled_in_lem, words_left, words_before_first, words_before_more}
use Rattle.hashing.specs.Parts.{words_of}
use Rattle.lexicon.specs.Lexicon.{list_rank}
use Rattle.lexicon.specs.Reading.{spellings}
use Rattle.scanning.proofs.Scans.{Next, next, begins, some_left}
use Rattle.scanning.specs.Scans.{run_at, start_from, WordBegins}
use Rattle.finding.proofs.first_alike.Goals as goal

-- the word at a position, and that it is the next of the list
module _ (table list : List ℕ) (at rank : ℕ) (b : WordBegins table list at) (w : WordsBefore table list at rank) (h : rank < length (spellings table list)) where
  step : Next table list at
  step = next table list at b (some_left table list at (omega (arith, words_left table list at rank w)))

  here : get_or (spellings table list) rank [] ≡ run_at table list at
  here =
      let z : rank + 0 ≡ rank = omega arith in
      ap (λ (n : ℕ). get_or (spellings table list) n []) (sym z) ∙ sym (spelled_in_lem table list at rank w 0)
      ∙ spelled_here table list at at 0 _ refl step.words

  behind : WordsBefore table list (start_from table list (at + length (run_at table list at))) (rank + 1)
  behind = words_before_more table list at rank _ 1 w (ap (drop 1) (sym step.words))

pub loop-rank-init : goal.loop-rank-init
loop-rank-init c =
    let list = c.args.list.now in
    rw c.word_start-at.ensures (
      begins list.letters.table.now list.bytes.now 0 (omega arith),
      words_before_first list.letters.table.now list.bytes.now,
      λ q (h : q < 0). absurd (omega arith),
    )

pub returns-then-same_word : goal.returns-then-same_word
unfolding list_rank
returns-then-same_word c =
    let list = c.args.list.now in
    let table = list.letters.table.now in
    let loop = c.loop-rank in
    let w = run_at table c.args.spelling.now 0 in
    let inside : loop.rank < length (words_of list) = omega (arith, c.loop-rank-test.true, list.counted) in
    let alike = c.same_word.ensures ∙ ap (same w) (sym (here table list.bytes.now loop.at loop.rank loop.invariant.0 loop.invariant.1 inside)) in
    sym (first_where_at (same w) (words_of list) [] loop.rank inside loop.invariant.2 (sym alike ∙ c.if-same_word.true))

pub word_start-at-requires-in-loop-rank : goal.word_start-at-requires-in-loop-rank
word_start-at-requires-in-loop-rank c =
    let list = c.args.list.now in
    let loop = c.loop-rank in
    let inside : loop.rank < length (words_of list) = omega (arith, c.loop-rank-test.true, list.counted) in
    let n = step list.letters.table.now list.bytes.now loop.at loop.rank loop.invariant.0 loop.invariant.1 inside in
    omega (arith, c.scan_word-scan.ensures.0, n.inside)

pub loop-rank-preserved : goal.loop-rank-preserved
loop-rank-preserved c =
    let list = c.args.list.now in
    let table = list.letters.table.now in
    let loop = c.loop-rank in
    let w = run_at table c.args.spelling.now 0 in
    let inside : loop.rank < length (words_of list) = omega (arith, c.loop-rank-test.true, list.counted) in
    let alike = c.same_word.ensures ∙ ap (same w) (sym (here table list.bytes.now loop.at loop.rank loop.invariant.0 loop.invariant.1 inside)) in
    let n = step table list.bytes.now loop.at loop.rank loop.invariant.0 loop.invariant.1 inside in
    let stepped = c.word_start-at-in-loop-rank.ensures ∙ ap (start_from table list.bytes.now) c.scan_word-scan.ensures.0 in (
      rw stepped n.begun,
      rw stepped (behind table list.bytes.now loop.at loop.rank loop.invariant.0 loop.invariant.1 inside),
      below_more _ loop.rank loop.invariant.2 (sym alike ∙ c.if-same_word.false),
    )

pub returns : goal.returns
unfolding list_rank
returns c =
    let list = c.args.list.now in
    let w = run_at list.letters.table.now c.args.spelling.now 0 in
    let e : c.loop-rank.rank ≡ length (words_of list) = omega (arith, c.loop-rank-test.false, list.counted) in
    list.counted ∙ sym (first_where_none (same w) (words_of list) [] (rw (← e) c.loop-rank.invariant.2))
