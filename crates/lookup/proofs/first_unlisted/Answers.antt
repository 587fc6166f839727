-- `lookup::first_unlisted` meets its contract. Assumes nothing.
use Rattle.std.proofs.Common.{◌≡◌, ℕ, ◌-◌, ◌/◌, ◌≤◌, ◌<◌, List, length, take, sym, ◌∙◌, ap, arith, length-drop}
use Rattle.std.proofs.Math.ListN.{drop_of_length-le}
use Rattle.hashing.proofs.HashTables.{room_stays}
use Rattle.hashing.specs.Parts.{words_of}
use Rattle.lexicon.specs.Reading.{TextWord, text_words}
use Rattle.lookup.proofs.Listed.{missing_behind, missing_here, missing_split, some_missing}
use Rattle.lookup.specs.Lookups.{count_listed, first_missing}
use Rattle.scanning.proofs.Scans.{begins, next, words_first, some_left}
use Rattle.scanning.specs.Scans.{words_at}
use Rattle.lookup.proofs.first_unlisted.Goals as goal

pub count_listed-requires : goal.count_listed-requires
count_listed-requires c =
    let table = c.args.list.now.letters.table.now in
    let text = c.args.text.now in
    let whole = ap (words_at table text) c.word_start-at.ensures ∙ sym (words_first table text) in
    (c.requires.0, rw c.word_start-at.ensures (begins table text 0 (omega arith)), omega (arith, c.requires.1, ap length whole), c.requires.2)

pub returns-then-count_listed-size : goal.returns-then-count_listed-size
returns-then-count_listed-size c =
    let table = c.args.list.now.letters.table.now in
    let text = c.args.text.now in
    let words = words_of c.args.list.now in
    let size = c.args.size in
    let ws = text_words table text in
    let whole = ap (words_at table text) c.word_start-at.ensures ∙ sym (words_first table text) in
    let none = missing_behind words (length text) size ws (omega (arith, c.requires.1))
    (ap (λ (vs : List TextWord). count_listed words (take size vs)) (sym whole) ∙ sym c.count_listed.ensures ∙ c.if-count_listed-size.true)
    ∙ ap (first_missing words (length text)) (drop_of_length-le ws {i = size} (omega (arith, c.requires.1))) in
    (sym none, λ h. cc)

pub loop-left-init : goal.loop-left-init
loop-left-init c =
    let table = c.args.list.now.letters.table.now in
    let text = c.args.text.now in
    let whole = ap (words_at table text) c.word_start-at.ensures ∙ sym (words_first table text) in (
      rw c.word_start-at.ensures (begins table text 0 (omega arith)),
      omega (arith, c.requires.1, ap length whole),
      ap (first_missing (words_of c.args.list.now) (length text)) whole,
      λ q. c.if-count_listed-size.false (c.count_listed.ensures ∙ q),
      room_stays c.requires.2 c.count_listed.auto.heads c.count_listed.auto.links c.count_listed.auto.starts,
    )

pub loop-left-preserved-then-count_listed-half : goal.loop-left-preserved-then-count_listed-half
loop-left-preserved-then-count_listed-half c =
    let text = c.args.text.now in
    let words = words_of c.args.list.now in
    let loop = c.loop-left in
    let ws = words_at c.args.list.now.letters.table.now text loop.at in
    let e = sym c.count_listed-in-loop-left.ensures ∙ c.if-count_listed-half.true in
    let m = c.skip_words-at.ensures.1 in
    let h : loop.left / 2 ≤ length ws = omega (arith, loop.invariant.1) in (
      c.skip_words-at.ensures.0,
      omega (arith, loop.invariant.1, ap length m, length-drop (loop.left / 2) ws),
      ap (first_missing words (length text)) m ∙ sym (missing_behind words (length text) (loop.left / 2) ws h e) ∙ loop.invariant.2,
      λ q. missing_split words ws loop.left (loop.left / 2) (omega arith) e loop.invariant.3
          (ap (λ (vs : List TextWord). count_listed words (take (loop.left - loop.left / 2) vs)) (sym m) ∙ q),
      room_stays loop.invariant.4 c.count_listed-in-loop-left.auto.heads c.count_listed-in-loop-left.auto.links c.count_listed-in-loop-left.auto.starts,
    )

pub returns : goal.returns
returns c =
    let table = c.args.list.now.letters.table.now in
    let text = c.args.text.now in
    let words = words_of c.args.list.now in
    let loop = c.loop-left in
    let ws = words_at table text loop.at in
    let p : 0 < loop.left = some_missing words ws loop.left loop.invariant.3 in
    let o : loop.left ≡ 1 = omega (arith, c.loop-left-test.false) in
    let inside : loop.at < length text = some_left table text loop.at (omega (arith, loop.invariant.1)) in
    let n = next table text loop.at loop.invariant.0 inside in
    let e = sym (missing_here words (length text) ws _ _ n.words (λ q. loop.invariant.3 (ap (λ (k : ℕ). count_listed words (take k ws)) o ∙ q ∙ sym o))) ∙ loop.invariant.2 in
    (e, λ _. omega (arith, e, inside))
