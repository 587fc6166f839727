-- `word_places::note_words` meets its contract. Assumes nothing.
use Rattle.std.proofs.Common.{◌≡◌, ℕ, ◌-◌, ◌<◌, List, cond, ltb, length, get_or, drop, sym, ◌∙◌, ap, arith, add-one, length-drop}
use Rattle.base.proofs.Fronts.{front_none, front_next}
use Rattle.hashing.proofs.HashTables.{bucket_below}
use Rattle.lexicon.proofs.Calls.{spellings_long}
use Rattle.lexicon.specs.Reading.{text_words, spellings}
use Rattle.scanning.proofs.Scans.{begins, Next, next, words_first, left_next}
use Rattle.scanning.specs.Scans.{words_at, run_at, start_from, WordBegins, bucket_of}
use Rattle.word_places.specs.Places.{word_of, first_appearances, earlier_place}
use Rattle.word_places.proofs.Chains.{first_found, rank_most, chained_none, chained_more, begun_none, begun_more}
use Rattle.word_places.proofs.Firsts.{spelled_next, appearances_long, appearance_at}
use Rattle.word_places.proofs.Noted.{text_noted}
use Rattle.word_places.proofs.note_words.Goals as goal

-- a word is left, which begins at the position
record Left (table text : List ℕ) (at place : ℕ) : Type 0 where
  step : Next table text at
  below : place < length (spellings table text)
  spelled : run_at table text at ≡ word_of (spellings table text) place

left_of : (table text : List ℕ) (at place : ℕ) → WordBegins table text at → words_at table text at ≡ drop place (text_words table text) → at < length text → Left table text at place
left_of table text at place b e h =
    let n = next table text at b h in
    record {
      step = n;
      below = omega (arith, ap length e, ap length n.words, length-drop place (text_words table text), spellings_long table text);
      spelled = spelled_next table text at place _ e n.words;
    }

-- the place that is noted for it is where it appears first
first_of : (table text : List ℕ) (place found result : ℕ) → place < length (spellings table text) → found ≡ earlier_place (spellings table text) place
    → result ≡ cond (ltb 0 found) (found - 1) place → result ≡ get_or (first_appearances (spellings table text)) place 0
first_of table text place found result h e f =
    f ∙ ap (λ (n : ℕ). cond (ltb 0 n) (n - 1) place) e ∙ first_found (spellings table text) place h ∙ sym (appearance_at (spellings table text) place h)

pub loop-at-init : goal.loop-at-init
loop-at-init c =
    let table = c.args.letters.now.table.now in
    let text = c.args.text.now in (
      omega arith,
      rw c.word_start-at.ensures (begins table text 0 (omega arith)),
      ap (words_at table text) c.word_start-at.ensures ∙ sym (words_first table text),
      begun_none table text c.args.starts.now,
      chained_none (spellings table text) c.args.heads.now c.args.links.now c.requires.0 c.requires.1,
      sym (front_none c.args.firsts.now),
    )

pub bounds-starts-place : goal.bounds-starts-place
bounds-starts-place c =
    let l = left_of c.args.letters.now.table.now c.args.text.now c.loop-at.at c.loop-at.place c.loop-at.invariant.1 c.loop-at.invariant.2 c.loop-at-test.true in
    omega (arith, l.below, c.requires.3, c.loop-at.auto.starts)

pub find_earlier-found-requires : goal.find_earlier-found-requires
find_earlier-found-requires c =
    let table = c.args.letters.now.table.now in
    let text = c.args.text.now in
    let loop = c.loop-at in
    let l = left_of table text loop.at loop.place loop.invariant.1 loop.invariant.2 c.loop-at-test.true in (
      l.below,
      begun_more table text loop.starts loop.place loop.at loop.invariant.3 (omega (arith, l.below, c.requires.3, loop.auto.starts)) loop.invariant.1.inside l.spelled,
      loop.invariant.4,
      omega (arith, l.below, c.requires.2, loop.auto.links),
      c.scan_word-scan.ensures.1 ∙ ap bucket_of l.spelled,
    )

pub add_word-first-requires : goal.add_word-first-requires
add_word-first-requires c =
    let table = c.args.letters.now.table.now in
    let text = c.args.text.now in
    let loop = c.loop-at in
    let l = left_of table text loop.at loop.place loop.invariant.1 loop.invariant.2 c.loop-at-test.true in (
      omega (arith, c.scan_word-scan.ensures.1, bucket_below (run_at table text loop.at), loop.invariant.4.long),
      omega (arith, l.below, c.requires.2, loop.auto.links),
      omega (arith, l.below, c.requires.5),
    )

pub overflow_cast-firsts : goal.overflow_cast-firsts
overflow_cast-firsts c =
    let table = c.args.letters.now.table.now in
    let text = c.args.text.now in
    let loop = c.loop-at in
    let W = spellings table text in
    let l = left_of table text loop.at loop.place loop.invariant.1 loop.invariant.2 c.loop-at-test.true in
    omega (
      arith,
      first_of table text loop.place _ c.add_word-first.result l.below c.find_earlier-found.ensures c.add_word-first.ensures.0,
      appearance_at W loop.place l.below,
      rank_most W loop.place l.below,
      l.below,
      c.requires.5,
    )

pub bounds-firsts-place : goal.bounds-firsts-place
bounds-firsts-place c =
    let l = left_of c.args.letters.now.table.now c.args.text.now c.loop-at.at c.loop-at.place c.loop-at.invariant.1 c.loop-at.invariant.2 c.loop-at-test.true in
    omega (arith, l.below, c.requires.4, c.loop-at.auto.firsts)

pub word_start-at-requires-in-loop-at : goal.word_start-at-requires-in-loop-at
word_start-at-requires-in-loop-at c =
    let l = left_of c.args.letters.now.table.now c.args.text.now c.loop-at.at c.loop-at.place c.loop-at.invariant.1 c.loop-at.invariant.2 c.loop-at-test.true in
    omega (arith, c.scan_word-scan.ensures.0, l.step.inside)

pub loop-at-smaller : goal.loop-at-smaller
loop-at-smaller c =
    let l = left_of c.args.letters.now.table.now c.args.text.now c.loop-at.at c.loop-at.place c.loop-at.invariant.1 c.loop-at.invariant.2 c.loop-at-test.true in
    omega (arith, l.below)

pub loop-at-preserved : goal.loop-at-preserved
loop-at-preserved c =
    let table = c.args.letters.now.table.now in
    let text = c.args.text.now in
    let loop = c.loop-at in
    let W = spellings table text in
    let l = left_of table text loop.at loop.place loop.invariant.1 loop.invariant.2 c.loop-at-test.true in
    let e = c.scan_word-scan.ensures in
    let s = c.word_start-at-in-loop-at.ensures ∙ ap (start_from table text) e.0 in
    let done = c.add_word-first in
    let f = first_of table text loop.place _ done.result l.below c.find_earlier-found.ensures done.ensures.0 in
    let roomy : loop.place < length loop.links = omega (arith, l.below, c.requires.2, loop.auto.links) in
    let started : loop.place < length loop.starts = omega (arith, l.below, c.requires.3, loop.auto.starts) in (
      omega (arith, l.below),
      rw s l.step.begun,
      ap (words_at table text) s ∙ left_next (text_words table text) _ _ _ loop.place loop.invariant.2 l.step.words,
      rw (add-one loop.place) (begun_more table text loop.starts loop.place loop.at loop.invariant.3 started loop.invariant.1.inside l.spelled),
      rw (done.ensures.1, done.ensures.2) (chained_more W loop.place loop.heads loop.links l.below loop.invariant.4 _ _ (e.1 ∙ ap bucket_of l.spelled) c.find_earlier-found.ensures roomy),
      rw (f, loop.invariant.5)
          (front_next (first_appearances W) c.args.firsts.now loop.place (omega (arith, l.below, appearances_long W)) (omega (arith, l.below, c.requires.4))),
    )

pub returns : goal.returns
returns c =
    let loop = c.loop-at in
    text_noted c.args.letters.now.table.now c.args.text.now loop.starts c.args.firsts.now loop.firsts loop.at loop.place c.loop-at-test.false
    loop.invariant.0 loop.invariant.2 loop.invariant.3 loop.invariant.5
