-- `list_tables::make_in_tables` meets its contract: the words are noted and counted, too many distinct ones are refused, and the others are sorted
-- and written. Assumes nothing.
use Rattle.std.proofs.Common.{◌≤◌, ◌<◌, length, refl, sym, ◌∙◌, ap, arith}
use Rattle.base.specs.Answers.{refused}
use Rattle.base.specs.Refusals.{refusal_list_making}
use Rattle.lexicon.proofs.Calls.{spellings_long}
use Rattle.lexicon.specs.Reading.{spellings}
use Rattle.list_calls.proofs.Calls.{refused_is, too_many_distinct, list_refused}
use Rattle.list_calls.proofs.Fits.{words_fit}
use Rattle.list_tables.specs.Tables.{max_text_words}
use Rattle.list_tables.proofs.Noted.{made_words_lem, noted_below, counts_sortable, list_noted}
use Rattle.list_writing.proofs.AllNoted.{all_noted}
use Rattle.word_places.specs.Places.{TextCounted}
use Rattle.word_places.proofs.Noted.{text_counted}
use Rattle.list_tables.proofs.make_in_tables.Goals as goal
use Rattle.list_tables.proofs.make_in_tables.Goals.{After-note_words-size, After-count_places-words}

few : (c : After-note_words-size) → c.note_words-size.result ≤ max_text_words
few c =
    let table = c.args.letters.now.table.now in
    omega (arith, c.note_words-size.ensures.sized, words_fit table c.args.text.now, spellings_long table c.args.text.now, c.requires.0)

-- what is noted and counted
counted : (c : After-count_places-words)
    → TextCounted c.args.letters.now.table.now c.args.text.now c.note_words-size.new.starts c.note_words-size.new.firsts c.count_places-words.new.counts
    c.note_words-size.result c.count_places-words.result
counted c =
    let table = c.args.letters.now.table.now in
    let noted = c.note_words-size in
    let h : noted.result ≤ max_text_words = omega (arith, noted.ensures.sized, words_fit table c.args.text.now, spellings_long table c.args.text.now, c.requires.0) in
    text_counted _ _ _ _ _ noted.result c.count_places-words.result noted.ensures (omega (arith, h, c.requires.1.counts_long, c.count_places-words.auto.counts))
    c.count_places-words.ensures.0 c.count_places-words.ensures.1

pub note_words-size-requires : goal.note_words-size-requires
note_words-size-requires c =
    let table = c.args.letters.now.table.now in
    let t = c.requires.1 in
    let h : length (spellings table c.args.text.now) ≤ max_text_words = omega (arith, words_fit table c.args.text.now, spellings_long table c.args.text.now, c.requires.0) in
    (t.heads_long, t.heads_clear, omega (arith, h, t.links_long), omega (arith, h, t.starts_long), omega (arith, h, t.firsts_long), omega (arith, h))

pub count_places-words-requires : goal.count_places-words-requires
count_places-words-requires c =
    let t = c.requires.1 in
    let noted = c.note_words-size in
    let h = few (goal.at.count_places-words-requires c).After-note_words-size in (
      omega (arith, h),
      omega (arith, h, t.firsts_long, noted.auto.firsts),
      omega (arith, h, t.counts_long),
      noted_below c.args.letters.now.table.now c.args.text.now _ _ noted.result _ noted.ensures (omega (arith, h, t.counts_long)),
      t.counts_clear,
    )

pub returns-then-words-gt-MAX_LIST_WORDS : goal.returns-then-words-gt-MAX_LIST_WORDS
returns-then-words-gt-MAX_LIST_WORDS c =
    let a = c.args in
    let table = a.letters.now.table.now in
    let number = (counted (goal.at.returns-then-words-gt-MAX_LIST_WORDS c).After-count_places-words).distinct_words ∙ sym (ap length (made_words_lem table a.text.now)) in
    list_refused table a.text.now a.list.now a.ranks.now (refused refusal_list_making) refl
    (too_many_distinct table a.text.now a.list.now a.ranks.now (omega (arith, words_fit table a.text.now, c.requires.0)) (omega (arith, number, c.if-words-gt-MAX_LIST_WORDS.true)))
    _ (refused_is _ _ c.into.ensures) refl refl

pub order_places-requires : goal.order_places-requires
order_places-requires c =
    let a = c.args in
    let t = c.requires.1 in
    let noted = c.note_words-size in
    let number = c.count_places-words in
    let h = few (goal.at.order_places-requires c).After-note_words-size in
    counts_sortable a.letters.now.table.now a.text.now _ _ _ _ _ noted.result number.result (counted (goal.at.order_places-requires c).After-count_places-words)
    (omega (arith, h)) (omega (arith, h, t.counts_long, number.auto.counts))
    (λ x (l : x < length c.fill.new.self). c.fill.ensures.clones x 0 (omega (arith, l, c.fill.ensures.len)) refl)
    (omega (arith, h, t.heads_long, c.fill.ensures.len, noted.auto.heads)) (omega (arith, c.if-words-gt-MAX_LIST_WORDS.false, t.links_long, noted.auto.links))

pub invariant_of-noted : goal.invariant_of-noted
invariant_of-noted c =
    let a = c.args in
    let t = c.requires.1 in
    let noted = c.note_words-size in
    let number = c.count_places-words in
    let sorted = c.order_places in
    let h = few (goal.at.invariant_of-noted c).After-note_words-size in
    record {
      noted =
          all_noted a.letters.now.table.now a.text.now _ _ _ _ noted.result number.result
          (list_noted a.letters.now.table.now a.text.now _ _ _ _ _ noted.result number.result (counted (goal.at.invariant_of-noted c).After-count_places-words) sorted.ensures
          (omega (arith, c.if-words-gt-MAX_LIST_WORDS.false, t.links_long, sorted.auto.order, noted.auto.links)) a.letters.now.rule c.requires.0
          (omega (arith, c.if-words-gt-MAX_LIST_WORDS.false)) (omega (arith, h, t.firsts_long, noted.auto.firsts)) (omega (arith, h, t.counts_long, sorted.auto.counts, number.auto.counts)));
    }
