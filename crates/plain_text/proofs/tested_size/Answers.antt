-- `plain_text::tested_size` meets its contract: the list is tested, then the text, then the slice. Assumes nothing.
use Rattle.std.proofs.Common.{length, sym, ◌∙◌, ap, arith}
use Rattle.base.proofs.Tests.{inside_range, below_range, above_range}
use Rattle.base.specs.Answers.{accepted}
use Rattle.dense.specs.Code.{max_vocabulary}
use Rattle.lexicon.specs.Reading.{text_words}
use Rattle.plain_text.proofs.Sizes.{refused_is, sizes_vocabulary, sizes_words, sizes_short, sizes_none}
use Rattle.plain_text.proofs.tested_size.Goals as goal
use Rattle.plain_text.proofs.tested_size.Goals.{then-words-lt1-via-then-words-lt1, then-words-lt1-via-else-words-lt1+then-words-gt-MAX_VOCABULARY}

pub returns-then-words-lt1 : goal.returns-then-words-lt1
returns-then-words-lt1 c =
    let size = length (text_words c.args.letters.now.table.now c.args.text.now) in
    refused_is _ _ c.into.ensures
    ∙ sym (sizes_vocabulary c.args.words size c.args.room (
    elim c.then-words-lt1.branch [
      | then-words-lt1-via-then-words-lt1 w ↦ below_range 1 (max_vocabulary 128) c.args.words (omega (arith, w.if-words-lt1.true))
      | then-words-lt1-via-else-words-lt1+then-words-gt-MAX_VOCABULARY w ↦
          above_range 1 (max_vocabulary 128) c.args.words (omega (arith, w.if-words-gt-MAX_VOCABULARY.true))
    ]
    ))

pub returns-then-size-gt-MAX_WORDS : goal.returns-then-size-gt-MAX_WORDS
returns-then-size-gt-MAX_WORDS c =
    let inside = inside_range 1 (max_vocabulary 128) c.args.words (omega (arith, c.if-words-lt1.false)) (omega (arith, c.if-words-gt-MAX_VOCABULARY.false)) in
    refused_is _ _ c.into-then-size-gt-MAX_WORDS.ensures
    ∙ sym (sizes_words c.args.words (length (text_words c.args.letters.now.table.now c.args.text.now)) c.args.room inside
    (omega (arith, c.text_size-size.ensures, c.if-size-gt-MAX_WORDS.true)))

pub returns-then-room-size : goal.returns-then-room-size
returns-then-room-size c =
    let inside = inside_range 1 (max_vocabulary 128) c.args.words (omega (arith, c.if-words-lt1.false)) (omega (arith, c.if-words-gt-MAX_VOCABULARY.false)) in
    refused_is _ _ c.into-then-room-size.ensures
    ∙ sym (sizes_short c.args.words (length (text_words c.args.letters.now.table.now c.args.text.now)) c.args.room inside
    (omega (arith, c.text_size-size.ensures, c.if-size-gt-MAX_WORDS.false)) (omega (arith, c.text_size-size.ensures, c.if-room-size.true)))

pub returns : goal.returns
returns c =
    let e = c.text_size-size.ensures in
    let inside = inside_range 1 (max_vocabulary 128) c.args.words (omega (arith, c.if-words-lt1.false)) (omega (arith, c.if-words-gt-MAX_VOCABULARY.false)) in
    ap accepted e
    ∙ sym (sizes_none c.args.words (length (text_words c.args.letters.now.table.now c.args.text.now)) c.args.room inside
    (omega (arith, e, c.if-size-gt-MAX_WORDS.false)) (omega (arith, e, c.if-room-size.false)))
