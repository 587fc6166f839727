-- `list_making::make_list_by` meets its contract: a text of too many bytes has too many words or not, and of another the list is made. Assumes nothing.
use Rattle.std.proofs.Common.{refl, arith}
use Rattle.base.specs.Answers.{refused}
use Rattle.base.specs.Refusals.{refusal_words, refusal_list_making}
use Rattle.list_calls.proofs.Calls.{refused_is, too_many_words_lem, too_long, list_refused}
use Rattle.list_making.proofs.make_list_by.Goals as goal

pub returns-then-size-gt-MAX_WORDS : goal.returns-then-size-gt-MAX_WORDS
returns-then-size-gt-MAX_WORDS c =
    let a = c.args in
    list_refused a.letters.now.table.now a.text.now a.list.now a.ranks.now (refused refusal_words) refl
    (too_many_words_lem a.letters.now.table.now a.text.now a.list.now a.ranks.now (omega (arith, c.text_size-size.ensures, c.if-size-gt-MAX_WORDS.true)))
    _ (refused_is _ _ c.into.ensures) refl refl

pub returns-then-text-gt-MAX_LIST_TEXT : goal.returns-then-text-gt-MAX_LIST_TEXT
returns-then-text-gt-MAX_LIST_TEXT c =
    let a = c.args in
    list_refused a.letters.now.table.now a.text.now a.list.now a.ranks.now (refused refusal_list_making) refl
    (too_long a.letters.now.table.now a.text.now a.list.now a.ranks.now (omega (arith, c.text_size-size.ensures, c.if-size-gt-MAX_WORDS.false))
    (omega (arith, c.if-text-gt-MAX_LIST_TEXT.true)))
    _ (refused_is _ _ c.into-then-text-gt-MAX_LIST_TEXT.ensures) refl refl
