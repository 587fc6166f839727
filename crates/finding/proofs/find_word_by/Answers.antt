-- `finding::find_word_by` meets its contract: the number of words is tested, then how they are written. Assumes nothing.
use Rattle.std.proofs.Common.{sym, ◌∙◌, arith}
use Rattle.base.proofs.Tests.{inside_range, below_range, above_range}
use Rattle.dense.specs.Code.{max_vocabulary}
use Rattle.lexicon.specs.Lexicon.{list_size}
use Rattle.lexicon.proofs.Calls.{list_unwritten}
use Rattle.plain_text.proofs.Calls.{list_sized}
use Rattle.plain_text.proofs.Sizes.{refused_is}
use Rattle.finding.proofs.Ranks.{find_vocabulary, find_list}
use Rattle.finding.proofs.find_word_by.Goals as goal
use Rattle.finding.proofs.find_word_by.Goals.{then-words-lt1-via-then-words-lt1, then-words-lt1-via-else-words-lt1+then-words-gt-MAX_VOCABULARY}

pub returns-then-words-lt1 : goal.returns-then-words-lt1
returns-then-words-lt1 c =
    let a = c.args in
    let n = list_size a.list.now in
    refused_is _ _ c.into.ensures
    ∙ sym (find_vocabulary a.letters.now.table.now a.list.now a.spelling.now (
    elim c.then-words-lt1.branch [
      | then-words-lt1-via-then-words-lt1 w ↦ below_range 1 (max_vocabulary 128) n (omega (arith, c.list_size-words.ensures, w.if-words-lt1.true))
      | then-words-lt1-via-else-words-lt1+then-words-gt-MAX_VOCABULARY w ↦
          above_range 1 (max_vocabulary 128) n (omega (arith, c.list_size-words.ensures, w.if-words-gt-MAX_VOCABULARY.true))
    ]
    ))

pub returns-then-not-is_written : goal.returns-then-not-is_written
returns-then-not-is_written c =
    let a = c.args in
    let inside = inside_range 1 (max_vocabulary 128) (list_size a.list.now) (omega (arith, c.list_size-words.ensures, c.if-words-lt1.false))
    (omega (arith, c.list_size-words.ensures, c.if-words-gt-MAX_VOCABULARY.false)) in
    refused_is _ _ c.into-then-not-is_written.ensures
    ∙ sym (find_list a.letters.now.table.now a.list.now a.spelling.now inside (list_unwritten a.letters.now.table.now a.list.now (sym c.is_written.ensures ∙ c.if-not-is_written.true)))

pub invariant_of-written : goal.invariant_of-written
invariant_of-written c =
    let letters = c.args.letters.now in
    record { counted = c.list_size-words.ensures ∙ list_sized letters.table.now letters.rule c.args.list.now (sym c.is_written.ensures ∙ c.if-not-is_written.false) }

pub find_by_written-requires : goal.find_by_written-requires
find_by_written-requires c =
    let inside = inside_range 1 (max_vocabulary 128) (list_size c.args.list.now) (omega (arith, c.list_size-words.ensures, c.if-words-lt1.false))
    (omega (arith, c.list_size-words.ensures, c.if-words-gt-MAX_VOCABULARY.false)) in
    (sym c.is_written.ensures ∙ c.if-not-is_written.false, inside)
