-- `plain_text::read_by_written` meets its contract: a word twice, then a word that is not listed, then the ranks. Assumes nothing.
use Rattle.std.proofs.Common.{ℕ, List, refl, sym, ◌∙◌, ap, arith, rules}
use Rattle.base.specs.Answers.{accepted, refused, refused_at, front}
use Rattle.base.specs.Refusals.{refusal_word_list, refusal_unlisted}
use Rattle.lexicon.proofs.Calls.{read_text_refused, read_text_accepted}
use Rattle.plain_text.proofs.Calls.{ranks_are, twice_refused, unlisted_refused, all_accepted, all_rankable}
use Rattle.plain_text.proofs.Sizes.{refused_is}
use Rattle.plain_text.proofs.read_by_written.Goals as goal

pub returns-then-not-is_distinct : goal.returns-then-not-is_distinct
returns-then-not-is_distinct c =
    let list = c.args.list.now in
    read_text_refused list.letters.table.now list.bytes.now c.args.text.now c.args.ranks.now (refused refusal_word_list) refl
    (twice_refused list.letters.table.now list.bytes.now list.size c.args.text.now c.args.size c.args.ranks.now c.requires (sym c.is_distinct.ensures ∙ c.if-not-is_distinct.true))
    _ (refused_is _ _ c.into.ensures)

pub returns-in-Some : goal.returns-in-Some
returns-in-Some c =
    let list = c.args.list.now in
    let found = c.in-Some.ensures in
    read_text_refused list.letters.table.now list.bytes.now c.args.text.now c.args.ranks.now (refused_at refusal_unlisted c.in-Some.at) refl
    (unlisted_refused list.letters.table.now list.bytes.now list.size c.args.text.now c.args.size c.args.ranks.now c.requires
    (sym c.is_distinct.ensures ∙ c.if-not-is_distinct.false) (found.1 refl) ∙ ap (refused_at refusal_unlisted) (sym found.0))
    _ refl

pub write_ranks-requires : goal.write_ranks-requires
write_ranks-requires c =
    let list = c.args.list.now in
    let none = c.in_default.ensures in (
      all_rankable list.letters.table.now list.bytes.now list.size c.args.text.now c.args.size c.args.ranks.now c.requires
          (sym c.is_distinct.ensures ∙ c.if-not-is_distinct.false) (omega (arith, none.0)),
      omega (arith, c.requires.sized, c.requires.room),
      record { heads_long = search rules; links_long = search rules; starts_long = search rules },
    )

pub returns : goal.returns
returns c =
    let list = c.args.list.now in
    let table = list.letters.table.now in
    let none = c.in_default.ensures in
    read_text_accepted table list.bytes.now c.args.text.now c.args.ranks.now
    (all_accepted table list.bytes.now list.size c.args.text.now c.args.size c.args.ranks.now c.requires
    (sym c.is_distinct.ensures ∙ c.if-not-is_distinct.false) (omega (arith, none.0))) _ _
    (ap accepted c.requires.sized)
    (c.write_ranks.ensures ∙ ap (λ (xs : List ℕ). front xs c.args.ranks.now) (ranks_are table c.requires.rule list.bytes.now c.requires.written c.args.text.now))
