-- `plain_text::read_text_by` meets its contract: the sizes are tested, then how the list is written. Assumes nothing.
use Rattle.std.proofs.Common.{◌≡◌, ℕ, length, refl, sym, ◌∙◌, ap}
use Rattle.std.proofs.lemmas.Result.{err_from_is_err_and}
use borrow.Author.Tests.{ne_eqb}
use Rattle.base.specs.Answers.{refused}
use Rattle.base.specs.Refusals.{refusal_word_list}
use Rattle.base.specs.declared.Answer.{Answer}
use Rattle.lexicon.proofs.Calls.{read_text_list, read_text_refused, list_unwritten}
use Rattle.lexicon.specs.Lexicon.{list_size}
use Rattle.lexicon.specs.Reading.{text_words}
use Rattle.plain_text.specs.Sizes.{sizes_answer}
use Rattle.plain_text.proofs.Calls.{list_sized}
use Rattle.base.proofs.Outcomes.{refusal_some}
use Rattle.plain_text.proofs.Sizes.{refused_is, sizes_inside, sizes_first}
use Rattle.plain_text.proofs.read_text_by.Goals as goal

pub returns-in_err-size : goal.returns-in_err-size
returns-in_err-size c =
    let a = c.args in
    let table = a.letters.now.table.now in
    let p = err_from_is_err_and c.from_residual.result c.from_residual.ensures.1 in
    let e = c.in_err-size.ensures
    ∙ ap (λ (n : ℕ). sizes_answer n (length (text_words table a.text.now)) (length a.ranks.now)) c.list_size-words.ensures in
    let n = λ (z : (sizes_answer (list_size a.list.now) (length (text_words table a.text.now)) (length a.ranks.now)).refusal ≡ 0).
    refusal_some c.in_err-size.field-0.0.refusal (ap (λ (r : Answer). r.refusal) e ∙ z) in
    rw (p.1, p.2) (read_text_refused table a.list.now a.text.now a.ranks.now _ (ne_eqb _ 0 n) (sizes_first table a.list.now a.text.now a.ranks.now n) _ e)

pub returns-then-not-is_written : goal.returns-then-not-is_written
returns-then-not-is_written c =
    let a = c.args in
    let table = a.letters.now.table.now in
    let e = c.in_ok-size.ensures
    ∙ ap (λ (n : ℕ). sizes_answer n (length (text_words table a.text.now)) (length a.ranks.now)) c.list_size-words.ensures in
    let i = sizes_inside _ _ _ (ap (λ (r : Answer). r.refusal) (sym e)) in
    read_text_refused table a.list.now a.text.now a.ranks.now (refused refusal_word_list) refl
    (read_text_list table a.list.now a.text.now a.ranks.now i.0 i.1 i.2
    (list_unwritten table a.list.now (sym c.is_written.ensures ∙ c.if-not-is_written.true)))
    _ (refused_is _ _ c.into.ensures)

pub invariant_of-written : goal.invariant_of-written
invariant_of-written c =
    let letters = c.args.letters.now in
    record { counted = c.list_size-words.ensures ∙ list_sized letters.table.now letters.rule c.args.list.now (sym c.is_written.ensures ∙ c.if-not-is_written.false) }

pub read_by_written-requires : goal.read_by_written-requires
read_by_written-requires c =
    let a = c.args in
    let table = a.letters.now.table.now in
    let e = c.in_ok-size.ensures
    ∙ ap (λ (n : ℕ). sizes_answer n (length (text_words table a.text.now)) (length a.ranks.now)) c.list_size-words.ensures in
    let i = sizes_inside _ _ _ (ap (λ (r : Answer). r.refusal) (sym e)) in
    record {
      rule = a.letters.now.rule;
      all = c.list_size-words.ensures;
      inside = i.0;
      sized = ap (λ (r : Answer). r.value) (e ∙ i.3);
      short = i.1;
      room = i.2;
      written = sym c.is_written.ensures ∙ c.if-not-is_written.false;
    }
