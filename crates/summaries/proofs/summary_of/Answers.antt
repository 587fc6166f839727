use Rattle.std.proofs.Common.{◌≡◌, ℕ, List, length, sym, ap, ◌∙◌, arith, ne_eqb}
use Rattle.base.specs.declared.Answer.{Answer}
use Rattle.base.specs.Answers.{accepted, is_accepted, filled, front}
use Rattle.base.proofs.Outcomes.{answer_from_refused, answer_from_refusal, refusal_some, tested_err}
use Rattle.index.specs.Arrays.{text_in}
use Rattle.index.specs.Lent.{slices_of}
use Rattle.words.proofs.Parts.{checked_most, checked_total}
use Rattle.words.proofs.Positions.{ranks_below_lem}
use Rattle.documents.specs.Documents.{counts_by_document}
use Rattle.documents.proofs.Absent.{absent_words}
use Rattle.questions.specs.Answering.{has_absent, phrase_in}
use Rattle.questions.proofs.Askable.{askable_below, absent_at}
use Rattle.questions.proofs.Answered.{part_length}
use Rattle.document_checks.proofs.Cleared.{Cleared, cleared}
use Rattle.summaries.specs.Summaries.{summary_answer, summary_exit, Summarised}
use Rattle.summaries.proofs.Tested.{summary_checked, summary_asked, summary_accepted, summarised, summary_untouched}
use Rattle.summaries.proofs.summary_of.Goals as goal
use Rattle.summaries.proofs.summary_of.Goals.{Start, In_ok-check_in_documents, In_ok-phrase}

-- a summary that is refused by its answer leaves the slice
left : (c : Start) (r : Answer) → let x = c.args.index.now in
    summary_answer x.s x.shape (slices_of x) c.args.documents.now c.args.words.now c.args.start c.args.count (length c.args.counts.now) ≡ r → (r.refusal ≡ 0 → ⊥)
    → c.args.counts.now ≡ summary_exit x.s x.shape (slices_of x) c.args.documents.now c.args.words.now c.args.start c.args.count c.args.counts.now
left c r e h =
    let x = c.args.index.now in
    sym (summary_untouched x.s x.shape (slices_of x) c.args.documents.now c.args.words.now c.args.start c.args.count c.args.counts.now (ap is_accepted e ∙ ne_eqb r.refusal 0 h))

pub returns-in_err-check_in_documents : goal.returns-in_err-check_in_documents
returns-in_err-check_in_documents c =
    let x = c.args.index.now in
    let e = tested_err _ c.in_err-check_in_documents.field-0.0 _ c.in_err-check_in_documents.was c.check_in_documents.ensures in
    let r = summary_checked x.s x.shape (slices_of x) c.args.documents.now c.args.words.now c.args.start c.args.count (length c.args.counts.now) e.0 in
    (answer_from_refused _ _ c.from_residual.ensures.1 ∙ e.1 ∙ sym r, left (goal.at.returns-in_err-check_in_documents c).Start _ r e.0)

-- past the check the index has passed it, and the starts keep the rules
clear : (c : In_ok-check_in_documents) → Cleared c.args.index.now.s c.args.index.now.shape (slices_of c.args.index.now) c.args.documents.now
clear c = cleared c.args.index.now.s c.args.index.now.shape (slices_of c.args.index.now) c.args.documents.now c.requires _ c.in_ok-check_in_documents.field-0 c.in_ok-check_in_documents.was c.check_in_documents.ensures

pub returns-in_err-phrase : goal.returns-in_err-phrase
returns-in_err-phrase c =
    let x = c.args.index.now in
    let refusal = c.in_err-phrase.field-0.0 in
    let asked = c.in_err-phrase.ensures in
    let h = goal.at.returns-in_err-phrase c in
    let r =
    summary_asked x.s x.shape (slices_of x) c.args.documents.now c.args.words.now c.args.start c.args.count (length c.args.counts.now) (clear h.In_ok-check_in_documents).none (λ z. refusal_some refusal (sym (ap (λ (y : Answer). y.refusal) asked) ∙ z))
    ∙ asked in
    (answer_from_refusal _ refusal c.from_residual-in_err-phrase.ensures.1 ∙ sym r, left h.Start _ r (refusal_some refusal))

-- past the tests of what is asked for it is accepted
module _ (c : In_ok-phrase) (checks : Cleared c.args.index.now.s c.args.index.now.shape (slices_of c.args.index.now) c.args.documents.now) where
  answered : let x = c.args.index.now in
      summary_answer x.s x.shape (slices_of x) c.args.documents.now c.args.words.now c.args.start c.args.count (length c.args.counts.now) ≡ accepted (length c.args.documents.now)
  answered =
      let x = c.args.index.now in
      summary_accepted x.s x.shape (slices_of x) c.args.documents.now c.args.words.now c.args.start c.args.count (length c.args.counts.now) checks.none (ap (λ (r : Answer). r.refusal) c.in_ok-phrase.ensures.0)

  passed : Summarised c.args.index.now.s c.args.index.now.shape (slices_of c.args.index.now) c.args.documents.now c.args.words.now c.args.start c.args.count (length c.args.counts.now)
  passed =
      let x = c.args.index.now in
      summarised x.s x.shape (slices_of x) c.args.documents.now c.args.words.now c.args.start c.args.count (length c.args.counts.now) (ap is_accepted answered)

  phrase_is : c.in_ok-phrase.phrase.now ≡ phrase_in c.args.words.now c.args.start c.args.count
  phrase_is = c.in_ok-phrase.ensures.1

pub clear_counts-requires : goal.clear_counts-requires
clear_counts-requires c =
    let h = goal.at.clear_counts-requires c in
    omega (arith, (passed h.In_ok-phrase (clear h.In_ok-check_in_documents)).enough)

-- a phrase with an absent word is counted in no document
pub returns-then-has_absent : goal.returns-then-has_absent
unfolding summary_exit filled
returns-then-has_absent c =
    let k = goal.at.returns-then-has_absent c in
    let h = k.In_ok-phrase in
    let checks = clear k.In_ok-check_in_documents in
    let x = c.args.index.now in
    let v = x.shape.vocabulary in
    let phrase = phrase_in c.args.words.now c.args.start c.args.count in
    let at = absent_at v phrase (sym (c.has_absent.ensures ∙ ap (has_absent v) (phrase_is h checks)) ∙ c.if-has_absent.true) in
    let absent = absent_words v c.args.documents.now (text_in x.s (slices_of x)) (ranks_below_lem checks.checked) in (
      sym (answered h checks),
      c.clear_counts.ensures
          ∙ ap (λ (counts : List ℕ). front counts c.args.counts.now) (sym (absent.uncounted phrase at.0 at.1 at.2))
          ∙ sym (rw (answered h checks)),
    )

pub node_starts-requires : goal.node_starts-requires
node_starts-requires c =
    let h = clear (goal.at.node_starts-requires c).In_ok-check_in_documents in
    (omega (arith, checked_most h.checked), checked_total h.checked)

pub invariant_of-text : goal.invariant_of-text
invariant_of-text c = record { ready = record { checked = (clear (goal.at.invariant_of-text c).In_ok-check_in_documents).checked; nodes = c.node_starts.ensures } }

pub count_by_document-requires : goal.count_by_document-requires
count_by_document-requires c =
    let k = goal.at.count_by_document-requires c in
    let h = k.In_ok-phrase in
    let checks = clear k.In_ok-check_in_documents in
    let v = c.args.index.now.shape.vocabulary in
    let phrase = phrase_in c.args.words.now c.args.start c.args.count in
    let n : length phrase ≡ c.args.count = part_length v c.args.words.now c.args.start c.args.count (passed h checks).inside in
    rw (phrase_is h checks) (
      omega (arith, n, (passed h checks).some),
      omega (arith, n, (passed h checks).most),
      askable_below v phrase (passed h checks).askable (sym (c.has_absent.ensures ∙ ap (has_absent v) (phrase_is h checks)) ∙ c.if-has_absent.false),
      (passed h checks).rules,
      (passed h checks).enough,
    )

pub returns : goal.returns
unfolding summary_exit filled
returns c =
    let k = goal.at.returns c in
    let h = k.In_ok-phrase in
    let checks = clear k.In_ok-check_in_documents in
    let x = c.args.index.now in (
      sym (answered h checks),
      c.count_by_document.ensures
          ∙ ap (λ (ws : List ℕ). front (counts_by_document c.args.documents.now (text_in x.s (slices_of x)) ws) c.args.counts.now) (phrase_is h checks)
          ∙ sym (rw (answered h checks)),
    )
