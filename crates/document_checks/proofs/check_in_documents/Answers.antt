use Rattle.std.proofs.Common.{◌≡◌, ℕ, sym, ap, ◌∙◌, length}
use Rattle.base.specs.declared.Answer.{Answer}
use Rattle.base.specs.Answers.{accepted}
use Rattle.base.proofs.Outcomes.{test_from_refused, tested_err, tested_ok}
use Rattle.index.specs.Arrays.{text_in}
use Rattle.index.specs.Lent.{slices_of}
use Rattle.index.specs.Entries.{check_answer}
use Rattle.words.specs.Ready.{Checked}
use Rattle.words.proofs.Parts.{accepted_checked, checked_some}
use Rattle.documents.specs.Documents.{are_starts}
use Rattle.questions.proofs.Checks.{check_in_index, check_in_starts, check_in_passed}
use Rattle.document_checks.proofs.check_in_documents.Goals as goal
use Rattle.document_checks.proofs.check_in_documents.Goals.{After-text_length}

pub returns-in_err-check_of : goal.returns-in_err-check_of
returns-in_err-check_of c =
    let x = c.args.index.now in
    let e = tested_err _ c.in_err-check_of.field-0.0 _ c.in_err-check_of.was c.check_of.ensures in
    test_from_refused _ _ c.from_residual.ensures.1 ∙ e.1 ∙ sym (check_in_index x.s x.shape (slices_of x) c.args.documents.now e.0)

pub text_length-requires : goal.text_length-requires
text_length-requires c =
    let x = c.args.index.now in
    let passed = tested_ok _ c.in_ok-check_of.field-0 _ c.in_ok-check_of.was c.check_of.ensures in
    checked_some (accepted_checked x.s c.requires x.shape (slices_of x) (ap (λ (r : Answer). r.refusal) passed))

-- past the check the rules are those of starts in the text
module _ (c : After-text_length) where
  passed : check_answer c.args.index.now.s c.args.index.now.shape (slices_of c.args.index.now) ≡ accepted 0
  passed = tested_ok _ c.in_ok-check_of.field-0 _ c.in_ok-check_of.was c.check_of.ensures

  checked : Checked c.args.index.now.s c.args.index.now.shape (slices_of c.args.index.now)
  checked = accepted_checked c.args.index.now.s c.requires c.args.index.now.shape (slices_of c.args.index.now) (ap (λ (r : Answer). r.refusal) passed)

  size : c.text_length.result ≡ length (text_in c.args.index.now.s (slices_of c.args.index.now))
  size = c.text_length.ensures.1 _ _ _ _ _ checked

pub returns-then-not-are_starts : goal.returns-then-not-are_starts
returns-then-not-are_starts c =
    let h = (goal.at.returns-then-not-are_starts c).After-text_length in
    let x = c.args.index.now in
    rw c.into.ensures
    (sym (check_in_starts x.s x.shape (slices_of x) c.args.documents.now (ap (λ (r : Answer). r.refusal) (passed h)) (sym (c.are_starts.ensures ∙ ap (λ (n : ℕ). are_starts n c.args.documents.now) (size h)) ∙ c.if-not-are_starts.true)))

pub returns : goal.returns
returns c =
    let h = (goal.at.returns c).After-text_length in
    let x = c.args.index.now in
    sym (check_in_passed x.s x.shape (slices_of x) c.args.documents.now (passed h) (sym (c.are_starts.ensures ∙ ap (λ (n : ℕ). are_starts n c.args.documents.now) (size h)) ∙ c.if-not-are_starts.false))
