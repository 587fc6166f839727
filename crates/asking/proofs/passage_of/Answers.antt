use Rattle.std.proofs.Common.{◌≡◌, ◌+◌, ◌≤◌, ◌<◌, sym, ap, ◌∙◌, length, take, drop, length-take-le, length-drop, arith}
use Rattle.base.specs.declared.Answer.{Answer}
use Rattle.base.specs.Answers.{accepted, refused}
use Rattle.base.specs.Refusals.{refusal_place}
use Rattle.base.proofs.Outcomes.{answer_from_refused, tested_err, tested_ok}
use Rattle.index.specs.Arrays.{text_in}
use Rattle.index.specs.Lent.{slices_of}
use Rattle.index.specs.Entries.{check_answer}
use Rattle.words.specs.Ready.{Checked}
use Rattle.words.proofs.Parts.{accepted_checked, checked_some, checked_most, checked_total}
use Rattle.questions.specs.Passages.{passage_answer, passage_exit}
use Rattle.questions.proofs.Answered.{passage_index, passage_outside, passage_untouched}
use Rattle.questions.proofs.Read.{passage_accepted, passage_filled}
use Rattle.asking.proofs.passage_of.Goals as goal
use Rattle.asking.proofs.passage_of.Goals.{In_ok-check_of, After-text_length-n}

pub returns-in_err-check_of : goal.returns-in_err-check_of
returns-in_err-check_of c =
    let x = c.args.index.now in
    let e = tested_err _ c.in_err-check_of.field-0.0 _ c.in_err-check_of.was c.check_of.ensures in
    let no = passage_index x.s x.shape (slices_of x) e.0 c.args.place c.args.ranks.now in (
      answer_from_refused _ _ c.from_residual.ensures.1 ∙ e.1 ∙ sym no,
      sym (passage_untouched x.s x.shape (slices_of x) c.args.place c.args.ranks.now (λ z. e.0 (sym (ap (λ (r : Answer). r.refusal) no) ∙ z))),
    )

-- past the first test the slices have passed the check
module _ (c : In_ok-check_of) where
  passed : check_answer c.args.index.now.s c.args.index.now.shape (slices_of c.args.index.now) ≡ accepted 0
  passed = tested_ok _ c.in_ok-check_of.field-0 _ c.in_ok-check_of.was c.check_of.ensures

  checked : Checked c.args.index.now.s c.args.index.now.shape (slices_of c.args.index.now)
  checked = accepted_checked c.args.index.now.s c.requires c.args.index.now.shape (slices_of c.args.index.now) (ap (λ (r : Answer). r.refusal) passed)

  -- a passage that ends past the text is refused for its place, and the slice stays
  past : length (text_in c.args.index.now.s (slices_of c.args.index.now)) < c.args.place + length c.args.ranks.now
      → (refused refusal_place ≡ passage_answer c.args.index.now.s c.args.index.now.shape (slices_of c.args.index.now) c.args.place c.args.ranks.now)
      × (c.args.ranks.now ≡ passage_exit c.args.index.now.s c.args.index.now.shape (slices_of c.args.index.now) c.args.place c.args.ranks.now)
  past l =
      let x = c.args.index.now in
      let no = passage_outside x.s x.shape (slices_of x) (ap (λ (r : Answer). r.refusal) passed) c.args.place c.args.ranks.now l in
      (sym no, sym (passage_untouched x.s x.shape (slices_of x) c.args.place c.args.ranks.now (λ z. absurd (omega (arith, ap (λ (r : Answer). r.refusal) no, z)))))

pub text_length-n-requires : goal.text_length-n-requires
text_length-n-requires c = checked_some (checked (goal.at.text_length-n-requires c).In_ok-check_of)

-- what the first of the lengths gives is the length of the text
size : (c : After-text_length-n) → Checked c.args.index.now.s c.args.index.now.shape (slices_of c.args.index.now) → c.text_length-n.result ≡ length (text_in c.args.index.now.s (slices_of c.args.index.now))
size c h = c.text_length-n.ensures.1 _ _ _ _ _ h

pub returns-then-n-place : goal.returns-then-n-place
returns-then-n-place c =
    let h = goal.at.returns-then-n-place c in
    rw c.into.ensures (past h.In_ok-check_of (omega (arith, size h.After-text_length-n (checked h.In_ok-check_of), c.if-n-place.true)))

pub returns-then-n-place-2 : goal.returns-then-n-place-2
returns-then-n-place-2 c =
    let h = goal.at.returns-then-n-place-2 c in
    rw c.into-then-n-place-2.ensures (past h.In_ok-check_of (omega (arith, size h.After-text_length-n (checked h.In_ok-check_of), c.if-n-place-2.true, c.if-n-place.false)))

pub node_starts-requires : goal.node_starts-requires
node_starts-requires c =
    let h = checked (goal.at.node_starts-requires c).In_ok-check_of in
    (omega (arith, checked_most h), checked_total h)

pub invariant_of-text : goal.invariant_of-text
invariant_of-text c = record { ready = record { checked = checked (goal.at.invariant_of-text c).In_ok-check_of; nodes = c.node_starts.ensures } }

pub read_passage-requires : goal.read_passage-requires
read_passage-requires c =
    let h = goal.at.read_passage-requires c in
    omega (arith, size h.After-text_length-n (checked h.In_ok-check_of), c.if-n-place-2.false, c.if-n-place.false)

pub returns : goal.returns
returns c =
    let h = goal.at.returns c in
    let x = c.args.index.now in
    let t = text_in x.s (slices_of x) in
    let lies : c.args.place + length c.args.ranks.now ≤ length t = omega (arith, size h.After-text_length-n (checked h.In_ok-check_of), c.if-n-place-2.false, c.if-n-place.false) in
    let ok = passed h.In_ok-check_of in
    let filled = c.read_passage.ensures in
    let m : length (take (length c.args.ranks.now) (drop c.args.place t)) ≡ length c.args.ranks.now = length-take-le (length c.args.ranks.now) (drop c.args.place t) (omega (arith, lies, length-drop c.args.place t)) in (
      ap accepted (ap length filled ∙ m) ∙ sym (passage_accepted x.s x.shape (slices_of x) ok c.args.place c.args.ranks.now lies),
      filled ∙ sym (passage_filled x.s x.shape (slices_of x) ok c.args.place c.args.ranks.now lies),
    )
