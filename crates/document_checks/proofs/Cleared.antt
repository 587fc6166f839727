-- What is known of an index and of document starts where their check refuses nothing. Assumes nothing.
use Rattle.std.proofs.Common.{◌≡◌, refl, ap, ℕ, List, length, true}
use Rattle.std.specs.Prelude.{Result, Ok, Err, ⊤}
use Rattle.base.specs.declared.Answer.{Answer}
use Rattle.base.specs.declared.refusal.Refused.{Refused}
use Rattle.base.specs.Answers.{accepted}
use Rattle.base.specs.Outcomes.{test_answer}
use Rattle.base.proofs.Outcomes.{tested_ok}
use Rattle.dense.specs.Code.{Closing}
use Rattle.index.specs.declared.Shape.{Shape}
use Rattle.index.specs.Arrays.{Arrays, text_in}
use Rattle.index.specs.Entries.{check_answer}
use Rattle.words.specs.Ready.{Checked}
use Rattle.words.proofs.Parts.{accepted_checked}
use Rattle.documents.specs.Documents.{are_starts}
use Rattle.questions.specs.Answering.{check_answer_in}
use Rattle.questions.proofs.Checks.{check_in_clear}

-- the index has passed the check, and the starts keep the rules
pub record Cleared (s : ℕ) (shape : Shape) (a : Arrays) (documents : List ℕ) : Type 0 where
  pub none : (check_answer_in s shape a documents).refusal ≡ 0
  pub passed : check_answer s shape a ≡ accepted 0
  pub checked : Checked s shape a
  pub starts : are_starts (length (text_in s a)) documents ≡ true

module _ (s : ℕ) (shape : Shape) (a : Arrays) (documents : List ℕ) (closing : Closing s) where
  by_none : (check_answer_in s shape a documents).refusal ≡ 0 → Cleared s shape a documents
  by_none e =
      let h = check_in_clear s shape a documents e in
      record { none = e; passed = h.0; checked = accepted_checked s closing shape a (ap (λ (r : Answer). r.refusal) h.0); starts = h.1 }

  pub cleared : (r : Result ⊤ Refused) (v : ⊤) → r ≡ Ok v → test_answer r ≡ check_answer_in s shape a documents → Cleared s shape a documents
  cleared r v was is = by_none (ap (λ (x : Answer). x.refusal) (tested_ok r v _ was is))

  pub cleared_not : (r : Result ⊤ Refused) → ((e : Refused) → r ≡ Err e → ⊥) → test_answer r ≡ check_answer_in s shape a documents → Cleared s shape a documents
  cleared_not (Ok v) not-err is = cleared (Ok v) v refl is
  cleared_not (Err e) not-err is = absurd (not-err e refl)
