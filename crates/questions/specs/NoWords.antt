-- Statement: the phrase of no words, by the calls. It stands at every place from 0 to n, and its passage is empty.
use Rattle.std.specs.Prelude.{ℕ, suc, ◌≤◌, ◌<◌, ◌≡◌, true, List, [], length}
use Rattle.base.specs.Refusals.{refusal_phrase}
use Rattle.base.specs.Answers.{accepted, refused}
use Rattle.index.specs.declared.Shape.{Shape}
use Rattle.index.specs.Arrays.{Arrays, text_in}
use Rattle.index.specs.Entries.{check_answer}
use Rattle.documents.specs.Documents.{are_starts}
use Rattle.questions.specs.declared.Question.{Question}
use Rattle.questions.specs.Answering.{ask_answer_in}
use Rattle.questions.specs.Passages.{passage_answer, passage_exit}

-- what the calls give of it, over arrays that pass the check, with starts that keep the rules
pub record NoWordsExact (s : ℕ) (shape : Shape) (a : Arrays) (documents : List ℕ) : Type 0 where
  -- its count is n + 1, 1 for the empty text, whatever the starts and the lent words, if its part starts among them or at their end
  pub counted :
      (words : List ℕ) (q : Question) → q.kind ≡ 5 → q.length ≡ 0 → q.start ≤ length words →
      ask_answer_in s shape a documents words q ≡ accepted (suc (length (text_in s a)))
  -- a part that starts past their end is refused
  pub past :
      (words : List ℕ) (q : Question) → q.kind ≡ 5 → q.length ≡ 0 → length words < q.start →
      ask_answer_in s shape a documents words q ≡ refused refusal_phrase
  -- the passage at each of its places is accepted, and is empty
  pub passage : (p : ℕ) → p ≤ length (text_in s a) → (passage_answer s shape a p [] ≡ accepted 0) × (passage_exit s shape a p [] ≡ [])

-- Statement: of every index that passes the check, and all starts that keep the rules; those of a text that is one document do.
abbrev pub NoWordsAreExact : Type 0
NoWordsAreExact =
    (s : ℕ) (shape : Shape) (a : Arrays) (documents : List ℕ) → check_answer s shape a ≡ accepted 0 → are_starts (length (text_in s a)) documents ≡ true →
    NoWordsExact s shape a documents
