-- Statement: a call without document starts has the meaning of a text that is one run from end to end.
use Rattle.std.specs.Prelude.{ℕ, ◌≡◌, List, [], ◌∷◌, ltb, ℤ, nat_abs, length}
use Rattle.base.specs.Refusals.{refusal_offset}
use Rattle.base.specs.Answers.{accepted, refused, ◌⇒◌, first_of}
use Rattle.base.specs.Texts.{max_offset}
use Rattle.index.specs.declared.Shape.{Shape}
use Rattle.index.specs.Arrays.{Arrays, text_in}
use Rattle.index.specs.Entries.{index_cases}
use Rattle.phrases.specs.Phrases.{places}
use Rattle.phrases.specs.Neighbours.{neighbours}
use Rattle.documents.specs.Documents.{one_start}
use Rattle.questions.specs.declared.Question.{Question}
use Rattle.questions.specs.Answering.{rank_asked_case, phrase_in, phrase_cases, neighbours_answer, phrase_answer, question_answer, ask_answer}

-- what a question without document starts is answered
pub record AskedWhole (s : ℕ) (shape : Shape) (a : Arrays) (words : List ℕ) : Type 0 where
  -- it is turned down by the index, or by the question itself, and never for starts
  pub by_the_index :
      (q : Question) →
      ask_answer s shape a words q
      ≡ first_of (index_cases s shape a) (question_answer shape.vocabulary (text_in s a) (one_start (length (text_in s a))) words q)
  -- neighbours are counted in the whole text
  pub all_neighbours :
      (w v : ℕ) (d : ℤ) →
      neighbours_answer shape.vocabulary (text_in s a) (one_start (length (text_in s a))) w v d
      ≡ first_of
      (rank_asked_case shape.vocabulary (w ∷ v ∷ []) ∷ (ltb max_offset (nat_abs d) ⇒ refused refusal_offset) ∷ [])
      (accepted (neighbours (text_in s a) w v d))
  -- and so is a phrase
  pub all_places :
      (start len : ℕ) →
      phrase_answer shape.vocabulary (text_in s a) (one_start (length (text_in s a))) words start len
      ≡ first_of (phrase_cases shape.vocabulary words start len) (accepted (length (places (text_in s a) (phrase_in words start len))))

-- Statement: of all arrays and lent words.
abbrev pub AskedWithoutStarts : Type 0
AskedWithoutStarts = (s : ℕ) (shape : Shape) (a : Arrays) (words : List ℕ) → AskedWhole s shape a words
