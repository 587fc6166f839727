-- A sheet of questions, paper 01's term for a lent slice of them, and its answers: a pair of numbers for each, its refusal or 0 and its value.
use Rattle.std.specs.Prelude.{ℕ, ◌+◌, ◌*◌, ◌≤◌, ◌≡◌, ◌⊎◌, ◌↔◌, true, false, List, [], ◌∷◌, ◌++◌, map, ltb, length, get_or}
use Rattle.base.specs.declared.Answer.{Answer}
use Rattle.base.specs.Refusals.{refusal_kind, refusal_place, refusal_page}
use Rattle.base.specs.Answers.{accepted, refused, is_accepted, Case, ◌⇒◌, first_of, front, filled}
use Rattle.index.specs.declared.Shape.{Shape}
use Rattle.index.specs.Arrays.{Arrays, text_in}
use Rattle.index.specs.Entries.{check_answer}
use Rattle.documents.specs.Documents.{are_starts}
use Rattle.questions.specs.declared.Question.{Question}
use Rattle.questions.specs.Answering.{reading_cases, question_answer, ask_answer_in}

-- the pair of an answer: its refusal or 0, and its value
abbrev pub pair_of : Answer → List ℕ
pair_of r = r.refusal ∷ r.value ∷ []

-- the pairs of answers, one after another
abbrev pub pairs_of : List Answer → List ℕ
pairs_of [] = []
pairs_of (r ∷ rs) = pair_of r ++ pairs_of rs

-- refusal 12: a slice of so many elements is shorter than two for each of so many questions
unfoldable pub room_case : ℕ → ℕ → Case
room_case asked room = ltb room (2 * asked) ⇒ refused refusal_page

-- the refusals of a sheet of so many questions with a slice of so many elements, in the order tried: of the index, of the document
-- starts, and of the room
unfoldable pub sheet_cases : ℕ → Shape → Arrays → List ℕ → ℕ → ℕ → List Case
sheet_cases s shape a documents asked room = reading_cases s shape a documents ++ room_case asked room ∷ []

-- the answer of such a sheet: the number of elements written
unfoldable pub sheet_answer : ℕ → Shape → Arrays → List ℕ → ℕ → ℕ → Answer
sheet_answer s shape a documents asked room = first_of (sheet_cases s shape a documents asked room) (accepted (2 * asked))

-- what a slice that holds z holds after the sheet qs: the pairs of its questions in front, in order, the rest as it was
unfoldable pub sheet_exit : ℕ → Shape → Arrays → List ℕ → List ℕ → List Question → List ℕ → List ℕ
sheet_exit s shape a documents words qs z =
    filled
    (sheet_answer s shape a documents (length qs) (length z))
    (pairs_of (map (question_answer shape.vocabulary (text_in s a) documents words) qs))
    z

-- an answer that has a pair of its own: it is accepted, or it is refused with 7 to 11 and has the value 0
abbrev pub HasPair : Answer → Type 0
HasPair r = (r.refusal ≡ 0) ⊎ ((refusal_kind ≤ r.refusal) × (r.refusal ≤ refusal_place) × (r.value ≡ 0))

-- the sheet qs over a slice that holds z, against its questions asked one by one
pub record SheetEqual (s : ℕ) (shape : Shape) (a : Arrays) (documents words : List ℕ) (qs : List Question) (z : List ℕ) : Type 0 where
  -- a sheet is accepted exactly if the check passes, the starts keep the rules and there are two elements for each question, whatever the
  -- questions are
  pub accepts :
      (is_accepted (sheet_answer s shape a documents (length qs) (length z)) ≡ true)
      ↔ ((check_answer s shape a ≡ accepted 0) × (are_starts (length (text_in s a)) documents ≡ true) × (2 * length qs ≤ length z))
  -- its value is then twice the number of questions
  pub counted :
      is_accepted (sheet_answer s shape a documents (length qs) (length z)) ≡ true →
      sheet_answer s shape a documents (length qs) (length z) ≡ accepted (2 * length qs)
  -- the pairs in front are those of the single answers, in order, and the rest stays
  pub pairs :
      is_accepted (sheet_answer s shape a documents (length qs) (length z)) ≡ true →
      sheet_exit s shape a documents words qs z ≡ front (pairs_of (map (ask_answer_in s shape a documents words) qs)) z
  -- so the pair of each question stands at twice the number of those before it
  pub pair :
      is_accepted (sheet_answer s shape a documents (length qs) (length z)) ≡ true →
      (before : List Question) (q : Question) (after : List Question) → before ++ q ∷ after ≡ qs →
      (get_or (sheet_exit s shape a documents words qs z) (2 * length before) 0 ≡ (ask_answer_in s shape a documents words q).refusal)
      × (get_or (sheet_exit s shape a documents words qs z) (2 * length before + 1) 0 ≡ (ask_answer_in s shape a documents words q).value)
  -- and only refusals 7 to 11 stand there, with the value 0
  pub own :
      is_accepted (sheet_answer s shape a documents (length qs) (length z)) ≡ true →
      (q : Question) → HasPair (ask_answer_in s shape a documents words q)
  -- a sheet that is turned down, and one without questions, leaves the slice as it was
  pub untouched : is_accepted (sheet_answer s shape a documents (length qs) (length z)) ≡ false → sheet_exit s shape a documents words qs z ≡ z
  pub empty : sheet_exit s shape a documents words [] z ≡ z

-- Statement: the answers of a sheet equal the single ones, of every sheet.
abbrev pub SheetsEqualSingles : Type 0
SheetsEqualSingles =
    (s : ℕ) (shape : Shape) (a : Arrays) (documents words : List ℕ) (qs : List Question) (z : List ℕ) → SheetEqual s shape a documents words qs z
