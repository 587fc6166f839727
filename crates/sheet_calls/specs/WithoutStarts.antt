-- Statement: a sheet without document starts is answered of a text that is one run from end to end.
use Rattle.std.specs.Prelude.{ℕ, ◌*◌, ◌≡◌, true, List, [], ◌∷◌, ◌++◌, map, length}
use Rattle.base.specs.Answers.{accepted, is_accepted, first_of, front}
use Rattle.index.specs.declared.Shape.{Shape}
use Rattle.index.specs.Arrays.{Arrays, text_in}
use Rattle.index.specs.Entries.{index_cases}
use Rattle.documents.specs.Documents.{one_start}
use Rattle.questions.specs.declared.Question.{Question}
use Rattle.questions.specs.Answering.{ask_answer}
use Rattle.sheet_calls.specs.Sheets.{pairs_of, room_case, sheet_answer, sheet_exit}

-- what the sheet qs without document starts comes to, over a slice that holds z
pub record SheetWhole (s : ℕ) (shape : Shape) (a : Arrays) (words : List ℕ) (qs : List Question) (z : List ℕ) : Type 0 where
  -- it is turned down by the index, or for its room, and never for starts
  pub by_the_index :
      sheet_answer s shape a (one_start (length (text_in s a))) (length qs) (length z)
      ≡ first_of (index_cases s shape a ++ room_case (length qs) (length z) ∷ []) (accepted (2 * length qs))
  -- its pairs are those of the questions asked one by one without starts
  pub singles :
      is_accepted (sheet_answer s shape a (one_start (length (text_in s a))) (length qs) (length z)) ≡ true →
      sheet_exit s shape a (one_start (length (text_in s a))) words qs z ≡ front (pairs_of (map (ask_answer s shape a words) qs)) z

-- Statement: of every sheet.
abbrev pub SheetsWithoutStarts : Type 0
SheetsWithoutStarts = (s : ℕ) (shape : Shape) (a : Arrays) (words : List ℕ) (qs : List Question) (z : List ℕ) → SheetWhole s shape a words qs z
