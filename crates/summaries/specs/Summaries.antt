-- A summary: how often a phrase stands in each document.
use Rattle.std.specs.Prelude.{ℕ, ◌+◌, ◌≤◌, ◌<◌, ◌≡◌, ◌↔◌, true, false, ◌||◌, List, [], ◌∷◌, ◌++◌, ltb, length, take, drop, get_or}
use Rattle.base.specs.declared.Answer.{Answer}
use Rattle.base.specs.Lists.{all_pass, total}
use Rattle.base.specs.Refusals.{refusal_phrase, refusal_page}
use Rattle.base.specs.Answers.{accepted, refused, is_accepted, Case, ◌⇒◌, first_of, filled}
use Rattle.base.specs.Texts.{max_phrase, outside}
use Rattle.dense.specs.Code.{Closing}
use Rattle.index.specs.declared.Shape.{Shape}
use Rattle.index.specs.Arrays.{Arrays, text_in}
use Rattle.index.specs.Entries.{check_answer}
use Rattle.phrases.specs.Phrases.{places}
use Rattle.documents.specs.Documents.{are_starts, counts_by_document, document_words}
use Rattle.questions.specs.Makers.{asks_phrase}
use Rattle.questions.specs.Answering.{reading_cases, is_askable, rank_asked_case, phrase_in, ask_answer_in}

-- the refusals of a summary after those of the index and of the starts, in the order tried: of the phrase, which has a word or more here, and
-- of a slice with less than one element for each of so many documents
unfoldable pub summary_request_cases : ℕ → List ℕ → ℕ → ℕ → ℕ → ℕ → List Case
summary_request_cases vocab words start len documents room =
    (outside 1 max_phrase len || ltb (length words) (start + len) ⇒ refused refusal_phrase)
    ∷ rank_asked_case vocab (phrase_in words start len)
    ∷ (ltb room documents ⇒ refused refusal_page)
    ∷ []

-- the answer of these tests: the first refusal, and 0 accepted where there is none
unfoldable pub summary_request : ℕ → List ℕ → ℕ → ℕ → ℕ → ℕ → Answer
summary_request vocab words start len documents room = first_of (summary_request_cases vocab words start len documents room) (accepted 0)

-- the refusals of a summary into a slice of so many elements, in the order tried: of the index, of the document starts, and of what it asks for
unfoldable pub summary_cases : ℕ → Shape → Arrays → List ℕ → List ℕ → ℕ → ℕ → ℕ → List Case
summary_cases s shape a documents words start len room =
    reading_cases s shape a documents ++ summary_request_cases shape.vocabulary words start len (length documents) room

-- the answer of a summary: the number of documents
unfoldable pub summary_answer : ℕ → Shape → Arrays → List ℕ → List ℕ → ℕ → ℕ → ℕ → Answer
summary_answer s shape a documents words start len room =
    first_of (summary_cases s shape a documents words start len room) (accepted (length documents))

-- what a slice that holds z holds then: the count of the phrase in each document in front, in order, the rest as it was
unfoldable pub summary_exit : ℕ → Shape → Arrays → List ℕ → List ℕ → ℕ → ℕ → List ℕ → List ℕ
summary_exit s shape a documents words start len z =
    filled (summary_answer s shape a documents words start len (length z)) (counts_by_document documents (text_in s a) (phrase_in words start len)) z

-- a summary is accepted exactly if its index passes the check, its starts keep the rules, its phrase has 1 to 16 words that lie in the lent
-- ones and are at most V, and its slice has an element for each document
pub record Summarised (s : ℕ) (shape : Shape) (a : Arrays) (documents words : List ℕ) (start len room : ℕ) : Type 0 where
  pub passed : check_answer s shape a ≡ accepted 0
  pub rules : are_starts (length (text_in s a)) documents ≡ true
  pub some : 1 ≤ len
  pub most : len ≤ max_phrase
  pub inside : start + len ≤ length words
  pub askable : all_pass (is_askable shape.vocabulary) (phrase_in words start len) ≡ true
  pub enough : length documents ≤ room

-- what holds of an accepted summary
pub record SummaryExact (s : ℕ) (shape : Shape) (a : Arrays) (documents words : List ℕ) (start len : ℕ) (z : List ℕ) : Type 0 where
  -- its value is the number of documents
  pub valued : summary_answer s shape a documents words start len (length z) ≡ accepted (length documents)
  -- the count of the phrase under the same starts is accepted, and is the sum of the counts
  pub add_up :
      ask_answer_in s shape a documents words (asks_phrase start len)
      ≡ accepted (total (take (length documents) (summary_exit s shape a documents words start len z)))
  -- the count of each document is that of the phrase in the words of the document by themselves
  pub alone :
      (k : ℕ) → k < length documents →
      get_or (summary_exit s shape a documents words start len z) k 0
      ≡ length (places (document_words documents (text_in s a) k) (phrase_in words start len))
  -- of a phrase with an absent word, whose rank is V, each is 0
  pub absent :
      Closing s → (i : ℕ) → i < length (phrase_in words start len) → get_or (phrase_in words start len) i 0 ≡ shape.vocabulary →
      (k : ℕ) → k < length documents → get_or (summary_exit s shape a documents words start len z) k 0 ≡ 0
  -- the elements past the documents stay
  pub rest : drop (length documents) (summary_exit s shape a documents words start len z) ≡ drop (length documents) z

-- Statement: of every summary that is accepted.
abbrev pub SummariesExact : Type 0
SummariesExact =
    (s : ℕ) (shape : Shape) (a : Arrays) (documents words : List ℕ) (start len : ℕ) (z : List ℕ) →
    is_accepted (summary_answer s shape a documents words start len (length z)) ≡ true →
    SummaryExact s shape a documents words start len z

-- Statement: which summaries are accepted; of the phrase of no words none is, and 8 answers; a refused one leaves its slice.
pub record SummaryTested (s : ℕ) (shape : Shape) (a : Arrays) (documents words : List ℕ) (start len : ℕ) (z : List ℕ) : Type 0 where
  pub accepted_if :
      (is_accepted (summary_answer s shape a documents words start len (length z)) ≡ true)
      ↔ Summarised s shape a documents words start len (length z)
  pub no_words :
      check_answer s shape a ≡ accepted 0 → are_starts (length (text_in s a)) documents ≡ true → len ≡ 0 →
      summary_answer s shape a documents words start len (length z) ≡ refused refusal_phrase
  pub untouched :
      is_accepted (summary_answer s shape a documents words start len (length z)) ≡ false → summary_exit s shape a documents words start len z ≡ z

abbrev pub SummariesTested : Type 0
SummariesTested = (s : ℕ) (shape : Shape) (a : Arrays) (documents words : List ℕ) (start len : ℕ) (z : List ℕ) → SummaryTested s shape a documents words start len z
