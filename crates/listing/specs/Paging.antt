-- A page of a listing: all that a call returns and writes.
use Rattle.std.specs.Prelude.{ℕ, false, cond, ◌&&◌, List, [], ◌∷◌, ◌++◌, eqb, ltb, length}
use Rattle.base.specs.declared.Answer.{Answer}
use Rattle.base.specs.Refusals.{refusal_place, refusal_page}
use Rattle.base.specs.Answers.{accepted, refused, is_accepted, Case, ◌⇒◌, first_of, filled}
use Rattle.index.specs.declared.Shape.{Shape}
use Rattle.index.specs.Arrays.{Arrays, text_in}
use Rattle.documents.specs.Documents.{stands_in}
use Rattle.pages.specs.Pages.{HitPage, page_over}
use Rattle.questions.specs.Answering.{reading_cases, phrase_in, phrase_cases}
use Rattle.listing.specs.declared.Listing.{Listing}
use Rattle.listing.specs.declared.Page.{Page}

-- a listing opens with next 0, not finished
abbrev pub opened : Listing
opened = record { next = 0; finished = false }

-- a page that writes nothing and reports nothing more: its answer, and the state that it hands back
abbrev pub unwritten : Answer → Listing → Page
unwritten answer state = record { answer = answer; more = false; listing = state }

-- what a page call brings beside the state: its number of closing values, V, B and b, the four slices, the document starts, the lent
-- words with the phrase's part, and what the page's slice holds; its elements are the lines of the page. A call without document starts
-- brings the one start of its text
pub record Call : Type 0 where
  pub closing : ℕ
  pub shape : Shape
  pub arrays : Arrays
  pub documents : List ℕ
  pub words : List ℕ
  pub start : ℕ
  pub len : ℕ
  pub lines : List ℕ

-- a page call, in the order in which it is given its parts
abbrev pub call_of : ℕ → Shape → Arrays → List ℕ → List ℕ → ℕ → ℕ → List ℕ → Call
call_of s shape a documents words start len lines =
    record { closing = s; shape = shape; arrays = a; documents = documents; words = words; start = start; len = len; lines = lines }

-- the text of the slices that a call brings
abbrev pub call_text : Call → List ℕ
call_text call = text_in call.closing call.arrays

-- the phrase that a call brings
abbrev pub call_phrase : Call → List ℕ
call_phrase call = phrase_in call.words call.start call.len

-- the page over the state that a call is handed: of the places 0 to n of its text, the hits are those where its phrase stands
-- inside one document
unfoldable pub call_page : Call → Listing → HitPage
call_page call state =
    page_over (stands_in call.documents (call_text call) (call_phrase call)) (length (call_text call)) (length call.lines) state.next state.finished

-- the refusals of a page call after those of the index and of the starts, in the order tried: of the phrase, a next place above n, a page
-- of length 0
unfoldable pub request_cases : ℕ → List ℕ → ℕ → ℕ → ℕ → ℕ → ℕ → List Case
request_cases vocab words start len n next room =
    phrase_cases vocab words start len
    ++ (ltb n next ⇒ refused refusal_place)
    ∷ (eqb room 0 ⇒ refused refusal_page)
    ∷ []

-- the answer of these tests: the first refusal, and 0 accepted where there is none
unfoldable pub request_answer : ℕ → List ℕ → ℕ → ℕ → ℕ → ℕ → ℕ → Answer
request_answer vocab words start len n next room = first_of (request_cases vocab words start len n next room) (accepted 0)

-- the refusals of a page call, in the order tried: of the index, then of the starts, then of what it asks for
unfoldable pub page_cases : Call → Listing → List Case
page_cases call state =
    reading_cases call.closing call.shape call.arrays call.documents
    ++ request_cases call.shape.vocabulary call.words call.start call.len (length (call_text call)) state.next (length call.lines)

-- the answer of a page call: the number of hits written
unfoldable pub page_answer : Call → Listing → Answer
page_answer call state = first_of (page_cases call state) (accepted (length (call_page call state).found))

-- what a page call returns, and what its slice holds then
pub record PageResult : Type 0 where
  pub page : Page
  pub lines : List ℕ

-- all that a page call returns and writes: the hits in front of the slice and the rest as it was; "more", paper 01's term, exactly if the
-- slice is full and another hit follows; the state of the page. A refused call hands back the state that it was given and leaves its slice
unfoldable pub page_of : Call → Listing → PageResult
page_of call state =
    record {
      page =
          record {
            answer = page_answer call state;
            more = is_accepted (page_answer call state) && (call_page call state).more;
            listing =
                cond (is_accepted (page_answer call state)) (record { next = (call_page call state).next; finished = (call_page call state).finished }) state;
          };
      lines = filled (page_answer call state) (call_page call state).found call.lines;
    }
