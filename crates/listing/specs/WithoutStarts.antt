-- Statement: a page call without document starts lists the places of a text that is one run from end to end.
use Rattle.std.specs.Prelude.{ℕ, ◌≡◌, List, ◌++◌, length}
use Rattle.base.specs.Answers.{accepted, first_of}
use Rattle.index.specs.Entries.{index_cases}
use Rattle.phrases.specs.Phrases.{stands, places}
use Rattle.documents.specs.Documents.{one_start, places_in}
use Rattle.pages.specs.Pages.{page_over}
use Rattle.listing.specs.declared.Listing.{Listing}
use Rattle.listing.specs.Paging.{Call, call_text, call_phrase, call_page, request_cases, page_answer}

-- what a page call without document starts comes to
pub record ListedWhole (call : Call) (state : Listing) : Type 0 where
  -- it is turned down by the index, or by what it asks for, and never for starts
  pub by_the_index :
      page_answer call state
      ≡ first_of
      (index_cases call.closing call.shape call.arrays
      ++ request_cases call.shape.vocabulary call.words call.start call.len (length (call_text call)) state.next (length call.lines))
      (accepted (length (call_page call state).found))
  -- its hits are the places where the phrase stands in the whole text
  pub whole_page :
      call_page call state
      ≡ page_over (stands (call_text call) (call_phrase call)) (length (call_text call)) (length call.lines) state.next state.finished
  -- and the places of every phrase are all of them
  pub all_places : (phrase : List ℕ) → places_in call.documents (call_text call) phrase ≡ places (call_text call) phrase

-- Statement: of every call that brings the one start of its text, and every state.
abbrev pub ListedWithoutStarts : Type 0
ListedWithoutStarts = (call : Call) (state : Listing) → call.documents ≡ one_start (length (call_text call)) → ListedWhole call state
