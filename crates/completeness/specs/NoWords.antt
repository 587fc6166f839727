-- Statement: the pages of a listing of the phrase of no words, which stands at every place from 0 to n, whatever the documents.
use Rattle.std.specs.Prelude.{ℕ, suc, ◌+◌, ◌-◌, ◌≤◌, ◌<◌, ◌≡◌, Bool, true, false, List, length}
use Rattle.base.specs.Lists.{range_from}
use Rattle.base.specs.Answers.{accepted, is_accepted, front}
use Rattle.listing.specs.declared.Listing.{Listing}
use Rattle.listing.specs.Paging.{Call, call_text, PageResult, page_answer, page_of}

-- a page of so many places, with the state after it
abbrev pub places_page : ℕ → Bool → ℕ → Bool → List ℕ → PageResult
places_page count more next finished lines =
    record { page = record { answer = accepted count; more = more; listing = record { next = next; finished = finished } }; lines = lines }

-- a page that begins at the next place, in a text of n words
pub record NoWordsPage (n : ℕ) (call : Call) (state : Listing) : Type 0 where
  -- where a place follows its last line it is full of places and reports more, and next is the place that follows: n after n - 1
  pub full :
      state.next + length call.lines ≤ n →
      page_of call state
      ≡ places_page (length call.lines) true (state.next + length call.lines) false (range_from state.next (length call.lines))
  -- otherwise it ends with place n, and finishes with next n
  pub last :
      n < state.next + length call.lines →
      page_of call state ≡ places_page (suc n - state.next) false n true (front (range_from state.next (suc n - state.next)) call.lines)

-- Statement: every accepted page of a phrase of no words, with any document starts, over a state that is not finished.
abbrev pub NoWordsListed : Type 0
NoWordsListed =
    (call : Call) (state : Listing) → is_accepted (page_answer call state) ≡ true → call.len ≡ 0 → state.finished ≡ false →
    NoWordsPage (length (call_text call)) call state
