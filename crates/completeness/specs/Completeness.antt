-- Statement of demand 3: one theorem about a whole list of page calls.
use Rattle.std.specs.Prelude.{ℕ, suc, ◌+◌, ◌≤◌, ◌<◌, ◌≡◌, ◌↔◌, Bool, true, false, cond, length, take, get_or}
use mathlib.Core.List.{List, [], ◌∷◌, ◌++◌, Memᴰ}
use Rattle.base.specs.Lists.{All, range_from, count_of}
use Rattle.base.specs.Answers.{accepted, is_accepted}
use Rattle.base.specs.Texts.{max_phrase}
use Rattle.dense.specs.Code.{Closing}
use Rattle.index.specs.declared.Shape.{Shape}
use Rattle.index.specs.Arrays.{Arrays, text_in}
use Rattle.index.specs.Entries.{check_answer}
use Rattle.index.specs.Exact.{HasIndex}
use Rattle.documents.specs.Documents.{are_starts, document_of, stands_in, places_in}
use Rattle.pages.specs.Runs.{Outcome, state_after, found, lines_had}
use Rattle.questions.specs.declared.Question.{Question}
use Rattle.questions.specs.Answering.{ask_answer_in, phrase_in}
use Rattle.questions.specs.Passages.{passage_answer, passage_exit}
use Rattle.listing.specs.declared.Listing.{Listing}
use Rattle.listing.specs.Paging.{opened, Call, call_text, PageResult, page_of}

-- what a page call comes to, as the runs of `pages` take it: it is one of the listing's pages if it is accepted
abbrev pub outcome_of : Call → Listing → Outcome Listing
outcome_of call state =
    record {
      accepted = is_accepted (page_of call state).page.answer;
      value = (page_of call state).page.answer.value;
      more = (page_of call state).page.more;
      state = (page_of call state).page.listing;
      slice = (page_of call state).lines;
    }

-- found: the hits of the accepted pages of calls from an opened listing, laid end to end in the order of the calls, as they stood on
-- return: as many elements from the front of its slice as the value of each says
abbrev pub found_by : List Call → List ℕ
found_by calls = found outcome_of opened calls

-- how many lines those pages had
abbrev pub lines_of : List Call → ℕ
lines_of calls = lines_had outcome_of opened calls

-- what a call returns and writes that comes after these calls from an opened listing: the first is handed the opening state, each later
-- one the state that the call before it returned, accepted or not
abbrev pub result_after : List Call → Call → PageResult
result_after before call = page_of call (state_after outcome_of opened before)

-- whether it is accepted, and so one of the listing's pages
abbrev pub is_page : PageResult → Bool
is_page result = is_accepted result.page.answer

-- the hits of an accepted page: as many elements from the front of its slice as its value says
abbrev pub hits_of : PageResult → List ℕ
hits_of result = take result.page.answer.value result.lines

-- a part of the lent words is inside them and is the phrase
pub record IsPart (words : List ℕ) (start len : ℕ) (phrase : List ℕ) : Type 0 where
  pub inside : start + len ≤ length words
  pub is_phrase : phrase_in words start len ≡ phrase

-- a call brings the phrase and, unchanged, the number of closing values, V, B, b, the four slices and the document starts
pub record Brings (s : ℕ) (shape : Shape) (a : Arrays) (documents phrase : List ℕ) (call : Call) : Type 0 where
  pub same_closing : call.closing ≡ s
  pub same_shape : call.shape ≡ shape
  pub same_arrays : call.arrays ≡ a
  pub same_documents : call.documents ≡ documents
  pub same_phrase : IsPart call.words call.start call.len phrase

-- what holds of the text t, its documents, the phrase, and a list of calls from an opened listing
pub record Complete (s : ℕ) (shape : Shape) (a : Arrays) (documents phrase t : List ℕ) (calls : List Call) : Type 0 where
  -- the text has the slices as its index, and no other text has
  pub the_text : HasIndex s shape t a
  pub no_other : (u : List ℕ) → HasIndex s shape u a → u ≡ t
  -- the places are those q with q + m ≤ n where all m words of the phrase agree and lie in the document of the first
  pub the_places :
      (q : ℕ) →
      (stands_in documents t phrase q ≡ true) ↔
      ((q + length phrase ≤ length t)
      × ((i : ℕ) → i < length phrase → (get_or t (q + i) 0 ≡ get_or phrase i 0) × (document_of documents (q + i) ≡ document_of documents q)))
  -- `places_in` lists them ascending, all of them and each once
  pub each_once : (q : ℕ) → count_of q (places_in documents t phrase) ≡ cond (stands_in documents t phrase q) 1 0
  pub places_ascend :
      (i j : ℕ) → i < j → j < length (places_in documents t phrase) →
      get_or (places_in documents t phrase) i 0 < get_or (places_in documents t phrase) j 0
  -- a phrase of no words stands at every place from 0 to n, whatever the documents
  pub no_words_everywhere : length phrase ≡ 0 → places_in documents t phrase ≡ range_from 0 (suc (length t))
  -- found are the first of them, as many as the accepted pages had lines, or every place if there are fewer
  pub first_places : found_by calls ≡ take (lines_of calls) (places_in documents t phrase)
  -- found is ascending, so that nothing is found twice
  pub ascending : (i j : ℕ) → i < j → j < length (found_by calls) → get_or (found_by calls) i 0 < get_or (found_by calls) j 0
  -- nothing else is found: the phrase stands inside one document at each place found
  pub nothing_else : (i : ℕ) → i < length (found_by calls) → stands_in documents t phrase (get_or (found_by calls) i 0) ≡ true
  -- an accepted page reports the end exactly when, with it, every place has been found
  pub end_reported :
      (before : List Call) (call : Call) (after : List Call) → before ++ call ∷ after ≡ calls →
      is_page (result_after before call) ≡ true →
      ((result_after before call).page.more ≡ false) ↔ (found_by (before ++ call ∷ []) ≡ places_in documents t phrase)
  -- once a page has reported the end, every place is found by the list of calls
  pub all_found :
      (before : List Call) (call : Call) (after : List Call) → before ++ call ∷ after ≡ calls →
      is_page (result_after before call) ≡ true → (result_after before call).page.more ≡ false → found_by calls ≡ places_in documents t phrase
  -- and so is each place at which the phrase stands inside one document
  pub none_missed :
      (before : List Call) (call : Call) (after : List Call) → before ++ call ∷ after ≡ calls →
      is_page (result_after before call) ≡ true → (result_after before call).page.more ≡ false →
      (q : ℕ) → stands_in documents t phrase q ≡ true → Memᴰ q (found_by calls)
  -- the page that takes the last place reports the end
  pub last_reported :
      (before : List Call) (call : Call) (after : List Call) → before ++ call ∷ after ≡ calls →
      is_page (result_after before call) ≡ true →
      (q : ℕ) → Memᴰ q (hits_of (result_after before call)) → ((p : ℕ) → stands_in documents t phrase p ≡ true → p ≤ q) →
      (result_after before call).page.more ≡ false
  -- where the phrase stands nowhere inside one document, each accepted page reports the end, so the first one does
  pub none_reported :
      (before : List Call) (call : Call) (after : List Call) → before ++ call ∷ after ≡ calls →
      is_page (result_after before call) ≡ true → ((p : ℕ) → stands_in documents t phrase p ≡ false) → (result_after before call).page.more ≡ false
  -- an accepted page that reports the end hands back a finished state with next n
  pub end_state :
      (before : List Call) (call : Call) (after : List Call) → before ++ call ∷ after ≡ calls →
      is_page (result_after before call) ≡ true → (result_after before call).page.more ≡ false →
      (result_after before call).page.listing ≡ record { next = length t; finished = true }
  -- no call hands back a next place above n
  pub next_within :
      (before : List Call) (call : Call) (after : List Call) → before ++ call ∷ after ≡ calls →
      (result_after before call).page.listing.next ≤ length t
  -- a call of the list that brings the same and a page of one line or more is accepted
  pub page_accepted :
      (before : List Call) (call : Call) (after : List Call) → before ++ call ∷ after ≡ calls →
      Brings s shape a documents phrase call → 1 ≤ length call.lines → is_page (result_after before call) ≡ true
  -- the count of the phrase, kind 5, with the same document starts is accepted, and is the number of all these places
  pub count_of_all :
      (words : List ℕ) (q : Question) → q.kind ≡ 5 → IsPart words q.start q.length phrase →
      ask_answer_in s shape a documents words q ≡ accepted (length (places_in documents t phrase))
  -- the passage of the phrase's length at each place found is accepted, and is the phrase
  pub passage_is_phrase :
      (i : ℕ) → i < length (found_by calls) → (z : List ℕ) → length z ≡ length phrase →
      (passage_answer s shape a (get_or (found_by calls) i 0) z ≡ accepted (length phrase))
      × (passage_exit s shape a (get_or (found_by calls) i 0) z ≡ phrase)
  -- a phrase with an absent word, whose rank is V, stands nowhere
  pub absent_nowhere : (i : ℕ) → i < length phrase → get_or phrase i 0 ≡ shape.vocabulary → places_in documents t phrase ≡ []
  -- and its listing finishes on its first page: each accepted page writes nothing, leaves its slice, reports the end, and hands back a
  -- finished state with next n
  pub absent_finished :
      (before : List Call) (call : Call) (after : List Call) → before ++ call ∷ after ≡ calls →
      is_page (result_after before call) ≡ true → (i : ℕ) → i < length phrase → get_or phrase i 0 ≡ shape.vocabulary →
      ((result_after before call).page.answer ≡ accepted 0) × ((result_after before call).lines ≡ call.lines)
      × ((result_after before call).page.more ≡ false) × ((result_after before call).page.listing ≡ record { next = length t; finished = true })

-- Statement of demand 3, at every number of closing values: for arrays that pass the check, document starts that keep the rules, those of
-- a text that is one document too, one phrase of up to 16 words, each of the vocabulary or absent, or of no words, and every list of page
-- calls, the empty one too, of which the accepted ones bring that phrase, those arrays and those starts, the refused ones anything.
abbrev pub ListingComplete : Type 0
ListingComplete =
    (s : ℕ) (shape : Shape) (a : Arrays) (documents phrase : List ℕ) → Closing s →
    check_answer s shape a ≡ accepted 0 → are_starts (length (text_in s a)) documents ≡ true →
    length phrase ≤ max_phrase → All (λ (w : ℕ). w ≤ shape.vocabulary) phrase →
    (calls : List Call) →
    ((before : List Call) (call : Call) (after : List Call) → before ++ call ∷ after ≡ calls →
    is_page (result_after before call) ≡ true → Brings s shape a documents phrase call) →
    Complete s shape a documents phrase (text_in s a) calls

-- Statement: an accepted page hands back a next place that is not above n, whatever state it was handed and whatever it brings.
abbrev pub NextWithin : Type 0
NextWithin = (call : Call) (state : Listing) → is_page (page_of call state) ≡ true → (page_of call state).page.listing.next ≤ length (call_text call)
