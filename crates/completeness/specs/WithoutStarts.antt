-- Statement of demand 3 for calls without document starts, whose text is one run from end to end.
use Rattle.std.specs.Prelude.{ℕ, suc, ◌+◌, ◌≤◌, ◌<◌, ◌≡◌, ◌↔◌, true, false, cond, length, take, get_or}
use mathlib.Core.List.{List, [], ◌∷◌, ◌++◌, Memᴰ}
use Rattle.base.specs.Lists.{All, range_from, count_of}
use Rattle.base.specs.Answers.{accepted}
use Rattle.base.specs.Texts.{max_phrase}
use Rattle.dense.specs.Code.{Closing}
use Rattle.index.specs.declared.Shape.{Shape}
use Rattle.index.specs.Arrays.{Arrays, text_in}
use Rattle.index.specs.Entries.{check_answer}
use Rattle.index.specs.Exact.{HasIndex}
use Rattle.phrases.specs.Phrases.{stands, places}
use Rattle.documents.specs.Documents.{one_start}
use Rattle.questions.specs.declared.Question.{Question}
use Rattle.questions.specs.Answering.{ask_answer}
use Rattle.questions.specs.Passages.{passage_answer, passage_exit}
use Rattle.listing.specs.Paging.{Call, call_of}
use Rattle.completeness.specs.Completeness.{found_by, lines_of, result_after, is_page, hits_of, IsPart}

-- a call is one without document starts that brings the phrase: that of the contract of `concordance_list`, there with 128 closing
-- values, for these arrays, any lent words of which a part is the phrase, and any page
pub record BringsWhole (s : ℕ) (shape : Shape) (a : Arrays) (phrase : List ℕ) (call : Call) : Type 0 where
  pub is_whole : call ≡ call_of s shape a (one_start (length (text_in s a))) call.words call.start call.len call.lines
  pub same_phrase : IsPart call.words call.start call.len phrase

-- something holds of every accepted call of a list, with the calls of the list that come before it
abbrev pub EachPage : List Call → (List Call → Call → Type 0) → Type 0
EachPage calls Holds =
    (before : List Call) (call : Call) (after : List Call) → before ++ call ∷ after ≡ calls →
    is_page (result_after before call) ≡ true → Holds before call

-- what holds of the text t, the phrase, and a list of calls from an opened listing
pub record CompleteWhole (s : ℕ) (shape : Shape) (a : Arrays) (phrase t : List ℕ) (calls : List Call) : Type 0 where
  -- the text has the slices as its index, and no other text has
  pub the_text : HasIndex s shape t a
  pub no_other : (u : List ℕ) → HasIndex s shape u a → u ≡ t
  -- the places are those q with q + m ≤ n where all m words of the phrase agree
  pub the_places :
      (q : ℕ) → (stands t phrase q ≡ true) ↔
      ((q + length phrase ≤ length t) × ((i : ℕ) → i < length phrase → get_or t (q + i) 0 ≡ get_or phrase i 0))
  -- `places` lists them ascending, all of them and each once
  pub each_once : (q : ℕ) → count_of q (places t phrase) ≡ cond (stands t phrase q) 1 0
  pub places_ascend : (i j : ℕ) → i < j → j < length (places t phrase) → get_or (places t phrase) i 0 < get_or (places t phrase) j 0
  -- a phrase of no words stands at every place from 0 to n
  pub no_words_everywhere : length phrase ≡ 0 → places t phrase ≡ range_from 0 (suc (length t))
  -- found are the first of them, as many as the accepted pages had lines, or every place if there are fewer
  pub first_places : found_by calls ≡ take (lines_of calls) (places t phrase)
  -- found is ascending, so that nothing is found twice
  pub ascending : (i j : ℕ) → i < j → j < length (found_by calls) → get_or (found_by calls) i 0 < get_or (found_by calls) j 0
  -- nothing else is found: the phrase stands at each place found
  pub nothing_else : (i : ℕ) → i < length (found_by calls) → stands t phrase (get_or (found_by calls) i 0) ≡ true
  -- an accepted page reports the end exactly when, with it, every place has been found
  pub end_reported :
      EachPage calls (λ before call. ((result_after before call).page.more ≡ false) ↔ (found_by (before ++ call ∷ []) ≡ places t phrase))
  -- once a page has reported the end, every place is found by the list of calls
  pub all_found : EachPage calls (λ before call. (result_after before call).page.more ≡ false → found_by calls ≡ places t phrase)
  -- and so is each place at which the phrase stands
  pub none_missed :
      EachPage calls
      (λ before call. (result_after before call).page.more ≡ false → (q : ℕ) → stands t phrase q ≡ true → Memᴰ q (found_by calls))
  -- the page that takes the last place reports the end
  pub last_reported :
      EachPage calls
      (λ before call. (q : ℕ) → Memᴰ q (hits_of (result_after before call)) → ((p : ℕ) → stands t phrase p ≡ true → p ≤ q) →
      (result_after before call).page.more ≡ false)
  -- where the phrase stands nowhere, each accepted page reports the end, so the first one does
  pub none_reported :
      EachPage calls (λ before call. ((p : ℕ) → stands t phrase p ≡ false) → (result_after before call).page.more ≡ false)
  -- an accepted page that reports the end hands back a finished state with next n
  pub end_state :
      EachPage calls
      (λ before call. (result_after before call).page.more ≡ false →
      (result_after before call).page.listing ≡ record { next = length t; finished = true })
  -- no call hands back a next place above n
  pub next_within :
      (before : List Call) (call : Call) (after : List Call) → before ++ call ∷ after ≡ calls →
      (result_after before call).page.listing.next ≤ length t
  -- a call of the list that brings the same and a page of one line or more is accepted
  pub page_accepted :
      (before : List Call) (call : Call) (after : List Call) → before ++ call ∷ after ≡ calls →
      BringsWhole s shape a phrase call → 1 ≤ length call.lines → is_page (result_after before call) ≡ true
  -- the count of the phrase, kind 5, without document starts is accepted, and is the number of all these places
  pub count_of_all :
      (words : List ℕ) (q : Question) → q.kind ≡ 5 → IsPart words q.start q.length phrase →
      ask_answer s shape a words q ≡ accepted (length (places t phrase))
  -- the passage of the phrase's length at each place found is accepted, and is the phrase
  pub passage_is_phrase :
      (i : ℕ) → i < length (found_by calls) → (z : List ℕ) → length z ≡ length phrase →
      (passage_answer s shape a (get_or (found_by calls) i 0) z ≡ accepted (length phrase))
      × (passage_exit s shape a (get_or (found_by calls) i 0) z ≡ phrase)
  -- a phrase with an absent word, whose rank is V, stands nowhere
  pub absent_nowhere : (i : ℕ) → i < length phrase → get_or phrase i 0 ≡ shape.vocabulary → places t phrase ≡ []
  -- and its listing finishes on its first page: each accepted page writes nothing, leaves its slice, reports the end, and hands back a
  -- finished state with next n
  pub absent_finished :
      EachPage calls
      (λ before call. (i : ℕ) → i < length phrase → get_or phrase i 0 ≡ shape.vocabulary →
      ((result_after before call).page.answer ≡ accepted 0) × ((result_after before call).lines ≡ call.lines)
      × ((result_after before call).page.more ≡ false) × ((result_after before call).page.listing ≡ record { next = length t; finished = true }))

-- Statement of demand 3 without document starts, at every number of closing values: for arrays that pass the check, one phrase of up to 16
-- words, each of the vocabulary or absent, or of no words, and every list of page calls, the empty one too, of which the accepted ones
-- bring that phrase and those arrays and no starts, the refused ones anything.
abbrev pub WholeListingComplete : Type 0
WholeListingComplete =
    (s : ℕ) (shape : Shape) (a : Arrays) (phrase : List ℕ) → Closing s → check_answer s shape a ≡ accepted 0 →
    length phrase ≤ max_phrase → All (λ (w : ℕ). w ≤ shape.vocabulary) phrase → (calls : List Call) →
    EachPage calls (λ before call. BringsWhole s shape a phrase call) → CompleteWhole s shape a phrase (text_in s a) calls
