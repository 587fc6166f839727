-- A list of page calls, and what it is for it to be complete. Calls and states are of any type: a listing says what its calls bring,
-- what else its state holds, and by which tests a call is refused.
use Rattle.std.specs.Prelude.{ℕ, ◌≤◌, ◌<◌, ◌≡◌, ◌↔◌, Bool, true, false, cond, length, take, get_or}
use mathlib.Core.List.{List, [], ◌∷◌, ◌++◌, map, flatten, Memᴰ}
use Rattle.base.specs.Lists.{total}
use Rattle.base.specs.Answers.{front}
use Rattle.pages.specs.Hits.{all_hits}
use Rattle.pages.specs.Pages.{page_over}

-- what a call comes to: whether it is accepted, its value, whether it reports more, the state that it hands back, and what its slice
-- holds on return
pub record Outcome (State : Type 0) : Type 0 where
  pub accepted : Bool
  pub value : ℕ
  pub more : Bool
  pub state : State
  pub slice : List ℕ

-- the hits of an accepted page: as many elements from the front of its slice as its value says
abbrev pub hits_on : {State : Type 0} → Outcome State → List ℕ
hits_on o = cond o.accepted (take o.value o.slice) []

-- the lines of an accepted page: the elements of its slice
abbrev pub lines_on : {State : Type 0} → Outcome State → ℕ
lines_on o = cond o.accepted (length o.slice) 0

-- an accepted page reports the end if it does not report more
pub record ReportsEnd {State : Type 0} (o : Outcome State) : Type 0 where
  pub accepted : o.accepted ≡ true
  pub no_more : o.more ≡ false

-- a list of calls, each of which answers over the state that it is handed
module _ {Call State : Type 0} (answer : Call → State → Outcome State) where
  -- what the calls come to: the first is handed the state, each later one the state that the call before it returned, accepted or not
  unfoldable pub outcomes : State → List Call → List (Outcome State)
  outcomes state [] = []
  outcomes state (call ∷ calls) = answer call state ∷ outcomes (answer call state).state calls

  -- the state that the last of the calls returned; the one handed to the first where there is none
  unfoldable pub state_after : State → List Call → State
  state_after state [] = state
  state_after state (call ∷ calls) = state_after (answer call state).state calls

  -- what a call comes to that comes after these calls
  abbrev pub outcome_after : State → List Call → Call → Outcome State
  outcome_after state before call = answer call (state_after state before)

  -- the hits of the accepted pages, laid end to end in the order of the calls
  unfoldable pub found : State → List Call → List ℕ
  found state calls = flatten (map hits_on (outcomes state calls))

  -- how many lines those pages have together
  unfoldable pub lines_had : State → List Call → ℕ
  lines_had state calls = total (map lines_on (outcomes state calls))

  -- each call of a list that is accepted brings what it should
  abbrev pub AcceptedBring : (Call → Type 0) → State → List Call → Type 0
  AcceptedBring Brings state calls =
      (before : List Call) (call : Call) (after : List Call) → before ++ call ∷ after ≡ calls →
      (outcome_after state before call).accepted ≡ true → Brings call

-- a list of calls from an opening state is complete for the hits of P among the places 0 to the end; `next` is the next place of a
-- state, `finished` whether it is finished, `lines` what the slice of a call holds, and `Brings` what every accepted call brings
pub record CompleteRun {Call State : Type 0} (answer : Call → State → Outcome State) (next : State → ℕ) (finished : State → Bool) (lines : Call → List ℕ)
    (Brings : Call → Type 0) (P : ℕ → Bool) (end : ℕ) (opening : State) (calls : List Call)
    : Type 0 where
  -- found are the first hits, as many as the accepted pages have lines, or all hits if there are not so many
  pub first_hits : found answer opening calls ≡ take (lines_had answer opening calls) (all_hits P end)
  -- found are strictly ascending places, so none twice
  pub ascending :
      (i j : ℕ) → i < j → j < length (found answer opening calls) → get_or (found answer opening calls) i 0 < get_or (found answer opening calls) j 0
  -- nothing but hits is found
  pub sound : (q : ℕ) → Memᴰ q (found answer opening calls) → (q ≤ end) × (P q ≡ true)
  -- an accepted page reports the end exactly when, with it, every hit has been found
  pub end_reported :
      (before : List Call) (call : Call) (after : List Call) → before ++ call ∷ after ≡ calls →
      (outcome_after answer opening before call).accepted ≡ true →
      ((outcome_after answer opening before call).more ≡ false) ↔ (found answer opening (before ++ call ∷ []) ≡ all_hits P end)
  -- if a page reports the end, the list of calls has found all hits, and so as many as there are
  pub all_found :
      (before : List Call) (call : Call) (after : List Call) → before ++ call ∷ after ≡ calls →
      ReportsEnd (outcome_after answer opening before call) → found answer opening calls ≡ all_hits P end
  -- and each place is found at which P holds
  pub none_missed :
      (before : List Call) (call : Call) (after : List Call) → before ++ call ∷ after ≡ calls →
      ReportsEnd (outcome_after answer opening before call) → (q : ℕ) → q ≤ end → P q ≡ true → Memᴰ q (found answer opening calls)
  -- the page that writes the last hit reports the end
  pub last_written :
      (before : List Call) (call : Call) (after : List Call) → before ++ call ∷ after ≡ calls →
      (q : ℕ) → Memᴰ q (hits_on (outcome_after answer opening before call)) → ((p : ℕ) → q < p → p ≤ end → P p ≡ false) →
      ReportsEnd (outcome_after answer opening before call)
  -- where there is no hit, each accepted page reports the end, so the first one does
  pub no_hits :
      (before : List Call) (call : Call) (after : List Call) → before ++ call ∷ after ≡ calls →
      (outcome_after answer opening before call).accepted ≡ true → ((p : ℕ) → p ≤ end → P p ≡ false) →
      ReportsEnd (outcome_after answer opening before call)
  -- no call is handed a next place past the end, and none hands one back
  pub within :
      (before : List Call) (call : Call) (after : List Call) → before ++ call ∷ after ≡ calls → next (state_after answer opening before) ≤ end
  pub next_within :
      (before : List Call) (call : Call) (after : List Call) → before ++ call ∷ after ≡ calls → next (outcome_after answer opening before call).state ≤ end
  -- a page that reports the end hands back a finished state with its next place at the end
  pub end_state :
      (before : List Call) (call : Call) (after : List Call) → before ++ call ∷ after ≡ calls →
      ReportsEnd (outcome_after answer opening before call) →
      (finished (outcome_after answer opening before call).state ≡ true) × (next (outcome_after answer opening before call).state ≡ end)
  -- each call is accepted that brings what it should and a page of one line or more
  pub page_accepted :
      (before : List Call) (call : Call) (after : List Call) → before ++ call ∷ after ≡ calls →
      Brings call → 1 ≤ length (lines call) → (outcome_after answer opening before call).accepted ≡ true

-- an outcome is that of a page over a state: one line or more, and value, more, next place, finished and slice are the page's
pub record IsPage {State : Type 0} (next : State → ℕ) (finished : State → Bool) (P : ℕ → Bool) (end : ℕ) (slice : List ℕ) (state : State) (o : Outcome State) : Type 0 where
  pub some_line : 1 ≤ length slice
  pub value_is : o.value ≡ length (page_over P end (length slice) (next state) (finished state)).found
  pub more_is : o.more ≡ (page_over P end (length slice) (next state) (finished state)).more
  pub next_is : next o.state ≡ (page_over P end (length slice) (next state) (finished state)).next
  pub finished_is : finished o.state ≡ (page_over P end (length slice) (next state) (finished state)).finished
  pub slice_is : o.slice ≡ front (page_over P end (length slice) (next state) (finished state)).found slice

-- what a listing has to show of one call; `Kept` is what an accepted call keeps of the state
pub record IsListing {Call State : Type 0} (answer : Call → State → Outcome State) (next : State → ℕ) (finished : State → Bool) (lines : Call → List ℕ)
    (Brings : Call → Type 0) (Kept : State → Type 0) (P : ℕ → Bool) (end : ℕ) : Type 0 where
  -- a refused call hands back the state that it was given
  pub refused : (call : Call) (state : State) → (answer call state).accepted ≡ false → (answer call state).state ≡ state
  -- an accepted call that brings what it should is a page
  pub page : (call : Call) (state : State) → Kept state → Brings call → (answer call state).accepted ≡ true → IsPage next finished P end (lines call) state (answer call state)
  -- it keeps what is to be kept
  pub keeps : (call : Call) (state : State) → Kept state → Brings call → (answer call state).accepted ≡ true → Kept (answer call state).state
  -- a call is accepted that brings what it should and a page of one line or more, over a state whose next place is not past the end
  pub accepts : (call : Call) (state : State) → Kept state → Brings call → 1 ≤ length (lines call) → next state ≤ end → (answer call state).accepted ≡ true

-- Statement: every list of calls from an opening state, of which the accepted ones bring what they should, the others anything, is complete.
abbrev pub EveryRunComplete : Type 1
EveryRunComplete =
    (Call State : Type 0) (answer : Call → State → Outcome State) (next : State → ℕ) (finished : State → Bool) (lines : Call → List ℕ)
    (Brings : Call → Type 0) (Kept : State → Type 0) (P : ℕ → Bool) (end : ℕ) → IsListing answer next finished lines Brings Kept P end →
    (opening : State) → next opening ≡ 0 → finished opening ≡ false → Kept opening →
    (calls : List Call) → AcceptedBring answer Brings opening calls →
    CompleteRun answer next finished lines Brings P end opening calls
