-- A page call, case by case: its refusals in the order tried, and what it comes to where it is accepted. Assumes nothing.
use Prim.Native.Nat.{ℕ, ◌≤◌, ◌<◌}
use mathlib.Core.Path.{◌≡◌, refl, sym, ap, ◌∙◌}
use mathlib.Core.Bool.{Bool, true, false}
use mathlib.Core.List.{List, [], ◌∷◌}
use native.Mathlib.Omega.{arith}
use borrow.Author.Tests.{eq-eqb, ne_eqb, eqb-false, lt-ltb, le-ltb, ltb-false, not-false}
use lib.Dec.{eqb, ltb}
use lib.ListN.{length}
use Rattle.base.specs.declared.Answer.{Answer}
use Rattle.base.specs.Refusals.{refusal_place, refusal_page}
use Rattle.base.specs.Answers.{Case, ◌⇒◌, first_of, is_accepted, accepted, refused, filled, front}
use Rattle.base.proofs.Answers.{first_here, first_later, first_append, first_decided, none_holds, answers}
use Rattle.dense.specs.Code.{vocabulary_case}
use Rattle.directory.specs.Counters.{blocks_case}
use Rattle.index.specs.Entries.{index_cases, check_answer}
use Rattle.documents.specs.Documents.{are_starts, documents_case, stands_in, places_in}
use Rattle.pages.specs.Pages.{HitPage, page_over}
use Rattle.pages.proofs.Searching.{made_finished, made_none}
use Rattle.paging.specs.declared.Written.{Written}
use Rattle.paging.specs.Written.{written_of, ended_at}
use Rattle.questions.specs.Answering.{reading_cases, check_answer_in, phrase_in, phrase_cases, phrase_refusal, phrase_answer, rank_asked_case}
use Rattle.questions.proofs.Answered.{phrase_refused}
use Rattle.questions.proofs.Checks.{reading_passed, reading_refused, check_in_clear}
use Rattle.listing.specs.declared.Listing.{Listing}
use Rattle.listing.specs.declared.Page.{Page}
use Rattle.listing.specs.Paging.{Call, call_text, call_phrase, call_page, unwritten, request_cases, request_answer, page_cases, page_answer, PageResult, page_of}

-- the tests after those of the index and of the starts, case by case
module _ (vocab : ℕ) (words : List ℕ) (start len n next room : ℕ) where
  -- the tests of the phrase decide
  pub request_phrase : (phrase_refusal vocab words start len ≡ 0 → ⊥) → request_answer vocab words start len n next room ≡ refused (phrase_refusal vocab words start len)
  unfolding request_answer request_cases phrase_answer
  request_phrase h =
      let ph = phrase_cases vocab words start len in
      let no = phrase_refused vocab words start len [] [] h in
      first_append ph _ (accepted 0)
      ∙ first_decided ph (accepted (length (places_in [] [] (phrase_in words start len)))) _ refl (ap is_accepted no ∙ ne_eqb (phrase_refusal vocab words start len) 0 h)
      ∙ no

  module _ (f : phrase_refusal vocab words start len ≡ 0) where
    -- the tests after those of the phrase
    abbrev rest : List Case
    rest = (ltb n next ⇒ refused refusal_place) ∷ (eqb room 0 ⇒ refused refusal_page) ∷ []

    -- or leave it to those two
    after-phrase : request_answer vocab words start len n next room ≡ first_of rest (accepted 0)
    unfolding request_answer request_cases phrase_refusal phrase_cases rank_asked_case
    after-phrase =
        let ph = phrase_cases vocab words start len in
        first_append ph rest (accepted 0)
        ∙ answers ph (first_of rest (accepted 0)) (none_holds ph (accepted 0) (refl, (refl, tt)) (eq-eqb (phrase_refusal vocab words start len) 0 f))

    pub request_place : n < next → request_answer vocab words start len n next room ≡ refused refusal_place
    request_place h = after-phrase ∙ first_here (ltb n next) (refused refusal_place) ((eqb room 0 ⇒ refused refusal_page) ∷ []) (accepted 0) (lt-ltb n next h)

    module _ (inside : next ≤ n) where
      pub request_page : room ≡ 0 → request_answer vocab words start len n next room ≡ refused refusal_page
      request_page h =
          after-phrase
          ∙ first_later (ltb n next) (refused refusal_place) ((eqb room 0 ⇒ refused refusal_page) ∷ []) (accepted 0) (le-ltb n next inside)
          ∙ first_here (eqb room 0) (refused refusal_page) [] (accepted 0) (eq-eqb room 0 h)

      pub request_none : (room ≡ 0 → ⊥) → request_answer vocab words start len n next room ≡ accepted 0
      request_none h = after-phrase ∙ answers rest (accepted 0) (le-ltb n next inside, (ne_eqb room 0 h, tt))

module _ (call : Call) (state : Listing) where
  -- a refused call hands back its state and leaves its slice
  pub page_refused : (r : Answer) → page_answer call state ≡ r → is_accepted r ≡ false
      → ◌≡◌ {A = PageResult} (record { page = unwritten r state; lines = call.lines }) (page_of call state)
  unfolding page_of filled
  page_refused r e h = sym (rw (e, h))

  -- an accepted one is the page over its state
  pub page_accepted_lem : page_answer call state ≡ accepted (length (call_page call state).found)
      → ◌≡◌ {A = PageResult}
      (record {
        page = record { answer = accepted (length (call_page call state).found); more = (call_page call state).more; listing = record { next = (call_page call state).next; finished = (call_page call state).finished } };
        lines = front (call_page call state).found call.lines;
      })
      (page_of call state)
  unfolding page_of filled
  page_accepted_lem e = sym (rw e)

  -- the tests of the index and of the starts, and their answer
  abbrev reading : List Case
  reading = reading_cases call.closing call.shape call.arrays call.documents

  abbrev checked : Answer
  checked = check_answer_in call.closing call.shape call.arrays call.documents

  -- the tests after those, and their answer
  abbrev request : List Case
  request = request_cases call.shape.vocabulary call.words call.start call.len (length (call_text call)) state.next (length call.lines)

  abbrev asked : Answer
  asked = request_answer call.shape.vocabulary call.words call.start call.len (length (call_text call)) state.next (length call.lines)

  -- the tests of the index and of the starts decide
  pub by_reading : (checked.refusal ≡ 0 → ⊥) → page_answer call state ≡ checked
  unfolding page_answer page_cases
  by_reading h =
      let done = accepted (length (call_page call state).found) in
      first_append reading request done
      ∙ reading_refused call.closing call.shape call.arrays call.documents h (first_of request done)

  module _ (e : checked.refusal ≡ 0) where
    -- or leave it to those after them
    after-reading : page_answer call state ≡ first_of request (accepted (length (call_page call state).found))
    unfolding page_answer page_cases
    after-reading =
        let done = accepted (length (call_page call state).found) in
        let passed = check_in_clear call.closing call.shape call.arrays call.documents e in
        first_append reading request done
        ∙ reading_passed call.closing call.shape call.arrays call.documents passed.0 passed.1 (first_of request done)

    -- which decide
    pub by_request : (asked.refusal ≡ 0 → ⊥) → page_answer call state ≡ asked
    unfolding request_answer
    by_request h = after-reading ∙ first_decided request (accepted 0) (accepted (length (call_page call state).found)) refl (ne_eqb asked.refusal 0 h)

    -- or leave the call accepted
    pub taken : asked.refusal ≡ 0 → page_answer call state ≡ accepted (length (call_page call state).found)
    unfolding request_answer request_cases phrase_cases rank_asked_case
    taken h =
        after-reading
        ∙ answers request (accepted (length (call_page call state).found)) (none_holds request (accepted 0) (refl, (refl, (refl, (refl, tt)))) (eq-eqb asked.refusal 0 h))

  -- what holds of an accepted call: its index passes, its starts keep the rules, its phrase is not refused, its next place is not above n,
  -- its page has a line, it answers with its hits
  pub record Accepted : Type 0 where
    pub index : (check_answer call.closing call.shape call.arrays).refusal ≡ 0
    pub starts : are_starts (length (call_text call)) call.documents ≡ true
    pub phrase : phrase_refusal call.shape.vocabulary call.words call.start call.len ≡ 0
    pub inside : state.next ≤ length (call_text call)
    pub some_line : 1 ≤ length call.lines
    pub answer_is : page_answer call state ≡ accepted (length (call_page call state).found)

  pub accepted_call : is_accepted (page_answer call state) ≡ true → Accepted
  unfolding page_answer page_cases request_cases reading_cases documents_case check_answer index_cases phrase_refusal phrase_cases vocabulary_case blocks_case rank_asked_case
  accepted_call h =
      let done = accepted (length (call_page call state).found) in
      let n = none_holds (page_cases call state) done (refl, (refl, (refl, (refl, (refl, (refl, (refl, (refl, tt)))))))) h in
      record {
        index = ap (λ (x : Answer). x.refusal) (answers (index_cases call.closing call.shape call.arrays) (accepted 0) (n.0, (n.1.0, (n.1.1.0, tt))));
        starts = not-false (are_starts (length (call_text call)) call.documents) n.1.1.1.0;
        phrase = ap (λ (x : Answer). x.refusal) (answers (phrase_cases call.shape.vocabulary call.words call.start call.len) (accepted 0) (n.1.1.1.1.0, (n.1.1.1.1.1.0, tt)));
        inside = ltb-false (length (call_text call)) state.next n.1.1.1.1.1.1.0;
        some_line = omega (arith, eqb-false (length call.lines) 0 n.1.1.1.1.1.1.1.0);
        answer_is = answers (page_cases call state) done n;
      }

  -- what an accepted call returns and leaves in its slice, of what the search has written
  pub page_written : page_answer call state ≡ accepted (length (call_page call state).found) → (w : Written) (slice : List ℕ)
      → w ≡ written_of (call_page call state) → slice ≡ front (call_page call state).found call.lines
      → (◌≡◌ {A = Page} (record { answer = accepted w.count; more = w.more; listing = record { next = w.next.0; finished = w.finished } }) (page_of call state).page)
      × (slice ≡ (page_of call state).lines)
  page_written e w slice is f =
      let p = page_accepted_lem e in
      (rw is (ap (λ (x : PageResult). x.page) p), f ∙ ap (λ (x : PageResult). x.lines) p)

  -- the page of a state that is finished or is not, over the places where the phrase stands inside one document
  pub page_of_state : (b : Bool) → state.finished ≡ b
      → call_page call state ≡ page_over (stands_in call.documents (call_text call) (call_phrase call)) (length (call_text call)) (length call.lines) state.next b
  unfolding call_page
  page_of_state b f = rw f

  -- over a finished state nothing is written, and the state comes back the same
  pub page_finished : page_answer call state ≡ accepted (length (call_page call state).found) → state.finished ≡ true
      → (unwritten (accepted 0) state ≡ (page_of call state).page) × (call.lines ≡ (page_of call state).lines)
  page_finished e f =
      let m = made_finished (stands_in call.documents (call_text call) (call_phrase call)) (length (call_text call)) state.next call.lines in
      let c = page_of_state true f in
      let w : ◌≡◌ {A = Written} (record { count = 0; more = false; next = record { 0 = state.next }; finished = state.finished }) (written_of (call_page call state)) =
      rw (c, f, sym m.value_is, sym m.more_is, sym m.next_is, sym m.finished_is) in
      page_written e (record { count = 0; more = false; next = record { 0 = state.next }; finished = state.finished }) call.lines w (m.slice_is ∙ ap (λ (x : HitPage). front x.found call.lines) (sym c))

  -- over a state that is not finished a phrase that stands nowhere writes nothing and finishes the listing at the end
  pub page_nowhere : page_answer call state ≡ accepted (length (call_page call state).found) → state.finished ≡ false
      → ((q : ℕ) → stands_in call.documents (call_text call) (call_phrase call) q ≡ false)
      → (unwritten (accepted 0) (record { next = length (call_text call); finished = true }) ≡ (page_of call state).page) × (call.lines ≡ (page_of call state).lines)
  page_nowhere e f none =
      let m = made_none (stands_in call.documents (call_text call) (call_phrase call)) none (length (call_text call)) state.next call.lines in
      let c = page_of_state false f in
      let w : ◌≡◌ {A = Written} (ended_at 0 (length (call_text call))) (written_of (call_page call state)) =
      rw (c, sym m.value_is, sym m.more_is, sym m.next_is, sym m.finished_is) in
      page_written e (ended_at 0 (length (call_text call))) call.lines w (m.slice_is ∙ ap (λ (x : HitPage). front x.found call.lines) (sym c))
