-- Demand 3: every list of page calls is complete. Assumes nothing.
use Prim.Native.Nat.{ℕ, ◌+◌, ◌≤◌, ◌<◌}
use mathlib.Core.Path.{◌≡◌, refl, ap, ap₂, subst₂, ◌∙◌}
use mathlib.Core.Logic.{◌↔◌}
use mathlib.Core.Bool.{Bool, true, false}
use mathlib.Core.List.{List, ◌∷◌, ◌++◌}
use native.Mathlib.Omega.{arith}
use borrow.Author.Tests.{eqb-true}
use lib.ListN.{length, take, drop, get_or, length-take, length-drop}
use lib.Seq.{ext_get_or, get_or-take, get_or-drop}
use Rattle.base.specs.Lists.{All}
use Rattle.base.specs.Answers.{accepted, front}
use Rattle.base.specs.Texts.{max_phrase}
use Rattle.base.proofs.Answers.{answers}
use Rattle.base.proofs.Fronts.{front_none}
use Rattle.base.proofs.Members.{get_d-mem}
use Rattle.base.proofs.Tests.{false_of}
use Rattle.dense.specs.Code.{Closing}
use Rattle.index.specs.declared.Shape.{Shape}
use Rattle.index.specs.Arrays.{Arrays, text_in}
use Rattle.index.specs.Entries.{check_answer}
use Rattle.index.proofs.Refusals.{check_limits}
use Rattle.index.proofs.Exact.{index_exact}
use Rattle.phrases.proofs.Exact.{places_are_exact}
use Rattle.documents.specs.Documents.{are_starts, document_of, stands_in, places_in}
use Rattle.documents.specs.Absent.{AbsentWord}
use Rattle.documents.proofs.Absent.{absent_words}
use Rattle.documents.proofs.Exact.{documents_are_exact}
use Rattle.pages.specs.Runs.{CompleteRun, IsPage, IsListing, state_after}
use Rattle.pages.proofs.Pages.{page_none, page_within}
use Rattle.pages.proofs.Complete.{every_run_complete}
use Rattle.questions.specs.declared.Question.{Question}
use Rattle.questions.specs.Answering.{ask_answer_in, question_answer, phrase_answer, phrase_in, phrase_cases}
use Rattle.questions.specs.Passages.{passage_answer, passage_exit}
use Rattle.questions.proofs.Read.{ask_in_passed, passage_accepted, passage_filled}
use Rattle.listing.specs.declared.Listing.{Listing}
use Rattle.listing.specs.Paging.{opened, Call, call_text, call_phrase, page_of}
use Rattle.completeness.specs.Completeness.{outcome_of, found_by, IsPart, Brings, is_page, result_after, Complete, ListingComplete, NextWithin}
use Rattle.completeness.proofs.Calls.{own_page, phrase_tests, call_accepted}
use Rattle.listing.proofs.Paged.{accepted_call}

-- a state, of its two fields
abbrev state_of : ℕ → Bool → Listing
state_of next finished = record { next = next; finished = finished }

module _ (s : ℕ) (shape : Shape) (a : Arrays) (documents phrase : List ℕ) (within : Closing s) (passed : check_answer s shape a ≡ accepted 0)
    (keep : are_starts (length (text_in s a)) documents ≡ true) (most : length phrase ≤ max_phrase) (asked : All (λ (w : ℕ). w ≤ shape.vocabulary) phrase) where
  abbrev text : List ℕ
  text = text_in s a

  -- whether the phrase stands at a place inside one document
  abbrev hit : ℕ → Bool
  hit = stands_in documents text phrase

  -- a listing of the phrase is one over these places
  is_listing : IsListing outcome_of (λ (st : Listing). st.next) (λ (st : Listing). st.finished) (λ (c : Call). c.lines) (Brings s shape a documents phrase) (λ (st : Listing). Unit {0}) hit (length text)
  unfolding page_of
  is_listing = record {
    refused = λ call state h. rw h;
    page = λ call state k b h.
        subst₂ (λ (f : ℕ → Bool) (n : ℕ). IsPage (λ (st : Listing). st.next) (λ (st : Listing). st.finished) f n call.lines state (outcome_of call state))
        (rw (b.same_documents, b.same_closing, b.same_arrays, b.same_phrase.is_phrase)) (ap length (ap₂ text_in b.same_closing b.same_arrays))
        (own_page call state h);
    keeps = λ call state k b h. tt;
    accepts = λ call state k b l h. call_accepted s shape a documents phrase passed keep most asked call state b l h;
  }

  -- the count is accepted, and is the number of all places
  count_of_all_lem : (words : List ℕ) (q : Question) → q.kind ≡ 5 → IsPart words q.start q.length phrase → ask_answer_in s shape a documents words q ≡ accepted (length (places_in documents text phrase))
  unfolding question_answer phrase_answer
  count_of_all_lem words q k part =
      ask_in_passed s shape a documents words q passed keep
      ∙ rw k (answers (phrase_cases shape.vocabulary words q.start q.length) (accepted (length (places_in documents text (phrase_in words q.start q.length))))
      (phrase_tests shape.vocabulary words q.start q.length phrase part most asked)
      ∙ ap (λ (p : List ℕ). accepted (length (places_in documents text p))) part.is_phrase)

  -- inside one document the phrase stands word for word, and each word lies in the document of the first
  places_are : (q : ℕ) → (hit q ≡ true) ↔
      ((q + length phrase ≤ length text)
      × ((i : ℕ) → i < length phrase → (get_or text (q + i) 0 ≡ get_or phrase i 0) × (document_of documents (q + i) ≡ document_of documents q)))
  places_are q =
      let d = documents_are_exact documents text phrase in
      let at = (places_are_exact text phrase).standing q in (
        λ e.
            let both = (d.standing q).0 e in
            let w = at.0 both.1 in
            (w.0, λ i h. (w.1 i h, (d.together q (length phrase)).0 both.0 i h)),
        λ h. (d.standing q).1 ((d.together q (length phrase)).1 (λ i l. (h.1 i l).1), at.1 (h.0, λ i l. (h.1 i l).0)),
      )

  -- where the phrase stands, the passage of its length is accepted, and is the phrase
  passage_is_phrase_lem : (q : ℕ) → hit q ≡ true → (z : List ℕ) → length z ≡ length phrase
      → (passage_answer s shape a q z ≡ accepted (length phrase)) × (passage_exit s shape a q z ≡ phrase)
  passage_is_phrase_lem q e z n =
      let at = (places_are q).0 e in
      let i : q + length z ≤ length text = omega (arith, at.0) in (
        passage_accepted s shape a passed q z i ∙ ap accepted n,
        passage_filled s shape a passed q z i ∙ ap (λ (m : ℕ). take m (drop q text)) n
            ∙ ext_get_or 0 (take (length phrase) (drop q text)) phrase
            (length-take (length phrase) (drop q text) ∙ omega (arith, length-drop q text, at.0))
            (λ j l.
            let h : j < length phrase = omega (arith, length-take (length phrase) (drop q text)) in
            get_or-take (length phrase) (drop q text) j 0 h ∙ get_or-drop q text j 0 ∙ (at.1 j h).0),
      )

  -- the word V stands nowhere in the text
  absent : AbsentWord shape.vocabulary documents text
  absent = absent_words shape.vocabulary documents text ((index_exact s shape within).rebuilt a passed).text.ranks

  module _ (calls : List Call) (bring : (before : List Call) (call : Call) (after : List Call) → before ++ call ∷ after ≡ calls → is_page (result_after before call) ≡ true → Brings s shape a documents phrase call) where
    run : CompleteRun outcome_of (λ (st : Listing). st.next) (λ (st : Listing). st.finished) (λ (c : Call). c.lines) (Brings s shape a documents phrase) hit (length text) opened calls
    run =
        every_run_complete Call Listing outcome_of (λ (st : Listing). st.next) (λ (st : Listing). st.finished) (λ (c : Call). c.lines) (Brings s shape a documents phrase) (λ (st : Listing). Unit {0})
        hit (length text) is_listing opened refl refl tt calls bring

    -- the phrase stands inside one document at each place found
    found-stands : (i : ℕ) → i < length (found_by calls) → hit (get_or (found_by calls) i 0) ≡ true
    found-stands i l = (run.sound (get_or (found_by calls) i 0) (get_d-mem (found_by calls) i l)).1

    -- an accepted page of a phrase with an absent word writes nothing and is the last
    absent-finished : (before : List Call) (call : Call) (after : List Call) → before ++ call ∷ after ≡ calls → is_page (result_after before call) ≡ true
        → (i : ℕ) → i < length phrase → get_or phrase i 0 ≡ shape.vocabulary
        → ((result_after before call).page.answer ≡ accepted 0) × ((result_after before call).lines ≡ call.lines)
        × ((result_after before call).page.more ≡ false) × ((result_after before call).page.listing ≡ state_of (length text) true)
    absent-finished before call after e h i l q =
        let st : Listing = state_after outcome_of opened before in
        let none : (p : ℕ) → hit p ≡ false = absent.stands phrase i l q in
        let page = is_listing.page call st tt (bring before call after e h) h in
        let nothing = page_none hit none (length text) (length call.lines) st.next st.finished in
        let last = (run.no_hits before call after e h (λ p k. none p)).no_more in
        let end = run.end_state before call after e record { accepted = h; no_more = last } in (
          λ k. record { refusal = eqb-true (result_after before call).page.answer.refusal 0 h k; value = (page.value_is ∙ ap length nothing) k },
          page.slice_is ∙ ap (λ (xs : List ℕ). front xs call.lines) nothing ∙ front_none call.lines,
          last,
          ap₂ state_of end.1 end.0,
        )

    pub whole : Complete s shape a documents phrase text calls
    unfolding places_in
    whole = record {
      the_text = (index_exact s shape within).rebuilt a passed;
      no_other = λ u h. (index_exact s shape within).only_one shape refl u text a (check_limits s within shape a passed).0 h ((index_exact s shape within).rebuilt a passed);
      the_places = places_are;
      each_once = (documents_are_exact documents text phrase).once;
      places_ascend = (documents_are_exact documents text phrase).in_order;
      no_words_everywhere = λ none. (documents_are_exact documents text phrase).none none ∙ (places_are_exact text phrase).none none;
      first_places = run.first_hits;
      ascending = run.ascending;
      nothing_else = found-stands;
      end_reported = run.end_reported;
      all_found = λ before call after e h m. run.all_found before call after e record { accepted = h; no_more = m };
      none_missed = λ before call after e h m q st.
          run.none_missed before call after e record { accepted = h; no_more = m } q (omega (arith, ((places_are q).0 st).0)) st;
      last_reported = λ before call after e h q m none.
          (run.last_written before call after e q (rw h m) (λ p l i. false_of (hit p) (λ st. omega (arith, l, none p st)))).no_more;
      none_reported = λ before call after e h none. (run.no_hits before call after e h (λ p l. none p)).no_more;
      end_state = λ before call after e h m.
          let f = run.end_state before call after e record { accepted = h; no_more = m } in
          ap₂ state_of f.1 f.0;
      next_within = run.next_within;
      page_accepted = run.page_accepted;
      count_of_all = count_of_all_lem;
      passage_is_phrase = λ i l z n. passage_is_phrase_lem (get_or (found_by calls) i 0) (found-stands i l) z n;
      absent_nowhere = absent.nowhere phrase;
      absent_finished = absent-finished;
    }

pub listing_complete : ListingComplete
listing_complete s shape a documents phrase within passed keep most asked calls bring = whole s shape a documents phrase within passed keep most asked calls bring

-- an accepted page is one over the places of its text, of which none is above n
pub next_within_lem : NextWithin
unfolding page_of
next_within_lem call state h =
    let p = own_page call state h in
    rw p.next_is (page_within (stands_in call.documents (call_text call) (call_phrase call)) (length (call_text call)) (length call.lines) p.some_line state.next (accepted_call call state h).inside state.finished)
