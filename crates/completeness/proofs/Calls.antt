-- When a page call is accepted, and that an accepted one is a page over the places of its text. Assumes nothing.
use Prim.Native.Nat.{ℕ, ◌+◌, ◌≤◌}
use mathlib.Core.Path.{◌≡◌, sym, ap, ◌∙◌}
use mathlib.Core.Bool.{true, not}
use mathlib.Core.List.{List}
use native.Mathlib.Omega.{arith}
use borrow.Author.Tests.{le-ltb}
use lib.Dec.{ltb}
use lib.ListN.{length, drop, length-take, length-drop}
use Rattle.base.specs.declared.Answer.{Answer}
use Rattle.base.specs.Lists.{All, all_pass}
use Rattle.base.specs.Answers.{accepted, is_accepted, NoneHolds, filled}
use Rattle.base.specs.Texts.{max_phrase}
use Rattle.base.proofs.Tests.{or_false}
use Rattle.base.proofs.Answers.{answers}
use Rattle.index.specs.declared.Shape.{Shape}
use Rattle.index.specs.Arrays.{Arrays, text_in}
use Rattle.index.specs.Entries.{check_answer}
use Rattle.documents.specs.Documents.{are_starts, stands_in}
use Rattle.pages.specs.Runs.{IsPage}
use Rattle.questions.specs.Answering.{is_askable, phrase_in, phrase_cases, phrase_refusal, rank_asked_case}
use Rattle.questions.proofs.Askable.{askable_all}
use Rattle.questions.proofs.Checks.{check_in_passed}
use Rattle.listing.specs.declared.Listing.{Listing}
use Rattle.listing.specs.Paging.{Call, call_text, call_phrase, call_page, page_answer, page_of}
use Rattle.completeness.specs.Completeness.{outcome_of, IsPart, Brings}
use Rattle.listing.proofs.Paged.{request_none, accepted_call, taken}

-- an accepted call is a page over the places of its own text
pub own_page : (call : Call) (state : Listing) → is_accepted (page_answer call state) ≡ true
    → IsPage (λ (st : Listing). st.next) (λ (st : Listing). st.finished) (stands_in call.documents (call_text call) (call_phrase call)) (length (call_text call)) call.lines state (outcome_of call state)
unfolding page_of call_page filled
own_page call state h =
    let p = accepted_call call state h in
    record {
      some_line = p.some_line;
      value_is = ap (λ (x : Answer). x.value) p.answer_is;
      more_is = rw h;
      next_is = rw h;
      finished_is = rw h;
      slice_is = rw h;
    }

-- no test of a phrase without a rank above V holds that lies in the lent words
pub phrase_tests : (vocab : ℕ) (words : List ℕ) (start len : ℕ) (phrase : List ℕ) → IsPart words start len phrase → length phrase ≤ max_phrase → All (λ (w : ℕ). w ≤ vocab) phrase
    → NoneHolds (phrase_cases vocab words start len)
unfolding phrase_cases rank_asked_case phrase_in
phrase_tests vocab words start len phrase part most asked =
    let n : length phrase ≡ len = ap length (sym part.is_phrase) ∙ length-take len (drop start words) ∙ omega (arith, length-drop start words, part.inside) in (
      or_false (ltb max_phrase len) (ltb (length words) (start + len)) (le-ltb max_phrase len (omega arith)) (le-ltb (length words) (start + len) part.inside),
      (ap not (ap (all_pass (is_askable vocab)) part.is_phrase ∙ askable_all vocab phrase asked), tt),
    )

-- a call that brings the phrase, arrays that pass and starts that keep the rules is accepted over a state whose next place is not above n,
-- with a page of one line or more
module _ (s : ℕ) (shape : Shape) (a : Arrays) (documents phrase : List ℕ) (passed : check_answer s shape a ≡ accepted 0) (keep : are_starts (length (text_in s a)) documents ≡ true)
    (most : length phrase ≤ max_phrase) (asked : All (λ (w : ℕ). w ≤ shape.vocabulary) phrase) where
  pub call_accepted : (call : Call) (state : Listing) → Brings s shape a documents phrase call → 1 ≤ length call.lines → state.next ≤ length (text_in s a) → is_accepted (page_answer call state) ≡ true
  unfolding phrase_refusal
  call_accepted call state b lines inside =
      let none : phrase_refusal call.shape.vocabulary call.words call.start call.len ≡ 0 =
      ap (λ (x : Answer). x.refusal) (answers (phrase_cases call.shape.vocabulary call.words call.start call.len) (accepted 0)
      (rw b.same_shape (phrase_tests shape.vocabulary call.words call.start call.len phrase b.same_phrase most asked))) in
      ap is_accepted (taken call state
      (rw (b.same_closing, b.same_shape, b.same_arrays, b.same_documents) (ap (λ (x : Answer). x.refusal) (check_in_passed s shape a documents passed keep)))
      (ap (λ (x : Answer). x.refusal)
      (request_none call.shape.vocabulary call.words call.start call.len (length (call_text call)) state.next (length call.lines) none
      (rw (b.same_closing, b.same_arrays) inside) (λ q. omega arith))))
