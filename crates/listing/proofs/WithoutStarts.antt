-- A page call without document starts lists the places of the whole text. Assumes nothing.
use Prim.Native.Nat.{ℕ}
use mathlib.Core.Path.{◌≡◌, sym, ap, ◌∙◌}
use mathlib.Core.Bool.{Bool}
use mathlib.Core.Logic.{◌⊎◌, inl, inr}
use mathlib.Core.List.{List, ◌++◌}
use borrow.Author.Tests.{ne_eqb}
use lib.ListN.{length, get_or}
use Rattle.base.specs.declared.Answer.{Answer}
use Rattle.base.specs.Answers.{accepted, first_of}
use Rattle.base.proofs.Answers.{first_append}
use Rattle.dense.specs.Code.{Closing}
use Rattle.index.specs.declared.Shape.{Shape}
use Rattle.index.specs.Arrays.{Arrays, text_in}
use Rattle.index.specs.Entries.{index_cases, check_answer}
use Rattle.phrases.specs.Phrases.{stands}
use Rattle.documents.specs.Documents.{one_start, stands_in}
use Rattle.documents.proofs.Inside.{together_in, one_whole}
use Rattle.documents.proofs.Exact.{documents_are_exact}
use Rattle.pages.specs.Pages.{page_over}
use Rattle.questions.specs.Answering.{reading_cases, check_answer_in}
use Rattle.questions.proofs.Checks.{reading_whole, check_in_index, start_or_refused}
use Rattle.listing.specs.declared.Listing.{Listing}
use Rattle.listing.specs.Paging.{Call, call_of, call_text, call_phrase, call_page, unwritten, request_cases, page_cases, page_answer, PageResult, page_of}
use Rattle.listing.specs.WithoutStarts.{ListedWithoutStarts}
use Rattle.listing.proofs.Paged.{page_refused, by_reading}

-- in a text that is one document a phrase stands inside it wherever it stands
pub stands_whole : (t phrase : List ℕ) (q : ℕ) → stands_in (one_start (length t)) t phrase q ≡ stands t phrase q
stands_whole t phrase q = together_in (one_start (length t)) t phrase q (one_whole t q (length phrase))

module _ (call : Call) (state : Listing) (one : call.documents ≡ one_start (length (call_text call))) where
  -- the starts turn nothing down
  by_the_index_lem : page_answer call state
      ≡ first_of (index_cases call.closing call.shape call.arrays ++ request_cases call.shape.vocabulary call.words call.start call.len (length (call_text call)) state.next (length call.lines))
      (accepted (length (call_page call state).found))
  unfolding page_answer page_cases
  by_the_index_lem =
      let ix = index_cases call.closing call.shape call.arrays in
      let request = request_cases call.shape.vocabulary call.words call.start call.len (length (call_text call)) state.next (length call.lines) in
      let done = accepted (length (call_page call state).found) in
      first_append (reading_cases call.closing call.shape call.arrays call.documents) request done
      ∙ ap (λ (d : List ℕ). first_of (reading_cases call.closing call.shape call.arrays d) (first_of request done)) one
      ∙ reading_whole call.closing call.shape call.arrays (first_of request done)
      ∙ sym (first_append ix request done)

  -- and the hits are those of the whole text
  whole_page_lem : call_page call state ≡ page_over (stands (call_text call) (call_phrase call)) (length (call_text call)) (length call.lines) state.next state.finished
  unfolding call_page
  whole_page_lem =
      let f : stands_in call.documents (call_text call) (call_phrase call) ≡ stands (call_text call) (call_phrase call) =
      ap (λ (d : List ℕ). stands_in d (call_text call) (call_phrase call)) one ∙ (λ k q. stands_whole (call_text call) (call_phrase call) q k) in
      ap (λ (P : ℕ → Bool). page_over P (length (call_text call)) (length call.lines) state.next state.finished) f

pub listed_without_starts : ListedWithoutStarts
listed_without_starts call state one = record {
  by_the_index = by_the_index_lem call state one;
  whole_page = whole_page_lem call state one;
  all_places = λ phrase. (documents_are_exact call.documents (call_text call) phrase).whole one;
}

-- with the one start by the first length a call has the page that it has with the one start of its text: they are the same of arrays that
-- pass the check, and the check turns others down
pub page_by_root : (s : ℕ) → Closing s → (shape : Shape) (a : Arrays) (words : List ℕ) (start len : ℕ) (lines : List ℕ) (state : Listing)
    → page_of (call_of s shape a (one_start (get_or a.lengths 0 0)) words start len lines) state
    ≡ page_of (call_of s shape a (one_start (length (text_in s a))) words start len lines) state
page_by_root s within shape a words start len lines state = by (start_or_refused s shape a within)
  where
    with-starts : List ℕ → Call
    with-starts documents = call_of s shape a documents words start len lines

    -- a call that the check turns down
    down : ((check_answer s shape a).refusal ≡ 0 → ⊥) → (documents : List ℕ)
        → ◌≡◌ {A = PageResult} (record { page = unwritten (check_answer s shape a) state; lines = lines }) (page_of (with-starts documents) state)
    down h documents =
        let e = check_in_index s shape a documents h in
        page_refused (with-starts documents) state (check_answer s shape a)
        (by_reading (with-starts documents) state (λ (z : (check_answer_in s shape a documents).refusal ≡ 0). h (ap (λ (r : Answer). r.refusal) (sym e) ∙ z)) ∙ e)
        (ne_eqb (check_answer s shape a).refusal 0 h)

    by : (one_start (get_or a.lengths 0 0) ≡ one_start (length (text_in s a))) ⊎ ((check_answer s shape a).refusal ≡ 0 → ⊥)
        → page_of (with-starts (one_start (get_or a.lengths 0 0))) state ≡ page_of (with-starts (one_start (length (text_in s a)))) state
    by (inl e) = ap (λ (d : List ℕ). page_of (with-starts d) state) e
    by (inr h) = sym (down h (one_start (get_or a.lengths 0 0))) ∙ down h (one_start (length (text_in s a)))
