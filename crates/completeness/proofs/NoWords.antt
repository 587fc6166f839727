-- The pages of a listing of the phrase of no words. Assumes nothing.
use Prim.Native.Nat.{ℕ, zero, suc, ◌+◌, ◌-◌, ◌≤◌, ◌<◌}
use mathlib.Core.Path.{◌≡◌, sym, ap, ◌∙◌}
use mathlib.Core.Bool.{Bool, true, false}
use native.Mathlib.Omega.{arith}
use lib.ListN.{length, drop, length-take}
use Rattle.base.specs.Lists.{range_from}
use Rattle.base.specs.Answers.{is_accepted, front}
use Rattle.base.proofs.Fronts.{front_whole}
use Rattle.base.proofs.Ranges.{length_range, range_append, filter_range_all}
use Rattle.phrases.proofs.NoWords.{none_stands}
use Rattle.documents.specs.Documents.{stands_in}
use Rattle.documents.proofs.Inside.{none_in}
use Rattle.pages.specs.Hits.{hits_from, last_or}
use Rattle.pages.specs.Pages.{HitPage}
use Rattle.pages.proofs.Pages.{full_page, end_page, page_full, page_last}
use Rattle.questions.specs.Answering.{phrase_in}
use Rattle.listing.specs.declared.Listing.{Listing}
use Rattle.listing.specs.Paging.{Call, call_text, call_phrase, call_page, page_answer, page_of}
use Rattle.completeness.specs.NoWords.{places_page, NoWordsListed}
use Rattle.completeness.proofs.Calls.{own_page}
use Rattle.listing.proofs.Paged.{accepted_call, page_accepted_lem}

-- the last of some numbers from a on
last_range : (d a k : ℕ) → last_or d (range_from a (suc k)) ≡ a + k
last_range d a zero = omega arith
last_range d a (suc k) = last_range a (suc a) k ∙ omega arith

module _ (call : Call) (state : Listing) (taken : is_accepted (page_answer call state) ≡ true) (none : call.len ≡ 0) (goes : state.finished ≡ false) where
  abbrev n : ℕ
  n = length (call_text call)

  abbrev room : ℕ
  room = length call.lines

  -- the phrase has no words
  no_words : length (call_phrase call) ≡ 0
  unfolding phrase_in
  no_words = length-take call.len (drop call.start call.words) ∙ omega arith

  -- whether the phrase stands at a place inside one document
  abbrev hit : ℕ → Bool
  hit = stands_in call.documents (call_text call) (call_phrase call)

  -- it does at every place up to n
  everywhere : (q : ℕ) → q ≤ n → hit q ≡ true
  everywhere q h = none_in call.documents (call_text call) (call_phrase call) no_words q ∙ none_stands (call_text call) (call_phrase call) no_words q h

  -- so its hits from the next place on are all places from there
  hits : hits_from hit n state.next ≡ range_from state.next (suc n - state.next)
  hits = filter_range_all hit state.next (suc n - state.next) (λ q l u. everywhere q (omega arith))

  -- of the page, what the call returns and writes
  of_page : (p : HitPage) → call_page call state ≡ p → page_of call state ≡ places_page (length p.found) p.more p.next p.finished (front p.found call.lines)
  of_page p e =
      sym (page_accepted_lem call state (accepted_call call state taken).answer_is)
      ∙ ap (λ (x : HitPage). places_page (length x.found) x.more x.next x.finished (front x.found call.lines)) e

  full : state.next + room ≤ n → page_of call state ≡ places_page room true (state.next + room) false (range_from state.next room)
  unfolding call_page
  full h =
      let some : 1 ≤ room = (own_page call state taken).some_line in
      let later : ℕ = n - (state.next + room) in
      let e : suc n - state.next ≡ room + suc later = omega arith in
      let k : suc (room - 1) ≡ room = omega arith in
      let l : suc (last_or 0 (range_from state.next room)) ≡ state.next + room =
      ap (λ (m : ℕ). suc (last_or 0 (range_from state.next m))) (sym k) ∙ ap suc (last_range 0 state.next (room - 1)) ∙ omega arith in
      of_page (full_page (range_from state.next room))
      (rw goes (page_full hit n room state.next (state.next + room) (range_from state.next room) (range_from (suc (state.next + room)) later)
      (hits ∙ ap (range_from state.next) e ∙ range_append state.next room (suc later)) (length_range state.next room)))
      ∙ rw (length_range state.next room, l, front_whole (range_from state.next room) call.lines (length_range state.next room))

  last : n < state.next + room → page_of call state ≡ places_page (suc n - state.next) false n true (front (range_from state.next (suc n - state.next)) call.lines)
  unfolding call_page
  last h =
      of_page (end_page n (range_from state.next (suc n - state.next)))
      (rw goes (page_last hit n room state.next (range_from state.next (suc n - state.next)) hits
      (omega (arith, length_range state.next (suc n - state.next)))))
      ∙ rw (length_range state.next (suc n - state.next))

pub no_words_listed : NoWordsListed
no_words_listed call state taken none goes = record {
  full = λ h. full call state taken none goes (omega (arith, h));
  last = λ h. last call state taken none goes (omega (arith, h));
}
