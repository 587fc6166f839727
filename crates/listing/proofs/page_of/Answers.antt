use Rattle.std.proofs.Common.{◌≡◌, ℕ, length, true, false, sym, ap, ap₂, ◌∙◌, arith, ne_eqb}
use Rattle.base.specs.declared.Answer.{Answer}
use Rattle.base.specs.declared.refusal.Refused.{Refused}
use Rattle.base.specs.Answers.{accepted, refused, is_accepted, front}
use Rattle.base.specs.Outcomes.{number_of, refused_answer}
use Rattle.base.proofs.Outcomes.{refusal_some, tested_err}
use Rattle.index.specs.Arrays.{text_in}
use Rattle.index.specs.Lent.{slices_of}
use Rattle.words.proofs.Parts.{checked_some}
use Rattle.words.proofs.Positions.{ranks_below_lem}
use Rattle.documents.specs.Documents.{stands_in}
use Rattle.documents.proofs.Absent.{absent_words}
use Rattle.documents.proofs.Starts.{starts_are}
use Rattle.pages.specs.Pages.{HitPage, page_over}
use Rattle.paging.specs.Written.{written_of}
use Rattle.questions.specs.Answering.{has_absent, phrase_in}
use Rattle.questions.proofs.Askable.{askable_below, absent_at}
use Rattle.questions.proofs.Answered.{PhraseFits, phrase_fits, part_length}
use Rattle.document_checks.proofs.Cleared.{Cleared, cleared_not}
use Rattle.listing.specs.Paging.{Call, call_of, call_page, unwritten, request_answer, page_answer, PageResult, page_of}
use Rattle.listing.proofs.Paged.{page_refused, page_finished, page_nowhere, page_of_state, page_written, Accepted, accepted_call, by_reading, by_request, taken}
use Rattle.listing.proofs.page_of.Goals as goal
use Rattle.listing.proofs.page_of.Goals.{Start, In_default, In-Ok}

-- the call that is made
abbrev call_at : Start → Call
call_at c = call_of c.args.index.now.s c.args.index.now.shape (slices_of c.args.index.now) c.args.documents.now c.args.words.now c.args.start c.args.count c.args.lines.now

-- a refused page
by : (c : Start) (r : Answer) → page_answer (call_at c) c.args.state ≡ r → is_accepted r ≡ false
    → (unwritten r c.args.state ≡ (page_of (call_at c) c.args.state).page) × (c.args.lines.now ≡ (page_of (call_at c) c.args.state).lines)
by c r e h =
    let p = page_refused (call_at c) c.args.state r e h in
    (ap (λ (x : PageResult). x.page) p, ap (λ (x : PageResult). x.lines) p)

pub returns-in-Err : goal.returns-in-Err
returns-in-Err c =
    let st = (goal.at.returns-in-Err c).Start in
    let x = c.in-Err.refused in
    let t = tested_err _ x _ c.in-Err.is c.check_in_documents.ensures in
    let p = by st (refused_answer x) (by_reading (call_at st) c.args.state t.0 ∙ sym t.1) (ne_eqb (number_of x.refusal) 0 (refusal_some x.refusal)) in
    (c.refused.ensures ∙ p.0, p.1)

-- past the check the index has passed it, and the starts keep the rules
clear : (c : In_default) → Cleared c.args.index.now.s c.args.index.now.shape (slices_of c.args.index.now) c.args.documents.now
clear c = cleared_not c.args.index.now.s c.args.index.now.shape (slices_of c.args.index.now) c.args.documents.now c.requires _ c.in_default.not-Err c.check_in_documents.ensures

pub text_length-n-requires : goal.text_length-n-requires
text_length-n-requires c = checked_some (clear (goal.at.text_length-n-requires c).In_default).checked

pub returns-in-Err-requested : goal.returns-in-Err-requested
returns-in-Err-requested c =
    let st = (goal.at.returns-in-Err-requested c).Start in
    let h = clear (goal.at.returns-in-Err-requested c).In_default in
    let x = c.args.index.now in
    let refusal = c.in-Err-requested.refusal in
    let asked =
    sym (ap (λ (n : ℕ). request_answer x.shape.vocabulary c.args.words.now c.args.start c.args.count n c.args.state.next (length c.args.lines.now)) (c.text_length-n.ensures.1 _ _ _ _ _ h.checked))
    ∙ c.in-Err-requested.ensures in
    let e = by_request (call_at st) c.args.state h.none (λ z. refusal_some refusal (sym (ap (λ (y : Answer). y.refusal) asked) ∙ z)) ∙ asked in
    let p = by st (refused (number_of refusal)) e (ne_eqb (number_of refusal) 0 (refusal_some refusal)) in
    (c.refused-in-Err-requested.ensures ∙ ap (λ (y : Refused). unwritten (refused_answer y) c.args.state) c.into.ensures ∙ p.0, p.1)

-- past the tests of what is asked for the call is accepted
module _ (c : In-Ok) where
  abbrev called : Call
  called = call_of c.args.index.now.s c.args.index.now.shape (slices_of c.args.index.now) c.args.documents.now c.args.words.now c.args.start c.args.count c.args.lines.now

  clear_here : Cleared c.args.index.now.s c.args.index.now.shape (slices_of c.args.index.now) c.args.documents.now
  clear_here = cleared_not c.args.index.now.s c.args.index.now.shape (slices_of c.args.index.now) c.args.documents.now c.requires _ c.in_default.not-Err c.check_in_documents.ensures

  size : c.text_length-n.result ≡ length (text_in c.args.index.now.s (slices_of c.args.index.now))
  size = c.text_length-n.ensures.1 _ _ _ _ _ clear_here.checked

  good : page_answer called c.args.state ≡ accepted (length (call_page called c.args.state).found)
  good =
      taken called c.args.state clear_here.none
      (ap (λ (r : Answer). r.refusal) (sym (ap (λ (n : ℕ). request_answer c.args.index.now.shape.vocabulary c.args.words.now c.args.start c.args.count n c.args.state.next (length c.args.lines.now)) size) ∙ c.in-Ok.ensures.0))

  passed : Accepted called c.args.state
  passed = accepted_call called c.args.state (ap is_accepted good)

  phrase_is : c.in-Ok.phrase.now ≡ phrase_in c.args.words.now c.args.start c.args.count
  phrase_is = c.in-Ok.ensures.1

  fits : PhraseFits c.args.index.now.shape.vocabulary c.args.words.now c.args.start c.args.count
  fits = phrase_fits c.args.index.now.shape.vocabulary c.args.words.now c.args.start c.args.count passed.phrase

pub returns-then-state : goal.returns-then-state
returns-then-state c =
    let h = (goal.at.returns-then-state c).In-Ok in
    rw (c.unwritten.ensures, c.accepted.ensures) (page_finished (called h) c.args.state (good h) c.if-state.true)

-- one with an absent word stands nowhere
pub returns-then-has_absent : goal.returns-then-has_absent
returns-then-has_absent c =
    let h = (goal.at.returns-then-has_absent c).In-Ok in
    let x = c.args.index.now in
    let v = x.shape.vocabulary in
    let phrase = phrase_in c.args.words.now c.args.start c.args.count in
    let absent = absent_at v phrase (sym (c.has_absent.ensures ∙ ap (has_absent v) (phrase_is h)) ∙ c.if-has_absent.true) in
    let nowhere = (absent_words v c.args.documents.now (text_in x.s (slices_of x)) (ranks_below_lem (clear_here h).checked)).stands phrase absent.0 absent.1 absent.2 in
    let page = page_nowhere (called h) c.args.state (good h) c.if-state.false nowhere in
    (c.unwritten-then-has_absent.ensures ∙ ap₂ unwritten c.accepted-then-has_absent.ensures (ap (λ (k : ℕ). record { next = k; finished = true }) (size h)) ∙ page.0, page.1)

pub write_page-written-requires : goal.write_page-written-requires
write_page-written-requires c =
    let h = (goal.at.write_page-written-requires c).In-Ok in
    let x = c.args.index.now in
    let v = x.shape.vocabulary in
    let phrase = phrase_in c.args.words.now c.args.start c.args.count in
    let n : length phrase ≡ c.args.count = part_length v c.args.words.now c.args.start c.args.count (fits h).inside in
    rw (phrase_is h) (
      (clear_here h).checked,
      omega (arith, n, (fits h).most),
      askable_below v phrase (fits h).askable (sym (c.has_absent.ensures ∙ ap (has_absent v) (phrase_is h)) ∙ c.if-has_absent.false),
      (passed h).inside,
      (starts_are (length (text_in x.s (slices_of x))) c.args.documents.now (passed h).starts).ascending,
    )

pub returns : goal.returns
returns c =
    let h = (goal.at.returns c).In-Ok in
    let x = c.args.index.now in
    let t = text_in x.s (slices_of x) in
    let e : page_over (stands_in c.args.documents.now t c.in-Ok.phrase.now) (length t) (length c.args.lines.now) c.args.state.next false ≡ call_page (called h) c.args.state =
    rw (phrase_is h) (sym (page_of_state (called h) c.args.state false c.if-state.false)) in
    rw c.accepted-2.ensures
    (page_written (called h) c.args.state (passed h).answer_is c.write_page-written.result _ (c.write_page-written.ensures.0 ∙ ap written_of e) (c.write_page-written.ensures.1 ∙ ap (λ (y : HitPage). front y.found c.args.lines.now) e))
