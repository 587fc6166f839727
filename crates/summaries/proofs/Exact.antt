-- The counts of a summary add up to the count of the phrase, and each is that of a document by itself. Assumes nothing.
use Prim.Native.Nat.{ℕ, ◌+◌, ◌≤◌, ◌<◌}
use mathlib.Core.Path.{◌≡◌, refl, sym, ap, ◌∙◌}
use mathlib.Core.Bool.{true}
use mathlib.Core.List.{List, map}
use native.Mathlib.Omega.{arith}
use lib.ListN.{length, take, drop, get_or}
use Rattle.base.specs.declared.Answer.{Answer}
use Rattle.base.specs.Lists.{range_from, total}
use Rattle.base.specs.Answers.{accepted, is_accepted, filled, front}
use Rattle.base.proofs.Fronts.{take_front, front_inside, drop_front}
use Rattle.base.proofs.Ranges.{length_map_range, get_d-map_range}
use Rattle.dense.specs.Code.{Closing}
use Rattle.index.specs.declared.Shape.{Shape}
use Rattle.index.specs.Arrays.{Arrays, text_in}
use Rattle.index.proofs.Exact.{index_exact}
use Rattle.documents.specs.Documents.{count_in_document, counts_by_document}
use Rattle.documents.proofs.Absent.{absent_words}
use Rattle.documents.proofs.Exact.{documents_are_exact}
use Rattle.questions.specs.Makers.{asks_phrase}
use Rattle.questions.specs.Answering.{phrase_in, ask_answer_in}
use Rattle.questions.proofs.Answered.{phrase_none, phrase_counted, part_length, kind_5}
use Rattle.questions.proofs.Read.{ask_in_passed}
use Rattle.questions.proofs.Checks.{check_in_passed}
use Rattle.summaries.specs.Summaries.{summary_answer, summary_exit, Summarised, SummariesExact, SummariesTested}
use Rattle.summaries.proofs.Tested.{request_no_words, summary_asked, summarised, accepts, summary_untouched}

module _ (s : ℕ) (shape : Shape) (a : Arrays) (documents words : List ℕ) (start len : ℕ) (z : List ℕ) (h : is_accepted (summary_answer s shape a documents words start len (length z)) ≡ true) where
  abbrev t : List ℕ
  t = text_in s a

  abbrev phrase : List ℕ
  phrase = phrase_in words start len

  abbrev counts : List ℕ
  counts = counts_by_document documents t phrase

  p : Summarised s shape a documents words start len (length z)
  p = summarised s shape a documents words start len (length z) h

  some : 1 ≤ length phrase
  some = omega (arith, part_length shape.vocabulary words start len p.inside, p.some)

  -- there is a count for each document
  long : length counts ≡ length documents
  long = (documents_are_exact documents t phrase).counted

  -- the slice has them in front
  in_front : summary_exit s shape a documents words start len z ≡ front counts z
  unfolding summary_exit filled
  in_front = rw h

  sums : ask_answer_in s shape a documents words (asks_phrase start len) ≡ accepted (total (take (length documents) (summary_exit s shape a documents words start len z)))
  sums =
      ask_in_passed s shape a documents words (asks_phrase start len) p.passed p.rules
      ∙ kind_5 shape.vocabulary t documents words (asks_phrase start len) refl
      ∙ phrase_counted shape.vocabulary words start len t documents (phrase_none shape.vocabulary words start len p.most p.inside p.askable)
      ∙ ap accepted (sym ((documents_are_exact documents t phrase).add_up p.rules some))
      ∙ sym (ap (λ (xs : List ℕ). accepted (total (take (length documents) xs))) in_front
      ∙ ap (λ (xs : List ℕ). accepted (total xs)) (ap (λ (k : ℕ). take k (front counts z)) (sym long) ∙ take_front counts z))

  by_itself : (k : ℕ) → k < length documents → get_or (summary_exit s shape a documents words start len z) k 0 ≡ count_in_document documents t phrase k
  unfolding counts_by_document
  by_itself k l =
      ap (λ (xs : List ℕ). get_or xs k 0) in_front
      ∙ front_inside counts z k (omega (arith, long)) ∙ get_d-map_range (count_in_document documents t phrase) (length documents) k 0 l

  stays : drop (length documents) (summary_exit s shape a documents words start len z) ≡ drop (length documents) z
  stays =
      let n : length counts + 0 ≡ length documents = omega (arith, long) in
      ap (drop (length documents)) in_front ∙ ap (λ (k : ℕ). drop k (front counts z)) (sym n) ∙ drop_front counts z 0 ∙ ap (λ (k : ℕ). drop k z) n

  -- where a word is absent each count is 0
  zero : Closing s → (i : ℕ) → i < length phrase → get_or phrase i 0 ≡ shape.vocabulary → (k : ℕ) → k < length documents
      → get_or (summary_exit s shape a documents words start len z) k 0 ≡ 0
  zero within i l e k h =
      let absent = absent_words shape.vocabulary documents t ((index_exact s shape within).rebuilt a p.passed).text.ranks in
      ap (λ (xs : List ℕ). get_or xs k 0) (in_front ∙ ap (λ (cs : List ℕ). front cs z) (absent.uncounted phrase i l e))
      ∙ front_inside (map (λ (j : ℕ). 0) (range_from 0 (length documents))) z k (omega (arith, length_map_range {A = ℕ} (λ (j : ℕ). 0) 0 (length documents)))
      ∙ get_d-map_range {A = ℕ} (λ (j : ℕ). 0) (length documents) k 0 h

pub summaries_exact : SummariesExact
summaries_exact s shape a documents words start len z h = record {
  valued = accepts s shape a documents words start len (length z) (p s shape a documents words start len z h);
  add_up = sums s shape a documents words start len z h;
  alone = λ k l.
      by_itself s shape a documents words start len z h k l
      ∙ (documents_are_exact documents (text_in s a) (phrase_in words start len)).alone (p s shape a documents words start len z h).rules (some s shape a documents words start len z h) k l;
  absent = zero s shape a documents words start len z h;
  rest = stays s shape a documents words start len z h;
}

pub summaries_tested : SummariesTested
summaries_tested s shape a documents words start len z = record {
  accepted_if = (summarised s shape a documents words start len (length z), λ q. ap is_accepted (accepts s shape a documents words start len (length z) q));
  no_words = λ passed rules none.
      let e = request_no_words shape.vocabulary words start len (length documents) (length z) none in
      summary_asked s shape a documents words start len (length z) (ap (λ (r : Answer). r.refusal) (check_in_passed s shape a documents passed rules)) (λ f. eight (ap (λ (r : Answer). r.refusal) (sym e) ∙ f)) ∙ e;
  untouched = summary_untouched s shape a documents words start len z;
}
  where
    eight : ◌≡◌ {A = ℕ} 8 0 → ⊥
    eight e = omega arith
