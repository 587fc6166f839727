-- The answers to questions, whatever the question: their refusals, and that their values fit the numbers of a pair. Assumes nothing.
use Prim.Native.Nat.{ℕ, suc, ◌+◌, ◌-◌, ◌≤◌, ◌<◌}
use mathlib.Core.Path.{◌≡◌, refl}
use mathlib.Core.Logic.{inl, inr, ⊎_elim}
use mathlib.Core.Bool.{Bool, true, false, cond, not, ◌||◌}
use mathlib.Core.List.{List, [], ◌∷◌}
use native.Mathlib.Omega.{arith}
use lib.Dec.{eqb, leb, ltb}
use lib.IntN.{ℤ, nat_abs}
use lib.ListN.{length, get_or-eq_default}
use Rattle.base.specs.declared.Answer.{Answer}
use Rattle.base.specs.Refusals.{refusal_kind, refusal_phrase, refusal_asked_rank, refusal_offset, refusal_place}
use Rattle.base.specs.Lists.{Below, all_pass}
use Rattle.base.specs.Answers.{accepted, refused, ◌⇒◌, first_of}
use Rattle.base.specs.Texts.{max_words, max_phrase, max_offset, outside, is_text}
use Rattle.base.proofs.Tests.{and_left, below_or_not}
use Rattle.base.proofs.Lists.{all_at}
use Rattle.base.proofs.Counts.{count_take_most, nth_most}
use Rattle.base.proofs.Ranges.{length_filter_range}
use Rattle.base.proofs.Texts.{text_length_lem, text_below}
use Rattle.dense.proofs.Numbers.{small}
use Rattle.index.specs.declared.Shape.{Shape}
use Rattle.index.specs.Arrays.{Arrays, text_in, passes, same_arrays, index_of}
use Rattle.words.specs.Ready.{Checked}
use Rattle.words.specs.Words.{rank_at, occurrences_below, frequency, nth_place}
use Rattle.documents.specs.Documents.{stands_in, places_in, neighbour_in, neighbours_in}
use Rattle.questions.specs.declared.Question.{Question}
use Rattle.questions.specs.Answering.{is_askable, rank_asked_case, phrase_in, phrase_cases, word_at_answer, occurrences_answer, place_answer, neighbours_answer, phrase_answer, question_answer}
use Rattle.sheet_calls.specs.Sheets.{HasPair}

module _ (P : Answer → Type 0) where
  -- what holds of both sides of a choice holds of the choice
  either : (test : Bool) (x y : Answer) → P x → P y → P (cond test x y)
  either true x y h k = h
  either false x y h k = k

  -- of one case, and of two, and of the answer at the end
  one : (test : Bool) (r answer : Answer) → P r → P answer → P (first_of ((test ⇒ r) ∷ []) answer)
  unfolding first_of
  one test r answer h k = either test r answer h k

  two : (test other : Bool) (r u answer : Answer) → P r → P u → P answer → P (first_of ((test ⇒ r) ∷ (other ⇒ u) ∷ []) answer)
  unfolding first_of
  two test other r u answer h k l = either test r (first_of ((other ⇒ u) ∷ []) answer) h (one other u answer k l)

  -- what holds of refusals 7 to 11, and of the values of each kind, holds of the answer to a question
  module _ (refuses : (number : ℕ) → refusal_kind ≤ number → number ≤ refusal_place → P (refused number)) (t documents : List ℕ) where
    word_at : (p : ℕ) → P (accepted (rank_at t p)) → P (word_at_answer t p)
    unfolding word_at_answer
    word_at p h = one (leb (length t) p) (refused refusal_place) (accepted (rank_at t p)) (refuses refusal_place (omega arith) (omega arith)) h

    module _ (vocab : ℕ) where
      rank : P (refused refusal_asked_rank)
      rank = refuses refusal_asked_rank (omega arith) (omega arith)

      occurrences : (w p : ℕ) → P (accepted (occurrences_below t w p)) → P (occurrences_answer vocab t w p)
      unfolding occurrences_answer rank_asked_case
      occurrences w p h = two (not (all_pass (is_askable vocab) (w ∷ []))) (ltb (length t) p) (refused refusal_asked_rank) (refused refusal_place) (accepted (occurrences_below t w p)) rank (refuses refusal_place (omega arith) (omega arith)) h

      place : (w p : ℕ) → P (accepted (nth_place t w p)) → P (place_answer vocab t w p)
      unfolding place_answer rank_asked_case
      place w p h = two (not (all_pass (is_askable vocab) (w ∷ []))) (outside 1 (frequency t w) p) (refused refusal_asked_rank) (refused refusal_place) (accepted (nth_place t w p)) rank (refuses refusal_place (omega arith) (omega arith)) h

      near : (w v : ℕ) (d : ℤ) → P (accepted (neighbours_in documents t w v d)) → P (neighbours_answer vocab t documents w v d)
      unfolding neighbours_answer rank_asked_case
      near w v d h = two (not (all_pass (is_askable vocab) (w ∷ v ∷ []))) (ltb max_offset (nat_abs d)) (refused refusal_asked_rank) (refused refusal_offset) (accepted (neighbours_in documents t w v d)) rank (refuses refusal_offset (omega arith) (omega arith)) h

      phrase : (words : List ℕ) (start len : ℕ) → P (accepted (length (places_in documents t (phrase_in words start len)))) → P (phrase_answer vocab t documents words start len)
      unfolding phrase_answer phrase_cases rank_asked_case
      phrase words start len h =
          two (ltb max_phrase len || ltb (length words) (start + len)) (not (all_pass (is_askable vocab) (phrase_in words start len))) (refused refusal_phrase) (refused refusal_asked_rank) (accepted (length (places_in documents t (phrase_in words start len))))
          (refuses refusal_phrase (omega arith) (omega arith)) rank h

      pub each_answer : ((p : ℕ) → P (accepted (rank_at t p))) → ((w p : ℕ) → P (accepted (occurrences_below t w p))) → ((w p : ℕ) → P (accepted (nth_place t w p)))
          → ((w v : ℕ) (d : ℤ) → P (accepted (neighbours_in documents t w v d))) → ((ph : List ℕ) → P (accepted (length (places_in documents t ph))))
          → (words : List ℕ) (q : Question) → P (question_answer vocab t documents words q)
      unfolding question_answer
      each_answer a b c d e words q =
          either (eqb q.kind 1) (word_at_answer t q.p) _ (word_at q.p (a q.p))
          (either (eqb q.kind 2) (occurrences_answer vocab t q.w q.p) _ (occurrences q.w q.p (b q.w q.p))
          (either (eqb q.kind 3) (place_answer vocab t q.w q.p) _ (place q.w q.p (c q.w q.p))
          (either (eqb q.kind 4) (neighbours_answer vocab t documents q.w q.v q.d) _ (near q.w q.v q.d (d q.w q.v q.d))
          (either (eqb q.kind 5) (phrase_answer vocab t documents words q.start q.length) (refused refusal_kind) (phrase words q.start q.length (e (phrase_in words q.start q.length)))
          (refuses refusal_kind (omega arith) (omega arith))))))

-- an answer is accepted, or it is refused with 7 to 11 and has the value 0
pub has_pair : (vocab : ℕ) (t documents words : List ℕ) (q : Question) → HasPair (question_answer vocab t documents words q)
has_pair vocab t documents words q =
    each_answer HasPair (λ number h k. inr (h, k, refl)) t documents vocab (λ p. inl refl) (λ w p. inl refl) (λ w p. inl refl) (λ w v d. inl refl) (λ ph. inl refl) words q

-- what stands in a text is below V, and so is 0, which is read past its end
rank_most : (vocab : ℕ) (t : List ℕ) (p : ℕ) → Below vocab t → rank_at t p ≤ vocab
rank_most vocab t p h =
    ⊎_elim
    (λ l. omega (arith, all_at (λ (w : ℕ). w < vocab) t 0 p h l))
    (λ l. omega (arith, get_or-eq_default t 0 l))
    (below_or_not p (length t))

-- a value is at most one above the number of words that a text may have
pub value_most : (s : ℕ) (shape : Shape) (a : Arrays) → Checked s shape a → (documents words : List ℕ) (q : Question) → (question_answer shape.vocabulary (text_in s a) documents words q).value ≤ suc max_words
unfolding passes neighbours_in places_in
value_most s shape a checked documents words q =
    let text : is_text shape.vocabulary (text_in s a) ≡ true = and_left (is_text shape.vocabulary (text_in s a)) (same_arrays (index_of s shape (text_in s a)) a) checked.passed in
    let n : length (text_in s a) ≤ max_words = text_length_lem shape.vocabulary (text_in s a) text in
    each_answer (λ (r : Answer). r.value ≤ suc max_words) (λ number h k. omega arith) (text_in s a) documents shape.vocabulary
    (λ p. omega (arith, rank_most shape.vocabulary (text_in s a) p (text_below shape.vocabulary (text_in s a) text), checked.limits.most_words, (small s checked.closing.least checked.closing.most).all))
    (λ w p. omega (arith, n, count_take_most w p (text_in s a)))
    (λ w p. omega (arith, n, nth_most w (p - 1) (text_in s a)))
    (λ w v d. omega (arith, n, length_filter_range (neighbour_in documents (text_in s a) w v d) 0 (length (text_in s a))))
    (λ ph. omega (arith, n, length_filter_range (stands_in documents (text_in s a) ph) 0 (suc (length (text_in s a)))))
    words q
