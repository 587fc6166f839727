-- Laws of the tests of the sizes of a call that reads a plain text. Assumes nothing.
use Prim.Native.Nat.{ℕ, ◌≤◌, ◌<◌}
use mathlib.Core.Path.{◌≡◌, refl, ap, ◌∙◌}
use mathlib.Core.Bool.{Bool, true, false}
use mathlib.Core.List.{List, [], ◌∷◌}
use borrow.Author.Tests.{lt-ltb, le-ltb, ltb-false, eq-eqb}
use lib.Dec.{ltb}
use lib.ListN.{length}
use Rattle.base.proofs.Answers.{first_here, first_later, none_holds, answers}
use Rattle.base.specs.Outcomes.{number_of, refused_by}
use Rattle.base.specs.declared.refusal.Refusal.{Refusal}
use Rattle.base.specs.declared.refusal.Refused.{Refused}
use Rattle.base.specs.Answers.{accepted, refused, refused_at, Case, NoneHolds, ◌⇒◌, first_of}
use Rattle.base.specs.Refusals.{refusal_vocabulary, refusal_words, refusal_short_slice}
use Rattle.base.specs.Texts.{max_words, outside, words_case}
use Rattle.base.specs.declared.Answer.{Answer}
use Rattle.dense.specs.Code.{vocabulary_case, max_vocabulary}
use Rattle.lexicon.specs.Lexicon.{list_size}
use Rattle.lexicon.specs.Reading.{text_words, read_text_answer}
use Rattle.plain_text.specs.Sizes.{sizes_answer}

-- the answer of a call that a refusal ends with which 0 is returned
pub refused_is : (e : Refused) (why : Refusal) → e ≡ refused_by why → refused_at (number_of e.refusal) e.at ≡ refused (number_of why)
refused_is e why q = ap (λ (x : Refused). refused_at (number_of x.refusal) x.at) q

-- the refusals in their order, and none
module _ (words size room : ℕ) where
  pub sizes_vocabulary : outside 1 (max_vocabulary 128) words ≡ true → sizes_answer words size room ≡ refused refusal_vocabulary
  unfolding sizes_answer vocabulary_case
  sizes_vocabulary e = first_here _ _ _ _ e

  module _ (vocabulary : outside 1 (max_vocabulary 128) words ≡ false) where
    pub sizes_words : max_words < size → sizes_answer words size room ≡ refused refusal_words
    unfolding sizes_answer vocabulary_case words_case
    sizes_words h = first_later _ _ _ _ vocabulary ∙ first_here _ _ _ _ (lt-ltb max_words size h)

    pub sizes_short : size ≤ max_words → room < size → sizes_answer words size room ≡ refused refusal_short_slice
    unfolding sizes_answer vocabulary_case words_case
    sizes_short l h = first_later _ _ _ _ vocabulary ∙ first_later _ _ _ _ (le-ltb max_words size l) ∙ first_here _ _ _ _ (lt-ltb room size h)

    pub sizes_none : size ≤ max_words → size ≤ room → sizes_answer words size room ≡ accepted size
    unfolding sizes_answer vocabulary_case words_case
    sizes_none l h = first_later _ _ _ _ vocabulary ∙ first_later _ _ _ _ (le-ltb max_words size l) ∙ first_later _ _ _ _ (le-ltb room size h) ∙ answers [] _ tt

  -- where none refuses, the sizes are within their limits
  pub sizes_inside : (sizes_answer words size room).refusal ≡ 0
      → (outside 1 (max_vocabulary 128) words ≡ false) × (size ≤ max_words) × (size ≤ room) × (sizes_answer words size room ≡ accepted size)
  unfolding sizes_answer vocabulary_case words_case
  sizes_inside e =
      let cases : List Case = vocabulary_case 128 words ∷ words_case size ∷ (ltb room size ⇒ refused refusal_short_slice) ∷ [] in
      let n : NoneHolds cases = none_holds cases (accepted size) (refl, (refl, (refl, tt))) (eq-eqb (sizes_answer words size room).refusal 0 e) in
      (n.0, ltb-false max_words size n.1.0, ltb-false room size n.1.1.0, answers cases (accepted size) n)

-- a first refusal of three is the first of five
first_of_three_lem : (t₁ t₂ t₃ : Bool) (c d : Case) (a : Answer) (n : ℕ)
    → ((first_of ((t₁ ⇒ refused refusal_vocabulary) ∷ (t₂ ⇒ refused refusal_words) ∷ (t₃ ⇒ refused refusal_short_slice) ∷ []) (accepted n)).refusal ≡ 0 → ⊥)
    → first_of ((t₁ ⇒ refused refusal_vocabulary) ∷ (t₂ ⇒ refused refusal_words) ∷ (t₃ ⇒ refused refusal_short_slice) ∷ c ∷ d ∷ []) a
    ≡ first_of ((t₁ ⇒ refused refusal_vocabulary) ∷ (t₂ ⇒ refused refusal_words) ∷ (t₃ ⇒ refused refusal_short_slice) ∷ []) (accepted n)
unfolding first_of
first_of_three_lem true t₂ t₃ c d a n h = refl
first_of_three_lem false true t₃ c d a n h = refl
first_of_three_lem false false true c d a n h = refl
first_of_three_lem false false false c d a n h = absurd (h refl)

-- a call that the tests of the sizes refuse has their answer
pub sizes_first : (table list text z : List ℕ) → ((sizes_answer (list_size list) (length (text_words table text)) (length z)).refusal ≡ 0 → ⊥)
    → read_text_answer table list text z ≡ sizes_answer (list_size list) (length (text_words table text)) (length z)
unfolding read_text_answer sizes_answer vocabulary_case words_case
sizes_first table list text z h = first_of_three_lem _ _ _ _ _ _ _ h
