-- The phrase of no words, by the calls. Assumes nothing.
use Prim.Native.Nat.{ℕ, suc, ◌+◌, ◌≤◌, ◌<◌}
use mathlib.Core.Path.{◌≡◌, sym, ap, ◌∙◌}
use mathlib.Core.Bool.{true}
use mathlib.Core.List.{List, []}
use native.Mathlib.Omega.{arith}
use lib.ListN.{length}
use Rattle.base.specs.Refusals.{refusal_phrase}
use Rattle.base.specs.Answers.{accepted, refused}
use Rattle.base.specs.Lists.{all_pass}
use Rattle.index.specs.Arrays.{text_in}
use Rattle.phrases.proofs.NoWords.{none_count}
use Rattle.documents.proofs.Exact.{documents_are_exact}
use Rattle.questions.specs.Answering.{is_askable, phrase_in, phrase_answer}
use Rattle.questions.specs.NoWords.{NoWordsAreExact}
use Rattle.questions.proofs.Read.{ask_in_passed, passage_accepted, passage_filled}
use Rattle.questions.proofs.Answered.{phrase_none, phrase_past, phrase_counted, phrase_refused, part_length, kind_5}

-- a phrase of no words has no rank above V
none_above : (vocab : ℕ) (words : List ℕ) (start len : ℕ) → len ≡ 0 → all_pass (is_askable vocab) (phrase_in words start len) ≡ true
unfolding phrase_in
none_above vocab words start len e = rw e

-- the answer of kind 5: of a part that starts among the lent words or at their end, and of one that starts past it
module _ (vocab : ℕ) (t documents words : List ℕ) (start len : ℕ) (none : len ≡ 0) where
  pub no_words_counted : start ≤ length words → phrase_answer vocab t documents words start len ≡ accepted (suc (length t))
  no_words_counted h =
      let inside : start + len ≤ length words = omega arith in
      let none-there : length (phrase_in words start len) ≡ 0 = part_length vocab words start len inside ∙ none in
      phrase_counted vocab words start len t documents (phrase_none vocab words start len (omega arith) inside (none_above vocab words start len none))
      ∙ ap accepted (ap length ((documents_are_exact documents t (phrase_in words start len)).none none-there) ∙ none_count t (phrase_in words start len) none-there)

  pub no_words_past : length words < start → phrase_answer vocab t documents words start len ≡ refused refusal_phrase
  no_words_past h =
      let r = phrase_past vocab words start len (omega arith) in
      phrase_refused vocab words start len t documents (λ z. eight (sym r ∙ z)) ∙ ap refused r
    where
      eight : refusal_phrase ≡ 0 → ⊥
      eight e = omega arith

pub no_words_are_exact : NoWordsAreExact
no_words_are_exact s shape a documents passed ok = record {
  counted = λ words q five none h.
      ask_in_passed s shape a documents words q passed ok ∙ kind_5 shape.vocabulary (text_in s a) documents words q five
      ∙ no_words_counted shape.vocabulary (text_in s a) documents words q.start q.length none h;
  past = λ words q five none h.
      ask_in_passed s shape a documents words q passed ok ∙ kind_5 shape.vocabulary (text_in s a) documents words q five
      ∙ no_words_past shape.vocabulary (text_in s a) documents words q.start q.length none h;
  passage = λ p h. (passage_accepted s shape a passed p [] (omega arith), passage_filled s shape a passed p [] (omega arith));
}
