-- Questions about an absent word, and about ranks above V. Assumes nothing.
use Prim.Native.Nat.{ℕ, ◌+◌, ◌≤◌, ◌<◌}
use mathlib.Core.Path.{◌≡◌, refl, sym, ap, ◌∙◌}
use mathlib.Core.List.{List}
use native.Mathlib.Omega.{arith}
use lib.IntN.{ℤ}
use lib.ListN.{length, get_or}
use Rattle.base.specs.Refusals.{refusal_asked_rank}
use Rattle.base.specs.Answers.{accepted, refused}
use Rattle.base.specs.Texts.{max_phrase}
use Rattle.index.specs.Arrays.{text_in}
use Rattle.index.proofs.Exact.{index_exact}
use Rattle.documents.specs.Absent.{AbsentWord}
use Rattle.documents.proofs.Absent.{absent_words}
use Rattle.questions.specs.declared.Question.{Question}
use Rattle.questions.specs.Makers.{asks_occurrences_below, asks_place_of, asks_neighbours, asks_phrase}
use Rattle.questions.specs.Answering.{phrase_in, occurrences_answer, place_answer, neighbours_answer, phrase_answer, question_answer, ask_answer_in}
use Rattle.questions.specs.Absent.{AbsentAsked}
use Rattle.questions.proofs.Askable.{askable_all, above_some}
use Rattle.questions.proofs.Answered.{occurrences_rank, occurrences_outside, occurrences_inside, place_rank, place_never, neighbours_first, neighbours_second, neighbours_far, neighbours_near, phrase_rank, phrase_none, phrase_counted, phrase_refused, kind_2, kind_3, kind_4, kind_5}
use Rattle.questions.proofs.Read.{ask_in_passed}

-- a phrase with a word above V is refused
phrase_above_lem : (vocab : ℕ) (t documents words : List ℕ) (start len i : ℕ) → len ≤ max_phrase → start + len ≤ length words → i < length (phrase_in words start len)
    → vocab < get_or (phrase_in words start len) i 0 → phrase_answer vocab t documents words start len ≡ refused refusal_asked_rank
phrase_above_lem vocab t documents words start len i k l j u =
    let r = phrase_rank vocab words start len k l (above_some vocab (phrase_in words start len) i j u) in
    phrase_refused vocab words start len t documents (λ z. nine (sym r ∙ z)) ∙ ap refused r
  where
    nine : refusal_asked_rank ≡ 0 → ⊥
    nine e = omega arith

pub absent_asked : AbsentAsked
absent_asked s shape a documents words within passed ok =
    let v : ℕ = shape.vocabulary in
    let t : List ℕ = text_in s a in
    let absent : AbsentWord v documents t = absent_words v documents t ((index_exact s shape within).rebuilt a passed).text.ranks in
    let asked : (q : Question) → ask_answer_in s shape a documents words q ≡ question_answer v t documents words q = λ q. ask_in_passed s shape a documents words q passed ok in
    let asked2 : (w p : ℕ) → ask_answer_in s shape a documents words (asks_occurrences_below w p) ≡ occurrences_answer v t w p = λ w p. asked (asks_occurrences_below w p) ∙ kind_2 v t documents words (asks_occurrences_below w p) refl in
    let asked3 : (w p : ℕ) → ask_answer_in s shape a documents words (asks_place_of w p) ≡ place_answer v t w p = λ w p. asked (asks_place_of w p) ∙ kind_3 v t documents words (asks_place_of w p) refl in
    let asked4 : (w u : ℕ) (d : ℤ) → ask_answer_in s shape a documents words (asks_neighbours w u d) ≡ neighbours_answer v t documents w u d = λ w u d. asked (asks_neighbours w u d) ∙ kind_4 v t documents words (asks_neighbours w u d) refl in
    let asked5 : (start len : ℕ) → ask_answer_in s shape a documents words (asks_phrase start len) ≡ phrase_answer v t documents words start len = λ start len. asked (asks_phrase start len) ∙ kind_5 v t documents words (asks_phrase start len) refl in
    record {
      kind2 = λ p h. asked2 v p ∙ occurrences_inside v t v p (omega arith) h ∙ ap accepted (absent.below p);
      past2 = λ p h. asked2 v p ∙ occurrences_outside v t v p (omega arith) h;
      kind3 = λ p. asked3 v p ∙ place_never v t v p (omega arith) absent.never;
      kind4 = λ w d h k. (
        asked4 v w d ∙ neighbours_near v t documents v w d (omega arith) h k ∙ ap accepted (absent.first w d),
        asked4 w v d ∙ neighbours_near v t documents w v d h (omega arith) k ∙ ap accepted (absent.second w d),
      );
      far4 = λ w d h k. (
        asked4 v w d ∙ neighbours_far v t documents v w d (omega arith) h k,
        asked4 w v d ∙ neighbours_far v t documents w v d h (omega arith) k,
      );
      kind5 = λ start len i k l all j e.
          asked5 start len
          ∙ phrase_counted v words start len t documents (phrase_none v words start len k l (askable_all v (phrase_in words start len) all))
          ∙ ap (λ (ps : List ℕ). accepted (length ps)) (absent.nowhere (phrase_in words start len) i j e);
      above2 = λ w p h. asked2 w p ∙ occurrences_rank v t w p h;
      above3 = λ w p h. asked3 w p ∙ place_rank v t w p h;
      above4 = λ w u d h. (
        asked4 w u d ∙ neighbours_first v t documents w u d h,
        asked4 u w d ∙ neighbours_second v t documents u w d h,
      );
      above5 = λ start len i k l j u. asked5 start len ∙ phrase_above_lem v t documents words start len i k l j u;
    }
