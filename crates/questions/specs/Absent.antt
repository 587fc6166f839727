-- Statement: questions about an absent word, whose rank is V, and about ranks above V, by the calls.
use Rattle.std.specs.Prelude.{ℕ, ◌+◌, ◌≤◌, ◌<◌, ◌≡◌, true, List, ℤ, nat_abs, length, get_or}
use Rattle.base.specs.Lists.{All}
use Rattle.base.specs.Refusals.{refusal_asked_rank, refusal_offset, refusal_place}
use Rattle.base.specs.Answers.{accepted, refused}
use Rattle.base.specs.Texts.{max_phrase, max_offset}
use Rattle.dense.specs.Code.{Closing}
use Rattle.index.specs.declared.Shape.{Shape}
use Rattle.index.specs.Arrays.{Arrays, text_in}
use Rattle.index.specs.Entries.{check_answer}
use Rattle.documents.specs.Documents.{are_starts}
use Rattle.questions.specs.Makers.{asks_occurrences_below, asks_place_of, asks_neighbours, asks_phrase}
use Rattle.questions.specs.Answering.{phrase_in, ask_answer_in}

-- what is answered of an absent word: kinds 2, 4 and 5 give 0, kind 3 gives 11, and the other refusals of a kind stay
pub record AbsentByCalls (s : ℕ) (shape : Shape) (a : Arrays) (documents words : List ℕ) : Type 0 where
  pub kind2 : (p : ℕ) → p ≤ length (text_in s a) → ask_answer_in s shape a documents words (asks_occurrences_below shape.vocabulary p) ≡ accepted 0
  pub past2 : (p : ℕ) → length (text_in s a) < p → ask_answer_in s shape a documents words (asks_occurrences_below shape.vocabulary p) ≡ refused refusal_place
  pub kind3 : (p : ℕ) → ask_answer_in s shape a documents words (asks_place_of shape.vocabulary p) ≡ refused refusal_place
  pub kind4 :
      (w : ℕ) (d : ℤ) → w ≤ shape.vocabulary → nat_abs d ≤ max_offset →
      (ask_answer_in s shape a documents words (asks_neighbours shape.vocabulary w d) ≡ accepted 0)
      × (ask_answer_in s shape a documents words (asks_neighbours w shape.vocabulary d) ≡ accepted 0)
  pub far4 :
      (w : ℕ) (d : ℤ) → w ≤ shape.vocabulary → max_offset < nat_abs d →
      (ask_answer_in s shape a documents words (asks_neighbours shape.vocabulary w d) ≡ refused refusal_offset)
      × (ask_answer_in s shape a documents words (asks_neighbours w shape.vocabulary d) ≡ refused refusal_offset)
  pub kind5 :
      (start len i : ℕ) → len ≤ max_phrase → start + len ≤ length words → All (λ (w : ℕ). w ≤ shape.vocabulary) (phrase_in words start len) →
      i < length (phrase_in words start len) → get_or (phrase_in words start len) i 0 ≡ shape.vocabulary →
      ask_answer_in s shape a documents words (asks_phrase start len) ≡ accepted 0
  -- 9 is for ranks above V
  pub above2 : (w p : ℕ) → shape.vocabulary < w → ask_answer_in s shape a documents words (asks_occurrences_below w p) ≡ refused refusal_asked_rank
  pub above3 : (w p : ℕ) → shape.vocabulary < w → ask_answer_in s shape a documents words (asks_place_of w p) ≡ refused refusal_asked_rank
  pub above4 :
      (w v : ℕ) (d : ℤ) → shape.vocabulary < w →
      (ask_answer_in s shape a documents words (asks_neighbours w v d) ≡ refused refusal_asked_rank)
      × (ask_answer_in s shape a documents words (asks_neighbours v w d) ≡ refused refusal_asked_rank)
  pub above5 :
      (start len i : ℕ) → len ≤ max_phrase → start + len ≤ length words →
      i < length (phrase_in words start len) → shape.vocabulary < get_or (phrase_in words start len) i 0 →
      ask_answer_in s shape a documents words (asks_phrase start len) ≡ refused refusal_asked_rank

-- Statement: at every number of closing values, of arrays that pass the check, with any starts that keep the rules and any lent words.
abbrev pub AbsentAsked : Type 0
AbsentAsked =
    (s : ℕ) (shape : Shape) (a : Arrays) (documents words : List ℕ) → Closing s →
    check_answer s shape a ≡ accepted 0 → are_starts (length (text_in s a)) documents ≡ true →
    AbsentByCalls s shape a documents words
