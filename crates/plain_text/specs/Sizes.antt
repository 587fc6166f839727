-- The sizes of a call that reads a plain text: of its list, of its text and of its slice.
use Rattle.std.specs.Prelude.{ℕ, ◌≤◌, ◌≡◌, true, false, List, [], ◌∷◌, ltb, length}
use Rattle.base.specs.declared.Answer.{Answer}
use Rattle.base.specs.Answers.{accepted, refused, ◌⇒◌, first_of}
use Rattle.base.specs.Refusals.{refusal_short_slice}
use Rattle.base.specs.Texts.{max_words, outside, words_case}
use Rattle.dense.specs.Code.{vocabulary_case, max_vocabulary}
use Rattle.lexicon.specs.Letters.{is_table}
use Rattle.lexicon.specs.Lexicon.{list_size, is_written}
use Rattle.lexicon.specs.Reading.{text_words}

-- the answer of the tests of the sizes: the number of words of the text where none refuses
unfoldable pub sizes_answer : ℕ → ℕ → ℕ → Answer
sizes_answer words size room =
    first_of (vocabulary_case 128 words ∷ words_case size ∷ (ltb room size ⇒ refused refusal_short_slice) ∷ []) (accepted size)

-- a call whose sizes no test refuses, with a table that keeps the rules, and a list whose words are written as they must be
pub record Sized (table list : List ℕ) (words : ℕ) (text : List ℕ) (size : ℕ) (z : List ℕ) : Type 0 where
  pub rule : is_table table ≡ true
  pub all : words ≡ list_size list
  pub inside : outside 1 (max_vocabulary 128) (list_size list) ≡ false
  pub sized : size ≡ length (text_words table text)
  pub short : length (text_words table text) ≤ max_words
  pub room : length (text_words table text) ≤ length z
  pub written : is_written table list ≡ true
