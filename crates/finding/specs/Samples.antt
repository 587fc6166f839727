-- Statement: samples of finding a word.
use Rattle.std.specs.Prelude.{◌≡◌, [], ◌∷◌, map}
use Rattle.base.specs.Answers.{accepted, refused}
use Rattle.lexicon.specs.Letters.{letters}
use Rattle.lexicon.specs.Samples.{sample_list}
use Rattle.finding.specs.Finding.{find_word_answer}

pub record FindingSamples : Type 0 where
  -- the list has b, ab and DF: "B", "Ab" and DF
  pub listed : map (find_word_answer letters sample_list) ((0x42 ∷ []) ∷ (0x41 ∷ 0x62 ∷ []) ∷ (0xDF ∷ []) ∷ []) ≡ accepted 0 ∷ accepted 1 ∷ accepted 2 ∷ []
  -- the front of a word, and a word with one more letter
  pub lacking : map (find_word_answer letters sample_list) ((0x61 ∷ []) ∷ (0x61 ∷ 0x62 ∷ 0x62 ∷ []) ∷ []) ≡ accepted 3 ∷ accepted 3 ∷ []
  -- nothing, "a b", "ab" with its line end, " ab", D7 and 00
  pub no_words :
      map (find_word_answer letters sample_list)
      ([] ∷ (0x61 ∷ 0x20 ∷ 0x62 ∷ []) ∷ (0x61 ∷ 0x62 ∷ 0x0A ∷ []) ∷ (0x20 ∷ 0x61 ∷ 0x62 ∷ []) ∷ (0xD7 ∷ []) ∷ (0x00 ∷ []) ∷ [])
      ≡ accepted 3 ∷ accepted 3 ∷ accepted 3 ∷ accepted 3 ∷ accepted 3 ∷ accepted 3 ∷ []
  -- an empty list, a list with a capital, and one with a word twice
  pub broken :
      map (λ list. find_word_answer letters list (0x62 ∷ [])) ([] ∷ (0x42 ∷ 0x0A ∷ []) ∷ (0x62 ∷ 0x0A ∷ 0x62 ∷ 0x0A ∷ []) ∷ [])
      ≡ refused 1 ∷ refused 13 ∷ refused 13 ∷ []
