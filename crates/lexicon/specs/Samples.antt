-- Statement: the edges of the letter table's ranges, and samples of words, lists and calls.
use Rattle.std.specs.Prelude.{ℕ, ◌≡◌, true, false, List, [], ◌∷◌, map}
use Rattle.base.specs.Answers.{accepted, refused, refused_at}
use Rattle.lexicon.specs.Letters.{letter_of, letters}
use Rattle.lexicon.specs.Lexicon.{list_size, list_words, is_list}
use Rattle.lexicon.specs.Reading.{word, text_words, read_text_answer, read_text_exit}

-- the bytes on both sides of each range, of D7 and of F7, and their letters
abbrev pub LetterEdges : Type 0
LetterEdges =
    map letter_of
    (0x00 ∷ 0x0A ∷ 0x2F ∷ 0x30 ∷ 0x39 ∷ 0x3A ∷ 0x40 ∷ 0x41 ∷ 0x5A ∷ 0x5B ∷ 0x60 ∷ 0x61 ∷ 0x7A ∷ 0x7B ∷ 0xBF ∷ 0xC0 ∷ 0xD6 ∷ 0xD7 ∷ 0xD8 ∷ 0xDE ∷ 0xDF ∷ 0xE0 ∷ 0xF6 ∷ 0xF7 ∷ 0xF8 ∷ 0xFF
    ∷ [])
    ≡ 0 ∷ 0 ∷ 0 ∷ 0x30 ∷ 0x39 ∷ 0 ∷ 0 ∷ 0x61 ∷ 0x7A ∷ 0 ∷ 0 ∷ 0x61 ∷ 0x7A ∷ 0 ∷ 0 ∷ 0xE0 ∷ 0xF6 ∷ 0 ∷ 0xF8 ∷ 0xFE ∷ 0xDF ∷ 0xE0 ∷ 0xF6 ∷ 0 ∷ 0xF8 ∷ 0xFF ∷ []

-- the list of the words "b", "ab" and DF
abbrev pub sample_list : List ℕ
sample_list = 0x62 ∷ 0x0A ∷ 0x61 ∷ 0x62 ∷ 0x0A ∷ 0xDF ∷ 0x0A ∷ []

-- the text "AB, b" D7 DF
abbrev pub sample_plain : List ℕ
sample_plain = 0x41 ∷ 0x42 ∷ 0x2C ∷ 0x20 ∷ 0x62 ∷ 0xD7 ∷ 0xDF ∷ []

-- the text "b a b"
abbrev pub sample_unlisted : List ℕ
sample_unlisted = 0x62 ∷ 0x20 ∷ 0x61 ∷ 0x20 ∷ 0x62 ∷ []

pub record ReadingSamples : Type 0 where
  pub words : text_words letters sample_plain ≡ word 0 (0x61 ∷ 0x62 ∷ []) ∷ word 4 (0x62 ∷ []) ∷ word 6 (0xDF ∷ []) ∷ []
  pub no_words : text_words letters (0x20 ∷ 0xF7 ∷ []) ≡ []
  pub listed : list_words sample_list ≡ (0x62 ∷ []) ∷ (0x61 ∷ 0x62 ∷ []) ∷ (0xDF ∷ []) ∷ []
  pub size : list_size sample_list ≡ 3
  pub rules : is_list letters sample_list ≡ true
  -- a rule broken each: the last word not closed, a word empty, a capital, a byte that is a separator, 00, a word twice
  pub broken :
      map (is_list letters)
      ((0x62 ∷ 0x0A ∷ 0x61 ∷ []) ∷ (0x62 ∷ 0x0A ∷ 0x0A ∷ []) ∷ (0x42 ∷ 0x0A ∷ []) ∷ (0x62 ∷ 0x20 ∷ 0x61 ∷ 0x0A ∷ []) ∷ (0x00 ∷ 0x0A ∷ [])
      ∷ (0x62 ∷ 0x0A ∷ 0x61 ∷ 0x0A ∷ 0x62 ∷ 0x0A ∷ []) ∷ [])
      ≡ false ∷ false ∷ false ∷ false ∷ false ∷ false ∷ []
  -- the value, the ranks in front, and what is left past them
  pub answer : read_text_answer letters sample_list sample_plain (9 ∷ 9 ∷ 9 ∷ 9 ∷ []) ≡ accepted 3
  pub exit : read_text_exit letters sample_list sample_plain (9 ∷ 9 ∷ 9 ∷ 9 ∷ []) ≡ 1 ∷ 0 ∷ 2 ∷ 9 ∷ []
  pub empty : read_text_answer letters sample_list [] [] ≡ accepted 0
  -- no word in the list, a short slice before a broken list, a broken list before a word that is not listed
  pub no_list : read_text_answer letters [] sample_plain [] ≡ refused 1
  pub short_first : read_text_answer letters (0x0A ∷ []) sample_plain (9 ∷ 9 ∷ []) ≡ refused 5
  pub broken_first : read_text_answer letters (0x0A ∷ []) sample_plain (9 ∷ 9 ∷ 9 ∷ []) ≡ refused 13
  -- the offset of the first word that is not listed, also where it is a part of one that is
  pub unlisted : read_text_answer letters sample_list sample_unlisted (9 ∷ 9 ∷ 9 ∷ []) ≡ refused_at 14 2
  pub refused_exit : read_text_exit letters sample_list sample_unlisted (9 ∷ 9 ∷ 9 ∷ []) ≡ 9 ∷ 9 ∷ 9 ∷ []
