-- Statement: samples of word lists that are made of texts.
use Rattle.std.specs.Prelude.{ℕ, ◌≡◌, List, [], ◌∷◌}
use Rattle.base.specs.Answers.{accepted, refused}
use Rattle.lexicon.specs.Letters.{letters}
use Rattle.lexicon.specs.Reading.{read_text_answer}
use Rattle.list_calls.specs.Making.{list_made, make_list_exit, make_ranks_exit}

-- the text "c, B b; C a"
abbrev pub plain_sample : List ℕ
plain_sample = 0x63 ∷ 0x2C ∷ 0x20 ∷ 0x42 ∷ 0x20 ∷ 0x62 ∷ 0x3B ∷ 0x20 ∷ 0x43 ∷ 0x20 ∷ 0x61 ∷ []

-- what a slice of six elements holds before
abbrev pub six_nines : List ℕ
six_nines = 9 ∷ 9 ∷ 9 ∷ 9 ∷ 9 ∷ 9 ∷ []

-- what is made of them, returned and left
pub record MakingSamples : Type 0 where
  -- c and b stand twice, c first; a stands once
  pub made : list_made letters plain_sample six_nines six_nines ≡ record { answer = accepted 0; bytes = 6; words = 5 }
  pub list : make_list_exit letters plain_sample six_nines six_nines ≡ 0x63 ∷ 0x0A ∷ 0x62 ∷ 0x0A ∷ 0x61 ∷ 0x0A ∷ []
  pub ranks : make_ranks_exit letters plain_sample six_nines six_nines ≡ 0 ∷ 1 ∷ 1 ∷ 0 ∷ 2 ∷ 9 ∷ []
  -- one element short, in either slice
  pub short_list : list_made letters plain_sample (9 ∷ 9 ∷ 9 ∷ 9 ∷ 9 ∷ []) six_nines ≡ record { answer = refused 5; bytes = 0; words = 0 }
  pub short_ranks : list_made letters plain_sample six_nines (9 ∷ 9 ∷ 9 ∷ 9 ∷ []) ≡ record { answer = refused 5; bytes = 0; words = 0 }
  pub refused_list : make_list_exit letters plain_sample six_nines (9 ∷ 9 ∷ 9 ∷ 9 ∷ []) ≡ six_nines
  -- no word: the empty list, which reading refuses
  pub no_words : list_made letters (0x20 ∷ 0x0A ∷ []) [] [] ≡ record { answer = accepted 0; bytes = 0; words = 0 }
  pub empty_read : read_text_answer letters [] (0x20 ∷ 0x0A ∷ []) [] ≡ refused 1
