-- Statement: samples of kinds 1 to 3, at the edges of the text too.
use Rattle.std.specs.Prelude.{◌≡◌, [], ◌∷◌, map}
use Rattle.base.specs.Samples.{sample_text}
use Rattle.words.specs.Words.{rank_at, occurrences_below, frequency, nth_place}

pub record WordSamples : Type 0 where
  -- of paper 01: 128 stands once below 4, and for the second time at 4
  pub below_four : occurrences_below sample_text 128 4 ≡ 1
  pub second_place : nth_place sample_text 128 2 ≡ 4
  -- the first and the last word
  pub first_word : rank_at sample_text 0 ≡ 0
  pub last_word : rank_at sample_text 4 ≡ 128
  -- a word below the first place, below and above the place where it stands, and below the end
  pub counted : map (occurrences_below sample_text 0) (0 ∷ 1 ∷ 2 ∷ 3 ∷ 5 ∷ []) ≡ 0 ∷ 1 ∷ 1 ∷ 2 ∷ 2 ∷ []
  -- how often each word stands, and one that does not
  pub often : map (frequency sample_text) (0 ∷ 128 ∷ 129 ∷ 1 ∷ []) ≡ 2 ∷ 2 ∷ 1 ∷ 0 ∷ []
  -- the first and the last place of a word
  pub places : map (nth_place sample_text 0) (1 ∷ 2 ∷ []) ≡ 0 ∷ 2 ∷ []
