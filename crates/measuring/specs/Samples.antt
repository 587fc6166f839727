-- Statement: samples of measuring and of building with sizes, of the text of paper 01 and of texts near it; s is 128, V is 130, B is 4 and b
-- is 2 where nothing else is said.
use Rattle.std.specs.Prelude.{ℕ, ◌≡◌, List, [], ◌∷◌}
use Rattle.base.specs.Answers.{accepted, refused, refused_at}
use Rattle.base.specs.Samples.{sample_text}
use Rattle.index.specs.Arrays.{arrays, shape_of}
use Rattle.measuring.specs.Sizes.{sizes, no_sizes, measured_of, build_sized_answer}

-- the text with its last word changed
abbrev pub shorter_code : List ℕ
shorter_code = 0 ∷ 128 ∷ 0 ∷ 129 ∷ 0 ∷ []

-- the text with two words exchanged
abbrev pub exchanged : List ℕ
exchanged = 0 ∷ 129 ∷ 0 ∷ 128 ∷ 128 ∷ []

pub record SizesSamples : Type 0 where
  pub sample : measured_of 128 (shape_of 130 4 2) sample_text ≡ record { answer = accepted 0; sizes = sizes 2 8 2 3 }
  pub published : measured_of 128 (shape_of 130 256 8) sample_text ≡ record { answer = accepted 0; sizes = sizes 2 8 1 1 }
  pub empty : measured_of 128 (shape_of 130 4 2) [] ≡ record { answer = accepted 0; sizes = sizes 2 0 1 1 }
  pub no_word : measured_of 128 (shape_of 0 4 2) sample_text ≡ record { answer = refused 1; sizes = no_sizes }
  pub no_block : measured_of 128 (shape_of 130 0 2) sample_text ≡ record { answer = refused 3; sizes = no_sizes }
  pub rank_is_v : measured_of 128 (shape_of 129 4 2) sample_text ≡ record { answer = refused_at 4 3; sizes = no_sizes }
  -- the text was changed between: other sizes are noticed before a short slice; the same sizes are not looked into further
  pub changed : build_sized_answer 128 (shape_of 130 4 2) (sizes 2 8 2 3) shorter_code (arrays [] [] [] []) ≡ refused 16
  pub unchanged : build_sized_answer 128 (shape_of 130 4 2) (sizes 2 8 2 3) exchanged (arrays [] [] [] []) ≡ refused 5
  pub rank_first : build_sized_answer 128 (shape_of 129 4 2) no_sizes sample_text (arrays [] [] [] []) ≡ refused_at 4 3
  -- each of the four numbers is compared
  pub other_nodes : build_sized_answer 128 (shape_of 130 4 2) (sizes 3 8 2 3) sample_text (arrays [] [] [] []) ≡ refused 16
  pub other_bytes : build_sized_answer 128 (shape_of 130 4 2) (sizes 2 9 2 3) sample_text (arrays [] [] [] []) ≡ refused 16
  pub other_superblocks : build_sized_answer 128 (shape_of 130 4 2) (sizes 2 8 1 3) sample_text (arrays [] [] [] []) ≡ refused 16
  pub other_blocks : build_sized_answer 128 (shape_of 130 4 2) (sizes 2 8 2 4) sample_text (arrays [] [] [] []) ≡ refused 16
