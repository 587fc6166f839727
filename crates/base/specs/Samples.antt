-- The sample of paper 01.
use Rattle.std.specs.Prelude.{ℕ, List, [], ◌∷◌}

-- its text
abbrev pub sample_text : List ℕ
sample_text = 0 ∷ 128 ∷ 0 ∷ 129 ∷ 128 ∷ []
