-- The code of paper 01, over the number s of closing byte values: s is 128 there, and the c = 256 - s values below them say that
-- another byte follows.
use Rattle.std.specs.Prelude.{ℕ, ◌+◌, ◌*◌, ◌-◌, ◌/◌, ◌%◌, ◌≤◌, ◌<◌, Bool, cond, List, [], ◌∷◌, leb, ltb}
use Rattle.base.specs.Refusals.{refusal_vocabulary}
use Rattle.base.specs.Answers.{refused, Case, ◌⇒◌}
use Rattle.base.specs.Texts.{outside}

-- the numbers of closing values that there are codes for: 1 to 255
pub record Closing (s : ℕ) : Type 0 where
  pub least : 1 ≤ s
  pub most : s ≤ 255

-- c, the number of byte values that say that another byte follows: 0 to c - 1
abbrev pub continuing : ℕ → ℕ
continuing s = 256 - s

-- whether a byte closes its word
abbrev pub closes : ℕ → ℕ → Bool
closes s b = leb (continuing s) b

-- the most words of a vocabulary, all codewords of one, two and three bytes: 2,113,664 for s = 128
abbrev pub max_vocabulary : ℕ → ℕ
max_vocabulary s = s * (1 + continuing s + continuing s * continuing s)

-- refusal 1: V outside its limits
unfoldable pub vocabulary_case : ℕ → ℕ → Case
vocabulary_case s vocab = outside 1 (max_vocabulary s) vocab ⇒ refused refusal_vocabulary

-- the first rank of two bytes, and of three
abbrev pub first_of_two : ℕ → ℕ
first_of_two s = s

abbrev pub first_of_three : ℕ → ℕ
first_of_three s = s + s * continuing s

-- the number x in two digits, highest first, with c added to the last
abbrev pub two : ℕ → ℕ → List ℕ
two s x = (x / s) ∷ (continuing s + x % s) ∷ []

-- the number x in three digits, highest first, with c added to the last
abbrev pub three : ℕ → ℕ → List ℕ
three s x = (x / s / continuing s) ∷ (x / s % continuing s) ∷ (continuing s + x % s) ∷ []

-- the codeword of a rank: the first s ranks take one byte, the next s × c two, the others three. Within a length, the rank minus the
-- first rank of that length is written in digits.
unfoldable pub code : ℕ → ℕ → List ℕ
code s i =
    cond (ltb i (first_of_two s)) ((continuing s + i) ∷ [])
    (cond (ltb i (first_of_three s)) (two s (i - first_of_two s)) (three s (i - first_of_three s)))

-- the rank of a codeword: the first rank of its length plus the number that its digits write; 0 for what is no codeword
abbrev pub rank_of : ℕ → List ℕ → ℕ
rank_of s [] = 0
rank_of s (a ∷ []) = a - continuing s
rank_of s (a ∷ b ∷ []) = first_of_two s + (s * a + (b - continuing s))
rank_of s (a ∷ b ∷ e ∷ []) = first_of_three s + (s * (continuing s * a + b) + (e - continuing s))
rank_of s (a ∷ b ∷ e ∷ f ∷ rest) = 0

-- a codeword: continuing bytes, and then one closing byte
pub data Word (s : ℕ) : List ℕ → Type 0 where
  closing : (b : ℕ) → continuing s ≤ b → b < 256 → Word s (b ∷ [])
  continued : (b : ℕ) {bs : List ℕ} → b < continuing s → Word s bs → Word s (b ∷ bs)
