-- What the tests before the ranks, and the one pass over the ranks, tell. Only inner functions cite it.
use Rattle.std.specs.Prelude.{ℕ, ◌≤◌, ◌≡◌, List, [], ◌∷◌, length, Result}
use Rattle.base.specs.declared.Answer.{Answer}
use Rattle.base.specs.declared.refusal.Refused.{Refused}
use Rattle.base.specs.Answers.{accepted, first_of}
use Rattle.base.specs.Outcomes.{answer_of}
use Rattle.base.specs.Texts.{max_words, rank_case}
use Rattle.dense.specs.Streams.{stream}
use Rattle.index.specs.declared.Shape.{Shape}
use Rattle.index.specs.Exact.{WithinLimits}
use Rattle.measuring.specs.Sizes.{measure_answer}

-- the answer of the tests of V, of the number of words, and of B and b: their refusal, or 0 where all are within their limits
pub record LimitsAnswer (s : ℕ) (shape : Shape) (t : List ℕ) (r : Answer) : Type 0 where
  pub refuses : (r.refusal ≡ 0 → ⊥) → r ≡ measure_answer s shape t
  pub accepts : r.refusal ≡ 0 → r ≡ accepted 0
  pub limits : r.refusal ≡ 0 → WithinLimits s shape
  pub words : r.refusal ≡ 0 → length t ≤ max_words

-- the pass over the ranks of a text: the first place whose rank is not below V, and the length of its stream where there is none
pub record PassOf (s vocab : ℕ) (t : List ℕ) (outcome : Result ℕ Refused) : Type 0 where
  pub answer : answer_of outcome ≡ first_of (rank_case vocab t ∷ []) (accepted (length (stream s t)))
