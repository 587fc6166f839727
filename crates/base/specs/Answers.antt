-- The answer of a call, the rule by which a refusal is chosen, and what a call leaves in a slice that it fills.
use Rattle.std.specs.Prelude.{ℕ, ◌+◌, ◌≤◌, ◌≡◌, Bool, true, false, cond, List, [], ◌∷◌, ◌++◌, eqb, length, take, drop}
use Rattle.base.specs.declared.Answer.{Answer}

-- an accepted call returns 0 and its answer
abbrev pub accepted : ℕ → Answer
accepted v = record { refusal = 0; value = v }

-- a call refused with this number; 0 is returned with it
abbrev pub refused : ℕ → Answer
refused number = record { refusal = number; value = 0 }

-- a call refused with this number, and the place or byte offset that is returned with it
abbrev pub refused_at : ℕ → ℕ → Answer
refused_at number at = record { refusal = number; value = at }

-- whether a call is accepted
abbrev pub is_accepted : Answer → Bool
is_accepted a = eqb a.refusal 0

-- a row of the table of refusals: what is returned if the test holds
infix 20 ◌⇒◌
pub data Case : Type 0 where
  ◌⇒◌ : Bool → Answer → Case

-- what the first case returns whose test holds; the answer at the end where none does
unfoldable pub first_of : List Case → Answer → Answer
first_of [] answer = answer
first_of ((test ⇒ r) ∷ cases) answer = cond test r (first_of cases answer)

-- no test holds
abbrev pub NoneHolds : List Case → Type 0
NoneHolds [] = Unit {0}
NoneHolds ((test ⇒ r) ∷ cases) = (test ≡ false) × NoneHolds cases

-- Statement: the first test that holds wins. A case whose test holds decides where no test before it holds, whatever stands after it,
-- and the answer is given where no test holds.
pub record FirstWins : Type 0 where
  pub decides :
      (before : List Case) (test : Bool) (r : Answer) (after : List Case) (answer : Answer) → NoneHolds before → test ≡ true →
      first_of (before ++ (test ⇒ r) ∷ after) answer ≡ r
  pub answers : (cases : List Case) (answer : Answer) → NoneHolds cases → first_of cases answer ≡ answer

-- what a slice holds after xs was written from a position on: the other elements stay
unfoldable pub written : List ℕ → ℕ → List ℕ → List ℕ
written xs at slice = take at slice ++ xs ++ drop (at + length xs) slice

-- what a slice holds after xs was written to its front: the elements past it stay
unfoldable pub front : List ℕ → List ℕ → List ℕ
front xs slice = xs ++ drop (length xs) slice

-- what a call with this answer leaves in a slice that it fills with xs: a refused call leaves it as it was
unfoldable pub filled : Answer → List ℕ → List ℕ → List ℕ
filled a xs slice = cond (is_accepted a) (front xs slice) slice

-- Statement: a refused call leaves each slice untouched; a call that fills a slice leaves its length, what it wrote stands in front,
-- and the elements past that stay.
pub record FillsFront : Type 0 where
  pub untouched : (a : Answer) (xs slice : List ℕ) → is_accepted a ≡ false → filled a xs slice ≡ slice
  pub filling : (a : Answer) (xs slice : List ℕ) → is_accepted a ≡ true → filled a xs slice ≡ xs ++ drop (length xs) slice
  pub same_length : (a : Answer) (xs slice : List ℕ) → length xs ≤ length slice → length (filled a xs slice) ≡ length slice
