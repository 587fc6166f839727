-- What a function that writes into a lent slice does.
use Rattle.std.specs.Prelude.{ℕ, ◌+◌, ◌≡◌, List, length}
use Rattle.base.specs.Answers.{written}

-- xs is written from a position of a slice on: the position after it is answered, and the other elements stay
pub record Wrote (xs : List ℕ) (at : ℕ) (entry : List ℕ) (next : ℕ) (exit : List ℕ) : Type 0 where
  pub after : next ≡ at + length xs
  pub slice : exit ≡ written xs at entry
