-- Statement: what the first pair of two lists of the same length is.
use Rattle.std.specs.Prelude.{ℕ, ◌≤◌, ◌<◌, ◌≡◌, List, length, get_or}
use Rattle.base.specs.Lists.{nth}
use Rattle.pairs.specs.Pairs.{first_pair}

pub record PairExact (x y : ℕ) (here there : List ℕ) : Type 0 where
  -- the index is at most the length
  pub most : first_pair x y here there ≤ length here
  -- where it is below the length, x stands there in the one and y in the other
  pub stands :
      first_pair x y here there < length here →
      (get_or here (first_pair x y here there) 0 ≡ x) × (get_or there (first_pair x y here there) 0 ≡ y)
  -- and at no index before it do both stand
  pub none_before : (k : ℕ) → k < first_pair x y here there → get_or here k 0 ≡ x → get_or there k 0 ≡ y → ⊥

pub record PairsExact : Type 0 where
  -- of any two bytes in any two lists of the same length
  pub exact : (x y : ℕ) (here there : List ℕ) → length here ≡ length there → PairExact x y here there
  -- a byte with itself, in one list: its first occurrence
  pub itself : (x : ℕ) (xs : List ℕ) → first_pair x x xs xs ≡ nth x 0 xs
