-- Pairs: an x in one list and a y at the same index of another.
use Rattle.std.specs.Prelude.{ℕ, suc, cond, ◌&&◌, List, [], ◌∷◌, eqb}

-- the first index at which x stands in one list and y in the other; the length of the shorter where there is none
abbrev pub first_pair : ℕ → ℕ → List ℕ → List ℕ → ℕ
first_pair x y [] ts = 0
first_pair x y (h ∷ hs) [] = 0
first_pair x y (h ∷ hs) (t ∷ ts) = cond (eqb h x && eqb t y) 0 (suc (first_pair x y hs ts))
