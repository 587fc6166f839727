-- The hits of a test of places, among the places 0 to an end.
use Rattle.std.specs.Prelude.{ℕ, suc, ◌-◌, Bool, List, [], ◌∷◌}
use Rattle.base.specs.Lists.{filter_by, range_from}

-- the places at or after a place, up to the end, at which the test holds, ascending
abbrev pub hits_from : (ℕ → Bool) → ℕ → ℕ → List ℕ
hits_from P end next = filter_by P (range_from next (suc end - next))

-- all places from 0 to the end at which the test holds, ascending
abbrev pub all_hits : (ℕ → Bool) → ℕ → List ℕ
all_hits P end = filter_by P (range_from 0 (suc end))

-- the last element; d where there is none
abbrev pub last_or : ℕ → List ℕ → ℕ
last_or d [] = d
last_or d (x ∷ xs) = last_or x xs
