-- That a fact has at most one proof, which a ghost field asks for.
use Rattle.std.specs.Prelude.{ℕ, List, [], ◌∷◌}
use Rattle.std.specs.Coded.{×_prop, Unit-prop, le_prop}
use Rattle.base.specs.Lists.{Below}

pub Below-prop : (bound : ℕ) (xs : List ℕ) → IsProp (Below bound xs)
Below-prop bound [] = Unit-prop
Below-prop bound (x ∷ xs) = ×_prop le_prop (Below-prop bound xs)
