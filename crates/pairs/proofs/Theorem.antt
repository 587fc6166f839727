-- The first pair of two lists of the same length is what the statement says. Assumes nothing.
use mathlib.Core.Path.{◌≡◌, refl}
use mathlib.Core.List.{[], ◌∷◌}
use native.Mathlib.Omega.{arith}
use Rattle.pairs.specs.Pairs.{first_pair}
use Rattle.pairs.specs.Laws.{PairsExact}
use Rattle.pairs.proofs.Pairs.{pair_most, pair_stands, pair_none_before, pair_itself}

pub pairs_exact : PairsExact
pairs_exact = record {
  exact = λ x y here there same. record {
    most = pair_most x y here there;
    stands = λ l. pair_stands x y here there l (omega arith);
    none_before = pair_none_before x y here there;
  };
  itself = pair_itself;
}

-- samples: an x without its y is passed, the pair at the last index, no pair, empty lists
samples : (first_pair 7 3 (7 ∷ 1 ∷ 7 ∷ 7 ∷ []) (1 ∷ 3 ∷ 3 ∷ 3 ∷ []) ≡ 2)
    × (first_pair 7 3 (1 ∷ 2 ∷ 7 ∷ []) (3 ∷ 3 ∷ 3 ∷ []) ≡ 2)
    × (first_pair 7 3 (3 ∷ 7 ∷ []) (3 ∷ 7 ∷ []) ≡ 2)
    × (first_pair 7 3 [] [] ≡ 0)
samples = (refl, refl, refl, refl)
