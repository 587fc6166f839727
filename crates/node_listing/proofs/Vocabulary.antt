-- Laws of V, one above the largest rank. Assumes nothing.
use Prim.Native.Nat.{ℕ, zero, suc, ◌+◌, ◌<◌, max}
use mathlib.Core.Path.{◌≡◌}
use mathlib.Core.List.{List, [], ◌∷◌}
use native.Mathlib.Omega.{arith}
use native.Mathlib.Numerals.{add-one}
use lib.ListN.{length, take, get_or}
use Rattle.std.specs.List.{fold}
use Rattle.base.specs.Lists.{Below}
use Rattle.base.proofs.Lists.{below_weaken}
use Rattle.node_listing.specs.Listing.{largest, vocabulary_of}

-- the largest of the first i + 1 ranks
pub largest_next : (t : List ℕ) (i : ℕ) → i < length t → largest (take (i + 1) t) ≡ max (largest (take i t)) (get_or t i 0)
largest_next t i h = rw add-one (go t i h)
  where
    go : (t : List ℕ) (i : ℕ) → i < length t → largest (take (suc i) t) ≡ max (largest (take i t)) (get_or t i 0)
    go [] i h = absurd (omega arith)
    go (w ∷ t) zero h = omega arith
    go (w ∷ t) (suc i) h = omega (arith, go t i (omega arith))

-- the largest rank, found from the first rank on
pub largest_from : (a : ℕ) (t : List ℕ) → fold (λ b w. max b w) a t ≡ max a (largest t)
largest_from a [] = omega arith
largest_from a (w ∷ t) = omega (arith, largest_from (max a w) t)

-- all ranks are below V
pub below_vocabulary : (t : List ℕ) → Below (vocabulary_of t) t
below_vocabulary [] = tt
below_vocabulary (w ∷ t) = (omega arith, below_weaken (vocabulary_of t) (vocabulary_of (w ∷ t)) t (omega arith) (below_vocabulary t))
