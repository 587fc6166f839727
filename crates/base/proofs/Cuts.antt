-- Laws of a list that is cut after each element that passes a test. Assumes nothing.
use Prim.Native.Nat.{ℕ}
use mathlib.Core.Path.{◌≡◌, refl, ap}
use mathlib.Core.Bool.{Bool, true, false, cond}
use mathlib.Core.List.{List, [], ◌∷◌, flatten}
use Rattle.base.specs.Lists.{All, cons_first, cut_after}

module _ (test : ℕ → Bool) where
  -- the pieces laid end to end are the list
  pub flatten_cut : (xs : List ℕ) → flatten (cut_after test xs) ≡ xs
  unfolding flatten
  flatten_cut [] = refl
  flatten_cut (x ∷ xs) = go (test x) (cut_after test xs) (flatten_cut xs)
    where
      go : (t : Bool) (ps : List (List ℕ)) → flatten ps ≡ xs → flatten (cond t ((x ∷ []) ∷ ps) (cons_first x ps)) ≡ x ∷ xs
      go true ps e = ap (λ (r : List ℕ). x ∷ r) e
      go false [] e = ap (λ (r : List ℕ). x ∷ r) e
      go false (p ∷ ps) e = ap (λ (r : List ℕ). x ∷ r) e

  -- no element but the last passes
  abbrev pub Inner : List ℕ → Type 0
  Inner [] = Unit {0}
  Inner (x ∷ []) = Unit {0}
  Inner (x ∷ y ∷ ys) = (test x ≡ false) × Inner (y ∷ ys)

  -- in each piece, no element but the last passes
  pub cut_inner : (xs : List ℕ) → All Inner (cut_after test xs)
  cut_inner [] = tt
  cut_inner (x ∷ xs) = go (test x) refl (cut_after test xs) (cut_inner xs)
    where
      go : (t : Bool) → test x ≡ t → (ps : List (List ℕ)) → All Inner ps → All Inner (cond t ((x ∷ []) ∷ ps) (cons_first x ps))
      go true e ps a = (tt, a)
      go false e [] a = (tt, tt)
      go false e ([] ∷ ps) a = (tt, a.1)
      go false e ((y ∷ ys) ∷ ps) a = ((e, a.0), a.1)
