-- Laws of sums of lists, of sums over the numbers below n, and of sums of fronts. Assumes nothing.
use Prim.Native.Nat.{ℕ, zero, suc, ◌+◌, ◌≤◌, ◌<◌}
use mathlib.Core.Path.{◌≡◌, refl, ap, ap₂, ◌∙◌}
use mathlib.Core.Bool.{cond}
use mathlib.Core.Logic.{◌⊎◌, inl, inr}
use mathlib.Core.List.{List, [], ◌∷◌, ◌++◌, map}
use native.Mathlib.Omega.{arith}
use lib.Dec.{eqb}
use lib.ListN.{length, take, drop, get_or, take-append-drop}
use lib.Seq.{take-suc, take-take}
use Rattle.base.specs.Lists.{total, range_from}
use Rattle.base.proofs.Tests.{same_or_not, cond_same, cond_other}
use Rattle.base.proofs.Ranges.{map_range_suc}

pub total_append : (xs ys : List ℕ) → total (xs ++ ys) ≡ total xs + total ys
total_append [] ys = omega arith
total_append (x ∷ xs) ys = rw (total_append xs ys) (omega arith)

-- ---- sums of fronts

-- the first k + 1 numbers
pub total_take_suc : (xs : List ℕ) (k : ℕ) → k < length xs → total (take (suc k) xs) ≡ total (take k xs) + get_or xs k 0
total_take_suc xs k h = ap total (take-suc xs k 0 h) ∙ total_append (take k xs) (get_or xs k 0 ∷ []) ∙ omega arith

-- a front has at most what a longer front has
pub total_take_most : (xs : List ℕ) (j k : ℕ) → j ≤ k → total (take j xs) ≤ total (take k xs)
total_take_most xs j k h =
    omega (arith, ap total (take-append-drop j (take k xs)), total_append (take j (take k xs)) (drop j (take k xs)), ap total (take-take j k xs h))

-- and at most what the whole list has
pub total_take_whole : (xs : List ℕ) (k : ℕ) → total (take k xs) ≤ total xs
total_take_whole xs k = omega (arith, ap total (take-append-drop k xs), total_append (take k xs) (drop k xs))

-- ---- sums over the numbers below n

-- one number more
pub total_range_suc : (f : ℕ → ℕ) (n : ℕ) → total (map f (range_from 0 (suc n))) ≡ total (map f (range_from 0 n)) + f n
total_range_suc f n = ap total (map_range_suc f n) ∙ total_append (map f (range_from 0 n)) (f n ∷ []) ∙ omega arith

-- the sum of sums
pub total_range_add : (f g : ℕ → ℕ) (n : ℕ) → total (map (λ (k : ℕ). f k + g k) (range_from 0 n)) ≡ total (map f (range_from 0 n)) + total (map g (range_from 0 n))
total_range_add f g zero = refl
total_range_add f g (suc n) = total_range_suc (λ (k : ℕ). f k + g k) n ∙ omega (arith, total_range_add f g n, total_range_suc f n, total_range_suc g n)

pub total_range_zero : (n : ℕ) → total (map (λ (k : ℕ). 0) (range_from 0 n)) ≡ 0
total_range_zero zero = refl
total_range_zero (suc n) = total_range_suc (λ (k : ℕ). 0) n ∙ omega (arith, total_range_zero n)

-- one number is counted once below n, and not at all if it is not below n
pub total_range_past : (a n : ℕ) → n ≤ a → total (map (λ (k : ℕ). cond (eqb a k) 1 0) (range_from 0 n)) ≡ 0
total_range_past a zero h = refl
total_range_past a (suc n) h =
    total_range_suc (λ (k : ℕ). cond (eqb a k) 1 0) n ∙ ap₂ ◌+◌ (total_range_past a n (omega arith)) (cond_other (suc 0) 0 a n (λ q. omega arith))

pub total_range_one : (a n : ℕ) → a < n → total (map (λ (k : ℕ). cond (eqb a k) 1 0) (range_from 0 n)) ≡ 1
total_range_one a zero h = absurd (omega arith)
total_range_one a (suc n) h = total_range_suc (λ (k : ℕ). cond (eqb a k) 1 0) n ∙ go (same_or_not a n) (total_range_one a n)
  where
    go : (a ≡ n) ⊎ (a ≡ n → ⊥) → (a < n → total (map (λ (k : ℕ). cond (eqb a k) 1 0) (range_from 0 n)) ≡ 1) → total (map (λ (k : ℕ). cond (eqb a k) 1 0) (range_from 0 n)) + cond (eqb a n) 1 0 ≡ 1
    go (inl q) ih = ap₂ ◌+◌ (total_range_past a n (omega arith)) (cond_same (suc 0) 0 a n q)
    go (inr d) ih = ap₂ ◌+◌ (ih (omega arith)) (cond_other (suc 0) 0 a n d)
