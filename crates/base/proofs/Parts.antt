-- Laws of quotients, of parts that end where the list does, and of neighbouring parts. Assumes nothing.
use Prim.Native.Nat.{ℕ, suc, ◌+◌, ◌*◌, ◌/◌, ◌-◌, ◌≤◌, ◌<◌, min}
use mathlib.Core.Path.{◌≡◌, sym, ap, ◌∙◌}
use mathlib.Core.Logic.{◌⊎◌, inl, inr}
use mathlib.Core.List.{List, ◌++◌}
use native.Mathlib.Nat.{le-div_iff_mul-le}
use native.Mathlib.Omega.{arith}
use lib.ListN.{length, take, drop, length-drop, length-take, take-append-drop}
use lib.Seq.{take_all, slice, take-take, take-add, drop-append-le}
use Rattle.base.proofs.Tests.{below_or_not}

-- ---- quotients

-- r is among the numbers up to n / m where r × m is at most n
pub quotient_inside : (n m r : ℕ) → 1 ≤ m → r * m ≤ n → r < suc (n / m)
quotient_inside n m r p h =
    let l : r ≤ n / m = (le-div_iff_mul-le p).1 h in
    omega arith

-- and r × m is at most n where r is among them
pub inside_quotient : (n m r : ℕ) → 1 ≤ m → r < suc (n / m) → r * m ≤ n
inside_quotient n m r p h =
    let l : r ≤ n / m = omega arith in
    (le-div_iff_mul-le p).0 l

-- ---- parts

-- the part of a list from s that ends after n elements or where the list ends
pub part_cut : (xs : List ℕ) (s n stop : ℕ) → s ≤ length xs → stop ≡ min (s + n) (length xs) → take (stop - s) (drop s xs) ≡ take n (drop s xs)
part_cut xs s n stop h e = go (below_or_not (s + n) (length xs))
  where
    go : (s + n < length xs) ⊎ (length xs ≤ s + n) → take (stop - s) (drop s xs) ≡ take n (drop s xs)
    go (inl l) =
        let m : stop - s ≡ n = omega arith in
        rw m
    go (inr g) = take_all (stop - s) (drop s xs) (rw length-drop (omega arith)) ∙ sym (take_all n (drop s xs) (rw length-drop (omega arith)))

-- ---- neighbouring parts

-- the elements from a to before b, and the n after them
pub slice_more : (a b n : ℕ) (xs : List ℕ) → a ≤ b → a ≤ length xs → slice a b xs ++ take n (drop b xs) ≡ slice a (b + n) xs
slice_more a b n xs h l = sym (ap (drop a) (take-add b n xs) ∙ drop-append-le a (take b xs) (take n (drop b xs)) (omega (arith, length-take b xs)))

-- the first a elements, and those from a to before b
pub take_slice : (a b : ℕ) (xs : List ℕ) → a ≤ b → take a xs ++ slice a b xs ≡ take b xs
take_slice a b xs h = ap (λ (t : List ℕ). t ++ slice a b xs) (sym (take-take a b xs h)) ∙ take-append-drop a (take b xs)
