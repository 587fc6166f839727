-- The piece of a list in which an occurrence lies, and the next occurrence from a position on. Assumes nothing.
use Prim.Native.Nat.{ℕ, ◌+◌, ◌-◌, ◌≤◌, ◌<◌}
use mathlib.Core.Path.{◌≡◌, ap, ◌∙◌}
use mathlib.Core.Logic.{◌⊎◌, inl, inr}
use mathlib.Core.List.{List}
use native.Mathlib.Omega.{arith}
use lib.ListN.{length, take, drop, length-take}
use Rattle.base.specs.Lists.{count_of, nth}
use Rattle.base.proofs.Tests.{below_or_not}
use Rattle.base.proofs.Counts.{count_part, nth_found, nth_front, nth_none, nth_part}

-- the x with j others before it stands before a position before which more than j stand
pub nth_before : (x j n : ℕ) (xs : List ℕ) → j < count_of x (take n xs) → nth x j xs < n
nth_before x j n xs h = omega (arith, nth_front x j n xs h, (nth_found x j (take n xs) h).inside, length-take n xs)

-- where j stand before i, and an x in the n elements from i on, the first of these is the one with j others before it
pub nth_next : (x j i n : ℕ) (xs : List ℕ) → i ≤ length xs → count_of x (take i xs) ≡ j
    → nth x 0 (take n (drop i xs)) < length (take n (drop i xs)) → nth x j xs ≡ i + nth x 0 (take n (drop i xs))
nth_next x j i n xs here c inside =
    let none : j - count_of x (take i xs) ≡ 0 = omega arith in
    nth_part x j i n xs here (omega arith) (λ l. omega (arith, some, count_part x i n xs))
    ∙ ap (λ (m : ℕ). i + nth x m (take n (drop i xs))) none
  where
    some : 0 < count_of x (take n (drop i xs))
    some = go (below_or_not 0 (count_of x (take n (drop i xs))))
      where
        go : (0 < count_of x (take n (drop i xs))) ⊎ (count_of x (take n (drop i xs)) ≤ 0) → 0 < count_of x (take n (drop i xs))
        go (inl l) = l
        go (inr l) = absurd (omega (arith, nth_none x 0 (take n (drop i xs)) l))
