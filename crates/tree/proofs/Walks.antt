-- Laws of the walk and of the rank that it reads, step by step. Assumes nothing.
use Prim.Native.Nat.{ℕ, zero, suc, ◌≤◌, ◌<◌}
use mathlib.Core.Path.{◌≡◌, ap}
use mathlib.Core.Bool.{Bool, true, false, cond}
use mathlib.Core.List.{List, [], ◌∷◌, get_last_d}
use native.Mathlib.Omega.{arith}
use lib.ListN.{length, take}
use Rattle.base.specs.Lists.{count_of}
use Rattle.dense.specs.Code.{continuing, closes}
use Rattle.tree.specs.Nodes.{child, rank_in}
use Rattle.tree.specs.Walks.{node, byte, walk, rank_from, word_at}
use Rattle.base.proofs.Tests.{cond_most, cond_above}

-- the walk at a closing byte, and at a continuing one
pub walk_closing : (s : ℕ) (ns : List (List ℕ)) (n k i b : ℕ) → byte ns k i ≡ b → continuing s ≤ b → walk s ns (suc n) k i ≡ b ∷ []
walk_closing s ns n k i b q h = rw q (ap (λ (w : List ℕ). b ∷ w) (cond_most [] _ (continuing s) b h))

pub walk_continued : (s : ℕ) (ns : List (List ℕ)) (n k i b : ℕ) → byte ns k i ≡ b → b < continuing s
    → walk s ns (suc n) k i ≡ b ∷ walk s ns n (child s k b) (count_of b (take i (node ns k)))
walk_continued s ns n k i b q h = rw q (ap (λ (w : List ℕ). b ∷ w) (cond_above [] _ (continuing s) b h))

-- a walk meets at most one byte a level
pub walk_length : (s : ℕ) (ns : List (List ℕ)) (n k i : ℕ) → length (walk s ns n k i) ≤ n
walk_length s ns zero k i = omega arith
walk_length s ns (suc n) k i = go (closes s (byte ns k i)) (walk_length s ns n (child s k (byte ns k i)) (count_of (byte ns k i) (take i (node ns k))))
  where
    w : List ℕ
    w = walk s ns n (child s k (byte ns k i)) (count_of (byte ns k i) (take i (node ns k)))

    go : (t : Bool) → length w ≤ n → suc (length (cond t [] w)) ≤ suc n
    go true ih = omega arith
    go false ih = omega arith

-- ---- the rank that is read

-- at a closing byte, and at a continuing byte above the last level
pub word_closing : (s : ℕ) (ns : List (List ℕ)) (n k i b : ℕ) → byte ns k i ≡ b → continuing s ≤ b → word_at s ns (suc n) k i ≡ rank_in s k b
unfolding get_last_d
word_closing s ns n k i b q h = ap (rank_from s k) (walk_closing s ns n k i b q h)

pub word_continued : (s : ℕ) (ns : List (List ℕ)) (n k i b : ℕ) → byte ns k i ≡ b → b < continuing s
    → word_at s ns (suc (suc n)) k i ≡ word_at s ns (suc n) (child s k b) (count_of b (take i (node ns k)))
unfolding get_last_d
word_continued s ns n k i b q h = ap (rank_from s k) (walk_continued s ns (suc n) k i b q h)
