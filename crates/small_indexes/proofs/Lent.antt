-- The parts of the arrays that are lent. Assumes nothing.
use Prim.Native.Nat.{ℕ, ◌≤◌, ◌<◌, min}
use mathlib.Core.Path.{◌≡◌, sym, ◌∙◌}
use mathlib.Core.Logic.{◌⊎◌, inl, inr}
use mathlib.Core.List.{List}
use native.Mathlib.Omega.{arith}
use lib.ListN.{length, take, replicate}
use lib.Seq.{take_all}
use Rattle.base.proofs.Tests.{below_or_not}
use Rattle.base.specs.declared.Answer.{Answer}
use Rattle.index.specs.declared.Shape.{Shape}
use Rattle.index.specs.Arrays.{Arrays, arrays}
use Rattle.index.specs.Entries.{build_answer, build_exit}
use Rattle.small_indexes.specs.declared.LentSizes.{LentSizes}
use Rattle.small_indexes.specs.declared.SmallIndex.{SmallIndex}
use Rattle.small_indexes.specs.Lent.{lent, lent_arrays, sevens, built_index}

-- the first elements of an array, as many as it has or n where that is fewer, are the part that is lent
pub lent_least : (n count : ℕ) (xs : List ℕ) → count ≡ min n (length xs) → take count xs ≡ lent n xs
lent_least n count xs e = go (below_or_not n (length xs))
  where
    go : (n < length xs) ⊎ (length xs ≤ n) → take count xs ≡ lent n xs
    go (inl l) =
        let m : count ≡ n = omega arith in
        rw m
    go (inr g) = take_all count xs (omega arith) ∙ sym (take_all n xs g)

-- four slices are those that are lent where each is
pub four_lent : (small : SmallIndex) {ls ys us ks : List ℕ} →
    ls ≡ lent small.sizes.nodes small.lengths →
    ys ≡ lent small.sizes.bytes small.bytes →
    us ≡ lent small.sizes.superblocks small.superblocks →
    ks ≡ lent small.sizes.blocks small.blocks →
    arrays ls ys us ks ≡ lent_arrays small
four_lent small p q r s = rw (p, q, r, s)

-- what was built in arrays of nothing but 7 is the index that the contract says
pub built_is : (shape : Shape) (t : List ℕ) (sizes : LentSizes) (answer : Answer) (a : Arrays) →
    answer ≡ build_answer 128 shape t (arrays (replicate 16514 7) (replicate 20 7) (replicate 2560 7) (replicate 2560 7)) →
    a ≡ build_exit 128 shape t (arrays (replicate 16514 7) (replicate 20 7) (replicate 2560 7) (replicate 2560 7)) →
    ◌≡◌ {A = SmallIndex} (record { lengths = a.lengths; bytes = a.bytes; superblocks = a.superblocks; blocks = a.blocks; sizes = sizes; shape = shape; answer = answer })
    (built_index shape t sizes)
unfolding built_index sevens
built_is shape t sizes answer a p q = rw (p, q)
