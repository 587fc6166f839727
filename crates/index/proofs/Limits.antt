-- The tests of V, B and b hold exactly if they are not within their limits. Assumes nothing.
use Prim.Native.Nat.{ℕ, ◌*◌, ◌≤◌, ◌<◌}
use mathlib.Core.Path.{◌≡◌, sym, ◌∙◌}
use mathlib.Core.Bool.{true, false, ◌||◌, false≢true}
use mathlib.Core.Logic.{◌⊎◌, inl, inr}
use native.Mathlib.Omega.{arith}
use borrow.Author.Tests.{eq-eqb, ne_eqb, lt-ltb, le-ltb}
use lib.Dec.{eqb, ltb}
use Rattle.base.specs.Texts.{max_superblock, outside}
use Rattle.base.proofs.Tests.{below_or_not, or_false, or_left, or_right, inside_range, range_inside}
use Rattle.dense.specs.Code.{max_vocabulary}
use Rattle.index.specs.declared.Shape.{Shape}
use Rattle.index.specs.Entries.{blocks_outside}
use Rattle.index.specs.Exact.{WithinLimits}

module _ (block per : ℕ) where
  pub no_block : block ≡ 0 → blocks_outside block per ≡ true
  no_block e = or_left (eqb block 0 || eqb per 0) (ltb max_superblock (block * per)) (or_left (eqb block 0) (eqb per 0) (eq-eqb block 0 e))

  pub no_per : per ≡ 0 → blocks_outside block per ≡ true
  no_per e = or_left (eqb block 0 || eqb per 0) (ltb max_superblock (block * per)) (or_right (eqb block 0) (eqb per 0) (eq-eqb per 0 e))

  pub superblock_long : max_superblock < block * per → blocks_outside block per ≡ true
  superblock_long h = or_right (eqb block 0 || eqb per 0) (ltb max_superblock (block * per)) (lt-ltb max_superblock (block * per) h)

  pub blocks_inside : 1 ≤ block → 1 ≤ per → block * per ≤ max_superblock → blocks_outside block per ≡ false
  blocks_inside b p h =
      or_false (eqb block 0 || eqb per 0) (ltb max_superblock (block * per))
      (or_false (eqb block 0) (eqb per 0) (ne_eqb block 0 (λ e. omega arith)) (ne_eqb per 0 (λ e. omega arith)))
      (le-ltb max_superblock (block * per) h)

  pub inside_blocks : blocks_outside block per ≡ false → (1 ≤ block) × (1 ≤ per) × (block * per ≤ max_superblock)
  inside_blocks e = (some block no_block, some per no_per, most (below_or_not max_superblock (block * per)))
    where
      some : (n : ℕ) → (n ≡ 0 → blocks_outside block per ≡ true) → 1 ≤ n
      some n h = go (below_or_not 0 n)
        where
          go : (0 < n) ⊎ (n ≤ 0) → 1 ≤ n
          go (inl l) = l
          go (inr l) = absurd (false≢true (sym e ∙ h (omega arith)))

      most : (max_superblock < block * per) ⊎ (block * per ≤ max_superblock) → block * per ≤ max_superblock
      most (inl l) = absurd (false≢true (sym e ∙ superblock_long l))
      most (inr l) = l

-- V, B and b are within their limits exactly if neither test holds
module _ (s : ℕ) (shape : Shape) where
  pub limits_tested : WithinLimits s shape → (outside 1 (max_vocabulary s) shape.vocabulary ≡ false) × (blocks_outside shape.block shape.per_superblock ≡ false)
  limits_tested w = (
    inside_range 1 (max_vocabulary s) shape.vocabulary w.some_word w.most_words,
    blocks_inside shape.block shape.per_superblock w.some_byte w.some_block w.most_bytes,
  )

  pub tested_limits : outside 1 (max_vocabulary s) shape.vocabulary ≡ false → blocks_outside shape.block shape.per_superblock ≡ false → WithinLimits s shape
  tested_limits v b =
      let r : (1 ≤ shape.vocabulary) × (shape.vocabulary ≤ max_vocabulary s) = range_inside 1 (max_vocabulary s) shape.vocabulary v in
      let k : (1 ≤ shape.block) × (1 ≤ shape.per_superblock) × (shape.block * shape.per_superblock ≤ max_superblock) = inside_blocks shape.block shape.per_superblock b in
      record { some_word = r.0; most_words = r.1; some_byte = k.0; some_block = k.1; most_bytes = k.2 }
