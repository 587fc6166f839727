-- What building asks of the lent slices, and what it leaves in them.
use Rattle.std.specs.Prelude.{ℕ, suc, ◌*◌, ◌/◌, ◌≡◌, Bool, false, ◌||◌, List, ltb, length}
use Rattle.base.specs.Answers.{front}
use Rattle.dense.specs.Code.{Closing}
use Rattle.tree.specs.Nodes.{node_count}
use Rattle.index.specs.declared.Shape.{Shape}
use Rattle.index.specs.Arrays.{Arrays, arrays, index_of}
use Rattle.index.specs.Entries.{is_shorter}
use Rattle.index.specs.Exact.{WithinLimits, IsText}

-- whether one of the slices z is too short for an index of l bytes
unfoldable pub too_short : ℕ → Shape → ℕ → Arrays → Bool
too_short s shape l z =
    ltb (length z.lengths) (node_count s shape.vocabulary) || ltb (length z.bytes) l
    || ltb (length z.superblocks) (suc (l / (shape.block * shape.per_superblock)) * 256)
    || ltb (length z.blocks) (suc (l / shape.block) * 256)

-- V, B and b are within their limits, t is a text of the vocabulary, and the slices z have room for its index
pub record Buildable (s : ℕ) (shape : Shape) (t : List ℕ) (z : Arrays) : Type 0 where
  pub closing : Closing s
  pub limits : WithinLimits s shape
  pub text : IsText shape.vocabulary t
  pub room : is_shorter z (index_of s shape t) ≡ false

-- what the slices z hold after the arrays a were written to their fronts: the elements past them stay
abbrev pub fronts : Arrays → Arrays → Arrays
fronts a z = arrays (front a.lengths z.lengths) (front a.bytes z.bytes) (front a.superblocks z.superblocks) (front a.blocks z.blocks)
