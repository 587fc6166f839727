-- Small indexes: the parameters and sizes they are made of, the index that is built, and the parts of its arrays that a call is lent.
use Rattle.std.specs.Prelude.{ℕ, List, take, replicate}
use Rattle.index.specs.declared.Shape.{Shape}
use Rattle.index.specs.Arrays.{Arrays, arrays}
use Rattle.index.specs.Entries.{build_answer, build_exit}
use Rattle.small_indexes.specs.declared.LentSizes.{LentSizes}
use Rattle.small_indexes.specs.declared.SmallIndex.{SmallIndex}

-- the part of an array that is lent: its first n elements, or all where it has fewer
abbrev pub lent : ℕ → List ℕ → List ℕ
lent n xs = take n xs

-- how many elements of each array are lent
abbrev pub lent_sizes : ℕ → ℕ → ℕ → ℕ → LentSizes
lent_sizes nodes bytes superblocks blocks = record { nodes = nodes; bytes = bytes; superblocks = superblocks; blocks = blocks }

-- the four arrays that a call is lent
abbrev pub lent_arrays : SmallIndex → Arrays
lent_arrays small =
    arrays
    (lent small.sizes.nodes small.lengths)
    (lent small.sizes.bytes small.bytes)
    (lent small.sizes.superblocks small.superblocks)
    (lent small.sizes.blocks small.blocks)

-- the arrays in which an index is built: there is room for 16,514 nodes, 20 bytes, and ten rows of counters of each kind, and all hold 7
unfoldable pub sevens : Arrays
sevens = arrays (replicate 16514 7) (replicate 20 7) (replicate 2560 7) (replicate 2560 7)

-- a small index with these arrays: its answer is that of building
unfoldable pub built_index : Shape → List ℕ → LentSizes → SmallIndex
built_index shape t sizes =
    record {
      lengths = (build_exit 128 shape t sevens).lengths;
      bytes = (build_exit 128 shape t sevens).bytes;
      superblocks = (build_exit 128 shape t sevens).superblocks;
      blocks = (build_exit 128 shape t sevens).blocks;
      sizes = sizes;
      shape = shape;
      answer = build_answer 128 shape t sevens;
    }

-- the same arrays, sizes and answer with another V, B and b
abbrev pub reshaped : Shape → SmallIndex → SmallIndex
reshaped shape small =
    record {
      lengths = small.lengths;
      bytes = small.bytes;
      superblocks = small.superblocks;
      blocks = small.blocks;
      sizes = small.sizes;
      shape = shape;
      answer = small.answer;
    }

-- the same arrays, V, B, b and answer in other sizes
abbrev pub resized : LentSizes → SmallIndex → SmallIndex
resized sizes small =
    record {
      lengths = small.lengths;
      bytes = small.bytes;
      superblocks = small.superblocks;
      blocks = small.blocks;
      sizes = sizes;
      shape = small.shape;
      answer = small.answer;
    }
