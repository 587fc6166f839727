-- The four arrays of a text, and the text of four arrays, over the number s of closing byte values.
use Rattle.std.specs.Prelude.{ℕ, Bool, ◌&&◌, length}
use mathlib.Core.List.{List, map, flatten}
use Rattle.base.specs.Lists.{same, segments}
use Rattle.base.specs.Texts.{is_text}
use Rattle.directory.specs.Counters.{superblock_rows, block_rows}
use Rattle.tree.specs.Nodes.{nodes}
use Rattle.tree.specs.Walks.{text_of}
use Rattle.index.specs.declared.Shape.{Shape}

-- V, B and b, in the order in which they are named
abbrev pub shape_of : ℕ → ℕ → ℕ → Shape
shape_of vocabulary block per = record { vocabulary = vocabulary; block = block; per_superblock = per }

-- the four slices: the length of each node, the node bytes, the superblock rows and the block rows
pub record Arrays : Type 0 where
  pub lengths : List ℕ
  pub bytes : List ℕ
  pub superblocks : List ℕ
  pub blocks : List ℕ

-- the four slices, in the order in which a call is given them
abbrev pub arrays : List ℕ → List ℕ → List ℕ → List ℕ → Arrays
arrays ls ys us ks = record { lengths = ls; bytes = ys; superblocks = us; blocks = ks }

-- the node bytes of a text in one slice, in order of node number
unfoldable pub bytes_of : ℕ → ℕ → List ℕ → List ℕ
bytes_of s vocab t = flatten (nodes s vocab t)

-- the length of each node
unfoldable pub lengths_of : ℕ → ℕ → List ℕ → List ℕ
lengths_of s vocab t = map length (nodes s vocab t)

-- the index of a text: its node lengths, its node bytes, and one directory that covers all bytes
unfoldable pub index_of : ℕ → Shape → List ℕ → Arrays
index_of s shape t =
    arrays
    (lengths_of s shape.vocabulary t)
    (bytes_of s shape.vocabulary t)
    (superblock_rows shape.block shape.per_superblock (bytes_of s shape.vocabulary t))
    (block_rows shape.block shape.per_superblock (bytes_of s shape.vocabulary t))

-- the nodes of the arrays: each begins in the bytes where those before it end
abbrev pub nodes_in : Arrays → List (List ℕ)
nodes_in a = segments a.lengths a.bytes

-- the text of the arrays: what the walk reads from their nodes
unfoldable pub text_in : ℕ → Arrays → List ℕ
text_in s a = text_of s (nodes_in a)

-- whether two times four slices are the same
unfoldable pub same_arrays : Arrays → Arrays → Bool
same_arrays a e =
    same a.lengths e.lengths && same a.bytes e.bytes
    && same a.superblocks e.superblocks && same a.blocks e.blocks

-- whether the check passes: what is read from the arrays is a text of the vocabulary, and the arrays are its index
unfoldable pub passes : ℕ → Shape → Arrays → Bool
passes s shape a = is_text shape.vocabulary (text_in s a) && same_arrays (index_of s shape (text_in s a)) a
