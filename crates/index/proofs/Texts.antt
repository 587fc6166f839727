-- The index of a text is read as the text, and has as many bytes as the text's stream. Assumes nothing.
use Prim.Native.Nat.{ℕ, suc, ◌*◌, ◌/◌, ◌≤◌}
use mathlib.Core.Path.{◌≡◌, refl, sym, ap, ◌∙◌}
use mathlib.Core.Bool.{true, ◌&&◌}
use mathlib.Core.List.{List}
use native.Mathlib.Omega.{arith}
use lib.ListN.{length}
use Rattle.base.specs.Lists.{Below, range_from, same, total}
use Rattle.base.specs.Texts.{is_text}
use Rattle.base.proofs.Tests.{and_left, and_right, and_true}
use Rattle.base.proofs.Lists.{same_yes, same_true, map_map}
use Rattle.base.proofs.Ranges.{length_map_range}
use Rattle.base.proofs.Segments.{length_flatten, segments_flatten}
use Rattle.base.proofs.Texts.{text_length_lem, text_below, is_text_lem}
use Rattle.dense.specs.Code.{Closing, max_vocabulary}
use Rattle.dense.specs.Streams.{stream}
use Rattle.dense.proofs.Streams.{stream_length_lem, stream_most}
use Rattle.directory.specs.Counters.{superblock_rows, block_rows, max_bytes}
use Rattle.directory.proofs.Rows.{superblock_rows_length, block_rows_length}
use Rattle.tree.specs.Nodes.{node_count, node_bytes, nodes}
use Rattle.tree.specs.Walks.{text_of}
use Rattle.tree.proofs.Reading.{text_of_nodes}
use Rattle.tree.proofs.Visits.{total_nodes}
use Rattle.index.specs.declared.Shape.{Shape}
use Rattle.index.specs.Arrays.{Arrays, bytes_of, lengths_of, index_of, nodes_in, text_in, same_arrays}
use Rattle.index.specs.Exact.{WithinLimits, IsText}

-- the test of a text, as a fact
pub tested_text : (vocab : ℕ) (t : List ℕ) → is_text vocab t ≡ true → IsText vocab t
tested_text vocab t e = record { short = text_length_lem vocab t e; ranks = text_below vocab t e }

pub text_tested : (vocab : ℕ) (t : List ℕ) → IsText vocab t → is_text vocab t ≡ true
text_tested vocab t w = is_text_lem vocab t w.short w.ranks

-- the test of two times four slices holds exactly if they are equal
pub arrays_same : (a e : Arrays) → same_arrays a e ≡ true → a ≡ e
unfolding same_arrays
arrays_same a e h =
    let three : same a.lengths e.lengths && same a.bytes e.bytes && same a.superblocks e.superblocks ≡ true =
    and_left (same a.lengths e.lengths && same a.bytes e.bytes && same a.superblocks e.superblocks) (same a.blocks e.blocks) h in
    let two : same a.lengths e.lengths && same a.bytes e.bytes ≡ true =
    and_left (same a.lengths e.lengths && same a.bytes e.bytes) (same a.superblocks e.superblocks) three in
    let l : a.lengths ≡ e.lengths = same_true a.lengths e.lengths (and_left (same a.lengths e.lengths) (same a.bytes e.bytes) two) in
    let y : a.bytes ≡ e.bytes = same_true a.bytes e.bytes (and_right (same a.lengths e.lengths) (same a.bytes e.bytes) two) in
    let u : a.superblocks ≡ e.superblocks =
    same_true a.superblocks e.superblocks (and_right (same a.lengths e.lengths && same a.bytes e.bytes) (same a.superblocks e.superblocks) three) in
    let k : a.blocks ≡ e.blocks =
    same_true a.blocks e.blocks (and_right (same a.lengths e.lengths && same a.bytes e.bytes && same a.superblocks e.superblocks) (same a.blocks e.blocks) h) in
    λ i. record { lengths = l i; bytes = y i; superblocks = u i; blocks = k i }

pub same_arrays_lem : (a e : Arrays) → a ≡ e → same_arrays a e ≡ true
unfolding same_arrays
same_arrays_lem a e q =
    and_true _ _
    (and_true _ _
    (and_true _ _ (same_yes a.lengths e.lengths (ap (λ (x : Arrays). x.lengths) q)) (same_yes a.bytes e.bytes (ap (λ (x : Arrays). x.bytes) q)))
    (same_yes a.superblocks e.superblocks (ap (λ (x : Arrays). x.superblocks) q)))
    (same_yes a.blocks e.blocks (ap (λ (x : Arrays). x.blocks) q))

-- the nodes of the index of a text are those of the text
pub nodes_of_index : (s : ℕ) (shape : Shape) (t : List ℕ) → nodes_in (index_of s shape t) ≡ nodes s shape.vocabulary t
unfolding index_of lengths_of bytes_of
nodes_of_index s shape t = segments_flatten (nodes s shape.vocabulary t)

module _ (s : ℕ) (within : Closing s) (shape : Shape) (fits : shape.vocabulary ≤ max_vocabulary s) (t : List ℕ) (below : Below shape.vocabulary t) where
  -- it is read as the text
  pub text_of_index : text_in s (index_of s shape t) ≡ t
  unfolding text_in
  text_of_index = ap (text_of s) (nodes_of_index s shape t) ∙ text_of_nodes s within shape.vocabulary fits t below

  -- it has as many bytes as the stream of the text
  pub total_lengths : total (index_of s shape t).lengths ≡ length (stream s t)
  unfolding index_of lengths_of
  total_lengths = total_nodes s within shape.vocabulary t fits below ∙ sym (stream_length_lem s t)

  pub length_bytes : length (index_of s shape t).bytes ≡ length (stream s t)
  unfolding index_of bytes_of lengths_of
  length_bytes = length_flatten (nodes s shape.vocabulary t) ∙ total_lengths

-- ---- what the index of a text has of each

module _ (s : ℕ) (shape : Shape) (t : List ℕ) where
  -- the rows are those of its bytes
  pub index_superblocks : superblock_rows shape.block shape.per_superblock (index_of s shape t).bytes ≡ (index_of s shape t).superblocks
  unfolding index_of
  index_superblocks = refl

  pub index_blocks : block_rows shape.block shape.per_superblock (index_of s shape t).bytes ≡ (index_of s shape t).blocks
  unfolding index_of
  index_blocks = refl

  -- there is a length for each node
  pub count_lengths : length (index_of s shape t).lengths ≡ node_count s shape.vocabulary
  unfolding index_of lengths_of nodes
  count_lengths =
      ap length (map_map length (λ (k : ℕ). node_bytes s k t) (range_from 0 (node_count s shape.vocabulary)))
      ∙ length_map_range _ 0 (node_count s shape.vocabulary)

  module _ (within : Closing s) (limits : WithinLimits s shape) (text : IsText shape.vocabulary t) where
    -- there is a byte for each byte of the stream
    pub count_bytes : length (index_of s shape t).bytes ≡ length (stream s t)
    count_bytes = length_bytes s within shape limits.most_words t text.ranks

    -- of which there are at most three a word
    pub stream_short : length (stream s t) ≤ max_bytes
    stream_short = omega (arith, stream_most s t, text.short)

    -- and the rows of so many bytes
    pub count_superblocks : length (index_of s shape t).superblocks ≡ suc (length (stream s t) / (shape.block * shape.per_superblock)) * 256
    count_superblocks =
        ap length (sym index_superblocks) ∙ superblock_rows_length shape.block shape.per_superblock (index_of s shape t).bytes
        ∙ ap (λ (l : ℕ). suc (l / (shape.block * shape.per_superblock)) * 256) count_bytes

    pub count_blocks : length (index_of s shape t).blocks ≡ suc (length (stream s t) / shape.block) * 256
    count_blocks =
        ap length (sym index_blocks) ∙ block_rows_length shape.block shape.per_superblock (index_of s shape t).bytes
        ∙ ap (λ (l : ℕ). suc (l / shape.block) * 256) count_bytes
