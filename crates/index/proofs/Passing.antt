-- The check passes exactly the arrays that some text has as its index, and those are the ones whose lengths make up the bytes, whose nodes
-- are good, whose root is no longer than a text, and whose counters are those of the bytes. Assumes nothing.
use Prim.Native.Nat.{ℕ, ◌≤◌}
use mathlib.Core.Path.{◌≡◌, refl, sym, ap, ◌∙◌, subst}
use mathlib.Core.Bool.{true}
use mathlib.Core.List.{List, map, flatten}
use native.Mathlib.Omega.{arith}
use lib.ListN.{length, get_or}
use Rattle.base.specs.Lists.{total}
use Rattle.base.specs.Texts.{max_words, is_text}
use Rattle.base.proofs.Tests.{and_left, and_right, and_true}
use Rattle.base.proofs.Segments.{length_flatten, flatten_segments, length_segments, count_segments, segment_length}
use Rattle.dense.specs.Code.{Closing, max_vocabulary}
use Rattle.dense.proofs.Streams.{stream_most}
use Rattle.directory.specs.Counters.{superblock_rows, block_rows, max_bytes, is_directory}
use Rattle.directory.proofs.Rows.{is_directory_lem}
use Rattle.tree.specs.Nodes.{node_count, nodes}
use Rattle.tree.specs.Walks.{node, text_of, Good}
use Rattle.tree.proofs.Reading.{nodes_good, text_of_nodes}
use Rattle.tree.proofs.Passing.{text_below, nodes_of_text}
use Rattle.tree.proofs.Words.{length_of_text}
use Rattle.index.specs.declared.Shape.{Shape}
use Rattle.index.specs.Arrays.{Arrays, bytes_of, lengths_of, index_of, nodes_in, text_in, passes, same_arrays}
use Rattle.index.specs.Exact.{IsText, HasIndex}
use Rattle.index.proofs.Texts.{tested_text, text_tested, arrays_same, same_arrays_lem, nodes_of_index, text_of_index, length_bytes}

-- what can be tested of the arrays without reading their text
pub record Tested (s : ℕ) (shape : Shape) (a : Arrays) : Type 0 where
  -- the lengths make up the bytes
  pub whole : total a.lengths ≡ length a.bytes
  -- the nodes are good
  pub good : Good s shape.vocabulary (nodes_in a)
  -- the root is no longer than a text
  pub short : length (node (nodes_in a) 0) ≤ max_words
  -- the counters are those of the bytes
  pub superblocks_are : a.superblocks ≡ superblock_rows shape.block shape.per_superblock a.bytes
  pub blocks_are : a.blocks ≡ block_rows shape.block shape.per_superblock a.bytes

module _ (s : ℕ) (within : Closing s) (shape : Shape) (fits : shape.vocabulary ≤ max_vocabulary s) where
  -- a text that has the arrays as its index is the one that they are read as
  pub index_text : (t : List ℕ) (a : Arrays) → HasIndex s shape t a → text_in s a ≡ t
  index_text t a h = ap (text_in s) (sym h.index) ∙ text_of_index s within shape fits t h.text.ranks

  -- the check passes exactly if some text has the arrays
  pub passes_text : (a : Arrays) → passes s shape a ≡ true → HasIndex s shape (text_in s a) a
  unfolding passes
  passes_text a e = record {
    text = tested_text shape.vocabulary (text_in s a) (and_left (is_text shape.vocabulary (text_in s a)) (same_arrays (index_of s shape (text_in s a)) a) e);
    index = arrays_same (index_of s shape (text_in s a)) a (and_right (is_text shape.vocabulary (text_in s a)) (same_arrays (index_of s shape (text_in s a)) a) e);
  }

  pub text_passes : (t : List ℕ) (a : Arrays) → HasIndex s shape t a → passes s shape a ≡ true
  unfolding passes
  text_passes t a h =
      rw (index_text t a h)
      (and_true (is_text shape.vocabulary t) (same_arrays (index_of s shape t) a) (text_tested shape.vocabulary t h.text) (same_arrays_lem (index_of s shape t) a h.index))

  -- the index of a text has what is tested
  index_tested : (t : List ℕ) → IsText shape.vocabulary t → Tested s shape (index_of s shape t)
  unfolding index_of lengths_of bytes_of
  index_tested t w = record {
    whole = sym (length_flatten (nodes s shape.vocabulary t));
    good = rw (nodes_of_index s shape t) (nodes_good s within shape.vocabulary fits t w.ranks);
    short = rw (nodes_of_index s shape t) (root (length_of_text s within shape.vocabulary fits (nodes s shape.vocabulary t) (nodes_good s within shape.vocabulary fits t w.ranks)));
    superblocks_are = refl;
    blocks_are = refl;
  }
    where
      root : length (text_of s (nodes s shape.vocabulary t)) ≡ length (node (nodes s shape.vocabulary t) 0) → length (node (nodes s shape.vocabulary t) 0) ≤ max_words
      root e = omega (arith, w.short, ap length (text_of_nodes s within shape.vocabulary fits t w.ranks))

  -- so the arrays of a text have what is tested
  pub text_tests : (t : List ℕ) (a : Arrays) → HasIndex s shape t a → Tested s shape a
  text_tests t a h = subst (Tested s shape) h.index (index_tested t h.text)

  -- and arrays that have it are those of the text that they are read as
  pub tests_text : (a : Arrays) → Tested s shape a → HasIndex s shape (text_in s a) a
  unfolding text_in index_of lengths_of bytes_of
  tests_text a w = record { text = record { short = omega (arith, w.short, length_of_text s within v fits ns w.good); ranks = text_below s within v fits ns w.good }; index = index }
    where
      v : ℕ
      v = shape.vocabulary

      ns : List (List ℕ)
      ns = nodes_in a

      again : nodes s v (text_of s ns) ≡ ns
      again = nodes_of_text s within v fits ns w.good

      lengths : map length (nodes s v (text_of s ns)) ≡ a.lengths
      lengths = ap (map length) again ∙ length_segments a.lengths a.bytes (omega (arith, w.whole))

      bytes : flatten (nodes s v (text_of s ns)) ≡ a.bytes
      bytes = ap flatten again ∙ flatten_segments a.lengths a.bytes w.whole

      index : index_of s shape (text_of s ns) ≡ a
      index = λ i. record {
        lengths = lengths i;
        bytes = bytes i;
        superblocks = (ap (superblock_rows shape.block shape.per_superblock) bytes ∙ sym w.superblocks_are) i;
        blocks = (ap (block_rows shape.block shape.per_superblock) bytes ∙ sym w.blocks_are) i;
      }

  -- so the check passes exactly the arrays that have it
  pub passes_tests : (a : Arrays) → passes s shape a ≡ true → Tested s shape a
  passes_tests a e = text_tests (text_in s a) a (passes_text a e)

  pub tests_passes : (a : Arrays) → Tested s shape a → passes s shape a ≡ true
  tests_passes a w = text_passes (text_in s a) a (tests_text a w)

  -- arrays that pass have each of what is tested
  module _ (a : Arrays) (e : passes s shape a ≡ true) where
    tested : Tested s shape a
    tested = passes_tests a e

    pub passes_number : length a.lengths ≡ node_count s shape.vocabulary
    passes_number = sym (count_segments a.lengths a.bytes) ∙ tested.good.number

    pub passes_whole : total a.lengths ≡ length a.bytes
    passes_whole = tested.whole

    pub passes_bytes : length a.bytes ≤ max_bytes
    passes_bytes =
        let h : HasIndex s shape (text_in s a) a = passes_text a e in
        omega (arith, ap (λ (x : Arrays). length x.bytes) h.index, length_bytes s within shape fits (text_in s a) h.text.ranks, stream_most s (text_in s a), h.text.short)

    pub passes_root : get_or a.lengths 0 0 ≤ max_words
    passes_root = omega (arith, tested.short, segment_length a.lengths a.bytes 0 (omega (arith, tested.whole)), tested.whole)

    pub passes_directory : is_directory shape.block shape.per_superblock a.bytes a.superblocks a.blocks ≡ true
    passes_directory = is_directory_lem shape.block shape.per_superblock a.bytes a.superblocks a.blocks record { superblocks_are = tested.superblocks_are; blocks_are = tested.blocks_are }
