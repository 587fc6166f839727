-- How long a listing is at most. Assumes nothing.
use Prim.Native.Nat.{ℕ, ◌*◌, ◌≤◌, ◌<◌}
use mathlib.Core.Path.{◌≡◌, refl, sym, ◌∙◌}
use mathlib.Core.Bool.{Bool, true, false}
use mathlib.Core.List.{List, [], ◌∷◌, map}
use mathlib.Core.Logic.{◌⊎◌, inl, inr}
use native.Mathlib.Omega.{arith}
use borrow.Author.Tests.{lt-ltb, le-ltb, ltb-false}
use lib.Dec.{ltb}
use lib.ListN.{length, length-append}
use Rattle.base.specs.Lists.{Below, total, range_from}
use Rattle.base.proofs.Lists.{below_weaken}
use Rattle.base.proofs.Tests.{below_or_not, or_neither}
use Rattle.base.proofs.Ranges.{length_map_range}
use Rattle.node_lines.proofs.Lengths.{head_length, refusal_length, counts_length, lines_length, heads_most}
use Rattle.dense.specs.Code.{Closing}
use Rattle.dense.specs.Laws.{code_length}
use Rattle.dense.specs.Streams.{stream, is_broken, stream_text, closings}
use Rattle.dense.proofs.Streams.{stream_length_lem, closings_whole, length_stream_text}
use Rattle.tree.specs.Nodes.{node_count, node_bytes, nodes}
use Rattle.index.specs.Arrays.{index_of, lengths_of}
use Rattle.index.specs.Exact.{WithinLimits, IsText}
use Rattle.index.proofs.Texts.{total_lengths, length_bytes}
use Rattle.node_lines.specs.Lines.{counts_line, node_lines}
use Rattle.node_listing.specs.Listing.{vocabulary_of, listed_shape, index_listing, max_stream, max_stream_words, max_stream_vocabulary, text_listing, is_long, listing}
use Rattle.node_listing.specs.Calls.{max_listing, ListingFits}
use Rattle.node_listing.proofs.Vocabulary.{below_vocabulary}
use Rattle.node_listing.proofs.Refusals.{text_refused, text_listed, is_long_lem, is_broken_lem, is_whole}

-- the published code
pub published : Closing 128
published = record { least = omega arith; most = omega arith }

-- a rank below 16,512 has a codeword of at most two bytes
two_bytes : (w : ℕ) → w < max_stream_vocabulary → code_length 128 w ≤ 2
two_bytes w h = go (below_or_not w 128)
  where
    go : (w < 128) ⊎ (128 ≤ w) → code_length 128 w ≤ 2
    go (inl l) = rw (lt-ltb w 128 l) (omega arith)
    go (inr l) = rw (le-ltb w 128 l, lt-ltb w 16512 h) (omega arith)

two_most : (t : List ℕ) → Below max_stream_vocabulary t → total (map (code_length 128) t) ≤ 2 * length t
two_most [] h = omega arith
two_most (w ∷ t) h = omega (arith, two_bytes w h.0, two_most t h.1)

module _ (t : List ℕ) (short : length t ≤ max_stream_words) (small : vocabulary_of t ≤ max_stream_vocabulary) where
  -- V, B and b are within their limits
  pub within : WithinLimits 128 (listed_shape t)
  within = record { some_word = omega arith; most_words = omega arith; some_byte = omega arith; some_block = omega arith; most_bytes = omega arith }

  -- the ranks are a text of the vocabulary
  pub is_text_lem : IsText (vocabulary_of t) t
  is_text_lem = record { short = omega arith; ranks = below_vocabulary t }

  -- there are at most 8,192 bytes, and 129 nodes
  pub bytes_most : length (stream 128 t) ≤ max_stream
  bytes_most = omega (arith, stream_length_lem 128 t, two_most t (below_weaken (vocabulary_of t) max_stream_vocabulary t small (below_vocabulary t)))

  pub node_count_most : node_count 128 (vocabulary_of t) ≤ 129
  node_count_most = omega arith

  pub nodes_count : length (nodes 128 (vocabulary_of t) t) ≡ node_count 128 (vocabulary_of t)
  unfolding nodes
  nodes_count = length_map_range (λ (k : ℕ). node_bytes 128 k t) 0 (node_count 128 (vocabulary_of t))

  nodes_total : total (map length (nodes 128 (vocabulary_of t) t)) ≡ length (stream 128 t)
  unfolding index_of lengths_of
  nodes_total = total_lengths 128 published (listed_shape t) within.most_words t (below_vocabulary t)

  -- so the listing has a most
  pub index_length : length (index_listing t) ≤ max_listing
  unfolding index_listing
  index_length =
      let l : length (index_of 128 (listed_shape t) t).bytes ≡ length (stream 128 t) = length_bytes 128 published (listed_shape t) within.most_words t (below_vocabulary t) in
      let line = counts_line (length t) (node_count 128 (vocabulary_of t)) (length (index_of 128 (listed_shape t) t).bytes) in
      let ns = nodes 128 (vocabulary_of t) t in
      let heads : total (map head_length (range_from 0 (length ns))) ≤ 1180 = heads_most (length ns) (omega (arith, nodes_count, node_count_most)) in
      omega (
        arith,
        length-append line (node_lines 0 ns),
        counts_length (length t) (node_count 128 (vocabulary_of t)) (length (index_of 128 (listed_shape t) t).bytes) short node_count_most (omega (arith, bytes_most)),
        lines_length 0 ns,
        nodes_total,
        bytes_most,
      )

-- of a text of at most 4,096 words
pub text_length_lem : (t : List ℕ) → length t ≤ max_stream_words → length (text_listing t) ≤ max_listing
text_length_lem t short = go (below_or_not max_stream_vocabulary (vocabulary_of t))
  where
    go : (max_stream_vocabulary < vocabulary_of t) ⊎ (vocabulary_of t ≤ max_stream_vocabulary) → length (text_listing t) ≤ max_listing
    go (inl l) = rw (text_refused t l) (omega (arith, refusal_length 1 (omega arith)))
    go (inr l) = rw (text_listed t l) (index_length t short l)

-- a stream that is not broken has as many words as closing bytes
pub words_counted : (bytes : List ℕ) → Below 256 bytes → is_broken 128 bytes ≡ false → length (stream_text 128 bytes) ≡ closings 128 bytes
words_counted bytes b e = length_stream_text 128 bytes ∙ sym (closings_whole 128 bytes b e)

-- of every stream
pub listing_fits : ListingFits
listing_fits stream b = go (is_long stream) refl (is_broken 128 stream) refl
  where
    go : (long : Bool) → is_long stream ≡ long → (broken : Bool) → is_broken 128 stream ≡ broken → length (listing stream) ≤ max_listing
    go true p broken q = rw (is_long_lem stream p) (omega (arith, refusal_length 2 (omega arith)))
    go false p true q = rw (is_broken_lem stream p q) (omega (arith, refusal_length 15 (omega arith)))
    go false p false q =
        let w : length (stream_text 128 stream) ≤ max_stream_words =
        omega (arith, words_counted stream b q, ltb-false max_stream_words (closings 128 stream) (or_neither (ltb max_stream (length stream)) (ltb max_stream_words (closings 128 stream)) p).1) in
        rw (is_whole stream p q) (text_length_lem (stream_text 128 stream) w)
