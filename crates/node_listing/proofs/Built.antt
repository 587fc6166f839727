-- What the call that builds leaves in the slices of the listing: the nodes of the text. Assumes nothing.
use Prim.Native.Nat.{ℕ, suc, ◌*◌, ◌/◌, ◌≤◌}
use mathlib.Core.Path.{◌≡◌, sym, ap, ap₂, ◌∙◌}
use mathlib.Core.Bool.{false}
use mathlib.Core.List.{List}
use native.Mathlib.Omega.{arith}
use borrow.Author.Tests.{le-ltb}
use lib.ListN.{length, take, length-take}
use Rattle.base.specs.declared.Answer.{Answer}
use Rattle.base.specs.Lists.{total, segments}
use Rattle.base.specs.Answers.{front}
use Rattle.base.proofs.Tests.{or_false}
use Rattle.base.proofs.Fronts.{take_front}
use Rattle.dense.specs.Streams.{stream}
use Rattle.tree.specs.Nodes.{node_count, nodes}
use Rattle.index.specs.declared.Shape.{Shape}
use Rattle.index.specs.Arrays.{Arrays, index_of}
use Rattle.index.specs.Entries.{is_shorter, build_answer, build_exit}
use Rattle.writing.specs.Slices.{too_short}
use Rattle.index.proofs.Refusals.{build_accepted, build_filled}
use Rattle.index.proofs.Texts.{total_lengths, length_bytes, nodes_of_index, count_lengths}
use Rattle.writing.proofs.Builds.{short_is}
use Rattle.node_lines.specs.Lines.{counts_line, node_lines}
use Rattle.node_listing.specs.Listing.{vocabulary_of, listed_shape, max_stream_words, max_stream_vocabulary}
use Rattle.node_listing.proofs.Vocabulary.{below_vocabulary}
use Rattle.node_listing.proofs.Lengths.{published, within, is_text_lem, bytes_most, node_count_most}

-- the two parts of a text's listing: the line of its numbers, and the lines of its nodes
abbrev pub counts_of : List ℕ → List ℕ
counts_of t = counts_line (length t) (node_count 128 (vocabulary_of t)) (length (index_of 128 (listed_shape t) t).bytes)

abbrev pub lines_of : List ℕ → List ℕ
lines_of t = node_lines 0 (nodes 128 (vocabulary_of t) t)

-- the index of t stands in front of the slices: the number of nodes and their bytes, and the two fronts
pub record Listed (t : List ℕ) (count sum : ℕ) (lengths bytes : List ℕ) : Type 0 where
  pub counted : count ≡ node_count 128 (vocabulary_of t)
  pub summed : sum ≡ length (index_of 128 (listed_shape t) t).bytes
  pub lengths_are : take count lengths ≡ (index_of 128 (listed_shape t) t).lengths
  pub bytes_are : take sum bytes ≡ (index_of 128 (listed_shape t) t).bytes

-- slices that are long enough for every index of at most 8,192 bytes and 129 nodes
pub record Long (z : Arrays) : Type 0 where
  pub lengths : length z.lengths ≡ 129
  pub bytes : length z.bytes ≡ 8192
  pub superblocks : length z.superblocks ≡ 1280
  pub blocks : length z.blocks ≡ 8448

-- what stands in front of a slice is taken from it
front_taken : (xs z y : List ℕ) (n : ℕ) → y ≡ front xs z → n ≡ length xs → take n y ≡ xs
front_taken xs z y n e l = ap₂ take l e ∙ take_front xs z

module _ (t : List ℕ) (short : length t ≤ max_stream_words) (small : vocabulary_of t ≤ max_stream_vocabulary) where
  module _ (z : Arrays) (long : Long z) where
    room : is_shorter z (index_of 128 (listed_shape t) t) ≡ false
    unfolding too_short
    room =
        let l = length (stream 128 t) in
        let m : l ≤ 8192 = bytes_most t short small in
        sym (short_is 128 (listed_shape t) t published (within t short small) (is_text_lem t short small) z)
        ∙ or_false _ _
        (or_false _ _
        (or_false _ _
        (le-ltb (length z.lengths) (node_count 128 (vocabulary_of t)) (omega (arith, long.lengths, node_count_most t short small)))
        (le-ltb (length z.bytes) l (omega (arith, long.bytes))))
        (le-ltb (length z.superblocks) (suc (l / 2048) * 256) (omega (arith, long.superblocks))))
        (le-ltb (length z.blocks) (suc (l / 256) * 256) (omega (arith, long.blocks)))

    -- what the call with this V has built
    pub listed : (vocab : ℕ) → vocab ≡ vocabulary_of t → (r : Answer) (a : Arrays) (count : ℕ)
        → r ≡ build_answer 128 record { vocabulary = vocab; block = 256; per_superblock = 8 } t z
        → a ≡ build_exit 128 record { vocabulary = vocab; block = 256; per_superblock = 8 } t z
        → count ≡ node_count 128 vocab → Listed t count r.value a.lengths a.bytes
    listed vocab v r a count answered filled counted =
        let shape : ◌≡◌ {A = Shape} record { vocabulary = vocab; block = 256; per_superblock = 8 } (listed_shape t) = ap (λ (n : ℕ). record { vocabulary = n; block = 256; per_superblock = 8 }) v in
        let accepted = answered ∙ ap (λ (s : Shape). build_answer 128 s t z) shape ∙ build_accepted 128 (listed_shape t) t z (within t short small) (is_text_lem t short small) room in
        let fronts = filled ∙ ap (λ (s : Shape). build_exit 128 s t z) shape ∙ build_filled 128 (listed_shape t) t z (within t short small) (is_text_lem t short small) room in
        let n : count ≡ node_count 128 (vocabulary_of t) = counted ∙ ap (node_count 128) v in
        record {
          counted = n;
          summed = ap (λ (x : Answer). x.value) accepted;
          lengths_are = front_taken (index_of 128 (listed_shape t) t).lengths z.lengths a.lengths count (ap (λ (x : Arrays). x.lengths) fronts) (n ∙ sym (count_lengths 128 (listed_shape t) t));
          bytes_are = front_taken (index_of 128 (listed_shape t) t).bytes z.bytes a.bytes r.value (ap (λ (x : Arrays). x.bytes) fronts) (ap (λ (x : Answer). x.value) accepted);
        }

  module _ {count sum : ℕ} {lengths bytes : List ℕ} (is : Listed t count sum lengths bytes) where
    -- as many as were counted are there
    pub count_taken : count ≡ length (take count lengths)
    count_taken = is.counted ∙ sym (count_lengths 128 (listed_shape t) t) ∙ sym (ap length is.lengths_are)

    pub sum_taken : sum ≡ length (take sum bytes)
    sum_taken = is.summed ∙ sym (ap length is.bytes_are)

    pub sum_inside : sum ≤ length bytes
    sum_inside = omega (arith, sum_taken, length-take sum bytes)

    -- the nodes lie in the bytes
    pub nodes_inside : total (take count lengths) ≤ length (take sum bytes)
    nodes_inside =
        omega (
          arith,
          ap total is.lengths_are,
          ap length is.bytes_are,
          total_lengths 128 published (listed_shape t) (within t short small).most_words t (below_vocabulary t),
          length_bytes 128 published (listed_shape t) (within t short small).most_words t (below_vocabulary t),
        )

    -- so that what is written of them are the two parts
    pub counts_are : counts_line (length t) count sum ≡ counts_of t
    counts_are = ap₂ (counts_line (length t)) is.counted is.summed

    pub lines_are : node_lines 0 (segments (take count lengths) (take sum bytes)) ≡ lines_of t
    lines_are = ap (node_lines 0) (ap₂ segments is.lengths_are is.bytes_are ∙ nodes_of_index 128 (listed_shape t) t)
