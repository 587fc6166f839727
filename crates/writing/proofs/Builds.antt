-- What an accepted call writes, and what the slices need room for. Assumes nothing.
use Prim.Native.Nat.{ℕ, ◌≤◌, ◌<◌}
use mathlib.Core.Path.{◌≡◌, refl, sym, ap, ap₂, ◌∙◌}
use mathlib.Core.List.{List, ◌++◌, flatten}
use native.Mathlib.Omega.{arith}
use lib.ListN.{length, take, drop, length-append}
use lib.Seq.{take_at, length-take-le}
use Rattle.base.specs.declared.Answer.{Answer}
use Rattle.base.specs.Lists.{range_from, total}
use Rattle.base.specs.Answers.{accepted, front}
use Rattle.base.proofs.Lists.{all_imp, below_weaken, map_map}
use Rattle.dense.specs.Code.{Closing, max_vocabulary}
use Rattle.dense.specs.Streams.{stream}
use Rattle.directory.specs.Counters.{superblock_rows, block_rows, Sizes}
use Rattle.tree.specs.Nodes.{node_count, node_of, node_bytes, nodes}
use Rattle.tree.proofs.Numbers.{node_of_below, nodes_most}
use Rattle.index.specs.declared.Shape.{Shape}
use Rattle.index.specs.Arrays.{Arrays, arrays, bytes_of, lengths_of, index_of}
use Rattle.index.specs.Entries.{is_shorter, build_answer, build_exit}
use Rattle.index.specs.Exact.{WithinLimits, IsText}
use Rattle.filling.specs.Filling.{first_nodes, node_lengths, InNodes}
use Rattle.writing.specs.Slices.{too_short, Buildable, fronts}
use Rattle.index.proofs.Texts.{total_lengths, length_bytes, index_superblocks, index_blocks, count_lengths, count_bytes, stream_short, count_superblocks, count_blocks}
use Rattle.index.proofs.Refusals.{room_each, build_accepted, build_filled}

module _ (s : ℕ) (shape : Shape) (t : List ℕ) (z : Arrays) where
  -- an accepted call returns the number of bytes and has the index in front
  pub build_done : Buildable s shape t z → (r : Answer) (a : Arrays) → r ≡ accepted (length (stream s t)) → a ≡ fronts (index_of s shape t) z
      → (r ≡ build_answer s shape t z) × (a ≡ build_exit s shape t z)
  build_done b r a q e = (
    q ∙ sym (build_accepted s shape t z b.limits b.text b.room ∙ ap accepted (length_bytes s b.closing shape b.limits.most_words t b.text.ranks)),
    e ∙ sym (build_filled s shape t z b.limits b.text b.room),
  )

-- ---- what the index of a text has of each

module _ (s : ℕ) (shape : Shape) (t : List ℕ) where
  -- the lengths of the nodes are those of the index
  pub index_lengths : node_lengths s (node_count s shape.vocabulary) t ≡ (index_of s shape t).lengths
  unfolding node_lengths index_of lengths_of nodes
  index_lengths = sym (map_map length (λ (k : ℕ). node_bytes s k t) (range_from 0 (node_count s shape.vocabulary)))

  -- and so are the nodes, laid end to end
  pub index_bytes : flatten (first_nodes s (node_count s shape.vocabulary) t) ≡ (index_of s shape t).bytes
  unfolding first_nodes index_of bytes_of nodes
  index_bytes = refl

  module _ (within : Closing s) (limits : WithinLimits s shape) (text : IsText shape.vocabulary t) where
    -- the slices are too short for the index exactly if they are for so many bytes
    pub short_is : (z : Arrays) → too_short s shape (length (stream s t)) z ≡ is_shorter z (index_of s shape t)
    unfolding too_short is_shorter
    short_is z = rw (count_lengths s shape t, count_bytes s shape t within limits text, count_superblocks s shape t within limits text, count_blocks s shape t within limits text)

    -- the nodes hold the text
    pub in_nodes : InNodes s (node_count s shape.vocabulary) t
    in_nodes = record {
      closing = within;
      number = nodes_most s within shape.vocabulary limits.most_words;
      codes = below_weaken shape.vocabulary (max_vocabulary s) t limits.most_words text.ranks;
      ends = all_imp (λ (i : ℕ). i < shape.vocabulary) (λ (i : ℕ). node_of s i < node_count s shape.vocabulary) (node_of_below s within shape.vocabulary) t text.ranks;
      most = omega (arith, ap total index_lengths, total_lengths s within shape limits.most_words t text.ranks, stream_short s shape t within limits text);
    }

    -- and have as many bytes as its stream
    pub nodes_total : total (node_lengths s (node_count s shape.vocabulary) t) ≡ length (stream s t)
    nodes_total = ap total index_lengths ∙ total_lengths s within shape limits.most_words t text.ranks

-- ---- room

-- what is written to the first n elements of a slice, all else staying, is written to its front
front_here : (xs ys slice : List ℕ) (n : ℕ) → xs ≡ ys → n ≡ length ys → xs ++ drop n slice ≡ front ys slice
unfolding front
front_here xs ys slice n e l = ap₂ (λ (a : List ℕ) (m : ℕ). a ++ drop m slice) e l

-- the first n lengths and the first l bytes are lent for the nodes
module _ {s : ℕ} {shape : Shape} {t : List ℕ} {z : Arrays} (b : Buildable s shape t z) (n l : ℕ) (n-is : n ≡ node_count s shape.vocabulary) (l-is : l ≡ length (stream s t)) where
  -- the lent slices have so many elements
  pub lengths_room : n ≤ length z.lengths
  lengths_room = omega (arith, (room_each z (index_of s shape t) b.room).0, count_lengths s shape t)

  pub bytes_room : l ≤ length z.bytes
  bytes_room = omega (arith, (room_each z (index_of s shape t) b.room).1, count_bytes s shape t b.closing b.limits b.text)

  -- as many lengths are lent as there are nodes
  lent : length (take n z.lengths) ≡ node_count s shape.vocabulary
  lent = length-take-le n z.lengths lengths_room ∙ n-is

  -- they fit the nodes
  pub nodes_fit : InNodes s (length (take n z.lengths)) t × (total (node_lengths s (length (take n z.lengths)) t) ≡ length (take l z.bytes))
  nodes_fit = (
    rw lent (in_nodes s shape t b.closing b.limits b.text),
    rw (lent, length-take-le l z.bytes bytes_room, l-is) (nodes_total s shape t b.closing b.limits b.text),
  )

  -- and hold ls and bs after the nodes were written
  module _ (ls bs : List ℕ) (ls-is : ls ≡ node_lengths s (length (take n z.lengths)) t) (bs-is : bs ≡ flatten (first_nodes s (length (take n z.lengths)) t)) where
    -- the bytes written are those of the index
    bytes-written : bs ≡ (index_of s shape t).bytes
    bytes-written = bs-is ∙ ap (λ (m : ℕ). flatten (first_nodes s m t)) lent ∙ index_bytes s shape t

    size-written : length bs ≡ l
    size-written = ap length bytes-written ∙ count_bytes s shape t b.closing b.limits b.text ∙ sym l-is

    -- the counters are those of the first l bytes
    pub first_bytes_lem : take l (bs ++ drop l z.bytes) ≡ (index_of s shape t).bytes
    first_bytes_lem = take_at bs (drop l z.bytes) l size-written ∙ bytes-written

    -- of which there are l
    pub first_room : l ≤ length (bs ++ drop l z.bytes)
    first_room = omega (arith, length-append bs (drop l z.bytes), size-written)

    pub first_size : l ≡ length (take l (bs ++ drop l z.bytes))
    first_size = sym (length-take-le l (bs ++ drop l z.bytes) first_room)

    -- for which there is room
    pub counters_fit : Sizes shape.block shape.per_superblock (take l (bs ++ drop l z.bytes))
        × (length (superblock_rows shape.block shape.per_superblock (take l (bs ++ drop l z.bytes))) ≤ length z.superblocks)
        × (length (block_rows shape.block shape.per_superblock (take l (bs ++ drop l z.bytes))) ≤ length z.blocks)
    counters_fit = rw first_bytes_lem (
      record {
        block_some = b.limits.some_byte;
        per_some = b.limits.some_block;
        superblock_most = b.limits.most_bytes;
        bytes_most = omega (arith, count_bytes s shape t b.closing b.limits b.text, stream_short s shape t b.closing b.limits b.text);
      },
      rw (index_superblocks s shape t) (room_each z (index_of s shape t) b.room).2,
      rw (index_blocks s shape t) (room_each z (index_of s shape t) b.room).3,
    )

    -- with them the index stands in front
    pub index_written : (us ks : List ℕ)
        → us ≡ front (superblock_rows shape.block shape.per_superblock (take l (bs ++ drop l z.bytes))) z.superblocks
        → ks ≡ front (block_rows shape.block shape.per_superblock (take l (bs ++ drop l z.bytes))) z.blocks
        → arrays (ls ++ drop n z.lengths) (bs ++ drop l z.bytes) us ks ≡ fronts (index_of s shape t) z
    index_written us ks p q = λ i. record { lengths = ends i; bytes = middle i; superblocks = rows i; blocks = cells i }
      where
        ends : ls ++ drop n z.lengths ≡ front (index_of s shape t).lengths z.lengths
        ends = front_here ls (index_of s shape t).lengths z.lengths n (ls-is ∙ ap (λ (m : ℕ). node_lengths s m t) lent ∙ index_lengths s shape t) (n-is ∙ sym (count_lengths s shape t))

        middle : bs ++ drop l z.bytes ≡ front (index_of s shape t).bytes z.bytes
        middle = front_here bs (index_of s shape t).bytes z.bytes l bytes-written (sym size-written ∙ ap length bytes-written)

        rows : us ≡ front (index_of s shape t).superblocks z.superblocks
        rows = p ∙ ap (λ (xs : List ℕ). front xs z.superblocks) (ap (superblock_rows shape.block shape.per_superblock) first_bytes_lem ∙ index_superblocks s shape t)

        cells : ks ≡ front (index_of s shape t).blocks z.blocks
        cells = q ∙ ap (λ (xs : List ℕ). front xs z.blocks) (ap (block_rows shape.block shape.per_superblock) first_bytes_lem ∙ index_blocks s shape t)
