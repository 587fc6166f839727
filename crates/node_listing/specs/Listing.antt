-- What the printing program of paper 01 prints for a stream ("The printing program and its sample"), with 128 closing values.
use Rattle.std.specs.Prelude.{ℕ, ◌+◌, max, Bool, cond, ◌||◌, List, [], ◌∷◌, ◌++◌, ltb, length}
use Rattle.base.specs.Refusals.{refusal_vocabulary, refusal_words, refusal_stream}
use Rattle.node_lines.specs.Lines.{refusal_line, counts_line, node_lines}
use Rattle.dense.specs.Streams.{is_broken, stream_text, closings}
use Rattle.tree.specs.Nodes.{node_count, nodes}
use Rattle.index.specs.declared.Shape.{Shape}
use Rattle.index.specs.Arrays.{index_of}

-- ---- V, B and b

-- the largest rank of a text; 0 where there is no word
abbrev pub largest : List ℕ → ℕ
largest [] = 0
largest (w ∷ t) = max w (largest t)

-- V, one above the largest rank: 1 for an empty stream
abbrev pub vocabulary_of : List ℕ → ℕ
vocabulary_of t = largest t + 1

-- V, B 256 and b 8
abbrev pub listed_shape : List ℕ → Shape
listed_shape t = record { vocabulary = vocabulary_of t; block = 256; per_superblock = 8 }

-- ---- what is printed

-- of a text that is indexed: the numbers, and then each node
unfoldable pub index_listing : List ℕ → List ℕ
index_listing t =
    counts_line (length t) (node_count 128 (vocabulary_of t)) (length (index_of 128 (listed_shape t) t).bytes)
    ++ node_lines 0 (nodes 128 (vocabulary_of t) t)

-- the most bytes and words of a stream, and the largest V
abbrev pub max_stream : ℕ
max_stream = 8192

abbrev pub max_stream_words : ℕ
max_stream_words = 4096

abbrev pub max_stream_vocabulary : ℕ
max_stream_vocabulary = 16512

-- of a text: refusal 1 if V is too large
unfoldable pub text_listing : List ℕ → List ℕ
text_listing t = cond (ltb max_stream_vocabulary (vocabulary_of t)) (refusal_line refusal_vocabulary) (index_listing t)

-- whether a stream has too many bytes or words; bytes 80 to FF are counted
abbrev pub is_long : List ℕ → Bool
is_long stream = ltb max_stream (length stream) || ltb max_stream_words (closings 128 stream)

-- of a stream, the program's whole output: refusal 2 if it is too long, then refusal 15 if it is broken, then what is printed of its text
unfoldable pub listing : List ℕ → List ℕ
listing stream =
    cond (is_long stream) (refusal_line refusal_words)
    (cond (is_broken 128 stream) (refusal_line refusal_stream)
    (text_listing (stream_text 128 stream)))
