-- The text behind an index that has passed the check.
use Rattle.std.specs.Prelude.{ℕ, List}
use Rattle.index.specs.Arrays.{text_in}
use Rattle.index.specs.Lent.{slices_of}
use Rattle.words.specs.Ready.{node_from}
use Rattle.words.specs.declared.indexed_text.IndexedText.{IndexedText}

-- its words
abbrev pub text_of : IndexedText → List ℕ
text_of x = text_in x.index.s (slices_of x.index)

-- the size of its vocabulary
abbrev pub vocabulary_of : IndexedText → ℕ
vocabulary_of x = x.index.shape.vocabulary

-- the bytes of its node k
abbrev pub bytes_of_node : IndexedText → ℕ → List ℕ
bytes_of_node x k = node_from x.index.bytes.now x.starts.now k
