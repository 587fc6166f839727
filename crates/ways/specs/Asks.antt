-- What a look for the byte of a step in its node asks.
use Rattle.std.specs.Prelude.{ℕ, ◌<◌, length}
use Rattle.base.specs.Lists.{count_of}
use Rattle.words.specs.declared.Step.{Step}
use Rattle.words.specs.declared.indexed_text.IndexedText.{IndexedText}
use Rattle.words.specs.Steps.{StepIn}
use Rattle.words.specs.Texts.{bytes_of_node}

-- the node is there, the step is one that looks in it, and it has more than j of the byte
pub record Asks (text : IndexedText) (x : Step) (j : ℕ) : Type 0 where
  pub there : x.node < length text.index.lengths.now
  pub is : StepIn text.index.bytes.now text.starts.now x.node x.byte x
  pub has : j < count_of x.byte (bytes_of_node text x.node)
