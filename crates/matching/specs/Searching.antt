-- What the tests of this crate require, over the text of arrays that have passed the check.
use Rattle.std.specs.Prelude.{ℕ, ℤ, ◌≤◌, ◌≡◌, List, map, length}
use Rattle.base.specs.Lists.{Below}
use Rattle.base.specs.Texts.{max_phrase}
use Rattle.dense.specs.Code.{code}
use Rattle.tree.specs.Nodes.{first_byte}
use Rattle.index.specs.declared.Shape.{Shape}
use Rattle.index.specs.Arrays.{Arrays}
use Rattle.words.specs.Ready.{Ready}
use Rattle.matching.specs.declared.Sought.{Sought}
use Rattle.matching.specs.declared.Sought.TheVariants.{Phrase, Pair}

-- the first byte of the codeword of each word
abbrev pub first_bytes : ℕ → List ℕ → List ℕ
first_bytes s ws = map (λ w. first_byte (code s w)) ws

-- the arrays have passed the check, the table has their node starts, and there are 1 to 16 words of the vocabulary
pub record Searchable (s : ℕ) (shape : Shape) (a : Arrays) (starts words : List ℕ) : Type 0 where
  pub ready : Ready s shape a starts
  pub some : 1 ≤ length words
  pub most : length words ≤ max_phrase
  pub below : Below shape.vocabulary words

-- and a table has the first bytes of the words
pub record Searching (s : ℕ) (shape : Shape) (a : Arrays) (starts firsts words : List ℕ) : Type 0 where
  pub searchable : Searchable s shape a starts words
  pub firsts_are : firsts ≡ first_bytes s words

-- a pair is of two words
abbrev pub Paired : List ℕ → Sought → Type 0
Paired words Phrase = Unit {0}
Paired words (Pair d) = length words ≡ 2

-- what is no phrase is of two words
abbrev pub AsPair : List ℕ → Sought → Type 0
AsPair words sought = (d : ℤ) → sought ≡ Pair d → length words ≡ 2
