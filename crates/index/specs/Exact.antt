-- Statement of demand 2: the arrays built from a text are those that the code and the tree define, reading them gives the text back, the
-- check passes arrays exactly if some text has them as its index, and then only one text has.
use Rattle.std.specs.Prelude.{ℕ, ◌*◌, ◌≤◌, ◌≡◌, ◌↔◌, false, List, length}
use Rattle.base.specs.Lists.{Below, total}
use Rattle.base.specs.Answers.{accepted, front}
use Rattle.base.specs.Texts.{max_words, max_superblock}
use Rattle.dense.specs.Code.{Closing, max_vocabulary}
use Rattle.dense.specs.Streams.{stream}
use Rattle.index.specs.declared.Shape.{Shape}
use Rattle.index.specs.Arrays.{Arrays, arrays, index_of, text_in}
use Rattle.index.specs.Entries.{is_shorter, build_answer, build_exit, check_answer}

-- V, B and b are within their limits
pub record WithinLimits (s : ℕ) (shape : Shape) : Type 0 where
  pub some_word : 1 ≤ shape.vocabulary
  pub most_words : shape.vocabulary ≤ max_vocabulary s
  pub some_byte : 1 ≤ shape.block
  pub some_block : 1 ≤ shape.per_superblock
  pub most_bytes : shape.block * shape.per_superblock ≤ max_superblock

-- t is a text of the vocabulary
pub record IsText (vocab : ℕ) (t : List ℕ) : Type 0 where
  pub short : length t ≤ max_words
  pub ranks : Below vocab t

-- t is a text of the vocabulary, and the arrays are its index
pub record HasIndex (s : ℕ) (shape : Shape) (t : List ℕ) (a : Arrays) : Type 0 where
  pub text : IsText shape.vocabulary t
  pub index : index_of s shape t ≡ a

pub record IndexExact (s : ℕ) (shape : Shape) : Type 0 where
  -- the call that builds accepts a text and slices that are long enough, within the limits; it returns L, which is the length of the
  -- text's stream, and leaves in front of each slice the array of the text's index, and past it what the slice held
  pub built :
      (t : List ℕ) (z : Arrays) → WithinLimits s shape → IsText shape.vocabulary t → is_shorter z (index_of s shape t) ≡ false →
      (build_answer s shape t z ≡ accepted (length (stream s t)))
      × (build_exit s shape t z
      ≡ arrays
      (front (index_of s shape t).lengths z.lengths)
      (front (index_of s shape t).bytes z.bytes)
      (front (index_of s shape t).superblocks z.superblocks)
      (front (index_of s shape t).blocks z.blocks))
  -- the node lengths add up to the number of node bytes, which is the length of the text's stream
  pub sized :
      (t : List ℕ) → WithinLimits s shape → IsText shape.vocabulary t →
      (total (index_of s shape t).lengths ≡ length (stream s t)) × (length (index_of s shape t).bytes ≡ length (stream s t))
  -- reading the index of a text gives the text back
  pub read_back : (t : List ℕ) (a : Arrays) → WithinLimits s shape → HasIndex s shape t a → text_in s a ≡ t
  -- the check accepts arrays exactly if V, B and b are within their limits and some text has the arrays as its index
  pub passed : (a : Arrays) → (check_answer s shape a ≡ accepted 0) ↔ (WithinLimits s shape × ((t : List ℕ) × HasIndex s shape t a))
  -- the text that is read from arrays that pass has them as its index, so that building it again gives the arrays
  pub rebuilt : (a : Arrays) → check_answer s shape a ≡ accepted 0 → HasIndex s shape (text_in s a) a
  -- two texts with the same V never share an index, whatever their B and b
  pub only_one :
      (other : Shape) → other.vocabulary ≡ shape.vocabulary → (t u : List ℕ) (a : Arrays) → WithinLimits s shape →
      HasIndex s shape t a → HasIndex s other u a → t ≡ u

-- Statement: at every number of closing values, and every V, B and b.
abbrev pub IndexIsExact : Type 0
IndexIsExact = (s : ℕ) (shape : Shape) → Closing s → IndexExact s shape
