-- The sizes of the index of a text, which are known before any memory is lent: measuring a text, and building with sizes that were measured.
use Rattle.std.specs.Prelude.{ℕ, suc, ◌*◌, ◌/◌, ◌≤◌, ◌≡◌, ◌↔◌, Bool, true, false, cond, not, ◌&&◌, List, [], ◌∷◌, ◌++◌, eqb, length, Result, Ok, Err}
use Rattle.base.specs.declared.Answer.{Answer}
use Rattle.base.specs.Refusals.{refusal_short_slice, refusal_sizes}
use Rattle.base.specs.declared.refusal.Refused.{Refused}
use Rattle.base.specs.Outcomes.{number_of}
use Rattle.base.specs.Answers.{accepted, refused, refused_at, is_accepted, Case, ◌⇒◌, first_of}
use Rattle.dense.specs.Code.{Closing}
use Rattle.dense.specs.Streams.{stream}
use Rattle.tree.specs.Nodes.{node_count}
use Rattle.index.specs.declared.Shape.{Shape}
use Rattle.index.specs.Arrays.{Arrays, index_of}
use Rattle.index.specs.Entries.{text_cases, short_case, build_answer, filled_arrays, build_exit}
use Rattle.index.specs.Exact.{WithinLimits, IsText}
use Rattle.measuring.specs.declared.IndexSizes.{IndexSizes}
use Rattle.measuring.specs.declared.Measured.{Measured}

-- four sizes, in the order in which they are named
abbrev pub sizes : ℕ → ℕ → ℕ → ℕ → IndexSizes
sizes n l u k = record { nodes = n; bytes = l; superblock_rows = u; block_rows = k }

-- four zeros
abbrev pub no_sizes : IndexSizes
no_sizes = sizes 0 0 0 0

-- the sizes of the index of a text: its nodes, its bytes, and its rows: a superblock row for each r with r × S ≤ L, a block row for each r
-- with r × B ≤ L
unfoldable pub sizes_of : ℕ → Shape → List ℕ → IndexSizes
sizes_of s shape t =
    sizes
    (length (index_of s shape t).lengths)
    (length (index_of s shape t).bytes)
    (suc (length (index_of s shape t).bytes / (shape.block * shape.per_superblock)))
    (suc (length (index_of s shape t).bytes / shape.block))

-- whether two times four sizes are the same
unfoldable pub same_sizes : IndexSizes → IndexSizes → Bool
same_sizes x y =
    eqb x.nodes y.nodes && eqb x.bytes y.bytes
    && eqb x.superblock_rows y.superblock_rows && eqb x.block_rows y.block_rows

-- refusal 16: four sizes that are handed back are not those of the text
unfoldable pub sizes_case : ℕ → Shape → IndexSizes → List ℕ → Case
sizes_case s shape given t = not (same_sizes given (sizes_of s shape t)) ⇒ refused refusal_sizes

-- measuring a text: 0, as nothing is filled
unfoldable pub measure_answer : ℕ → Shape → List ℕ → Answer
measure_answer s shape t = first_of (text_cases s shape t) (accepted 0)

-- all that measuring returns: the sizes beside the answer, four zeros beside a refusal
unfoldable pub measured_of : ℕ → Shape → List ℕ → Measured
measured_of s shape t =
    record {
      answer = measure_answer s shape t;
      sizes = cond (is_accepted (measure_answer s shape t)) (sizes_of s shape t) no_sizes;
    }

-- what a call that measures returns: the sizes beside 0, four zeros beside a refusal
abbrev pub measured : Result IndexSizes Refused → Measured
measured (Ok sizes) = record { answer = accepted 0; sizes = sizes }
measured (Err e) = record { answer = refused_at (number_of e.refusal) e.at; sizes = no_sizes }

-- building the index of t with sizes that are handed back, in slices that hold z: refusals 1, 2, 3, 4, 16 and 5
unfoldable pub build_sized_answer : ℕ → Shape → IndexSizes → List ℕ → Arrays → Answer
build_sized_answer s shape given t z =
    first_of (text_cases s shape t ++ sizes_case s shape given t ∷ short_case s shape t z ∷ []) (accepted (length (index_of s shape t).bytes))

-- what the slices hold then: the index in front of each, the rest as it was
unfoldable pub build_sized_exit : ℕ → Shape → IndexSizes → List ℕ → Arrays → Arrays
build_sized_exit s shape given t z = filled_arrays (build_sized_answer s shape given t z) (index_of s shape t) z

-- four slices have room for an index of these sizes: an element for each node and each byte, and 256 for each row
pub record HasRoom (given : IndexSizes) (z : Arrays) : Type 0 where
  pub lengths : given.nodes ≤ length z.lengths
  pub bytes : given.bytes ≤ length z.bytes
  pub superblocks : given.superblock_rows * 256 ≤ length z.superblocks
  pub blocks : given.block_rows * 256 ≤ length z.blocks

pub record SizesExact (s : ℕ) (shape : Shape) : Type 0 where
  -- measuring accepts exactly the texts of the vocabulary, within the limits
  pub accepted_if : (t : List ℕ) → (is_accepted (measured_of s shape t).answer ≡ true) ↔ (WithinLimits s shape × IsText shape.vocabulary t)
  -- then the sizes are N, the length of the text's stream, and the rows of its counters, 256 numbers each; nothing else is answered
  pub measured :
      (t : List ℕ) → WithinLimits s shape → IsText shape.vocabulary t →
      ((measured_of s shape t).answer ≡ accepted 0)
      × ((measured_of s shape t).sizes.nodes ≡ node_count s shape.vocabulary)
      × ((measured_of s shape t).sizes.bytes ≡ length (stream s t))
      × ((measured_of s shape t).sizes.superblock_rows * 256 ≡ length (index_of s shape t).superblocks)
      × ((measured_of s shape t).sizes.block_rows * 256 ≡ length (index_of s shape t).blocks)
  -- a refused call gives four zeros beside its refusal
  pub zeros : (t : List ℕ) → is_accepted (measured_of s shape t).answer ≡ false → (measured_of s shape t).sizes ≡ no_sizes
  -- slices with room for the measured sizes are all that building needs: it returns L
  pub enough :
      (t : List ℕ) (z : Arrays) → is_accepted (measured_of s shape t).answer ≡ true → HasRoom (measured_of s shape t).sizes z →
      build_sized_answer s shape (measured_of s shape t).sizes t z ≡ accepted (measured_of s shape t).sizes.bytes
  -- and with less it is refused by 5
  pub too_little :
      (t : List ℕ) (z : Arrays) → is_accepted (measured_of s shape t).answer ≡ true → (HasRoom (measured_of s shape t).sizes z → ⊥) →
      (build_sized_answer s shape (measured_of s shape t).sizes t z ≡ refused refusal_short_slice)
      × (build_sized_exit s shape (measured_of s shape t).sizes t z ≡ z)
  -- the call that builds at once does one after the other: where measuring is refused it returns that refusal and leaves the slices,
  -- otherwise it is building with the sizes that were measured
  pub refused_first :
      (t : List ℕ) (z : Arrays) → is_accepted (measured_of s shape t).answer ≡ false →
      (build_answer s shape t z ≡ (measured_of s shape t).answer) × (build_exit s shape t z ≡ z)
  pub one_after_other :
      (t : List ℕ) (z : Arrays) → is_accepted (measured_of s shape t).answer ≡ true →
      (build_sized_answer s shape (measured_of s shape t).sizes t z ≡ build_answer s shape t z)
      × (build_sized_exit s shape (measured_of s shape t).sizes t z ≡ build_exit s shape t z)
  -- a text that measuring refuses is refused so, whatever four numbers are handed back
  pub refused_alike :
      (given : IndexSizes) (t : List ℕ) (z : Arrays) → is_accepted (measured_of s shape t).answer ≡ false →
      (build_sized_answer s shape given t z ≡ (measured_of s shape t).answer) × (build_sized_exit s shape given t z ≡ z)
  -- whatever four numbers are handed back: if they are those of the text, the call is the one that builds at once
  pub same_sized :
      (given : IndexSizes) (t : List ℕ) (z : Arrays) → given ≡ sizes_of s shape t →
      (build_sized_answer s shape given t z ≡ build_answer s shape t z) × (build_sized_exit s shape given t z ≡ build_exit s shape t z)
  -- a text that measuring accepts, and four numbers that are not its own: 16, and the slices stay
  pub other_sized :
      (given : IndexSizes) (t : List ℕ) (z : Arrays) → is_accepted (measured_of s shape t).answer ≡ true → (given ≡ sizes_of s shape t → ⊥) →
      (build_sized_answer s shape given t z ≡ refused refusal_sizes) × (build_sized_exit s shape given t z ≡ z)
  -- the second call notices: where t was measured and u is brought, whose sizes are others, it is refused and the slices stay. If u is a
  -- text of the vocabulary, by 16; otherwise by what measuring u is refused by. V, B and b may have changed too
  pub notices :
      (first : Shape) (t u : List ℕ) (z : Arrays) → is_accepted (measured_of s first t).answer ≡ true → (sizes_of s first t ≡ sizes_of s shape u → ⊥) →
      (build_sized_answer s shape (measured_of s first t).sizes u z
      ≡ cond (is_accepted (measured_of s shape u).answer) (refused refusal_sizes) (measured_of s shape u).answer)
      × (build_sized_exit s shape (measured_of s first t).sizes u z ≡ z)

-- Statement: at every number of closing values, and every V, B and b.
abbrev pub SizesAreExact : Type 0
SizesAreExact = (s : ℕ) (shape : Shape) → Closing s → SizesExact s shape
