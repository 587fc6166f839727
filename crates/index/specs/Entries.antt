-- The answers of the calls that build and check an index, and what building leaves in the lent slices.
use Rattle.std.specs.Prelude.{ℕ, ◌*◌, Bool, not, ◌||◌, List, [], ◌∷◌, ◌++◌, eqb, ltb, length}
use Rattle.base.specs.declared.Answer.{Answer}
use Rattle.base.specs.Refusals.{refusal_short_slice, refusal_index}
use Rattle.base.specs.Answers.{accepted, refused, Case, ◌⇒◌, first_of, filled}
use Rattle.base.specs.Texts.{max_superblock, words_case, rank_case}
use Rattle.dense.specs.Code.{vocabulary_case}
use Rattle.directory.specs.Counters.{blocks_case}
use Rattle.index.specs.declared.Shape.{Shape}
use Rattle.index.specs.Arrays.{Arrays, arrays, index_of, passes}

-- whether one of the slices z is too short for the arrays a
unfoldable pub is_shorter : Arrays → Arrays → Bool
is_shorter z a =
    ltb (length z.lengths) (length a.lengths) || ltb (length z.bytes) (length a.bytes)
    || ltb (length z.superblocks) (length a.superblocks) || ltb (length z.blocks) (length a.blocks)

-- the refusals of a text to index: 1, 2, 3, and 4 with the first place whose rank is not below V
unfoldable pub text_cases : ℕ → Shape → List ℕ → List Case
text_cases s shape t =
    vocabulary_case s shape.vocabulary
    ∷ words_case (length t)
    ∷ blocks_case shape.block shape.per_superblock
    ∷ rank_case shape.vocabulary t
    ∷ []

-- refusal 5: one of the slices z is too short for the index of t
unfoldable pub short_case : ℕ → Shape → List ℕ → Arrays → Case
short_case s shape t z = is_shorter z (index_of s shape t) ⇒ refused refusal_short_slice

-- building the index of t in slices that hold z
unfoldable pub build_answer : ℕ → Shape → List ℕ → Arrays → Answer
build_answer s shape t z = first_of (text_cases s shape t ++ short_case s shape t z ∷ []) (accepted (length (index_of s shape t).bytes))

-- what a call with this answer leaves in slices z that it fills with the arrays a: each array in front of its slice and the rest as it was; a
-- refused call leaves them
abbrev pub filled_arrays : Answer → Arrays → Arrays → Arrays
filled_arrays r a z =
    arrays
    (filled r a.lengths z.lengths)
    (filled r a.bytes z.bytes)
    (filled r a.superblocks z.superblocks)
    (filled r a.blocks z.blocks)

-- what the slices hold then: the index in front of each, the rest as it was
unfoldable pub build_exit : ℕ → Shape → List ℕ → Arrays → Arrays
build_exit s shape t z = filled_arrays (build_answer s shape t z) (index_of s shape t) z

-- refusals 1, 3 and 6, which every call that reads an index tries
unfoldable pub index_cases : ℕ → Shape → Arrays → List Case
index_cases s shape a =
    vocabulary_case s shape.vocabulary
    ∷ blocks_case shape.block shape.per_superblock
    ∷ (not (passes s shape a) ⇒ refused refusal_index)
    ∷ []

-- checking an index
unfoldable pub check_answer : ℕ → Shape → Arrays → Answer
check_answer s shape a = first_of (index_cases s shape a) (accepted 0)

-- whether B or b is 0, or S above 65,535
abbrev pub blocks_outside : ℕ → ℕ → Bool
blocks_outside block per = eqb block 0 || eqb per 0 || ltb max_superblock (block * per)

-- the number of the refusal of V, B and b: 1 or 3, and 0 where they are within their limits
unfoldable pub limits_refusal : ℕ → Shape → ℕ
limits_refusal s shape =
    (first_of
    (vocabulary_case s shape.vocabulary ∷ blocks_case shape.block shape.per_superblock ∷ [])
    (accepted 0)
    ).refusal
