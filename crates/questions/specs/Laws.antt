-- Statements: what a kind does not use never matters, an index is read back by the calls, and so is what building left; the mirror law.
use Rattle.std.specs.Prelude.{ℕ, ◌+◌, ◌≤◌, ◌<◌, ◌≡◌, ◌↔◌, true, false, List, ℤ, neg_ℤ, length, get_or, take, drop}
use Rattle.base.specs.Refusals.{refusal_kind}
use Rattle.base.specs.Answers.{accepted, refused, is_accepted, first_of}
use Rattle.base.specs.Texts.{outside}
use Rattle.dense.specs.Code.{Closing}
use Rattle.index.specs.declared.Shape.{Shape}
use Rattle.index.specs.Arrays.{Arrays, arrays, index_of}
use Rattle.index.specs.Entries.{is_shorter, build_answer, build_exit, check_answer}
use Rattle.index.specs.Exact.{WithinLimits, IsText, HasIndex}
use Rattle.questions.specs.declared.Question.{Question}
use Rattle.questions.specs.Makers.{asks_word_at, asks_occurrences_below, asks_place_of, asks_neighbours, asks_phrase}
use Rattle.questions.specs.Answering.{reading_cases, ask_answer_in, ask_answer}
use Rattle.questions.specs.Passages.{passage_answer, passage_exit}

-- an answer never depends on the fields that the kind does not use: it is that of the maker's question; with any starts
pub record UnusedFields (s : ℕ) (shape : Shape) (a : Arrays) (documents words : List ℕ) (q : Question) : Type 0 where
  pub kind1 : q.kind ≡ 1 → ask_answer_in s shape a documents words q ≡ ask_answer_in s shape a documents words (asks_word_at q.p)
  pub kind2 : q.kind ≡ 2 → ask_answer_in s shape a documents words q ≡ ask_answer_in s shape a documents words (asks_occurrences_below q.w q.p)
  pub kind3 : q.kind ≡ 3 → ask_answer_in s shape a documents words q ≡ ask_answer_in s shape a documents words (asks_place_of q.w q.p)
  pub kind4 : q.kind ≡ 4 → ask_answer_in s shape a documents words q ≡ ask_answer_in s shape a documents words (asks_neighbours q.w q.v q.d)
  pub kind5 : q.kind ≡ 5 → ask_answer_in s shape a documents words q ≡ ask_answer_in s shape a documents words (asks_phrase q.start q.length)
  -- of a kind outside 1 to 5 it is refusal 7, after those of the index and of the starts, whatever the fields
  pub other_kind : outside 1 5 q.kind ≡ true → ask_answer_in s shape a documents words q ≡ first_of (reading_cases s shape a documents) (refused refusal_kind)
  -- and only kind 5 reads the lent words
  pub lent_words : (other : List ℕ) → (q.kind ≡ 5 → ⊥) → ask_answer_in s shape a documents words q ≡ ask_answer_in s shape a documents other q

-- Statement: of every question.
abbrev pub FieldsUnused : Type 0
FieldsUnused = (s : ℕ) (shape : Shape) (a : Arrays) (documents words : List ℕ) (q : Question) → UnusedFields s shape a documents words q

-- by the calls, too, reading an index gives its text back: word by word, for any lent words, and as one passage
pub record ReadByCalls (s : ℕ) (shape : Shape) (t : List ℕ) (a : Arrays) : Type 0 where
  pub word : (words : List ℕ) (p : ℕ) → p < length t → ask_answer s shape a words (asks_word_at p) ≡ accepted (get_or t p 0)
  pub passage :
      (p : ℕ) (z : List ℕ) → p + length z ≤ length t →
      (passage_answer s shape a p z ≡ accepted (length z)) × (passage_exit s shape a p z ≡ take (length z) (drop p t))
  pub whole : (z : List ℕ) → length z ≡ length t → passage_exit s shape a 0 z ≡ t

-- Statement: at every number of closing values, V, B and b within their limits, and every text.
abbrev pub IndexReadByCalls : Type 0
IndexReadByCalls =
    (s : ℕ) (shape : Shape) (t : List ℕ) (a : Arrays) → Closing s → WithinLimits s shape → HasIndex s shape t a →
    ReadByCalls s shape t a

-- the fronts of four slices that have the lengths of the arrays
abbrev pub front_parts : Arrays → Arrays → Arrays
front_parts a z =
    arrays
    (take (length a.lengths) z.lengths)
    (take (length a.bytes) z.bytes)
    (take (length a.superblocks) z.superblocks)
    (take (length a.blocks) z.blocks)

-- building, checking and reading, by the calls
pub record BuiltReadByCalls (s : ℕ) (shape : Shape) (t : List ℕ) (z : Arrays) : Type 0 where
  -- building is accepted exactly if V, B and b are within their limits, t is a text of the vocabulary, and no slice is too short
  pub accepted_if :
      (is_accepted (build_answer s shape t z) ≡ true)
      ↔ (WithinLimits s shape × IsText shape.vocabulary t × (is_shorter z (index_of s shape t) ≡ false))
  -- what an accepted call left in front of its slices is accepted by the check
  pub checks : is_accepted (build_answer s shape t z) ≡ true → check_answer s shape (front_parts (index_of s shape t) (build_exit s shape t z)) ≡ accepted 0
  -- and read back
  pub reads : is_accepted (build_answer s shape t z) ≡ true → ReadByCalls s shape t (front_parts (index_of s shape t) (build_exit s shape t z))

-- Statement: at every number of closing values, of every V, B and b, every text and all slices.
abbrev pub BuildReadByCalls : Type 0
BuildReadByCalls = (s : ℕ) (shape : Shape) (t : List ℕ) (z : Arrays) → Closing s → BuiltReadByCalls s shape t z

-- Statement: the mirror law, of the calls: the same answer, refusals too, with any starts
abbrev pub MirrorAsked : Type 0
MirrorAsked =
    (s : ℕ) (shape : Shape) (a : Arrays) (documents words : List ℕ) (w v : ℕ) (d : ℤ) →
    ask_answer_in s shape a documents words (asks_neighbours w v d) ≡ ask_answer_in s shape a documents words (asks_neighbours v w (neg_ℤ d))
