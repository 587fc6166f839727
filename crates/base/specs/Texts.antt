-- Texts and the limits of paper 01: a text is a list of ranks below V, the size of the vocabulary.
use Rattle.std.specs.Prelude.{ℕ, Bool, not, ◌&&◌, ◌||◌, List, leb, ltb, length}
use Rattle.base.specs.Lists.{all_pass, first_where}
use Rattle.base.specs.Refusals.{refusal_words, refusal_text_rank}
use Rattle.base.specs.Answers.{refused, refused_at, Case, ◌⇒◌}

-- the most words of a text
abbrev pub max_words : ℕ
max_words = 16777216

-- the most bytes of a superblock
abbrev pub max_superblock : ℕ
max_superblock = 65535

-- the most words of a phrase
abbrev pub max_phrase : ℕ
max_phrase = 16

-- the largest offset of a neighbour, to the right and to the left
abbrev pub max_offset : ℕ
max_offset = 16

-- whether a number is not from low to high
unfoldable pub outside : ℕ → ℕ → ℕ → Bool
outside low high x = ltb x low || ltb high x

-- whether all ranks are below V
unfoldable pub ranks_below : ℕ → List ℕ → Bool
ranks_below vocab t = all_pass (λ w. ltb w vocab) t

-- whether t is a text of a vocabulary: at most 16,777,216 words, all ranks below V
unfoldable pub is_text : ℕ → List ℕ → Bool
is_text vocab t = leb (length t) max_words && ranks_below vocab t

-- refusal 2: more than 16,777,216 words
unfoldable pub words_case : ℕ → Case
words_case n = ltb max_words n ⇒ refused refusal_words

-- refusal 4: a rank of the text to index or code is not below V; the first such place is returned with it
unfoldable pub rank_case : ℕ → List ℕ → Case
rank_case vocab t = not (ranks_below vocab t) ⇒ refused_at refusal_text_rank (first_where (λ w. leb vocab w) t)
