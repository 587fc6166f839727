-- Plain text: its words, and the answer of the call that reads it through a word list; over any letter table.
use Rattle.std.specs.Prelude.{ℕ, suc, ◌+◌, Bool, cond, not, List, [], ◌∷◌, map, eqb, ltb, length, get_or}
use Rattle.base.specs.declared.Answer.{Answer}
use Rattle.base.specs.Lists.{all_pass, first_where}
use Rattle.base.specs.Refusals.{refusal_short_slice, refusal_word_list, refusal_unlisted}
use Rattle.base.specs.Answers.{accepted, refused, refused_at, ◌⇒◌, first_of, filled}
use Rattle.base.specs.Texts.{words_case}
use Rattle.dense.specs.Code.{vocabulary_case}
use Rattle.lexicon.specs.Letters.{letter_in}
use Rattle.lexicon.specs.Lexicon.{list_size, list_words, list_rank, is_in, is_list}

-- a word of a plain text: the byte offset at which it starts, and its folded bytes
pub record TextWord : Type 0 where
  pub offset : ℕ
  pub spelling : List ℕ

-- a word of a plain text, by its offset and its folded bytes
abbrev pub word : ℕ → List ℕ → TextWord
word i xs = record { offset = i; spelling = xs }

-- the offset at which a word ends, right behind its last byte
abbrev pub word_end : TextWord → ℕ
word_end w = w.offset + length w.spelling

-- the words from a non-separator at offset i on, which is folded to x: it belongs to the word that starts right after it, or is one by itself
abbrev pub extended : ℕ → ℕ → List TextWord → List TextWord
extended i x [] = word i (x ∷ []) ∷ []
extended i x (w ∷ ws) = cond (eqb w.offset (suc i)) (word i (x ∷ w.spelling) ∷ ws) (word i (x ∷ []) ∷ w ∷ ws)

-- the words of a text whose first byte has offset i: the longest runs of non-separators, folded by the table
abbrev pub words_from : List ℕ → ℕ → List ℕ → List TextWord
words_from table i [] = []
words_from table i (x ∷ xs) =
    cond (eqb (letter_in table x) 0) (words_from table (suc i) xs) (extended i (letter_in table x) (words_from table (suc i) xs))

-- the words of a plain text
unfoldable pub text_words : List ℕ → List ℕ → List TextWord
text_words table text = words_from table 0 text

-- the words of a text as they are spelled
unfoldable pub spellings : List ℕ → List ℕ → List (List ℕ)
spellings table text = map (λ w. w.spelling) (text_words table text)

-- the ranks of the words of a plain text in a word list
unfoldable pub text_ranks : List ℕ → List ℕ → List ℕ → List ℕ
text_ranks table list text = map (λ w. list_rank (list_words list) w.spelling) (text_words table text)

-- whether a word of a plain text is in the list
unfoldable pub is_listed : List ℕ → TextWord → Bool
is_listed list w = is_in (list_words list) w.spelling

-- the byte offset of the first word of a plain text that is not in the list
unfoldable pub first_unlisted : List ℕ → List ℕ → List ℕ → ℕ
first_unlisted table list text =
    get_or (map (λ w. w.offset) (text_words table text)) (first_where (λ w. not (is_listed list w)) (text_words table text)) 0

-- reading a plain text through a word list into a slice that holds z
unfoldable pub read_text_answer : List ℕ → List ℕ → List ℕ → List ℕ → Answer
read_text_answer table list text z =
    first_of
    (vocabulary_case 128 (list_size list)
    ∷ words_case (length (text_words table text))
    ∷ (ltb (length z) (length (text_words table text)) ⇒ refused refusal_short_slice)
    ∷ (not (is_list table list) ⇒ refused refusal_word_list)
    ∷ (not (all_pass (is_listed list) (text_words table text)) ⇒ refused_at refusal_unlisted (first_unlisted table list text))
    ∷ [])
    (accepted (length (text_words table text)))

-- what the slice holds then: the ranks in front, the rest as it was
unfoldable pub read_text_exit : List ℕ → List ℕ → List ℕ → List ℕ → List ℕ
read_text_exit table list text z = filled (read_text_answer table list text z) (text_ranks table list text) z
