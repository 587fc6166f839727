-- The rank of a spelled word in a word list; V, the number of the list's words, where the list lacks it. Over any letter table.
use Rattle.std.specs.Prelude.{ℕ, ◌≤◌, ◌<◌, ◌≡◌, true, not, List, [], ◌∷◌, map, length, take, drop, get_or}
use Rattle.base.specs.declared.Answer.{Answer}
use Rattle.base.specs.Refusals.{refusal_word_list}
use Rattle.base.specs.Answers.{accepted, refused, ◌⇒◌, first_of}
use Rattle.dense.specs.Code.{vocabulary_case}
use Rattle.lexicon.specs.Letters.{letter_in}
use Rattle.lexicon.specs.Lexicon.{list_size, list_words, list_rank, is_list}
use Rattle.lexicon.specs.Reading.{TextWord, word, text_words, text_ranks}

-- a spelled word, folded by the table byte by byte; a separator becomes 0
unfoldable pub folded_by : List ℕ → List ℕ → List ℕ
folded_by table spelling = map (letter_in table) spelling

-- its rank: where the list has it; the number of the list's words where it has not
unfoldable pub word_rank : List ℕ → List ℕ → List ℕ → ℕ
word_rank table list spelling = list_rank (list_words list) (folded_by table spelling)

-- finding a word: refusals 1 and 13, of the list
unfoldable pub find_word_answer : List ℕ → List ℕ → List ℕ → Answer
find_word_answer table list spelling =
    first_of
    (vocabulary_case 128 (list_size list)
    ∷ (not (is_list table list) ⇒ refused refusal_word_list)
    ∷ [])
    (accepted (word_rank table list spelling))

-- a word of a plain text as it is spelled there
abbrev pub spelled_in : List ℕ → TextWord → List ℕ
spelled_in text w = take (length w.spelling) (drop w.offset text)

-- what holds of finding words in a list that is accepted
pub record FindingExact (table list : List ℕ) : Type 0 where
  -- a rank below V is where the folded word stands in the list
  pub found :
      (spelling : List ℕ) → word_rank table list spelling < list_size list →
      get_or (list_words list) (word_rank table list spelling) [] ≡ folded_by table spelling
  -- there is no rank above V, and V is given only where no word of the list is the folded word
  pub most : (spelling : List ℕ) → word_rank table list spelling ≤ list_size list
  pub lacking :
      (spelling : List ℕ) (j : ℕ) → word_rank table list spelling ≡ list_size list → j < list_size list →
      get_or (list_words list) j [] ≡ folded_by table spelling → ⊥
  -- an empty spelling, and one with a separator, is in no list
  pub empty : word_rank table list [] ≡ list_size list
  pub separator :
      (spelling : List ℕ) (i : ℕ) → i < length spelling → letter_in table (get_or spelling i 0) ≡ 0 →
      word_rank table list spelling ≡ list_size list
  -- word number i of the list, spelled as it stands there, has rank i
  pub own : (i : ℕ) → i < list_size list → word_rank table list (get_or (list_words list) i []) ≡ i
  -- a word of a plain text, spelled as it stands there, has the rank that reading gives it
  pub as_read :
      (text : List ℕ) (k : ℕ) → k < length (text_words table text) →
      word_rank table list (spelled_in text (get_or (text_words table text) k (word 0 []))) ≡ get_or (text_ranks table list text) k 0
  -- so that a spelling that is one word has the one rank that reading it gives
  pub one_word :
      (spelling folded : List ℕ) → text_words table spelling ≡ word 0 folded ∷ [] → length folded ≡ length spelling →
      text_ranks table list spelling ≡ word_rank table list spelling ∷ []

-- Statement: with every table, of every list that keeps the rules by it.
abbrev pub FindingOfTables : Type 0
FindingOfTables = (table list : List ℕ) → is_list table list ≡ true → FindingExact table list
