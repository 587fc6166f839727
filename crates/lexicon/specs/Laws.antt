-- Statements: which words a plain text has, and what reading it through a word list gives; over every table that keeps the rules.
use Rattle.std.specs.Prelude.{ℕ, suc, ◌+◌, ◌≤◌, ◌<◌, ◌≡◌, true, false, not, ◌⊎◌, List, [], ◌∷◌, map, length, take, drop, get_or}
use Rattle.base.specs.Lists.{All, all_pass, first_where}
use Rattle.base.specs.Refusals.{refusal_unlisted}
use Rattle.base.specs.Answers.{accepted, refused_at}
use Rattle.base.specs.Texts.{max_words}
use Rattle.dense.specs.Code.{max_vocabulary}
use Rattle.lexicon.specs.Letters.{letter_in, is_table}
use Rattle.lexicon.specs.Lexicon.{list_size, list_words, list_rank, is_spelled, is_list}
use Rattle.lexicon.specs.Reading.{TextWord, word_end, text_words, text_ranks, is_listed, read_text_answer, read_text_exit}

-- a longest run of non-separators of a text, folded: the offset points at its first byte, each of its bytes is a non-separator, and before it and
-- behind it stands a separator or an end of the text
pub record IsRun (table text : List ℕ) (w : TextWord) : Type 0 where
  pub some : 0 < length w.spelling
  pub inside : word_end w ≤ length text
  pub folded : w.spelling ≡ map (letter_in table) (take (length w.spelling) (drop w.offset text))
  pub letters : (i : ℕ) → i < length w.spelling → letter_in table (get_or text (w.offset + i) 0) ≡ 0 → ⊥
  pub before : (p : ℕ) → suc p ≡ w.offset → letter_in table (get_or text p 0) ≡ 0
  pub behind : word_end w < length text → letter_in table (get_or text (word_end w) 0) ≡ 0

-- each word ends before the words behind it begin, with a separator between
abbrev pub InOrder : List TextWord → Type 0
InOrder [] = Unit {0}
InOrder (w ∷ ws) = All (λ (v : TextWord). word_end w < v.offset) ws × InOrder ws

-- Statement: the words of a text are its longest runs of non-separators, in their order, and a byte that is in none of them is a separator.
pub record LongestRuns (table text : List ℕ) : Type 0 where
  pub runs : All (IsRun table text) (text_words table text)
  pub in_order : InOrder (text_words table text)
  pub separators :
      (p : ℕ) → p < length text → All (λ (w : TextWord). (p < w.offset) ⊎ (word_end w ≤ p)) (text_words table text) →
      letter_in table (get_or text p 0) ≡ 0

-- a list gives V words, and the word number i has the rank i
pub record WordListExact (list : List ℕ) : Type 0 where
  pub sized : length (list_words list) ≡ list_size list
  pub ranked : (i : ℕ) → i < list_size list → list_rank (list_words list) (get_or (list_words list) i []) ≡ i

-- Statement: of every list that keeps the rules, with any table.
abbrev pub WordListsExact : Type 0
WordListsExact = (table list : List ℕ) → is_list table list ≡ true → WordListExact list

-- what the call that reads a plain text asks of the list, the text and the slice
pub record Accepts (table list text z : List ℕ) : Type 0 where
  pub some_word : 1 ≤ list_size list
  pub most_words : list_size list ≤ max_vocabulary 128
  pub short : length (text_words table text) ≤ max_words
  pub room : length (text_words table text) ≤ length z
  pub rules : is_list table list ≡ true
  pub listed : all_pass (is_listed list) (text_words table text) ≡ true

-- the number of the first word of a text that is not in a list
unfoldable pub unlisted_place : List ℕ → List ℕ → List ℕ → ℕ
unlisted_place table list text = first_where (λ w. not (is_listed list w)) (text_words table text)

-- Statement: reading a plain text through a word list, with a table that keeps the rules.
pub record ReadTextExact (table : List ℕ) : Type 0 where
  pub words : (text : List ℕ) → LongestRuns table text
  -- each word of a text is spelled as the words of a list are
  pub spelled : (text : List ℕ) → All (λ (w : TextWord). is_spelled table w.spelling ≡ true) (text_words table text)
  -- a call is accepted exactly if it has what it asks, and returns the number of words
  pub accepts : (list text z : List ℕ) → Accepts table list text z → read_text_answer table list text z ≡ accepted (length (text_words table text))
  pub accepted_only : (list text z : List ℕ) → (read_text_answer table list text z).refusal ≡ 0 → Accepts table list text z
  -- it has written the ranks in front and nothing behind them, and each rank is below V and is where its word stands in the list
  pub written :
      (list text z : List ℕ) → (read_text_answer table list text z).refusal ≡ 0 →
      (take (length (text_words table text)) (read_text_exit table list text z) ≡ text_ranks table list text)
      × (drop (length (text_words table text)) (read_text_exit table list text z) ≡ drop (length (text_words table text)) z)
  pub ranks :
      (list text z : List ℕ) (p : ℕ) → (read_text_answer table list text z).refusal ≡ 0 → p < length (text_words table text) →
      (get_or (text_ranks table list text) p 0 < list_size list)
      × (get_or (list_words list) (get_or (text_ranks table list text) p 0) [] ≡ get_or (map (λ (w : TextWord). w.spelling) (text_words table text)) p [])
  -- a call refused with 14 returns the offset of a word that is not in the list, and all words before it are
  pub unlisted :
      (list text z : List ℕ) (at : ℕ) → read_text_answer table list text z ≡ refused_at refusal_unlisted at →
      (unlisted_place table list text < length (text_words table text))
      × (get_or (map (λ (w : TextWord). w.offset) (text_words table text)) (unlisted_place table list text) 0 ≡ at)
      × (get_or (map (is_listed list) (text_words table text)) (unlisted_place table list text) true ≡ false)
      × ((p : ℕ) → p < unlisted_place table list text → get_or (map (is_listed list) (text_words table text)) p true ≡ true)
  -- a call leaves the slice's length, and a refused one the slice
  pub same_length : (list text z : List ℕ) → length (read_text_exit table list text z) ≡ length z
  pub untouched : (list text z : List ℕ) → ((read_text_answer table list text z).refusal ≡ 0 → ⊥) → read_text_exit table list text z ≡ z

-- Statement: for every table that keeps the rules, so for the letter table.
abbrev pub ReadingOfTables : Type 0
ReadingOfTables = (table : List ℕ) → is_table table ≡ true → ReadTextExact table
