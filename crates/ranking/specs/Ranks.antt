-- The ranks of the words of a text, which are looked up in a word list part by part.
use Rattle.std.specs.Prelude.{ℕ, suc, ◌+◌, ◌≤◌, ◌<◌, ◌≡◌, true, List, [], map, length, get_or}
use Rattle.dense.specs.Code.{max_vocabulary}
use Rattle.hashing.specs.declared.part.Part.{Part}
use Rattle.hashing.specs.HashTables.{index_in}
use Rattle.lexicon.specs.Letters.{is_table}
use Rattle.lexicon.specs.Lexicon.{list_rank, is_in, distinct}
use Rattle.lexicon.specs.Reading.{TextWord, text_words, spellings}

-- what a slice holds after the ranks of the words that are found in a part are written: each at the place of its word, the others as they were
pub record Ranked (table list : List ℕ) (from k first : ℕ) (ws : List TextWord) (before after : List ℕ) : Type 0 where
  pub long : length after ≡ length before
  pub found : (p i : ℕ) → p < length ws → index_in table list from k (get_or (map (λ (w : TextWord). w.spelling) ws) p []) ≡ suc i → get_or after p 0 ≡ first + i
  pub other : (p : ℕ) → p < length ws → index_in table list from k (get_or (map (λ (w : TextWord). w.spelling) ws) p []) ≡ 0 → get_or after p 0 ≡ get_or before p 0
  pub past : (p : ℕ) → length ws ≤ p → get_or after p 0 ≡ get_or before p 0

-- the same of a part in a hash table, and of the words of a text
abbrev pub RankedByPart : Part → ℕ → List ℕ → List ℕ → List ℕ → Type 0
RankedByPart p first text before after =
    Ranked p.list.now.letters.table.now p.list.now.bytes.now p.from p.count first (text_words p.list.now.letters.table.now text) before after

-- the ranks of the words of a text in a list of words
unfoldable pub ranks_in : List (List ℕ) → List TextWord → List ℕ
ranks_in words ws = map (λ w. list_rank words w.spelling) ws

-- a text and a list, with the numbers of their words, of which the text can be read: no word of the list is there twice, and all words of the text are in it
pub record Rankable (table list : List ℕ) (words : ℕ) (text : List ℕ) (size : ℕ) : Type 0 where
  pub rule : is_table table ≡ true
  pub all : words ≡ length (spellings table list)
  pub most : words ≤ max_vocabulary 128
  pub once : distinct (spellings table list) ≡ true
  pub sized : size ≡ length (text_words table text)
  pub listed : (p : ℕ) → p < size → is_in (spellings table list) (get_or (spellings table text) p []) ≡ true
