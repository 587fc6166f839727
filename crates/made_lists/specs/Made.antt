-- Statements: what the word list that is made of a plain text is, and what the call that makes it returns and writes; over every table that keeps
-- the rules.
use Rattle.std.specs.Prelude.{ℕ, ◌≤◌, ◌<◌, ◌≡◌, ◌⊎◌, ◌↔◌, true, false, List, [], map, length, get_or, take, drop}
use Rattle.base.specs.Lists.{range_from, total, count_of}
use Rattle.base.specs.Refusals.{refusal_vocabulary, refusal_words, refusal_short_slice, refusal_list_making}
use Rattle.base.specs.Answers.{accepted, refused, is_accepted}
use Rattle.base.specs.Texts.{max_words}
use Rattle.lexicon.specs.Letters.{is_table}
use Rattle.lexicon.specs.Lexicon.{list_size, list_words, is_list}
use Rattle.lexicon.specs.Reading.{text_words, spellings, text_ranks, read_text_answer, read_text_exit}
use Rattle.word_order.specs.Order.{times_in, OrderExact}
use Rattle.list_calls.specs.Making.{max_list_text, max_list_words, made_words, made_list, made_ranks, list_made, make_list_exit, make_ranks_exit}

-- the list that is made of a text
pub record MadeExact (table text : List ℕ) : Type 0 where
  -- its words are the distinct words of the text, most frequent first, equal ones by first appearance, and no order of them has a shorter stream
  pub order : OrderExact (spellings table text)
  -- it is a word list, of these words
  pub is_word_list : is_list table (made_list table text) ≡ true
  pub its_words : list_words (made_list table text) ≡ made_words table text
  pub its_size : list_size (made_list table text) ≡ length (made_words table text)
  -- the ranks are one for each word of the text, and those that reading the text through the list gives
  pub ranks_number : length (made_ranks table text) ≡ length (text_words table text)
  pub read_back : text_ranks table (made_list table text) text ≡ made_ranks table text
  -- the frequency of a word is how often its rank stands among them, and the frequencies add up to n
  pub frequencies :
      (i : ℕ) → i < length (made_words table text) →
      count_of i (made_ranks table text) ≡ times_in (spellings table text) (get_or (made_words table text) i [])
  pub add_up :
      total (map (λ i. count_of i (made_ranks table text)) (range_from 0 (length (made_words table text)))) ≡ length (text_words table text)
  -- a text without words has the empty list, with which reading any text is refused by 1
  pub no_words : length (text_words table text) ≡ 0 → made_list table text ≡ []
  pub empty_read : (other z : List ℕ) → read_text_answer table [] other z ≡ refused refusal_vocabulary

-- what the call asks of the text and of the slices for the list and the ranks, which hold y and z
pub record Makes (table text y z : List ℕ) : Type 0 where
  pub few_words : length (text_words table text) ≤ max_words
  pub short_text : length text ≤ max_list_text
  pub few_distinct : length (made_words table text) ≤ max_list_words
  pub list_room : length (made_list table text) ≤ length y
  pub ranks_room : length (text_words table text) ≤ length z

-- the call that makes it, in slices that hold y and z
pub record MakingExact (table text y z : List ℕ) : Type 0 where
  -- it is accepted exactly if it has what it asks, and returns 0 and how much it has written
  pub accepted_if : (is_accepted (list_made table text y z).answer ≡ true) ↔ Makes table text y z
  pub returned :
      Makes table text y z →
      ((list_made table text y z).answer ≡ accepted 0)
      × ((list_made table text y z).bytes ≡ length (made_list table text))
      × ((list_made table text y z).words ≡ length (text_words table text))
  -- it has written the list and the ranks in front, and nothing behind them
  pub written_list :
      Makes table text y z →
      (take (list_made table text y z).bytes (make_list_exit table text y z) ≡ made_list table text)
      × (drop (list_made table text y z).bytes (make_list_exit table text y z) ≡ drop (list_made table text y z).bytes y)
  pub written_ranks :
      Makes table text y z →
      (take (list_made table text y z).words (make_ranks_exit table text y z) ≡ made_ranks table text)
      × (drop (list_made table text y z).words (make_ranks_exit table text y z) ≡ drop (list_made table text y z).words z)
  -- the refusals in their order: 2, 17, 5
  pub too_many_words : max_words < length (text_words table text) → (list_made table text y z).answer ≡ refused refusal_words
  pub too_much :
      length (text_words table text) ≤ max_words → (max_list_text < length text) ⊎ (max_list_words < length (made_words table text)) →
      (list_made table text y z).answer ≡ refused refusal_list_making
  pub too_short :
      length (text_words table text) ≤ max_words → length text ≤ max_list_text → length (made_words table text) ≤ max_list_words →
      (length y < length (made_list table text)) ⊎ (length z < length (text_words table text)) →
      (list_made table text y z).answer ≡ refused refusal_short_slice
  -- a refused call gives two zeros, and leaves both slices
  pub zeros : is_accepted (list_made table text y z).answer ≡ false → ((list_made table text y z).bytes ≡ 0) × ((list_made table text y z).words ≡ 0)
  pub untouched : is_accepted (list_made table text y z).answer ≡ false → (make_list_exit table text y z ≡ y) × (make_ranks_exit table text y z ≡ z)
  -- by calls: reading the text through the list that was written is accepted, where the text has a word and the slice room, and gives the ranks
  -- that were written
  pub read_by_calls :
      (q : List ℕ) → Makes table text y z → 1 ≤ length (text_words table text) → length (text_words table text) ≤ length q →
      (read_text_answer table (take (list_made table text y z).bytes (make_list_exit table text y z)) text q ≡ accepted (list_made table text y z).words)
      × (take (list_made table text y z).words (read_text_exit table (take (list_made table text y z).bytes (make_list_exit table text y z)) text q)
      ≡ take (list_made table text y z).words (make_ranks_exit table text y z))

-- Statement: for every table that keeps the rules, and every text.
abbrev pub MadeOfTables : Type 0
MadeOfTables = (table text : List ℕ) → is_table table ≡ true → MadeExact table text

-- Statement: and whatever the slices hold.
abbrev pub MakingOfTables : Type 0
MakingOfTables = (table text y z : List ℕ) → is_table table ≡ true → MakingExact table text y z
