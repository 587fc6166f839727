-- What the writing of a list goes by: for each rank a place of its word, and for each place from where its word can be read.
use Rattle.std.specs.Prelude.{ℕ, ◌≤◌, ◌<◌, ◌≡◌, true, List, [], map, length, get_or, take}
use Rattle.base.specs.Lists.{Below}
use Rattle.lexicon.specs.Letters.{is_table}
use Rattle.lexicon.specs.Reading.{spellings}
use Rattle.scanning.specs.Scans.{run_at}
use Rattle.list_calls.specs.Making.{max_list_text, max_list_words, made_words, made_ranks}

-- the words of the list that is made of a text can be read in the text: the word of each rank from where `starts` has the place that `order` has for it
pub record WordsNoted (table text starts order : List ℕ) : Type 0 where
  pub inside : (r : ℕ) → r < length (made_words table text) → (r < length order) × (get_or order r 0 < length starts)
  pub word :
      (r : ℕ) → r < length (made_words table text) →
      (get_or starts (get_or order r 0) 0 ≤ length text) × (run_at table text (get_or starts (get_or order r 0) 0) ≡ get_or (made_words table text) r [])

-- all that is noted of a text when its list and its ranks are written: so many words, of which so many are distinct; the words of the list; and for
-- each word of the text its rank, in a table at the place that is noted for the word
pub record ListNoted (table text starts order firsts values : List ℕ) (size words : ℕ) : Type 0 where
  pub rule : is_table table ≡ true
  pub sized : size ≡ length (spellings table text)
  pub short : length text ≤ max_list_text
  pub number : words ≡ length (made_words table text)
  pub few : words ≤ max_list_words
  pub noted : WordsNoted table text starts order
  pub long : size ≤ length firsts
  pub below : Below (length values) (take size firsts)
  pub ranked : map (λ p. get_or values p 0) (take size firsts) ≡ made_ranks table text

-- the same, of a letter table that is known to keep the rules, and place by place
pub record AllNoted (table text starts order firsts values : List ℕ) (size words : ℕ) : Type 0 where
  pub sized : size ≡ length (spellings table text)
  pub short : length text ≤ max_list_text
  pub number : words ≡ length (made_words table text)
  pub few : words ≤ max_list_words
  pub noted : WordsNoted table text starts order
  pub long : size ≤ length firsts
  pub below : (i : ℕ) → i < size → get_or firsts i 0 < length values
  pub ranked : map (λ p. get_or values p 0) (take size firsts) ≡ made_ranks table text
