-- The places of the words of a text: the place at which each word appears first, and how often it stands, counted there.
use Rattle.std.specs.Prelude.{ℕ, zero, suc, ◌≤◌, ◌<◌, ◌≡◌, Bool, cond, ◌&&◌, List, [], map, eqb, ltb, length, get_or, take}
use Rattle.base.specs.Lists.{range_from, count_of}
use Rattle.lexicon.specs.Lexicon.{list_rank}
use Rattle.lexicon.specs.Reading.{spellings}
use Rattle.scanning.specs.Scans.{run_at, buckets, bucket_of}
use Rattle.counting_sort.specs.Sorting.{places_by_count}
use Rattle.word_order.specs.Order.{by_frequency}

-- the word at a place
abbrev pub word_of : List (List ℕ) → ℕ → List ℕ
word_of words p = get_or words p []

-- for each word the place at which it appears first
unfoldable pub first_appearances : List (List ℕ) → List ℕ
first_appearances words = map (list_rank words) words

-- for each place how often it is such a place: how often its word stands where the word appears there first, 0 where it has appeared before
unfoldable pub appearance_counts : List (List ℕ) → List ℕ
appearance_counts words = map (λ p. count_of p (first_appearances words)) (range_from 0 (length words))

-- Statement: the words at the places with a count, the highest counts first and equal ones ascending, are the words in the order of frequency.
abbrev pub WordsByCount : Type 0
WordsByCount = (words : List (List ℕ)) → map (word_of words) (places_by_count (appearance_counts words)) ≡ by_frequency words

-- ---- the hash table of the distinct words

-- 1 and the last of the numbers below n that passes the test; 0 where there is none
abbrev pub last_where : (ℕ → Bool) → ℕ → ℕ
last_where test zero = 0
last_where test (suc n) = cond (test n) (suc n) (last_where test n)

-- whether the word at a place appears there first and is in a bucket
unfoldable pub appears_in : List (List ℕ) → ℕ → ℕ → Bool
appears_in words bucket q = eqb (list_rank words (word_of words q)) q && eqb (bucket_of (word_of words q)) bucket

-- the distinct ones of the first p words in their buckets, each at the place at which it appears first: the last one of each bucket, and for each the
-- one before it
pub record DistinctChained (words : List (List ℕ)) (p : ℕ) (heads links : List ℕ) : Type 0 where
  pub long : length heads ≡ buckets
  pub head : (b : ℕ) → b < buckets → get_or heads b 0 ≡ last_where (appears_in words b) p
  pub link :
      (q : ℕ) → q < p → list_rank words (word_of words q) ≡ q → get_or links q 0 ≡ last_where (appears_in words (bucket_of (word_of words q))) q

-- a position of a text for each of its first p words, from which the word can be read
pub record Begun (table text : List ℕ) (p : ℕ) (starts : List ℕ) : Type 0 where
  pub long : p ≤ length starts
  pub start : (q : ℕ) → q < p → (get_or starts q 0 ≤ length text) × (run_at table text (get_or starts q 0) ≡ word_of (spellings table text) q)

-- 1 and the place at which a word among words appears first, if it has appeared before the place p; otherwise 0
unfoldable pub earlier_place : List (List ℕ) → ℕ → ℕ
earlier_place words p = cond (ltb (list_rank words (word_of words p)) p) (suc (list_rank words (word_of words p))) 0

-- ---- what is noted

-- the words of a text, noted: how many there are, from where each can be read, and the place at which it appears first
pub record TextNoted (table text starts firsts : List ℕ) (size : ℕ) : Type 0 where
  pub sized : size ≡ length (spellings table text)
  pub begun : Begun table text (length (spellings table text)) starts
  pub appeared : take (length (spellings table text)) firsts ≡ first_appearances (spellings table text)

-- the same, and how often each stands, counted where it appears first, and how many distinct words there are
pub record TextCounted (table text starts firsts counts : List ℕ) (size number : ℕ) : Type 0 where
  pub noted : TextNoted table text starts firsts size
  pub counted : take (length (spellings table text)) counts ≡ appearance_counts (spellings table text)
  pub distinct_words : number ≡ length (by_frequency (spellings table text))
