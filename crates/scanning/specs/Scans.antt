-- What the functions that go through a text byte by byte find: where its words begin and end, and how they are spelled.
use Rattle.std.specs.Prelude.{ℕ, suc, ◌+◌, ◌*◌, ◌%◌, ◌≤◌, ◌<◌, ◌≡◌, cond, List, [], ◌∷◌, eqb, ltb, length, drop, get_or}
use Rattle.lexicon.specs.Letters.{letter_in}
use Rattle.lexicon.specs.Reading.{TextWord, words_from}

-- the letter at a position of a text; 0 at its end
unfoldable pub letter_at : List ℕ → List ℕ → ℕ → ℕ
letter_at table text at = cond (ltb at (length text)) (letter_in table (get_or text at 0)) 0

-- how many separators stand in front
abbrev pub gap : List ℕ → List ℕ → ℕ
gap table [] = 0
gap table (x ∷ xs) = cond (eqb (letter_in table x) 0) (suc (gap table xs)) 0

-- the folded bytes of the word in front; none where a separator stands there
abbrev pub run : List ℕ → List ℕ → List ℕ
run table [] = []
run table (x ∷ xs) = cond (eqb (letter_in table x) 0) [] (letter_in table x ∷ run table xs)

-- the words from an offset of a text on
unfoldable pub words_at : List ℕ → List ℕ → ℕ → List TextWord
words_at table text at = words_from table at (drop at text)

-- the word that begins at an offset of a text, folded
unfoldable pub run_at : List ℕ → List ℕ → ℕ → List ℕ
run_at table text at = run table (drop at text)

-- where the first word at or after an offset begins; the end where there is none
unfoldable pub start_from : List ℕ → List ℕ → ℕ → ℕ
start_from table text at = at + gap table (drop at text)

-- a word begins at an offset, or the text ends there
pub record WordBegins (table text : List ℕ) (at : ℕ) : Type 0 where
  pub inside : at ≤ length text
  pub letter : at < length text → letter_in table (get_or text at 0) ≡ 0 → ⊥

-- the number of buckets of a hash table
abbrev pub buckets : ℕ
buckets = 65536

-- the bucket of a word, from the value that the bytes before it gave
abbrev pub bucket_from : ℕ → List ℕ → ℕ
bucket_from h [] = h
bucket_from h (x ∷ xs) = bucket_from ((h * 40503 + x) % buckets) xs

-- the bucket of a word
unfoldable pub bucket_of : List ℕ → ℕ
bucket_of w = bucket_from 0 w
