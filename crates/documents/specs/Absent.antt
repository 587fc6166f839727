-- Statement: an absent word, whose rank is V, stands nowhere in a text of the vocabulary.
use Rattle.std.specs.Prelude.{ℕ, ◌<◌, ◌≡◌, false, List, [], map, ℤ, length, take, get_or}
use Rattle.base.specs.Lists.{Below, range_from, count_of}
use Rattle.documents.specs.Documents.{stands_in, places_in, neighbours_in, counts_by_document}

-- what holds of it in a text with any starts
pub record AbsentWord (vocab : ℕ) (starts t : List ℕ) : Type 0 where
  -- it is counted neither below a place nor in the text
  pub below : (p : ℕ) → count_of vocab (take p t) ≡ 0
  pub never : count_of vocab t ≡ 0
  -- it has no neighbour, and is nobody's
  pub first : (v : ℕ) (d : ℤ) → neighbours_in starts t vocab v d ≡ 0
  pub second : (w : ℕ) (d : ℤ) → neighbours_in starts t w vocab d ≡ 0
  -- a phrase with it stands nowhere, and is counted in no document
  pub stands : (phrase : List ℕ) (i : ℕ) → i < length phrase → get_or phrase i 0 ≡ vocab → (q : ℕ) → stands_in starts t phrase q ≡ false
  pub nowhere : (phrase : List ℕ) (i : ℕ) → i < length phrase → get_or phrase i 0 ≡ vocab → places_in starts t phrase ≡ []
  pub uncounted :
      (phrase : List ℕ) (i : ℕ) → i < length phrase → get_or phrase i 0 ≡ vocab →
      counts_by_document starts t phrase ≡ map (λ k. 0) (range_from 0 (length starts))

-- Statement: of every vocabulary, list of starts and text of that vocabulary.
abbrev pub AbsentWords : Type 0
AbsentWords = (vocab : ℕ) (starts t : List ℕ) → Below vocab t → AbsentWord vocab starts t
