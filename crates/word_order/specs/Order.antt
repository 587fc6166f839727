-- The distinct words among words, most frequent first, equal ones by first appearance, and what is proved of that order.
use Rattle.std.specs.Prelude.{ℕ, ◌≤◌, ◌<◌, ◌≡◌, true, not, eqb, length, get_or}
use mathlib.Core.List.{List, [], ◌∷◌, map, flatten}
use Rattle.base.specs.Lists.{All, filter_by, first_where, down_from, same}
use Rattle.dense.specs.Code.{Closing}
use Rattle.dense.specs.Streams.{stream}
use Rattle.lexicon.specs.Lexicon.{list_rank, is_in, distinct}

-- how often a word stands among words
unfoldable pub times_in : List (List ℕ) → List ℕ → ℕ
times_in words w = length (filter_by (same w) words)

-- the distinct words among words, in the order of their first appearance
abbrev pub firsts_of : List (List ℕ) → List (List ℕ)
firsts_of [] = []
firsts_of (w ∷ ws) = w ∷ filter_by (λ v. not (same w v)) (firsts_of ws)

-- those of them that stand so often
unfoldable pub standing_times : List (List ℕ) → ℕ → List (List ℕ)
standing_times words often = filter_by (λ w. eqb (times_in words w) often) (firsts_of words)

-- the distinct words, most frequent first, equal ones by first appearance: those that stand as often as there are words, and so on down to
-- those that stand once
unfoldable pub by_frequency : List (List ℕ) → List (List ℕ)
by_frequency words = flatten (map (standing_times words) (down_from (length words)))

-- the words of a text in the order of frequency
pub record OrderExact (words : List (List ℕ)) : Type 0 where
  -- no word is there twice, the words of the text are there, and no others
  pub once : distinct (by_frequency words) ≡ true
  pub every : All (λ (w : List ℕ). is_in (by_frequency words) w ≡ true) words
  pub no_other : All (λ (w : List ℕ). is_in words w ≡ true) (by_frequency words)
  -- the most frequent first, equal ones by first appearance
  pub frequent :
      (i j : ℕ) → i < j → j < length (by_frequency words) → times_in words (get_or (by_frequency words) j []) ≤ times_in words (get_or (by_frequency words) i [])
  pub earlier :
      (i j : ℕ) → i < j → j < length (by_frequency words) →
      times_in words (get_or (by_frequency words) j []) ≡ times_in words (get_or (by_frequency words) i []) →
      first_where (same (get_or (by_frequency words) i [])) words < first_where (same (get_or (by_frequency words) j [])) words
  -- no order of the same words gives a shorter stream, at any number of closing values. An order is here any list in which no word stands twice
  -- and all of the words stand; that it may have words besides makes the statement stronger
  pub shortest :
      (s : ℕ) → Closing s → (other : List (List ℕ)) → distinct other ≡ true → All (λ (w : List ℕ). is_in other w ≡ true) words →
      length (stream s (map (list_rank (by_frequency words)) words)) ≤ length (stream s (map (list_rank other) words))

-- Statement: of all words.
abbrev pub OrdersAreExact : Type 0
OrdersAreExact = (words : List (List ℕ)) → OrderExact words
