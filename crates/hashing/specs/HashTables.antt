-- Parts of a word list in hash tables: a part is so many words from an offset of the list on.
use Rattle.std.specs.Prelude.{ℕ, zero, suc, ◌-◌, ◌≤◌, ◌<◌, ◌≡◌, Bool, cond, List, [], map, eqb, length, get_or}
use Rattle.base.specs.Lists.{same}
use Rattle.lexicon.specs.Reading.{TextWord}
use Rattle.scanning.specs.Scans.{words_at, run_at, buckets, bucket_of}

-- the most words of a part
abbrev pub max_part : ℕ
max_part = 100000

-- 1 and the first of the n numbers from p on that passes the test; 0 where there is none
abbrev pub next_where : (ℕ → Bool) → ℕ → ℕ → ℕ
next_where test p zero = 0
next_where test p (suc n) = cond (test p) (suc p) (next_where test (suc p) n)

-- the first number below k that passes, from the one on that is given as 1 and itself; 0 where none is given
abbrev pub pass_from : (ℕ → Bool) → ℕ → ℕ → ℕ
pass_from test k zero = 0
pass_from test k (suc i) = next_where test i (k - i)

-- the word number j from an offset of a list on, as it is spelled
unfoldable pub spelled_at : List ℕ → List ℕ → ℕ → ℕ → List ℕ
spelled_at table list from j = get_or (map (λ (w : TextWord). w.spelling) (words_at table list from)) j []

-- 1 and the number of the first of the first k words from an offset on that is in a bucket, from the word number p on; 0 where there is none
unfoldable pub next_in : List ℕ → List ℕ → ℕ → ℕ → ℕ → ℕ → ℕ
next_in table list from k bucket p = next_where (λ j. eqb (bucket_of (spelled_at table list from j)) bucket) p (k - p)

-- 1 and the number of the first of the first k words from an offset on that is w; 0 where there is none
unfoldable pub index_in : List ℕ → List ℕ → ℕ → ℕ → List ℕ → ℕ
index_in table list from k w = next_where (λ j. same w (spelled_at table list from j)) 0 k

-- the same among those from the word on that is given as 1 and its number; 0 where none is given
unfoldable pub index_from : List ℕ → List ℕ → ℕ → ℕ → List ℕ → ℕ → ℕ
index_from table list from k w n = pass_from (λ j. same w (spelled_at table list from j)) k n

-- room for the hash table of a part
pub record Room (heads links starts : List ℕ) : Type 0 where
  pub heads_long : length heads ≡ buckets
  pub links_long : length links ≡ max_part
  pub starts_long : length starts ≡ max_part

-- where each of the k words from an offset of a list on begins
pub record Starts (table list : List ℕ) (from k : ℕ) (starts : List ℕ) : Type 0 where
  pub long : length starts ≡ max_part
  pub start : (i : ℕ) → i < k → (get_or starts i 0 ≤ length list) × (run_at table list (get_or starts i 0) ≡ spelled_at table list from i)

-- the bucket of each of the k words from an offset of a list on
pub record Buckets (table list : List ℕ) (from k : ℕ) (noted : List ℕ) : Type 0 where
  pub long : length noted ≡ max_part
  pub bucket : (i : ℕ) → i < k → get_or noted i 0 ≡ bucket_of (spelled_at table list from i)

-- for each of the k words from an offset of a list on, from the word number p on, the next one of its bucket
pub record Links (table list : List ℕ) (from k p : ℕ) (links : List ℕ) : Type 0 where
  pub long : length links ≡ max_part
  pub link : (i : ℕ) → p ≤ i → i < k → get_or links i 0 ≡ next_in table list from k (bucket_of (spelled_at table list from i)) (suc i)

-- the k words from an offset of a list on, from the word number p on, in their buckets: the first word of each bucket, and for each word the next one
-- of its bucket
pub record Chains (table list : List ℕ) (from k p : ℕ) (heads links : List ℕ) : Type 0 where
  pub heads_long : length heads ≡ buckets
  pub head : (b : ℕ) → b < buckets → get_or heads b 0 ≡ next_in table list from k b p
  pub linked : Links table list from k p links

-- the hash table of the k words from an offset of a list on
pub record HashTable (table list : List ℕ) (from k : ℕ) (heads links starts : List ℕ) : Type 0 where
  pub few : k ≤ max_part
  pub inside : k ≤ length (words_at table list from)
  pub begun : Starts table list from k starts
  pub chained : Chains table list from k 0 heads links
