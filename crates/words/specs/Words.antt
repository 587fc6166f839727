-- Kinds 1 to 3 of a question, over the text itself.
use Rattle.std.specs.Prelude.{ℕ, suc, ◌-◌, ◌≤◌, ◌<◌, ◌≡◌, List, length, take, get_or}
use Rattle.base.specs.Lists.{count_of, nth}

-- kind 1: the rank at place p
abbrev pub rank_at : List ℕ → ℕ → ℕ
rank_at t p = get_or t p 0

-- kind 2: how often w stands at places below p
abbrev pub occurrences_below : List ℕ → ℕ → ℕ → ℕ
occurrences_below t w p = count_of w (take p t)

-- how often w stands in the text
abbrev pub frequency : List ℕ → ℕ → ℕ
frequency t w = count_of w t

-- kind 3: the place of the j-th w, counted from 1
abbrev pub nth_place : List ℕ → ℕ → ℕ → ℕ
nth_place t w j = nth w (j - 1) t

pub record WordsAgree (t : List ℕ) (w : ℕ) : Type 0 where
  -- for j from 1 to its frequency, the j-th place of w is inside the text
  pub inside : (j : ℕ) → 1 ≤ j → j ≤ frequency t w → nth_place t w j < length t
  -- w stands there
  pub stands : (j : ℕ) → 1 ≤ j → j ≤ frequency t w → rank_at t (nth_place t w j) ≡ w
  -- and j - 1 times below it
  pub before : (j : ℕ) → 1 ≤ j → j ≤ frequency t w → occurrences_below t w (nth_place t w j) ≡ j - 1
  -- each place of w is the one that is numbered by the w below it
  pub numbered : (p : ℕ) → p < length t → rank_at t p ≡ w → nth_place t w (suc (occurrences_below t w p)) ≡ p
  -- below the end of the text w stands as often as in the text
  pub whole : occurrences_below t w (length t) ≡ frequency t w

-- Statement: kinds 1 to 3 agree, of every text and word.
abbrev pub KindsAgree : Type 0
KindsAgree = (t : List ℕ) (w : ℕ) → WordsAgree t w
