-- The second word of what is sought: so many places from the anchor it stands wherever what is sought stands.
use Rattle.std.specs.Prelude.{ℕ, suc, ◌+◌, ◌-◌, ◌≤◌, ◌<◌, ◌≡◌, Bool, true, cond, List, leb, ltb, ℤ, pos, negsuc, length, get_or}
use Rattle.base.specs.Texts.{max_words}
use Rattle.matching.specs.declared.Sought.{Sought}
use Rattle.matching.specs.Sought.{hit_at}
use Rattle.anchors.specs.declared.Second.{Second}

-- a test of places has v beside the word i further: it holds only where v stands `there` further than `here` before that word, inside the text
pub record Beside (t : List ℕ) (v i here there : ℕ) (P : ℕ → Bool) : Type 0 where
  pub back : (q : ℕ) → P q ≡ true → here ≤ q + i
  pub inside : (q : ℕ) → P q ≡ true → q + i - here + there < length t
  pub word : (q : ℕ) → P q ≡ true → get_or t (q + i - here + there) 0 ≡ v

-- the second word of a pair at an offset in a text of n words: the word at the offset, or the first itself where no two words stand so far apart
abbrev pub second_at : ℤ → ℕ → Second
second_at (pos k) n = cond (ltb k n) (record { number = 1; here = 0; there = k }) (record { number = 0; here = 0; there = 0 })
second_at (negsuc k) n = cond (leb (suc k) n) (record { number = 1; here = suc k; there = 0 }) (record { number = 0; here = 0; there = 0 })

-- r is a second word of what is sought with this anchor: one of its words, and beside the anchor wherever what is sought stands
pub record SecondOf (t words : List ℕ) (sought : Sought) (anchor : ℕ) (r : Second) : Type 0 where
  pub numbered : r.number < length words
  pub beside : Beside t (get_or words r.number 0) anchor r.here r.there (hit_at t words sought)
  pub near : r.here ≤ max_words
  pub far : r.there ≤ max_words
