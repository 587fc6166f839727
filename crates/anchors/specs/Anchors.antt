-- The anchor of what is sought: the word along whose occurrences it is searched.
use Rattle.std.specs.Prelude.{ℕ, ◌≤◌, ◌<◌, ◌≡◌, List, length, get_or}
use Rattle.words.specs.Words.{frequency}
use Rattle.matching.specs.declared.Sought.{Sought}
use Rattle.matching.specs.declared.Sought.TheVariants.{Phrase, Pair}

-- the word at index r of a phrase is one of its rarest: none of its words stands less often in the text
pub record Rarest (t phrase : List ℕ) (r : ℕ) : Type 0 where
  pub inside : r < length phrase
  pub least : (i : ℕ) → i < length phrase → frequency t (get_or phrase r 0) ≤ frequency t (get_or phrase i 0)

-- the number of an anchor among the words: of a phrase one of its words, of a pair the first
abbrev pub AnchorOf : List ℕ → Sought → ℕ → Type 0
AnchorOf words Phrase i = i < length words
AnchorOf words (Pair d) i = i ≡ 0
