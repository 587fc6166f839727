-- Laws of the places at which the words of a text appear first. Assumes nothing.
use Prim.Native.Nat.{ℕ, ◌+◌, ◌≤◌, ◌<◌}
use mathlib.Core.Path.{◌≡◌, refl, sym, ap, ap₂, ◌∙◌}
use mathlib.Core.Bool.{true}
use mathlib.Core.List.{List, [], ◌∷◌}
use native.Mathlib.Omega.{arith}
use lib.ListN.{length, get_or, take, drop, length-map}
use Rattle.base.specs.Answers.{front}
use Rattle.base.specs.Lists.{Below}
use Rattle.base.proofs.Fronts.{take_front}
use Rattle.base.proofs.Lists.{all_of_at, get_d_map}
use Rattle.lexicon.specs.Lexicon.{list_rank, is_in}
use Rattle.lexicon.specs.Reading.{TextWord, word, text_words, spellings}
use Rattle.lexicon.proofs.Members.{in_at, list_rank_below}
use Rattle.scanning.specs.Scans.{start_from, run_at, words_at}
use Rattle.scanning.proofs.Scans.{words_first}
use Rattle.hashing.specs.HashTables.{spelled_at}
use Rattle.hashing.proofs.HashTables.{spelled_here}
use Rattle.hashing.proofs.Parts.{words_before_first, spelled_in_lem}
use Rattle.word_places.specs.Places.{first_appearances, word_of}

module _ (table text : List ℕ) where
  -- the words from the first on are the words of the text
  pub spelled_first : (j : ℕ) → spelled_at table text (start_from table text 0) j ≡ word_of (spellings table text) j
  spelled_first j =
      let e : 0 + j ≡ j = omega arith in
      spelled_in_lem table text (start_from table text 0) 0 (words_before_first table text) j ∙ ap (word_of (spellings table text)) e

  -- the word at a position that is so many words behind the first
  pub spelled_next : (at p : ℕ) (rest : List TextWord) → words_at table text at ≡ drop p (text_words table text) → words_at table text at ≡ word at (run_at table text at) ∷ rest
      → run_at table text at ≡ word_of (spellings table text) p
  spelled_next at p rest e n =
      sym (spelled_here table text (start_from table text 0) at p rest (e ∙ ap (drop p) (words_first table text)) n) ∙ spelled_first p

-- there is one for each word
pub appearances_long : (words : List (List ℕ)) → length (first_appearances words) ≡ length words
unfolding first_appearances
appearances_long words = length-map words (list_rank words)

-- the first place of the word at a place
pub appearance_at : (words : List (List ℕ)) (p : ℕ) → p < length words → get_or (first_appearances words) p 0 ≡ list_rank words (word_of words p)
unfolding first_appearances
appearance_at words p h = get_d_map (list_rank words) words p 0 [] h

-- a word stands among its own words
pub in_own : (words : List (List ℕ)) (p : ℕ) → p < length words → is_in words (word_of words p) ≡ true
in_own words p h = in_at words (word_of words p) p h refl

-- first places are places
pub appearances_below : (words : List (List ℕ)) (n : ℕ) → length words ≤ n → Below n (first_appearances words)
appearances_below words n l = all_of_at (λ (x : ℕ). x < n) (first_appearances words) 0 (λ p h. one p (omega (arith, appearances_long words)))
  where
    one : (p : ℕ) → p < length words → get_or (first_appearances words) p 0 < n
    one p h = omega (arith, appearance_at words p h, list_rank_below words (word_of words p) (in_own words p h))

-- those that are noted in front of a slice
pub appearances_noted : (words : List (List ℕ)) (size : ℕ) (slice firsts : List ℕ) → size ≡ length words → firsts ≡ front (first_appearances words) slice → take size firsts ≡ first_appearances words
appearances_noted words size slice firsts n e =
    let m : size ≡ length (first_appearances words) = n ∙ sym (appearances_long words) in
    ap₂ take m e ∙ take_front (first_appearances words) slice
