-- The list that is made of a text has at most one byte more than the text, and a text at most half as many words as bytes, rounded up. Assumes nothing.
use Prim.Native.Nat.{ℕ, zero, suc, ◌+◌, ◌≤◌, ◌<◌}
use mathlib.Core.Path.{◌≡◌, refl, ap, ◌∙◌}
use mathlib.Core.Bool.{Bool, true, false, cond, not}
use mathlib.Core.Logic.{◌⊎◌, inl, inr}
use mathlib.Core.List.{List, [], ◌∷◌, ◌++◌, map, flatten}
use native.Mathlib.Omega.{arith}
use lib.Dec.{eqb, leb}
use lib.ListN.{length, length-append}
use Rattle.base.specs.Lists.{filter_by, down_from, same}
use Rattle.base.proofs.Tests.{same_or_not, below_or_not, cond_same, cond_other, cond_most, cond_above}
use Rattle.lexicon.specs.Letters.{letter_in, line_feed}
use Rattle.lexicon.specs.Reading.{TextWord, word, extended, words_from, text_words, spellings}
use Rattle.word_order.specs.Order.{times_in, firsts_of, standing_times, by_frequency}
use Rattle.list_calls.specs.Making.{list_of, made_words, made_list, MadeFits, WordsFit}

-- how many bytes words take in a list
abbrev bytes_in : List (List ℕ) → ℕ
bytes_in [] = 0
bytes_in (w ∷ ws) = suc (length w) + bytes_in ws

bytes_append : (xs ys : List (List ℕ)) → bytes_in (xs ++ ys) ≡ bytes_in xs + bytes_in ys
bytes_append [] ys = omega arith
bytes_append (x ∷ xs) ys = omega (arith, bytes_append xs ys)

list_bytes_lem : (ws : List (List ℕ)) → length (list_of ws) ≡ bytes_in ws
unfolding list_of flatten
list_bytes_lem [] = refl
list_bytes_lem (w ∷ ws) =
    length-append (w ++ line_feed ∷ []) (list_of ws)
    ∙ omega (arith, length-append w (line_feed ∷ []), list_bytes_lem ws)

-- ---- the distinct words take at most what all words take

filter_bytes : (Q : List ℕ → Bool) (ws : List (List ℕ)) → bytes_in (filter_by Q ws) ≤ bytes_in ws
filter_bytes Q [] = omega arith
filter_bytes Q (w ∷ ws) = go (Q w) (filter_bytes Q ws)
  where
    go : (b : Bool) → bytes_in (filter_by Q ws) ≤ bytes_in ws → bytes_in (cond b (w ∷ filter_by Q ws) (filter_by Q ws)) ≤ suc (length w) + bytes_in ws
    go true ih = omega arith
    go false ih = omega arith

firsts_bytes : (ws : List (List ℕ)) → bytes_in (firsts_of ws) ≤ bytes_in ws
firsts_bytes [] = omega arith
firsts_bytes (w ∷ ws) = omega (arith, firsts_bytes ws, filter_bytes (λ (v : List ℕ). not (same w v)) (firsts_of ws))

-- those with a number that is n + 1, and those with one that is at most n
module _ (f : List ℕ → ℕ) where
  split_bytes : (n : ℕ) (ws : List (List ℕ)) → bytes_in (filter_by (λ (w : List ℕ). eqb (f w) (suc n)) ws) + bytes_in (filter_by (λ (w : List ℕ). leb (f w) n) ws) ≡ bytes_in (filter_by (λ (w : List ℕ). leb (f w) (suc n)) ws)
  split_bytes n [] = refl
  split_bytes n (w ∷ ws) = go (same_or_not (f w) (suc n)) (below_or_not n (f w)) (split_bytes n ws)
    where
      A : List (List ℕ)
      A = filter_by (λ (v : List ℕ). eqb (f v) (suc n)) ws

      B : List (List ℕ)
      B = filter_by (λ (v : List ℕ). leb (f v) n) ws

      C : List (List ℕ)
      C = filter_by (λ (v : List ℕ). leb (f v) (suc n)) ws

      go : (f w ≡ suc n) ⊎ (f w ≡ suc n → ⊥) → (n < f w) ⊎ (f w ≤ n) → bytes_in A + bytes_in B ≡ bytes_in C
          → bytes_in (cond (eqb (f w) (suc n)) (w ∷ A) A) + bytes_in (cond (leb (f w) n) (w ∷ B) B) ≡ bytes_in (cond (leb (f w) (suc n)) (w ∷ C) C)
      go (inl e) (inl l) ih = rw (cond_same (w ∷ A) A (f w) (suc n) e, cond_above (w ∷ B) B (f w) n l, cond_most (w ∷ C) C (f w) (suc n) (omega arith)) (omega arith)
      go (inl e) (inr l) ih = absurd (omega arith)
      go (inr d) (inl l) ih = rw (cond_other (w ∷ A) A (f w) (suc n) d, cond_above (w ∷ B) B (f w) n l, cond_above (w ∷ C) C (f w) (suc n) (omega arith)) ih
      go (inr d) (inr l) ih = rw (cond_other (w ∷ A) A (f w) (suc n) d, cond_most (w ∷ B) B (f w) n l, cond_most (w ∷ C) C (f w) (suc n) (omega arith)) (omega arith)

down_bytes : (words : List (List ℕ)) (n : ℕ) → bytes_in (flatten (map (standing_times words) (down_from n))) ≤ bytes_in (filter_by (λ (w : List ℕ). leb (times_in words w) n) (firsts_of words))
unfolding standing_times flatten
down_bytes words zero = omega arith
down_bytes words (suc n) =
    omega (
      arith,
      bytes_append (standing_times words (suc n)) (flatten (map (standing_times words) (down_from n))),
      down_bytes words n,
      split_bytes (times_in words) n (firsts_of words),
    )

order_bytes : (words : List (List ℕ)) → bytes_in (by_frequency words) ≤ bytes_in words
unfolding by_frequency
order_bytes words = omega (arith, down_bytes words (length words), filter_bytes (λ (w : List ℕ). leb (times_in words w) (length words)) (firsts_of words), firsts_bytes words)

-- ---- all words take at most one byte more than the text

-- how many bytes the words of a text take
abbrev bytes_of : List TextWord → ℕ
bytes_of [] = 0
bytes_of (w ∷ ws) = suc (length w.spelling) + bytes_of ws

-- the first word begins at an offset
abbrev Starts : ℕ → List TextWord → Type 0
Starts i [] = ⊥
Starts i (w ∷ ws) = w.offset ≡ i

module _ (table : List ℕ) where
  -- at most one byte more than the text, and no more where the text does not begin with a word
  words_bytes : (i : ℕ) (xs : List ℕ) → (bytes_of (words_from table i xs) ≤ suc (length xs)) × ((Starts i (words_from table i xs) → ⊥) → bytes_of (words_from table i xs) ≤ length xs)
  words_bytes i [] = (omega arith, λ n. omega arith)
  words_bytes i (x ∷ xs) = go (eqb (letter_in table x) 0) (words_from table (suc i) xs) (words_bytes (suc i) xs)
    where
      go : (b : Bool) (ws : List TextWord) → (bytes_of ws ≤ suc (length xs)) × ((Starts (suc i) ws → ⊥) → bytes_of ws ≤ length xs)
          → (bytes_of (cond b ws (extended i (letter_in table x) ws)) ≤ suc (suc (length xs))) × ((Starts i (cond b ws (extended i (letter_in table x) ws)) → ⊥) → bytes_of (cond b ws (extended i (letter_in table x) ws)) ≤ suc (length xs))
      go true ws ih = (omega (arith, ih.0), λ n. ih.0)
      go false [] ih = (omega arith, λ n. absurd (n refl))
      go false (w ∷ ws) ih = one (same_or_not w.offset (suc i))
        where
          y : ℕ
          y = letter_in table x

          longer : List TextWord
          longer = word i (y ∷ w.spelling) ∷ ws

          apart : List TextWord
          apart = word i (y ∷ []) ∷ w ∷ ws

          one : (w.offset ≡ suc i) ⊎ (w.offset ≡ suc i → ⊥)
              → (bytes_of (cond (eqb w.offset (suc i)) longer apart) ≤ suc (suc (length xs))) × ((Starts i (cond (eqb w.offset (suc i)) longer apart) → ⊥) → bytes_of (cond (eqb w.offset (suc i)) longer apart) ≤ suc (length xs))
          one (inl e) = rw (cond_same longer apart w.offset (suc i) e) (omega (arith, ih.0), λ n. absurd (n refl))
          one (inr d) = rw (cond_other longer apart w.offset (suc i) d) (omega (arith, ih.1 d), λ n. absurd (n refl))

spelling_bytes : (ws : List TextWord) → bytes_in (map (λ (w : TextWord). w.spelling) ws) ≡ bytes_of ws
spelling_bytes [] = refl
spelling_bytes (w ∷ ws) = ap (λ (n : ℕ). suc (length w.spelling) + n) (spelling_bytes ws)

pub made_fits : MadeFits
unfolding made_list made_words spellings text_words
made_fits table text =
    omega (
      arith,
      list_bytes_lem (by_frequency (spellings table text)),
      order_bytes (spellings table text),
      spelling_bytes (text_words table text),
      (words_bytes table 0 text).0,
    )

-- ---- at most one word for each two bytes

-- twice the number of words
abbrev twice : List TextWord → ℕ
twice ws = length ws + length ws

module _ (table : List ℕ) where
  -- each word has a letter, so that it takes two bytes at least
  words_twice : (i : ℕ) (xs : List ℕ) → twice (words_from table i xs) ≤ bytes_of (words_from table i xs)
  words_twice i [] = omega arith
  words_twice i (x ∷ xs) = go (eqb (letter_in table x) 0) (words_from table (suc i) xs) (words_twice (suc i) xs)
    where
      go : (b : Bool) (ws : List TextWord) → twice ws ≤ bytes_of ws → twice (cond b ws (extended i (letter_in table x) ws)) ≤ bytes_of (cond b ws (extended i (letter_in table x) ws))
      go true ws ih = ih
      go false [] ih = omega arith
      go false (w ∷ ws) ih = one (eqb w.offset (suc i))
        where
          one : (t : Bool) → twice (cond t (word i (letter_in table x ∷ w.spelling) ∷ ws) (word i (letter_in table x ∷ []) ∷ w ∷ ws))
              ≤ bytes_of (cond t (word i (letter_in table x ∷ w.spelling) ∷ ws) (word i (letter_in table x ∷ []) ∷ w ∷ ws))
          one true = omega arith
          one false = omega arith

pub words_fit : WordsFit
unfolding text_words
words_fit table text = omega (arith, words_twice table 0 text, (words_bytes table 0 text).0)
