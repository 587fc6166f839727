-- Laws of going through a text: where its words begin and end, and which words are left. Assumes nothing.
use Prim.Native.Nat.{ℕ, suc, ◌+◌, ◌-◌, ◌≤◌, ◌<◌}
use mathlib.Core.Path.{◌≡◌, refl, sym, ap, ap₂, ◌∙◌}
use mathlib.Core.Bool.{Bool, true, false, cond, ◌&&◌}
use mathlib.Core.Logic.{◌⊎◌, inl, inr}
use mathlib.Core.List.{List, [], ◌∷◌, ◌++◌}
use native.Mathlib.Numerals.{add-one}
use native.Mathlib.Omega.{arith}
use borrow.Author.Tests.{eq-eqb, ne_eqb}
use lib.Dec.{eqb}
use lib.ListN.{length, drop, get_or, length-drop, drop_of_length-le, take}
use lib.Seq.{drop-cons, drop-drop, get_or-drop, take-suc}
use Rattle.base.specs.Lists.{All, same}
use Rattle.base.proofs.Tests.{same_or_not, below_or_not, cond_same, cond_other, cond_below, cond_not_below}
use Rattle.base.proofs.Lists.{all_imp}
use Rattle.lexicon.specs.Letters.{letter_in}
use Rattle.lexicon.specs.Reading.{TextWord, word, extended, words_from, text_words}
use Rattle.scanning.specs.Scans.{letter_at, gap, run, words_at, run_at, start_from, WordBegins, bucket_from, bucket_of}

-- ---- in front of a list

module _ (table : List ℕ) where
  -- a byte that is no separator
  abbrev pub Letter : ℕ → Type 0
  Letter x = letter_in table x ≡ 0 → ⊥

  pub gap_more : (x : ℕ) (xs : List ℕ) → letter_in table x ≡ 0 → gap table (x ∷ xs) ≡ suc (gap table xs)
  gap_more x xs e = cond_same (suc (gap table xs)) 0 (letter_in table x) 0 e

  pub gap_none : (x : ℕ) (xs : List ℕ) → Letter x → gap table (x ∷ xs) ≡ 0
  gap_none x xs n = cond_other (suc (gap table xs)) 0 (letter_in table x) 0 n

  pub run_none : (x : ℕ) (xs : List ℕ) → letter_in table x ≡ 0 → run table (x ∷ xs) ≡ []
  run_none x xs e = cond_same [] (letter_in table x ∷ run table xs) (letter_in table x) 0 e

  pub run_more : (x : ℕ) (xs : List ℕ) → Letter x → run table (x ∷ xs) ≡ letter_in table x ∷ run table xs
  run_more x xs n = cond_other [] (letter_in table x ∷ run table xs) (letter_in table x) 0 n

  pub words_skip : (i x : ℕ) (xs : List ℕ) → letter_in table x ≡ 0 → words_from table i (x ∷ xs) ≡ words_from table (suc i) xs
  words_skip i x xs e = cond_same (words_from table (suc i) xs) (extended i (letter_in table x) (words_from table (suc i) xs)) (letter_in table x) 0 e

  pub words_more : (i x : ℕ) (xs : List ℕ) → Letter x → words_from table i (x ∷ xs) ≡ extended i (letter_in table x) (words_from table (suc i) xs)
  words_more i x xs n = cond_other (words_from table (suc i) xs) (extended i (letter_in table x) (words_from table (suc i) xs)) (letter_in table x) 0 n

  -- never past the end
  pub gap_most : (xs : List ℕ) → gap table xs ≤ length xs
  gap_most [] = omega arith
  gap_most (x ∷ xs) = go (same_or_not (letter_in table x) 0) (gap_most xs)
    where
      go : (letter_in table x ≡ 0) ⊎ Letter x → gap table xs ≤ length xs → gap table (x ∷ xs) ≤ suc (length xs)
      go (inl e) h = omega (arith, gap_more x xs e)
      go (inr n) h = omega (arith, gap_none x xs n)

  pub run_most : (xs : List ℕ) → length (run table xs) ≤ length xs
  run_most [] = omega arith
  run_most (x ∷ xs) = go (same_or_not (letter_in table x) 0) (run_most xs)
    where
      go : (letter_in table x ≡ 0) ⊎ Letter x → length (run table xs) ≤ length xs → length (run table (x ∷ xs)) ≤ suc (length xs)
      go (inl e) h = omega (arith, ap length (run_none x xs e))
      go (inr n) h = omega (arith, ap length (run_more x xs n))

  -- behind the separators in front stands a letter
  pub gap_letter : (xs : List ℕ) → gap table xs < length xs → Letter (get_or xs (gap table xs) 0)
  gap_letter [] h = absurd (omega arith)
  gap_letter (x ∷ xs) h = go (same_or_not (letter_in table x) 0) (gap_letter xs)
    where
      go : (letter_in table x ≡ 0) ⊎ Letter x → (gap table xs < length xs → Letter (get_or xs (gap table xs) 0)) → Letter (get_or (x ∷ xs) (gap table (x ∷ xs)) 0)
      go (inl e) ih = rw (gap_more x xs e) (ih (omega (arith, gap_more x xs e)))
      go (inr n) ih = rw (gap_none x xs n) n

  -- the separators in front do not matter
  pub words_gap : (i : ℕ) (xs : List ℕ) → words_from table i xs ≡ words_from table (i + gap table xs) (drop (gap table xs) xs)
  words_gap i [] = refl
  words_gap i (x ∷ xs) = go (same_or_not (letter_in table x) 0) (words_gap (suc i) xs)
    where
      from : ℕ → List TextWord
      from g = words_from table (i + g) (drop g (x ∷ xs))

      go : (letter_in table x ≡ 0) ⊎ Letter x → words_from table (suc i) xs ≡ words_from table (suc i + gap table xs) (drop (gap table xs) xs)
          → words_from table i (x ∷ xs) ≡ from (gap table (x ∷ xs))
      go (inl e) ih =
          let k : suc i + gap table xs ≡ i + suc (gap table xs) = omega arith in
          words_skip i x xs e ∙ ih ∙ ap (λ (n : ℕ). words_from table n (drop (gap table xs) xs)) k ∙ ap from (sym (gap_more x xs e))
      go (inr n) ih =
          let k : i ≡ i + 0 = omega arith in
          ap (λ (n : ℕ). words_from table n (x ∷ xs)) k ∙ ap from (sym (gap_none x xs n))

  -- words begin where they are looked for, or later
  pub words_later : (i : ℕ) (xs : List ℕ) → All (λ (w : TextWord). i ≤ w.offset) (words_from table i xs)
  words_later i [] = tt
  words_later i (x ∷ xs) = go (same_or_not (letter_in table x) 0) (words_later (suc i) xs)
    where
      weaker : (ws : List TextWord) → All (λ (w : TextWord). suc i ≤ w.offset) ws → All (λ (w : TextWord). i ≤ w.offset) ws
      weaker = all_imp (λ (w : TextWord). suc i ≤ w.offset) (λ (w : TextWord). i ≤ w.offset) (λ w h. omega arith)

      join : (y : ℕ) (ws : List TextWord) → All (λ (w : TextWord). suc i ≤ w.offset) ws → All (λ (w : TextWord). i ≤ w.offset) (extended i y ws)
      join y [] a = (omega arith, tt)
      join y (w ∷ ws) a = by (eqb w.offset (suc i))
        where
          by : (t : Bool) → All (λ (w : TextWord). i ≤ w.offset) (cond t (word i (y ∷ w.spelling) ∷ ws) (word i (y ∷ []) ∷ w ∷ ws))
          by true = (omega arith, weaker ws a.1)
          by false = (omega arith, weaker (w ∷ ws) a)

      go : (letter_in table x ≡ 0) ⊎ Letter x → All (λ (w : TextWord). suc i ≤ w.offset) (words_from table (suc i) xs) → All (λ (w : TextWord). i ≤ w.offset) (words_from table i (x ∷ xs))
      go (inl e) a = rw (words_skip i x xs e) (weaker (words_from table (suc i) xs) a)
      go (inr n) a = rw (words_more i x xs n) (join (letter_in table x) (words_from table (suc i) xs) a)

  -- a letter before words that do not begin right after it is a word by itself
  pub extended_apart : (i y : ℕ) (ws : List TextWord) → All (λ (w : TextWord). suc (suc i) ≤ w.offset) ws → extended i y ws ≡ word i (y ∷ []) ∷ ws
  extended_apart i y [] a = refl
  extended_apart i y (w ∷ ws) a = cond_other (word i (y ∷ w.spelling) ∷ ws) (word i (y ∷ []) ∷ w ∷ ws) w.offset (suc i) (λ q. omega (arith, a.0))

  -- from a letter on: the word that it begins, and the words behind that
  pub words_run : (i x : ℕ) (xs : List ℕ) → Letter x
      → words_from table i (x ∷ xs) ≡ word i (run table (x ∷ xs)) ∷ words_from table (i + length (run table (x ∷ xs))) (drop (length (run table (x ∷ xs))) (x ∷ xs))
  words_run i x xs n = words_more i x xs n ∙ grows i x xs ∙ ap whole (sym (run_more x xs n))
    where
      whole : List ℕ → List TextWord
      whole r = word i r ∷ words_from table (i + length r) (drop (length r) (x ∷ xs))

      grows : (i x : ℕ) (xs : List ℕ) → extended i (letter_in table x) (words_from table (suc i) xs)
          ≡ word i (letter_in table x ∷ run table xs) ∷ words_from table (i + suc (length (run table xs))) (drop (length (run table xs)) xs)
      grows i x [] = refl
      grows i x (y ∷ ys) = go (same_or_not (letter_in table y) 0) (grows (suc i) y ys)
        where
          behind : List ℕ → List TextWord
          behind r = word i (letter_in table x ∷ r) ∷ words_from table (i + suc (length r)) (drop (length r) (y ∷ ys))

          go : (letter_in table y ≡ 0) ⊎ Letter y
              → extended (suc i) (letter_in table y) (words_from table (suc (suc i)) ys)
              ≡ word (suc i) (letter_in table y ∷ run table ys) ∷ words_from table (suc i + suc (length (run table ys))) (drop (length (run table ys)) ys)
              → extended i (letter_in table x) (words_from table (suc i) (y ∷ ys)) ≡ behind (run table (y ∷ ys))
          go (inl e) ih =
              let k : suc i ≡ i + 1 = omega arith in
              ap (extended i (letter_in table x)) (words_skip (suc i) y ys e)
              ∙ extended_apart i (letter_in table x) (words_from table (suc (suc i)) ys) (words_later (suc (suc i)) ys)
              ∙ ap (λ (ws : List TextWord). word i (letter_in table x ∷ []) ∷ ws) (sym (words_skip (suc i) y ys e) ∙ ap (λ (n : ℕ). words_from table n (y ∷ ys)) k)
              ∙ ap behind (sym (run_none y ys e))
          go (inr n) ih =
              let k : suc i + suc (length (run table ys)) ≡ i + suc (suc (length (run table ys))) = omega arith in
              let rest : List TextWord = words_from table (suc i + suc (length (run table ys))) (drop (length (run table ys)) ys) in
              ap (extended i (letter_in table x)) (words_more (suc i) y ys n ∙ ih)
              ∙ cond_same (word i (letter_in table x ∷ letter_in table y ∷ run table ys) ∷ rest) (word i (letter_in table x ∷ []) ∷ word (suc i) (letter_in table y ∷ run table ys) ∷ rest) (suc i) (suc i) refl
              ∙ ap (λ (m : ℕ). word i (letter_in table x ∷ letter_in table y ∷ run table ys) ∷ words_from table m (drop (length (run table ys)) ys)) k
              ∙ ap behind (sym (run_more y ys n))

-- ---- at a position of a text

-- a list from a position on is its element there and the list behind that
pub drop_here : (xs : List ℕ) (at : ℕ) → at < length xs → drop at xs ≡ get_or xs at 0 ∷ drop (at + 1) xs
drop_here xs at h = drop-cons xs at 0 h ∙ ap (λ (n : ℕ). get_or xs at 0 ∷ drop n xs) (sym (add-one at))

module _ (table text : List ℕ) where
  pub letter_inside : (at : ℕ) → at < length text → letter_at table text at ≡ letter_in table (get_or text at 0)
  unfolding letter_at
  letter_inside at h = cond_below (letter_in table (get_or text at 0)) 0 at (length text) h

  pub letter_end : (at : ℕ) → length text ≤ at → letter_at table text at ≡ 0
  unfolding letter_at
  letter_end at h = cond_not_below (letter_in table (get_or text at 0)) 0 at (length text) h

  pub run_at_letter : (at : ℕ) → at < length text → Letter table (get_or text at 0) → run_at table text at ≡ letter_in table (get_or text at 0) ∷ run_at table text (at + 1)
  unfolding run_at
  run_at_letter at h n = ap (run table) (drop_here text at h) ∙ run_more table (get_or text at 0) (drop (at + 1) text) n

  pub run_at_separator : (at : ℕ) → at < length text → letter_in table (get_or text at 0) ≡ 0 → run_at table text at ≡ []
  unfolding run_at
  run_at_separator at h e = ap (run table) (drop_here text at h) ∙ run_none table (get_or text at 0) (drop (at + 1) text) e

  pub run_at_end : (at : ℕ) → length text ≤ at → run_at table text at ≡ []
  unfolding run_at
  run_at_end at h = ap (run table) (drop_of_length-le text h)

  pub start_letter : (at : ℕ) → at < length text → Letter table (get_or text at 0) → start_from table text at ≡ at
  unfolding start_from
  start_letter at h n = omega (arith, ap (gap table) (drop_here text at h), gap_none table (get_or text at 0) (drop (at + 1) text) n)

  pub start_separator : (at : ℕ) → at < length text → letter_in table (get_or text at 0) ≡ 0 → start_from table text at ≡ start_from table text (at + 1)
  unfolding start_from
  start_separator at h e = omega (arith, ap (gap table) (drop_here text at h), gap_more table (get_or text at 0) (drop (at + 1) text) e)

  pub start_end : (at : ℕ) → length text ≤ at → start_from table text at ≡ at
  unfolding start_from
  start_end at h = omega (arith, ap (gap table) (drop_of_length-le text h))

  pub start_least : (at : ℕ) → at ≤ start_from table text at
  unfolding start_from
  start_least at = omega arith

  pub begins : (at : ℕ) → at ≤ length text → WordBegins table text (start_from table text at)
  unfolding start_from
  begins at h =
      let m : length (drop at text) ≡ length text - at = length-drop at text in
      record {
        inside = omega (arith, gap_most table (drop at text));
        letter = λ l. rw (get_or-drop at text (gap table (drop at text)) 0) at (gap_letter table (drop at text) (omega arith));
      }

  -- the words left are those from there on
  pub words_start : (at : ℕ) → words_at table text at ≡ words_at table text (start_from table text at)
  unfolding words_at start_from
  words_start at = words_gap table at (drop at text) ∙ ap (words_from table (at + gap table (drop at text))) (drop-drop (gap table (drop at text)) at text)

  pub words_end : (at : ℕ) → length text ≤ at → words_at table text at ≡ []
  unfolding words_at
  words_end at h = ap (words_from table at) (drop_of_length-le text h)

  -- they begin there or later
  pub words_after : (at : ℕ) → All (λ (w : TextWord). at ≤ w.offset) (words_at table text at)
  unfolding words_at
  words_after at = words_later table at (drop at text)

  -- a word fits the text
  pub run_at_inside : (at : ℕ) → at ≤ length text → at + length (run_at table text at) ≤ length text
  unfolding run_at
  run_at_inside at h = omega (arith, run_most table (drop at text), length-drop at text)

  -- the next word: it is the first of the words left, and the others are those from its end on
  pub record Next (at : ℕ) : Type 0 where
    pub words : words_at table text at ≡ word at (run_at table text at) ∷ words_at table text (start_from table text (at + length (run_at table text at)))
    pub inside : at + length (run_at table text at) ≤ length text
    pub some : 0 < length (run_at table text at)
    pub further : at < start_from table text (at + length (run_at table text at))
    pub begun : WordBegins table text (start_from table text (at + length (run_at table text at)))

  pub next : (at : ℕ) → WordBegins table text at → at < length text → Next at
  unfolding words_at run_at
  next at b h = record { words = first ∙ ap (λ (ws : List TextWord). word at (run_at table text at) ∷ ws) (words_start (at + length (run_at table text at))); inside = run_at_inside at b.inside; some = some; further = omega (arith, start_least (at + length (run_at table text at)), some); begun = begins (at + length (run_at table text at)) (run_at_inside at b.inside) }
    where
      some : 0 < length (run_at table text at)
      some = omega (arith, ap length (run_at_letter at h (b.letter h)))

      first : words_at table text at ≡ word at (run_at table text at) ∷ words_at table text (at + length (run_at table text at))
      first =
          ap (words_from table at) (drop_here text at h)
          ∙ words_run table at (get_or text at 0) (drop (at + 1) text) (b.letter h)
          ∙ ap (λ (xs : List ℕ). word at (run table xs) ∷ words_from table (at + length (run table xs)) (drop (length (run table xs)) xs)) (sym (drop_here text at h))
          ∙ ap (λ (xs : List ℕ). word at (run table (drop at text)) ∷ words_from table (at + length (run table (drop at text))) xs) (drop-drop (length (run table (drop at text))) at text)

  -- all words are those from the first on
  pub words_first : text_words table text ≡ words_at table text (start_from table text 0)
  unfolding text_words words_at
  words_first = whole ∙ words_start 0
    where
      whole : words_from table 0 text ≡ words_at table text 0
      whole = refl

-- the bucket of a word starts from nothing
pub bucket_first : (w : List ℕ) → bucket_of w ≡ bucket_from 0 w
unfolding bucket_of
bucket_first w = refl

-- ---- two words, letter by letter

module _ (table text : List ℕ) where
  pub run_at_more : (at : ℕ) → (letter_at table text at ≡ 0 → ⊥) → run_at table text at ≡ letter_at table text at ∷ run_at table text (at + 1)
  run_at_more at n = go (below_or_not at (length text))
    where
      go : (at < length text) ⊎ (length text ≤ at) → run_at table text at ≡ letter_at table text at ∷ run_at table text (at + 1)
      go (inl h) = rw (letter_inside table text at h) (run_at_letter table text at h (λ e. n (letter_inside table text at h ∙ e)))
      go (inr h) = absurd (n (letter_end table text at h))

  pub run_at_none : (at : ℕ) → letter_at table text at ≡ 0 → run_at table text at ≡ []
  run_at_none at e = go (below_or_not at (length text))
    where
      go : (at < length text) ⊎ (length text ≤ at) → run_at table text at ≡ []
      go (inl h) = run_at_separator table text at h (sym (letter_inside table text at h) ∙ e)
      go (inr h) = run_at_end table text at h

  -- a letter stands inside the text
  pub letter_below : (at : ℕ) → (letter_at table text at ≡ 0 → ⊥) → at < length text
  letter_below at n = go (below_or_not at (length text))
    where
      go : (at < length text) ⊎ (length text ≤ at) → at < length text
      go (inl h) = h
      go (inr h) = absurd (n (letter_end table text at h))

module _ (table text list : List ℕ) (i j : ℕ) where
  -- the same letter: the words agree exactly if they agree behind it
  pub same_letter : letter_at table text i ≡ letter_at table list j → (letter_at table text i ≡ 0 → ⊥)
      → same (run_at table text i) (run_at table list j) ≡ same (run_at table text (i + 1)) (run_at table list (j + 1))
  same_letter e n =
      ap₂ same (run_at_more table text i n) (run_at_more table list j (λ q. n (e ∙ q)))
      ∙ ap (λ (t : Bool). t && same (run_at table text (i + 1)) (run_at table list (j + 1))) (eq-eqb (letter_at table text i) (letter_at table list j) e)

  -- other letters: they do not agree
  pub other_letter : (letter_at table text i ≡ letter_at table list j → ⊥) → same (run_at table text i) (run_at table list j) ≡ false
  other_letter d = go (same_or_not (letter_at table text i) 0) (same_or_not (letter_at table list j) 0)
    where
      go : (letter_at table text i ≡ 0) ⊎ (letter_at table text i ≡ 0 → ⊥) → (letter_at table list j ≡ 0) ⊎ (letter_at table list j ≡ 0 → ⊥)
          → same (run_at table text i) (run_at table list j) ≡ false
      go (inl p) (inl q) = absurd (d (p ∙ sym q))
      go (inl p) (inr n) = ap₂ same (run_at_none table text i p) (run_at_more table list j n)
      go (inr m) (inl q) = ap₂ same (run_at_more table text i m) (run_at_none table list j q)
      go (inr m) (inr n) =
          ap₂ same (run_at_more table text i m) (run_at_more table list j n)
          ∙ ap (λ (t : Bool). t && same (run_at table text (i + 1)) (run_at table list (j + 1))) (ne_eqb (letter_at table text i) (letter_at table list j) d)

  -- both end: they agree
  pub both_end : letter_at table text i ≡ letter_at table list j → letter_at table text i ≡ 0 → same (run_at table text i) (run_at table list j) ≡ true
  both_end e p = ap₂ same (run_at_none table text i p) (run_at_none table list j (sym e ∙ p))

-- ---- the words of a text begin inside it

pub words_inside : (table : List ℕ) (i : ℕ) (xs : List ℕ) → All (λ (w : TextWord). w.offset < i + length xs) (words_from table i xs)
words_inside table i [] = tt
words_inside table i (x ∷ xs) = go (same_or_not (letter_in table x) 0) (words_inside table (suc i) xs)
  where
    Inside : TextWord → Type 0
    Inside w = w.offset < i + suc (length xs)

    weaker : (ws : List TextWord) → All (λ (w : TextWord). w.offset < suc i + length xs) ws → All Inside ws
    weaker = all_imp (λ (w : TextWord). w.offset < suc i + length xs) Inside (λ w h. omega arith)

    join : (y : ℕ) (ws : List TextWord) → All (λ (w : TextWord). w.offset < suc i + length xs) ws → All Inside (extended i y ws)
    join y [] a = (omega arith, tt)
    join y (w ∷ ws) a = by (eqb w.offset (suc i))
      where
        by : (t : Bool) → All Inside (cond t (word i (y ∷ w.spelling) ∷ ws) (word i (y ∷ []) ∷ w ∷ ws))
        by true = (omega arith, weaker ws a.1)
        by false = (omega arith, weaker (w ∷ ws) a)

    go : (letter_in table x ≡ 0) ⊎ Letter table x → All (λ (w : TextWord). w.offset < suc i + length xs) (words_from table (suc i) xs) → All Inside (words_from table i (x ∷ xs))
    go (inl e) a = rw (words_skip table i x xs e) (weaker (words_from table (suc i) xs) a)
    go (inr n) a = rw (words_more table i x xs n) (join (letter_in table x) (words_from table (suc i) xs) a)

pub text_words_inside : (table text : List ℕ) → All (λ (w : TextWord). w.offset < length text) (text_words table text)
unfolding text_words
text_words_inside table text =
    all_imp (λ (w : TextWord). w.offset < 0 + length text) (λ (w : TextWord). w.offset < length text) (λ w h. omega arith) (words_from table 0 text) (words_inside table 0 text)

-- ---- going through the words

-- the words behind the next one
pub left_next : (ws vs rest : List TextWord) (w : TextWord) (k : ℕ) → vs ≡ drop k ws → vs ≡ w ∷ rest → rest ≡ drop (k + 1) ws
left_next ws vs rest w k e n = ap (drop 1) (sym n ∙ e) ∙ drop-drop 1 k ws

pub left_step : (vs rest : List TextWord) (w : TextWord) (n : ℕ) → vs ≡ w ∷ rest → 0 < n → n ≤ length vs → (drop n vs ≡ drop (n - 1) rest) × (n - 1 ≤ length rest)
left_step vs rest w n e h l =
    let k : n ≡ suc (n - 1) = omega arith in
    (rw e (ap (λ (m : ℕ). drop m (w ∷ rest)) k), omega (arith, ap length e))

-- words that are not all passed begin inside
pub some_left : (table text : List ℕ) (at : ℕ) → 0 < length (words_at table text at) → at < length text
some_left table text at h = go (below_or_not at (length text))
  where
    go : (at < length text) ⊎ (length text ≤ at) → at < length text
    go (inl l) = l
    go (inr l) = absurd (omega (arith, ap length (words_end table text at l)))

-- the word from a position on, where so many words behind another one begin and are not the last
pub next_left : (table text : List ℕ) (from at k : ℕ) → WordBegins table text at → words_at table text at ≡ drop k (words_at table text from)
    → k < length (words_at table text from) → Next table text at
next_left table text from at k b e h =
    next table text at b (some_left table text at (omega (arith, ap length e, length-drop k (words_at table text from))))

-- the word from a position on, where so many words of a text are passed and not all
pub text_next : (table text : List ℕ) (at k : ℕ) → WordBegins table text at → words_at table text at ≡ drop k (text_words table text)
    → k < length (text_words table text) → Next table text at
text_next table text at k b e h = next table text at b (some_left table text at (omega (arith, ap length e, length-drop k (text_words table text))))

-- nothing is left
pub none : (n : ℕ) → n ≤ 0 → n ≡ 0
none n h = omega arith

-- the words passed and the next one
pub take_next : (ws vs rest : List TextWord) (w : TextWord) (k : ℕ) → vs ≡ drop k ws → vs ≡ w ∷ rest → take (k + 1) ws ≡ take k ws ++ (w ∷ [])
take_next ws vs rest w k e n =
    let h : k < length ws = omega (arith, ap length (sym n ∙ e), length-drop k ws) in
    let z : k + 0 ≡ k = omega arith in
    ap (λ (m : ℕ). take m ws) (add-one k) ∙ take-suc ws k w h
    ∙ ap (λ (v : TextWord). take k ws ++ (v ∷ []))
    (ap (λ (m : ℕ). get_or ws m w) (sym z) ∙ sym (get_or-drop k ws 0 w) ∙ ap (λ (vs : List TextWord). get_or vs 0 w) (sym e ∙ n))
