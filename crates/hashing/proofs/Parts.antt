-- Laws of the parts of a list: the words before a part, those found in it, and those up to its end. Assumes nothing.
use Prim.Native.Nat.{ℕ, zero, suc, ◌+◌, ◌-◌, ◌≤◌, ◌<◌}
use mathlib.Core.Path.{◌≡◌, refl, sym, ap, ◌∙◌}
use mathlib.Core.Bool.{Bool, true, false, false≢true, ◌||◌}
use mathlib.Core.Logic.{◌⊎◌, inl, inr}
use mathlib.Core.List.{List, []}
use native.Mathlib.Omega.{arith}
use lib.ListN.{length, drop, get_or, length-drop, get_or-map, length-map, take}
use lib.Seq.{get_or-drop, drop-drop}
use Rattle.hashing.specs.HashTables.{spelled_at, index_in}
use Rattle.lexicon.specs.Reading.{TextWord, word, text_words, spellings}
use Rattle.scanning.proofs.Scans.{words_first}
use Rattle.scanning.specs.Scans.{words_at, start_from}
use borrow.Author.Tests.{lt-ltb, le-ltb, ltb-true}
use lib.Dec.{ltb}
use Rattle.base.proofs.Tests.{below_or_not, or_false, or_left, or_right, false_of}
use Rattle.lexicon.proofs.Members.{distinct_at, in_front, front_place}
use Rattle.lexicon.specs.Lexicon.{list_rank, is_in, distinct}
use Rattle.hashing.proofs.HashTables.{index_most, index_word, index_absent}

-- so many words of the list stand before an offset
abbrev pub WordsBefore : List ℕ → List ℕ → ℕ → ℕ → Type 0
WordsBefore table list from first = words_at table list from ≡ drop first (text_words table list)

module _ (table list : List ℕ) (from first : ℕ) (stands : WordsBefore table list from first) where
  -- the words from there on are those of the list from there on
  pub spelled_in_lem : (j : ℕ) → spelled_at table list from j ≡ get_or (spellings table list) (first + j) []
  unfolding spelled_at spellings
  spelled_in_lem j =
      get_or-map (λ (w : TextWord). w.spelling) (words_at table list from) j (word 0 [])
      ∙ ap (λ (w : TextWord). w.spelling) (ap (λ (ws : List TextWord). get_or ws j (word 0 [])) stands ∙ get_or-drop first (text_words table list) j (word 0 []))
      ∙ sym (get_or-map (λ (w : TextWord). w.spelling) (text_words table list) (first + j) (word 0 []))

  pub words_left : length (words_at table list from) ≡ length (spellings table list) - first
  unfolding spellings
  words_left = ap length stands ∙ length-drop first (text_words table list) ∙ ap (λ (n : ℕ). n - first) (sym (length-map (text_words table list) (λ (w : TextWord). w.spelling)))

  -- a word that is found stands there, one that is not does not
  pub index_place : (k i : ℕ) (w : List ℕ) → index_in table list from k w ≡ suc i → w ≡ get_or (spellings table list) (first + i) []
  index_place k i w e = index_word table list from w k i e ∙ spelled_in_lem i

  pub index_nowhere : (k j : ℕ) (w : List ℕ) → index_in table list from k w ≡ 0 → j < k → w ≡ get_or (spellings table list) (first + j) [] → ⊥
  index_nowhere k j w e h q = index_absent table list from w k j h e (q ∙ sym (spelled_in_lem j))

  -- the words of the list up to the end of the part: those before it, and those found in it
  module _ (k : ℕ) (inside : first + k ≤ length (spellings table list)) where
    pub in_either : (w : List ℕ) → is_in (take (first + k) (spellings table list)) w ≡ is_in (take first (spellings table list)) w || ltb 0 (index_in table list from k w)
    in_either w = go (index_in table list from k w) refl (is_in (take first (spellings table list)) w) refl
      where
        S : List (List ℕ)
        S = spellings table list

        go : (n : ℕ) → index_in table list from k w ≡ n → (t : Bool) → is_in (take first S) w ≡ t → is_in (take (first + k) S) w ≡ is_in (take first S) w || ltb 0 (index_in table list from k w)
        go (suc i) e t b =
            in_front S w (first + k) (first + i) (omega (arith, index_most table list from w k)) (omega (arith, index_most table list from w k)) (index_place k i w e)
            ∙ sym (or_right (is_in (take first S) w) (ltb 0 (index_in table list from k w)) (lt-ltb 0 (index_in table list from k w) (omega arith)))
        go zero e true b =
            let p = front_place S w first b in
            in_front S w (first + k) (list_rank (take first S) w) (omega (arith, p.0)) p.1 p.2 ∙ sym (or_left (is_in (take first S) w) (ltb 0 (index_in table list from k w)) b)
        go zero e false b =
            false_of (is_in (take (first + k) S) w) (λ q. nowhere (front_place S w (first + k) q))
            ∙ sym (or_false (is_in (take first S) w) (ltb 0 (index_in table list from k w)) b (le-ltb 0 (index_in table list from k w) (omega arith)))
          where
            r : ℕ
            r = list_rank (take (first + k) S) w

            nowhere : (r < first + k) × (r < length S) × (w ≡ get_or S r []) → ⊥
            nowhere p = by (below_or_not r first)
              where
                by : (r < first) ⊎ (first ≤ r) → ⊥
                by (inl l) = false≢true (sym b ∙ in_front S w first r l p.1 p.2)
                by (inr l) =
                    let m : first + (r - first) ≡ r = omega arith in
                    index_nowhere k (r - first) w e (omega (arith, p.0)) (p.2 ∙ ap (λ (n : ℕ). get_or S n []) (sym m))

    pub in_one : distinct (spellings table list) ≡ true → (w : List ℕ) → is_in (take first (spellings table list)) w ≡ true → ltb 0 (index_in table list from k w) ≡ true → ⊥
    in_one d w b h =
        let p = front_place (spellings table list) w first b in
        let i : ℕ = index_in table list from k w - 1 in
        let e : index_in table list from k w ≡ suc i = omega (arith, ltb-true) in
        distinct_at (spellings table list) (list_rank (take first (spellings table list)) w) (first + i) d (omega (arith, p.0)) (omega (arith, index_most table list from w k))
        (sym p.2 ∙ index_place k i w e)

pub words_before_first : (table list : List ℕ) → WordsBefore table list (start_from table list 0) 0
words_before_first table list = sym (words_first table list)

pub words_before_more : (table list : List ℕ) (from first next k : ℕ) → WordsBefore table list from first → words_at table list next ≡ drop k (words_at table list from) → WordsBefore table list next (first + k)
words_before_more table list from first next k s e = e ∙ ap (drop k) s ∙ drop-drop k first (text_words table list)
