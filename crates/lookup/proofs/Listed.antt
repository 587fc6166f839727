-- Laws of counting the words of a text that are listed, part by part, and of the first that is not. Assumes nothing.
use Prim.Native.Nat.{ℕ, zero, suc, ◌+◌, ◌-◌, ◌≤◌, ◌<◌}
use mathlib.Core.Path.{◌≡◌, refl, sym, ap, ◌∙◌}
use mathlib.Core.Bool.{Bool, true, false, cond, not, ◌&&◌, false≢true}
use mathlib.Core.List.{List, [], ◌∷◌, map}
use native.Mathlib.Omega.{arith}
use borrow.Author.Tests.{lt-ltb, le-ltb}
use lib.Dec.{ltb}
use lib.ListN.{length, take, drop, get_or, length-take, length-append}
use lib.Seq.{take-add}
use Rattle.base.proofs.Lists.{filter_append, filter_most, filter_yes, filter_no, filter_either}
use Rattle.base.proofs.Tests.{and_left, and_right}
use Rattle.base.specs.Lists.{All, all_pass, filter_by, first_where}
use Rattle.hashing.specs.HashTables.{index_in}
use Rattle.lexicon.specs.Lexicon.{list_rank, is_in, distinct}
use Rattle.lexicon.specs.Reading.{TextWord, spellings}
use Rattle.lookup.specs.Lookups.{count_in, count_listed, first_missing}
use Rattle.hashing.proofs.Parts.{WordsBefore, in_either, in_one}

module _ (table list : List ℕ) (from first : ℕ) (stands : WordsBefore table list from first)
    (k : ℕ) (inside : first + k ≤ length (spellings table list)) where
  -- so the words of a text are counted part by part
  pub count_parts : distinct (spellings table list) ≡ true → (ws : List TextWord)
      → count_listed (take (first + k) (spellings table list)) ws ≡ count_listed (take first (spellings table list)) ws + count_in table list from k ws
  unfolding count_listed count_in
  count_parts d ws =
      filter_either (λ (w : TextWord). is_in (take first (spellings table list)) w.spelling) (λ (w : TextWord). ltb 0 (index_in table list from k w.spelling))
      (λ (w : TextWord). is_in (take (first + k) (spellings table list)) w.spelling) (λ w. in_either table list from first stands k inside w.spelling) (λ w b h. in_one table list from first stands k inside d w.spelling b h) ws

-- ---- counting the words of a text

module _ (table list : List ℕ) (from k : ℕ) (vs rest : List TextWord) (w : TextWord) (n : ℕ) (e : vs ≡ w ∷ rest) (h : 0 < n) where
  -- one word less is left, which is in the part or not
  pub count_in_hit : 0 < index_in table list from k w.spelling → count_in table list from k (take n vs) ≡ suc (count_in table list from k (take (n - 1) rest))
  unfolding count_in
  count_in_hit l =
      let s : n ≡ suc (n - 1) = omega arith in
      ap (λ (xs : List TextWord). count_in table list from k (take n xs)) e ∙ ap (λ (m : ℕ). count_in table list from k (take m (w ∷ rest))) s
      ∙ filter_yes (λ (v : TextWord). ltb 0 (index_in table list from k v.spelling)) w (take (n - 1) rest) (lt-ltb 0 (index_in table list from k w.spelling) l)

  pub count_in_miss : index_in table list from k w.spelling ≤ 0 → count_in table list from k (take n vs) ≡ count_in table list from k (take (n - 1) rest)
  unfolding count_in
  count_in_miss l =
      let s : n ≡ suc (n - 1) = omega arith in
      ap (λ (xs : List TextWord). count_in table list from k (take n xs)) e ∙ ap (λ (m : ℕ). count_in table list from k (take m (w ∷ rest))) s
      ∙ filter_no (λ (v : TextWord). ltb 0 (index_in table list from k v.spelling)) w (take (n - 1) rest) (le-ltb 0 (index_in table list from k w.spelling) l)

pub count_in_none : (table list : List ℕ) (from k : ℕ) → count_in table list from k [] ≡ 0
unfolding count_in
count_in_none table list from k = refl

-- ---- the first word that is not in the list

module _ (words : List (List ℕ)) where
  pub listed_most : (ws : List TextWord) → count_listed words ws ≤ length ws
  unfolding count_listed
  listed_most ws = filter_most (λ (w : TextWord). is_in words w.spelling) ws

  -- it stands behind words that are all listed
  pub missing_behind : (end k : ℕ) (ws : List TextWord) → k ≤ length ws → count_listed words (take k ws) ≡ k → first_missing words end ws ≡ first_missing words end (drop k ws)
  unfolding count_listed
  missing_behind end zero ws h e = refl
  missing_behind end (suc k) [] h e = refl
  missing_behind end (suc k) (w ∷ ws) h e = go (is_in words w.spelling) refl (missing_behind end k ws (omega arith))
    where
      go : (t : Bool) → is_in words w.spelling ≡ t → (count_listed words (take k ws) ≡ k → first_missing words end ws ≡ first_missing words end (drop k ws))
          → cond t (first_missing words end ws) w.offset ≡ first_missing words end (drop k ws)
      go true q ih = ih (omega (arith, filter_yes (λ (v : TextWord). is_in words v.spelling) w (take k ws) q))
      go false q ih =
          absurd (omega (arith, filter_no (λ (v : TextWord). is_in words v.spelling) w (take k ws) q, filter_most (λ (v : TextWord). is_in words v.spelling) (take k ws), length-take k ws))

  -- it is the only word of a range that has one
  pub missing_here : (end : ℕ) (ws rest : List TextWord) (w : TextWord) → ws ≡ w ∷ rest → (count_listed words (take 1 ws) ≡ 1 → ⊥) → first_missing words end ws ≡ w.offset
  unfolding count_listed
  missing_here end ws rest w e n = ap (first_missing words end) e ∙ go (is_in words w.spelling) refl
    where
      go : (t : Bool) → is_in words w.spelling ≡ t → cond t (first_missing words end rest) w.offset ≡ w.offset
      go true q = absurd (n (ap (λ (xs : List TextWord). count_listed words (take 1 xs)) e ∙ filter_yes (λ (v : TextWord). is_in words v.spelling) w [] q))
      go false q = refl

  -- a range that has one has it behind a front that has none
  pub missing_split : (ws : List TextWord) (n k : ℕ) → k ≤ n → count_listed words (take k ws) ≡ k → (count_listed words (take n ws) ≡ n → ⊥)
      → count_listed words (take (n - k) (drop k ws)) ≡ n - k → ⊥
  unfolding count_listed
  missing_split ws n k h e d q =
      let s : n ≡ k + (n - k) = omega arith in
      d (ap (λ (m : ℕ). count_listed words (take m ws)) s ∙ ap (count_listed words) (take-add k (n - k) ws)
      ∙ ap length (filter_append (λ (v : TextWord). is_in words v.spelling) (take k ws) (take (n - k) (drop k ws)))
      ∙ length-append (filter_by (λ (v : TextWord). is_in words v.spelling) (take k ws)) (filter_by (λ (v : TextWord). is_in words v.spelling) (take (n - k) (drop k ws)))
      ∙ omega arith)

  -- where all are listed there is none
  pub missing_none : (end : ℕ) (ws : List TextWord) → all_pass (λ (w : TextWord). is_in words w.spelling) ws ≡ true → first_missing words end ws ≡ end
  missing_none end [] e = refl
  missing_none end (w ∷ ws) e =
      rw (and_left (is_in words w.spelling) (all_pass (λ (w : TextWord). is_in words w.spelling) ws) e)
      (missing_none end ws (and_right (is_in words w.spelling) (all_pass (λ (w : TextWord). is_in words w.spelling) ws) e))

  -- where one is not, its offset is that of the first that is not
  pub missing_some : (end : ℕ) (ws : List TextWord) → all_pass (λ (w : TextWord). is_in words w.spelling) ws ≡ false
      → first_missing words end ws ≡ get_or (map (λ (w : TextWord). w.offset) ws) (first_where (λ (w : TextWord). not (is_in words w.spelling)) ws) 0
  missing_some end [] e = absurd (false≢true (sym e))
  missing_some end (w ∷ ws) e = go (is_in words w.spelling) refl e (missing_some end ws)
    where
      go : (t : Bool) → is_in words w.spelling ≡ t → t && all_pass (λ (w : TextWord). is_in words w.spelling) ws ≡ false
          → (all_pass (λ (w : TextWord). is_in words w.spelling) ws ≡ false → first_missing words end ws ≡ get_or (map (λ (w : TextWord). w.offset) ws) (first_where (λ (w : TextWord). not (is_in words w.spelling)) ws) 0)
          → cond t (first_missing words end ws) w.offset ≡ get_or (map (λ (w : TextWord). w.offset) (w ∷ ws)) (cond (not t) 0 (suc (first_where (λ (w : TextWord). not (is_in words w.spelling)) ws))) 0
      go true q e ih = ih e
      go false q e ih = refl

  pub missing_below : (end : ℕ) (ws : List TextWord) → All (λ (w : TextWord). w.offset < end) ws → all_pass (λ (w : TextWord). is_in words w.spelling) ws ≡ false → first_missing words end ws < end
  missing_below end [] a e = absurd (false≢true (sym e))
  missing_below end (w ∷ ws) a e = go (is_in words w.spelling) e (missing_below end ws a.1)
    where
      go : (t : Bool) → t && all_pass (λ (w : TextWord). is_in words w.spelling) ws ≡ false → (all_pass (λ (w : TextWord). is_in words w.spelling) ws ≡ false → first_missing words end ws < end)
          → cond t (first_missing words end ws) w.offset < end
      go true e ih = ih e
      go false e ih = a.0

pub listed_none : (ws : List TextWord) → count_listed [] ws ≡ 0
unfolding count_listed is_in list_rank
listed_none [] = refl
listed_none (w ∷ ws) = listed_none ws

-- a range that has a word that is not listed is not empty
pub some_missing : (words : List (List ℕ)) (ws : List TextWord) (n : ℕ) → (count_listed words (take n ws) ≡ n → ⊥) → 0 < n
unfolding count_listed
some_missing words ws zero d = absurd (d refl)
some_missing words ws (suc n) d = omega arith
