-- Laws of words that are in a list of words, once or not at all. Assumes nothing.
use Prim.Native.Nat.{ℕ, zero, suc, ◌≤◌, ◌<◌, min}
use mathlib.Core.Path.{◌≡◌, refl, sym, ap, ◌∙◌}
use mathlib.Core.Bool.{true, false, not, false≢true}
use mathlib.Core.Logic.{◌⊎◌, inl, inr}
use mathlib.Core.List.{List, [], ◌∷◌}
use native.Mathlib.Omega.{arith}
use borrow.Author.Tests.{lt-ltb, ltb-true, not-true}
use lib.ListN.{length, take, get_or, length-take}
use lib.Seq.{get_or-take}
use Rattle.base.specs.Lists.{first_where, same}
use Rattle.base.proofs.Tests.{below_or_not, and_left, and_right, and_true, false_of}
use Rattle.base.proofs.Lists.{first_where_most, first_where_passes, same_yes, same_true}
use Rattle.lexicon.specs.Lexicon.{list_rank, is_in, distinct}

-- ---- members

-- a word that stands somewhere is in the list
pub in_at : (ws : List (List ℕ)) (w : List ℕ) (j : ℕ) → j < length ws → w ≡ get_or ws j [] → is_in ws w ≡ true
unfolding is_in list_rank
in_at ws w j h e = lt-ltb (first_where (same w) ws) (length ws) (omega (arith, first_where_most (same w) ws [] j h (same_yes w (get_or ws j []) e)))

-- a word of the list stands where its rank is
pub list_rank_below : (ws : List (List ℕ)) (w : List ℕ) → is_in ws w ≡ true → list_rank ws w < length ws
unfolding is_in
list_rank_below ws w e = ltb-true (list_rank ws w) (length ws) e

pub list_rank_stands : (ws : List (List ℕ)) (w : List ℕ) → is_in ws w ≡ true → w ≡ get_or ws (list_rank ws w) []
unfolding is_in list_rank
list_rank_stands ws w e = same_true w (get_or ws (first_where (same w) ws) []) (first_where_passes (same w) ws [] (ltb-true (first_where (same w) ws) (length ws) e))

-- a word that stands nowhere is not in the list
pub not_in : (ws : List (List ℕ)) (w : List ℕ) → ((j : ℕ) → j < length ws → w ≡ get_or ws j [] → ⊥) → is_in ws w ≡ false
not_in ws w n = false_of (is_in ws w) (λ e. n (list_rank ws w) (list_rank_below ws w e) (list_rank_stands ws w e))

-- ---- no word twice

pub distinct_at : (ws : List (List ℕ)) (i j : ℕ) → distinct ws ≡ true → i < j → j < length ws → get_or ws i [] ≡ get_or ws j [] → ⊥
distinct_at [] i j e l h q = absurd (omega arith)
distinct_at (w ∷ ws) i zero e l h q = absurd (omega arith)
distinct_at (w ∷ ws) zero (suc j) e l h q =
    false≢true (sym (not-true (is_in ws w) (and_left (not (is_in ws w)) (distinct ws) e)) ∙ in_at ws w j (omega arith) q)
distinct_at (w ∷ ws) (suc i) (suc j) e l h q = distinct_at ws i j (and_right (not (is_in ws w)) (distinct ws) e) (omega arith) (omega arith) q

-- two places of one word are one
pub distinct_place : (ws : List (List ℕ)) (i j : ℕ) → distinct ws ≡ true → i < length ws → j < length ws → get_or ws i [] ≡ get_or ws j [] → i ≡ j
distinct_place ws i j e h l q = go (below_or_not i j) (below_or_not j i)
  where
    go : (i < j) ⊎ (j ≤ i) → (j < i) ⊎ (i ≤ j) → i ≡ j
    go (inl m) b = absurd (distinct_at ws i j e m l q)
    go (inr m) (inl b) = absurd (distinct_at ws j i e b h (sym q))
    go (inr m) (inr b) = omega arith

pub distinct_of : (ws : List (List ℕ)) → ((i j : ℕ) → i < j → j < length ws → get_or ws i [] ≡ get_or ws j [] → ⊥) → distinct ws ≡ true
distinct_of [] n = refl
distinct_of (w ∷ ws) n =
    and_true (not (is_in ws w)) (distinct ws) (ap not (not_in ws w (λ j h q. n 0 (suc j) (omega arith) (omega arith) q)))
    (distinct_of ws (λ i j l h q. n (suc i) (suc j) (omega arith) (omega arith) q))

-- the rank of a word that stands somewhere is that place
pub list_rank_at : (ws : List (List ℕ)) (w : List ℕ) (i : ℕ) → distinct ws ≡ true → i < length ws → w ≡ get_or ws i [] → list_rank ws w ≡ i
list_rank_at ws w i e h q =
    let m : is_in ws w ≡ true = in_at ws w i h q in
    distinct_place ws (list_rank ws w) i e (list_rank_below ws w m) h (sym (list_rank_stands ws w m) ∙ q)

-- in a front of the list
pub in_front : (ws : List (List ℕ)) (w : List ℕ) (n j : ℕ) → j < n → j < length ws → w ≡ get_or ws j [] → is_in (take n ws) w ≡ true
in_front ws w n j l h q = in_at (take n ws) w j (omega (arith, length-take n ws)) (q ∙ sym (get_or-take n ws j [] l))

-- a word of a front stands in it
pub front_place : (ws : List (List ℕ)) (w : List ℕ) (n : ℕ) → is_in (take n ws) w ≡ true
    → (list_rank (take n ws) w < n) × (list_rank (take n ws) w < length ws) × (w ≡ get_or ws (list_rank (take n ws) w) [])
front_place ws w n e =
    let h : list_rank (take n ws) w < length (take n ws) = list_rank_below (take n ws) w e in
    let m : length (take n ws) ≡ min n (length ws) = length-take n ws in
    let l : list_rank (take n ws) w < n = omega arith in
    (l, omega arith, list_rank_stands (take n ws) w e ∙ get_or-take n ws (list_rank (take n ws) w) [] l)
