-- The words at the places with a count, in the order of their counts, are the words in the order of frequency. Assumes nothing.
use Prim.Native.Nat.{ℕ, zero, suc, ◌<◌}
use mathlib.Core.Path.{◌≡◌, refl, sym, ap, ap₂, ◌∙◌}
use mathlib.Core.Bool.{Bool, true, false, cond, not, ◌&&◌}
use mathlib.Core.Logic.{◌⊎◌, inl, inr}
use mathlib.Core.List.{List, [], ◌∷◌, ◌++◌, map, flatten, map-append}
use native.Mathlib.Omega.{arith}
use borrow.Author.Tests.{eq-eqb, ne_eqb, eqb-true, eqb-false}
use lib.Dec.{eqb}
use lib.ListN.{length, get_or, length-map}
use Rattle.base.specs.Lists.{All, Below, filter_by, first_where, range_from, down_from, count_of, same}
use Rattle.base.proofs.Tests.{same_or_not, cond_same, cond_other}
use Rattle.base.proofs.Lists.{all_of_at, map_map, same_yes, same_true, same_false}
use Rattle.base.proofs.Ranges.{length_map_range, get_d-map_range}
use Rattle.base.proofs.Filters.{filter_range_same}
use Rattle.base.proofs.Counts.{count_most}
use Rattle.lexicon.specs.Lexicon.{list_rank, is_in}
use Rattle.lexicon.proofs.Members.{list_rank_stands}
use Rattle.counting_sort.specs.Sorting.{places_by_count}
use Rattle.word_order.specs.Order.{times_in, firsts_of, standing_times, by_frequency}
use Rattle.word_order.proofs.Order.{alike, times_none, times_yes, times_no}
use Rattle.word_places.specs.Places.{word_of, first_appearances, appearance_counts, WordsByCount}
use Rattle.word_places.proofs.Firsts.{in_own}

-- whether the word at a place appears there first
abbrev pub is_first : List (List ℕ) → ℕ → Bool
is_first words p = eqb (first_where (same (word_of words p)) words) p

-- ---- filters and maps

filter_map : {A B : Type 0} (Q : B → Bool) (f : A → B) (xs : List A) → filter_by Q (map f xs) ≡ map f (filter_by (λ (x : A). Q (f x)) xs)
filter_map Q f [] = refl
filter_map {A} {B} Q f (x ∷ xs) = go (Q (f x)) (filter_map Q f xs)
  where
    go : (b : Bool) → filter_by Q (map f xs) ≡ map f (filter_by (λ (y : A). Q (f y)) xs)
        → cond b (f x ∷ filter_by Q (map f xs)) (filter_by Q (map f xs)) ≡ map f (cond b (x ∷ filter_by (λ (y : A). Q (f y)) xs) (filter_by (λ (y : A). Q (f y)) xs))
    go true ih = ap (λ (ys : List B). f x ∷ ys) ih
    go false ih = ih

filter_filter : (P Q : ℕ → Bool) (xs : List ℕ) → filter_by Q (filter_by P xs) ≡ filter_by (λ (x : ℕ). P x && Q x) xs
filter_filter P Q [] = refl
filter_filter P Q (x ∷ xs) = go (P x) (filter_filter P Q xs)
  where
    go : (b : Bool) → filter_by Q (filter_by P xs) ≡ filter_by (λ (y : ℕ). P y && Q y) xs
        → filter_by Q (cond b (x ∷ filter_by P xs) (filter_by P xs)) ≡ cond (b && Q x) (x ∷ filter_by (λ (y : ℕ). P y && Q y) xs) (filter_by (λ (y : ℕ). P y && Q y) xs)
    go true ih = ap (λ (ys : List ℕ). cond (Q x) (x ∷ ys) ys) ih
    go false ih = ih

range_shift : (a n : ℕ) → range_from (suc a) n ≡ map suc (range_from a n)
range_shift a zero = refl
range_shift a (suc n) = ap (λ (xs : List ℕ). suc a ∷ xs) (range_shift (suc a) n)

-- ---- first places

later_first : (x : List ℕ) (ws : List (List ℕ)) (q : ℕ) → is_first (x ∷ ws) (suc q) ≡ is_first ws q && not (same x (word_of ws q))
later_first x ws q = go (same (word_of ws q) x) refl
  where
    k : ℕ
    k = first_where (same (word_of ws q)) ws

    turned : (b : Bool) → same (word_of ws q) x ≡ b → same x (word_of ws q) ≡ b
    turned true e = same_yes x (word_of ws q) (sym (same_true (word_of ws q) x e))
    turned false e = other (same x (word_of ws q)) refl
      where
        other : (c : Bool) → same x (word_of ws q) ≡ c → same x (word_of ws q) ≡ false
        other true r = absurd (same_false (word_of ws q) x e (sym (same_true x (word_of ws q) r)))
        other false r = r

    none : (b : Bool) → b && false ≡ false
    none true = refl
    none false = refl

    all : (b : Bool) → b && true ≡ b
    all true = refl
    all false = refl

    next : (k ≡ q) ⊎ (k ≡ q → ⊥) → eqb (suc k) (suc q) ≡ eqb k q
    next (inl e) = eq-eqb (suc k) (suc q) (ap suc e) ∙ sym (eq-eqb k q e)
    next (inr d) = ne_eqb (suc k) (suc q) (λ e. omega (arith, d (omega arith))) ∙ sym (ne_eqb k q d)

    go : (b : Bool) → same (word_of ws q) x ≡ b → eqb (cond (same (word_of ws q) x) 0 (suc k)) (suc q) ≡ eqb k q && not (same x (word_of ws q))
    go true e = rw (e, turned true e) (ne_eqb 0 (suc q) (λ z. omega arith) ∙ sym (none (eqb k q)))
    go false e = rw (e, turned false e) (next (same_or_not k q) ∙ sym (all (eqb k q)))

firsts_places : (words : List (List ℕ)) → firsts_of words ≡ map (word_of words) (filter_by (is_first words) (range_from 0 (length words)))
firsts_places [] = refl
firsts_places (x ∷ ws) =
    ap (λ (vs : List (List ℕ)). x ∷ vs) (ap (filter_by (λ (v : List ℕ). not (same x v))) (firsts_places ws) ∙ kept ∙ moved)
    ∙ sym (ap (λ (b : Bool). map (word_of (x ∷ ws)) (cond b (0 ∷ filter_by (is_first (x ∷ ws)) (range_from 1 (length ws))) (filter_by (is_first (x ∷ ws)) (range_from 1 (length ws))))) here)
  where
    R : List ℕ
    R = range_from 0 (length ws)

    here : is_first (x ∷ ws) 0 ≡ true
    here = eq-eqb _ 0 (ap (λ (b : Bool). cond b 0 (suc (first_where (same x) ws))) (same_yes x x refl))

    kept : filter_by (λ (v : List ℕ). not (same x v)) (map (word_of ws) (filter_by (is_first ws) R)) ≡ map (word_of ws) (filter_by (λ (q : ℕ). is_first (x ∷ ws) (suc q)) R)
    kept =
        filter_map (λ (v : List ℕ). not (same x v)) (word_of ws) (filter_by (is_first ws) R)
        ∙ ap (map (word_of ws)) (filter_filter (is_first ws) (λ (q : ℕ). not (same x (word_of ws q))) R ∙ filter_range_same (λ (q : ℕ). is_first ws q && not (same x (word_of ws q))) (λ (q : ℕ). is_first (x ∷ ws) (suc q)) 0 (length ws) (λ q l h. sym (later_first x ws q)))

    moved : map (word_of ws) (filter_by (λ (q : ℕ). is_first (x ∷ ws) (suc q)) R) ≡ map (word_of (x ∷ ws)) (filter_by (is_first (x ∷ ws)) (range_from 1 (length ws)))
    moved =
        sym (ap (λ (ps : List ℕ). map (word_of (x ∷ ws)) (filter_by (is_first (x ∷ ws)) ps)) (range_shift 0 (length ws))
        ∙ ap (map (word_of (x ∷ ws))) (filter_map (is_first (x ∷ ws)) suc R)
        ∙ map_map (word_of (x ∷ ws)) suc (filter_by (λ (q : ℕ). is_first (x ∷ ws) (suc q)) R))

-- ---- by their counts

-- a place is the first place of a word among others as often as its own word stands there, if that appears there first, and else never
first_times : (words : List (List ℕ)) (p : ℕ) (ws : List (List ℕ)) → All (λ (w : List ℕ). is_in words w ≡ true) ws
    → count_of p (map (list_rank words) ws) ≡ cond (is_first words p) (times_in ws (word_of words p)) 0
unfolding list_rank
first_times words p [] a = sym (go (is_first words p))
  where
    go : (b : Bool) → cond b (times_in [] (word_of words p)) 0 ≡ 0
    go true = times_none (word_of words p)
    go false = refl
first_times words p (x ∷ ws) a = go (is_first words p) refl (alike (word_of words p) x) (first_times words p ws a.1)
  where
    n : ℕ
    n = count_of p (map (list_rank words) ws)

    -- a word whose first place is p is the word there
    there : list_rank words x ≡ p → word_of words p ≡ x
    there e = sym (list_rank_stands words x a.0 ∙ ap (word_of words) e)

    go : (b : Bool) → is_first words p ≡ b → (word_of words p ≡ x) ⊎ (word_of words p ≡ x → ⊥) → n ≡ cond (is_first words p) (times_in ws (word_of words p)) 0
        → cond (eqb (list_rank words x) p) (suc n) n ≡ cond (is_first words p) (times_in (x ∷ ws) (word_of words p)) 0
    go true f (inl e) ih =
        cond_same (suc n) n (list_rank words x) p (ap (list_rank words) (sym e) ∙ eqb-true (first_where (same (word_of words p)) words) p f)
        ∙ ap suc (ih ∙ ap (λ (b : Bool). cond b (times_in ws (word_of words p)) 0) f)
        ∙ sym (ap (λ (b : Bool). cond b (times_in (x ∷ ws) (word_of words p)) 0) f ∙ times_yes x ws (word_of words p) e)
    go true f (inr d) ih =
        cond_other (suc n) n (list_rank words x) p (λ e. d (there e)) ∙ ih
        ∙ ap (λ (m : ℕ). cond (is_first words p) m 0) (sym (times_no x ws (word_of words p) d))
    go false f d ih =
        cond_other (suc n) n (list_rank words x) p
        (λ e. eqb-false (first_where (same (word_of words p)) words) p f (ap (list_rank words) (there e) ∙ e))
        ∙ ih ∙ ap (λ (b : Bool). cond b (times_in ws (word_of words p)) 0) f ∙ sym (ap (λ (b : Bool). cond b (times_in (x ∷ ws) (word_of words p)) 0) f)

module _ (words : List (List ℕ)) where
  pub counts_long_lem : length (appearance_counts words) ≡ length words
  unfolding appearance_counts
  counts_long_lem = length_map_range (λ (p : ℕ). count_of p (first_appearances words)) 0 (length words)

  -- the count of a place
  pub count_place_lem : (p : ℕ) → p < length words → get_or (appearance_counts words) p 0 ≡ count_of p (first_appearances words)
  unfolding appearance_counts
  count_place_lem p h = get_d-map_range (λ (q : ℕ). count_of q (first_appearances words)) (length words) p 0 h

  count_at : (p : ℕ) → p < length words → get_or (appearance_counts words) p 0 ≡ cond (is_first words p) (times_in words (word_of words p)) 0
  unfolding first_appearances
  count_at p h = count_place_lem p h ∙ first_times words p words (all_of_at (λ (w : List ℕ). is_in words w ≡ true) words [] (in_own words))

  -- a place with a count is the first place of its word
  pub counted_first : (p : ℕ) → p < length words → 0 < get_or (appearance_counts words) p 0 → list_rank words (word_of words p) ≡ p
  unfolding list_rank
  counted_first p h l = go (is_first words p) refl
    where
      go : (b : Bool) → is_first words p ≡ b → first_where (same (word_of words p)) words ≡ p
      go true f = eqb-true (first_where (same (word_of words p)) words) p f
      go false f = absurd (omega (arith, count_at p h ∙ ap (λ (b : Bool). cond b (times_in words (word_of words p)) 0) f))

  -- a word stands at most as often as there are words
  pub counts_below : Below (suc (length words)) (appearance_counts words)
  unfolding first_appearances
  counts_below = all_of_at (λ (x : ℕ). x < suc (length words)) (appearance_counts words) 0 (λ p h. few p (omega (arith, counts_long_lem)))
    where
      few : (p : ℕ) → p < length words → get_or (appearance_counts words) p 0 < suc (length words)
      few p h = omega (arith, count_place_lem p h, count_most p (first_appearances words), length-map words (list_rank words))

  same_test : (n p : ℕ) → p < length words → eqb (get_or (appearance_counts words) p 0) (suc n) ≡ is_first words p && eqb (times_in words (word_of words p)) (suc n)
  same_test n p h = ap (λ (m : ℕ). eqb m (suc n)) (count_at p h) ∙ go (is_first words p)
    where
      go : (b : Bool) → eqb (cond b (times_in words (word_of words p)) 0) (suc n) ≡ b && eqb (times_in words (word_of words p)) (suc n)
      go true = refl
      go false = ne_eqb 0 (suc n) (λ z. omega arith)

  standing_places : (n : ℕ) → map (word_of words) (filter_by (λ (p : ℕ). eqb (get_or (appearance_counts words) p 0) (suc n)) (range_from 0 (length words))) ≡ standing_times words (suc n)
  unfolding standing_times
  standing_places n =
      ap (map (word_of words)) (filter_range_same (λ (p : ℕ). eqb (get_or (appearance_counts words) p 0) (suc n)) (λ (p : ℕ). is_first words p && eqb (times_in words (word_of words p)) (suc n)) 0 (length words) (λ p l h. same_test n p (omega arith))
      ∙ sym (filter_filter (is_first words) (λ (p : ℕ). eqb (times_in words (word_of words p)) (suc n)) (range_from 0 (length words))))
      ∙ sym (filter_map (λ (w : List ℕ). eqb (times_in words w) (suc n)) (word_of words) (filter_by (is_first words) (range_from 0 (length words))))
      ∙ ap (filter_by (λ (w : List ℕ). eqb (times_in words w) (suc n))) (sym (firsts_places words))

  down_places : (n : ℕ) → map (word_of words) (flatten (map (λ (often : ℕ). filter_by (λ (p : ℕ). eqb (get_or (appearance_counts words) p 0) often) (range_from 0 (length words))) (down_from n))) ≡ flatten (map (standing_times words) (down_from n))
  unfolding flatten
  down_places zero = refl
  down_places (suc n) = map-append (word_of words) (filter_by (λ (p : ℕ). eqb (get_or (appearance_counts words) p 0) (suc n)) (range_from 0 (length words))) _ ∙ ap₂ ◌++◌ (standing_places n) (down_places n)

pub words_by_count : WordsByCount
unfolding places_by_count by_frequency
words_by_count words =
    ap (λ (m : ℕ). map (word_of words) (flatten (map (λ (often : ℕ). filter_by (λ (p : ℕ). eqb (get_or (appearance_counts words) p 0) often) (range_from 0 m)) (down_from m)))) (counts_long_lem words)
    ∙ down_places words (length words)
