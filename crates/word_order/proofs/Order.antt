-- The words of a text by frequency: each once, the most frequent first, equal ones by first appearance. Assumes nothing.
use Prim.Native.Nat.{ℕ, zero, suc, ◌+◌, ◌≤◌, ◌<◌}
use mathlib.Core.Path.{◌≡◌, refl, sym, ap, ap₂, ◌∙◌}
use mathlib.Core.Bool.{Bool, true, false, cond, not}
use mathlib.Core.Logic.{◌⊎◌, inl, inr}
use mathlib.Core.List.{List, [], ◌∷◌, ◌++◌, map, flatten}
use native.Mathlib.Omega.{arith}
use borrow.Author.Tests.{eqb-true, not-true}
use lib.Dec.{eqb}
use lib.ListN.{length, get_or, length-append}
use Rattle.base.specs.Lists.{All, Below, filter_by, first_where, down_from, count_of, same}
use Rattle.base.proofs.Tests.{below_or_not, same_or_not, and_true, cond_same, cond_other, false_of}
use Rattle.base.proofs.Lists.{all_at, filter_append, filter_most, filter_yes, filter_no, same_yes, same_true, same_false}
use Rattle.dense.specs.Code.{Closing}
use Rattle.dense.specs.Streams.{stream}
use Rattle.lexicon.specs.Lexicon.{list_rank, is_in, distinct}
use Rattle.lexicon.proofs.Members.{in_at, list_rank_below, list_rank_stands, distinct_place, list_rank_at}
use Rattle.word_order.specs.Order.{times_in, firsts_of, standing_times, by_frequency, OrderExact, OrdersAreExact}
use Rattle.word_order.proofs.Shortest.{shortest_stream}

-- ---- how often a word stands

-- two words are the same or not
pub alike : (w x : List ℕ) → (w ≡ x) ⊎ (w ≡ x → ⊥)
alike w x = go (same w x) refl
  where
    go : (b : Bool) → same w x ≡ b → (w ≡ x) ⊎ (w ≡ x → ⊥)
    go true e = inl (same_true w x e)
    go false e = inr (same_false w x e)

differ : (w x : List ℕ) → (w ≡ x → ⊥) → same w x ≡ false
differ w x n = false_of (same w x) (λ e. n (same_true w x e))

pub times_none : (w : List ℕ) → times_in [] w ≡ 0
unfolding times_in
times_none w = refl

pub times_yes : (x : List ℕ) (ws : List (List ℕ)) (w : List ℕ) → w ≡ x → times_in (x ∷ ws) w ≡ suc (times_in ws w)
unfolding times_in
times_yes x ws w e = filter_yes (same w) x ws (same_yes w x e)

pub times_no : (x : List ℕ) (ws : List (List ℕ)) (w : List ℕ) → (w ≡ x → ⊥) → times_in (x ∷ ws) w ≡ times_in ws w
unfolding times_in
times_no x ws w n = filter_no (same w) x ws (differ w x n)

times_append : (xs ys : List (List ℕ)) (w : List ℕ) → times_in (xs ++ ys) w ≡ times_in xs w + times_in ys w
unfolding times_in
times_append xs ys w = ap length (filter_append (same w) xs ys) ∙ length-append (filter_by (same w) xs) (filter_by (same w) ys)

times_most : (ws : List (List ℕ)) (w : List ℕ) → times_in ws w ≤ length ws
unfolding times_in
times_most ws w = filter_most (same w) ws

-- of the words that pass a test
times_filter : (Q : List ℕ → Bool) (ws : List (List ℕ)) (w : List ℕ) → times_in (filter_by Q ws) w ≡ cond (Q w) (times_in ws w) 0
times_filter Q [] w = times_none w ∙ sym (go (Q w))
  where
    go : (b : Bool) → cond b (times_in [] w) 0 ≡ 0
    go true = times_none w
    go false = refl
times_filter Q (x ∷ ws) w = go (Q x) refl (alike w x) (times_filter Q ws w)
  where
    go : (b : Bool) → Q x ≡ b → (w ≡ x) ⊎ (w ≡ x → ⊥) → times_in (filter_by Q ws) w ≡ cond (Q w) (times_in ws w) 0
        → times_in (cond (Q x) (x ∷ filter_by Q ws) (filter_by Q ws)) w ≡ cond (Q w) (times_in (x ∷ ws) w) 0
    go true q (inl e) ih =
        let p : Q w ≡ true = ap Q e ∙ q in
        let i : times_in (filter_by Q ws) w ≡ times_in ws w = ih ∙ ap (λ (b : Bool). cond b (times_in ws w) 0) p in
        rw (q, p) (times_yes x (filter_by Q ws) w e ∙ ap suc i ∙ sym (times_yes x ws w e))
    go false q (inl e) ih =
        let p : Q w ≡ false = ap Q e ∙ q in
        rw (q, p) (ih ∙ ap (λ (b : Bool). cond b (times_in ws w) 0) p)
    go true q (inr n) ih = rw q (times_no x (filter_by Q ws) w n ∙ ih ∙ ap (λ (m : ℕ). cond (Q w) m 0) (sym (times_no x ws w n)))
    go false q (inr n) ih = rw q (ih ∙ ap (λ (m : ℕ). cond (Q w) m 0) (sym (times_no x ws w n)))

-- ---- a word stands among words exactly if it stands at least once

has_times : (ws : List (List ℕ)) (w : List ℕ) (j : ℕ) → j < length ws → w ≡ get_or ws j [] → 1 ≤ times_in ws w
has_times [] w j h e = absurd (omega arith)
has_times (x ∷ ws) w zero h e = omega (arith, times_yes x ws w e)
has_times (x ∷ ws) w (suc j) h e = go (alike w x) (has_times ws w j (omega arith) e)
  where
    go : (w ≡ x) ⊎ (w ≡ x → ⊥) → 1 ≤ times_in ws w → 1 ≤ times_in (x ∷ ws) w
    go (inl q) ih = omega (arith, times_yes x ws w q)
    go (inr n) ih = omega (arith, times_no x ws w n)

in_times : (ws : List (List ℕ)) (w : List ℕ) → is_in ws w ≡ true → 1 ≤ times_in ws w
in_times ws w e = has_times ws w (list_rank ws w) (list_rank_below ws w e) (list_rank_stands ws w e)

times_place : (ws : List (List ℕ)) (w : List ℕ) → 1 ≤ times_in ws w → (j : ℕ) × (j < length ws) × (w ≡ get_or ws j [])
times_place [] w h = absurd (omega (arith, times_none w))
times_place (x ∷ ws) w h = go (alike w x) (times_place ws w)
  where
    go : (w ≡ x) ⊎ (w ≡ x → ⊥) → (1 ≤ times_in ws w → (j : ℕ) × (j < length ws) × (w ≡ get_or ws j [])) → (j : ℕ) × (j < suc (length ws)) × (w ≡ get_or (x ∷ ws) j [])
    go (inl q) ih = (0, omega arith, q)
    go (inr n) ih =
        let r = ih (omega (arith, times_no x ws w n)) in
        (suc r.0, omega (arith, r.1), r.2)

times_in_lem : (ws : List (List ℕ)) (w : List ℕ) → 1 ≤ times_in ws w → is_in ws w ≡ true
times_in_lem ws w h =
    let r = times_place ws w h in
    in_at ws w r.0 r.1 r.2

-- words of which none stands twice
once_distinct : (ws : List (List ℕ)) → ((w : List ℕ) → times_in ws w ≤ 1) → distinct ws ≡ true
once_distinct [] h = refl
once_distinct (x ∷ ws) h =
    and_true (not (is_in ws x)) (distinct ws)
    (ap not (false_of (is_in ws x) (λ e. omega (arith, in_times ws x e, times_yes x ws x refl, h x))))
    (once_distinct ws (λ w. go w (alike w x)))
  where
    go : (w : List ℕ) → (w ≡ x) ⊎ (w ≡ x → ⊥) → times_in ws w ≤ 1
    go w (inl e) = omega (arith, times_yes x ws w e, h w)
    go w (inr n) = omega (arith, times_no x ws w n, h w)

-- ---- the distinct words

firsts_yes : (ws : List (List ℕ)) (w : List ℕ) → 1 ≤ times_in ws w → times_in (firsts_of ws) w ≡ 1
firsts_yes [] w h = absurd (omega (arith, times_none w))
firsts_yes (x ∷ ws) w h = go (alike w x) (firsts_yes ws w)
  where
    rest : List (List ℕ)
    rest = filter_by (λ (v : List ℕ). not (same x v)) (firsts_of ws)

    go : (w ≡ x) ⊎ (w ≡ x → ⊥) → (1 ≤ times_in ws w → times_in (firsts_of ws) w ≡ 1) → times_in (x ∷ rest) w ≡ 1
    go (inl e) ih =
        let n : times_in rest w ≡ 0 = times_filter (λ (v : List ℕ). not (same x v)) (firsts_of ws) w ∙ ap (λ (b : Bool). cond (not b) (times_in (firsts_of ws) w) 0) (same_yes x w (sym e)) in
        times_yes x rest w e ∙ ap suc n
    go (inr n) ih =
        let m : times_in rest w ≡ times_in (firsts_of ws) w = times_filter (λ (v : List ℕ). not (same x v)) (firsts_of ws) w ∙ ap (λ (b : Bool). cond (not b) (times_in (firsts_of ws) w) 0) (differ x w (λ e. n (sym e))) in
        times_no x rest w n ∙ m ∙ ih (omega (arith, times_no x ws w n))

module _ (words : List (List ℕ)) where
  times_standing : (f : ℕ) (w : List ℕ) → times_in (standing_times words f) w ≡ cond (eqb (times_in words w) f) (times_in (firsts_of words) w) 0
  unfolding standing_times
  times_standing f w = times_filter (λ (v : List ℕ). eqb (times_in words v) f) (firsts_of words) w

  abbrev down : ℕ → List (List ℕ)
  down n = flatten (map (standing_times words) (down_from n))

  down_suc : (n : ℕ) (w : List ℕ) → times_in (down (suc n)) w ≡ cond (eqb (times_in words w) (suc n)) (times_in (firsts_of words) w) 0 + times_in (down n) w
  unfolding flatten
  down_suc n w = times_append (standing_times words (suc n)) (down n) w ∙ ap (λ (m : ℕ). m + times_in (down n) w) (times_standing (suc n) w)

  down_zero : (w : List ℕ) → times_in (down 0) w ≡ 0
  unfolding flatten
  down_zero w = times_none w

  down_out : (n : ℕ) (w : List ℕ) → (times_in words w ≡ 0) ⊎ (n < times_in words w) → times_in (down n) w ≡ 0
  down_out zero w h = down_zero w
  down_out (suc n) w h = down_suc n w ∙ ap₂ ◌+◌ (cond_other (times_in (firsts_of words) w) 0 (times_in words w) (suc n) (λ e. no e h)) (down_out n w (later h))
    where
      no : times_in words w ≡ suc n → (times_in words w ≡ 0) ⊎ (suc n < times_in words w) → ⊥
      no e (inl z) = omega arith
      no e (inr l) = omega arith

      later : (times_in words w ≡ 0) ⊎ (suc n < times_in words w) → (times_in words w ≡ 0) ⊎ (n < times_in words w)
      later (inl z) = inl z
      later (inr l) = inr (omega arith)

  down_in : (n : ℕ) (w : List ℕ) → 1 ≤ times_in words w → times_in words w ≤ n → times_in (down n) w ≡ 1
  down_in zero w h l = absurd (omega arith)
  down_in (suc n) w h l = down_suc n w ∙ go (same_or_not (times_in words w) (suc n)) (down_in n w h)
    where
      t : ℕ
      t = times_in (firsts_of words) w

      go : (times_in words w ≡ suc n) ⊎ (times_in words w ≡ suc n → ⊥) → (times_in words w ≤ n → times_in (down n) w ≡ 1) → cond (eqb (times_in words w) (suc n)) t 0 + times_in (down n) w ≡ 1
      go (inl e) ih = ap₂ ◌+◌ (cond_same t 0 (times_in words w) (suc n) e ∙ firsts_yes words w h) (down_out n w (inr (omega arith)))
      go (inr d) ih = ap₂ ◌+◌ (cond_other t 0 (times_in words w) (suc n) d) (ih (omega arith))

  order_yes : (w : List ℕ) → 1 ≤ times_in words w → times_in (by_frequency words) w ≡ 1
  unfolding by_frequency
  order_yes w h = down_in (length words) w h (times_most words w)

  order_no : (w : List ℕ) → times_in words w ≡ 0 → times_in (by_frequency words) w ≡ 0
  unfolding by_frequency
  order_no w e = down_out (length words) w (inl e)

  order_either : (w : List ℕ) → ((times_in (by_frequency words) w ≡ 1) × (1 ≤ times_in words w)) ⊎ ((times_in (by_frequency words) w ≡ 0) × (times_in words w ≡ 0))
  order_either w = go (below_or_not 0 (times_in words w))
    where
      go : (0 < times_in words w) ⊎ (times_in words w ≤ 0) → ((times_in (by_frequency words) w ≡ 1) × (1 ≤ times_in words w)) ⊎ ((times_in (by_frequency words) w ≡ 0) × (times_in words w ≡ 0))
      go (inl l) = inl (order_yes w l, l)
      go (inr l) =
          let z : times_in words w ≡ 0 = omega arith in
          inr (order_no w z, z)

  -- no word twice, each word of the text, no other
  order_once : distinct (by_frequency words) ≡ true
  order_once = once_distinct (by_frequency words) (λ w. go w (order_either w))
    where
      go : (w : List ℕ) → ((times_in (by_frequency words) w ≡ 1) × (1 ≤ times_in words w)) ⊎ ((times_in (by_frequency words) w ≡ 0) × (times_in words w ≡ 0)) → times_in (by_frequency words) w ≤ 1
      go w (inl p) = omega (arith, p.0)
      go w (inr p) = omega (arith, p.0)

  order_in : (w : List ℕ) → 1 ≤ times_in words w → is_in (by_frequency words) w ≡ true
  order_in w h = times_in_lem (by_frequency words) w (omega (arith, order_yes w h))

  order_from : (w : List ℕ) → 1 ≤ times_in (by_frequency words) w → 1 ≤ times_in words w
  order_from w h = go (order_either w)
    where
      go : ((times_in (by_frequency words) w ≡ 1) × (1 ≤ times_in words w)) ⊎ ((times_in (by_frequency words) w ≡ 0) × (times_in words w ≡ 0)) → 1 ≤ times_in words w
      go (inl p) = p.1
      go (inr p) = absurd (omega (arith, p.0))

-- what holds of a word at each place holds of all
all_words : (P : List ℕ → Type 0) (ws : List (List ℕ)) → ((w : List ℕ) → 1 ≤ times_in ws w → P w) → All P ws
all_words P [] h = tt
all_words P (x ∷ ws) h = (h x (omega (arith, times_yes x ws x refl)), all_words P ws (λ w l. h w (go w l (alike w x))))
  where
    go : (w : List ℕ) → 1 ≤ times_in ws w → (w ≡ x) ⊎ (w ≡ x → ⊥) → 1 ≤ times_in (x ∷ ws) w
    go w l (inl e) = omega (arith, times_yes x ws w e)
    go w l (inr n) = omega (arith, times_no x ws w n)

-- ---- in order

-- each word of a list stands in a relation to those behind it
abbrev Pairs : (List ℕ → List ℕ → Type 0) → List (List ℕ) → Type 0
Pairs R [] = Unit {0}
Pairs R (x ∷ xs) = All (R x) xs × Pairs R xs

pairs_at : (R : List ℕ → List ℕ → Type 0) (xs : List (List ℕ)) → Pairs R xs → (i j : ℕ) → i < j → j < length xs → R (get_or xs i []) (get_or xs j [])
pairs_at R [] p i j l h = absurd (omega arith)
pairs_at R (x ∷ xs) p i zero l h = absurd (omega arith)
pairs_at R (x ∷ xs) p zero (suc j) l h = all_at (R x) xs [] j p.0 (omega arith)
pairs_at R (x ∷ xs) p (suc i) (suc j) l h = pairs_at R xs p.1 i j (omega arith) (omega arith)

all_append : (P : List ℕ → Type 0) (xs ys : List (List ℕ)) → All P xs → All P ys → All P (xs ++ ys)
all_append P [] ys a b = b
all_append P (x ∷ xs) ys a b = (a.0, all_append P xs ys a.1 b)

pairs_append : (R : List ℕ → List ℕ → Type 0) (xs ys : List (List ℕ)) → Pairs R xs → Pairs R ys → All (λ (x : List ℕ). All (R x) ys) xs → Pairs R (xs ++ ys)
pairs_append R [] ys p q a = q
pairs_append R (x ∷ xs) ys p q a = (all_append (R x) xs ys p.0 a.0, pairs_append R xs ys p.1 q a.1)

-- of the words that pass a test
all_filter : (P : List ℕ → Type 0) (Q : List ℕ → Bool) (xs : List (List ℕ)) → All P xs → All P (filter_by Q xs)
all_filter P Q [] a = tt
all_filter P Q (x ∷ xs) a = go (Q x) (all_filter P Q xs a.1)
  where
    go : (b : Bool) → All P (filter_by Q xs) → All P (cond b (x ∷ filter_by Q xs) (filter_by Q xs))
    go true ih = (a.0, ih)
    go false ih = ih

all_passed : (Q : List ℕ → Bool) (xs : List (List ℕ)) → All (λ (x : List ℕ). Q x ≡ true) (filter_by Q xs)
all_passed Q [] = tt
all_passed Q (x ∷ xs) = go (Q x) refl (all_passed Q xs)
  where
    go : (b : Bool) → Q x ≡ b → All (λ (y : List ℕ). Q y ≡ true) (filter_by Q xs) → All (λ (y : List ℕ). Q y ≡ true) (cond b (x ∷ filter_by Q xs) (filter_by Q xs))
    go true e ih = (e, ih)
    go false e ih = ih

pairs_filter : (R : List ℕ → List ℕ → Type 0) (Q : List ℕ → Bool) (xs : List (List ℕ)) → Pairs R xs → Pairs R (filter_by Q xs)
pairs_filter R Q [] p = tt
pairs_filter R Q (x ∷ xs) p = go (Q x) (pairs_filter R Q xs p.1)
  where
    go : (b : Bool) → Pairs R (filter_by Q xs) → Pairs R (cond b (x ∷ filter_by Q xs) (filter_by Q xs))
    go true ih = (all_filter (R x) Q xs p.0, ih)
    go false ih = ih

all_both : (P S T : List ℕ → Type 0) → ((x : List ℕ) → P x → S x → T x) → (xs : List (List ℕ)) → All P xs → All S xs → All T xs
all_both P S T f [] a b = tt
all_both P S T f (x ∷ xs) a b = (f x a.0 b.0, all_both P S T f xs a.1 b.1)

-- a relation that follows from another for words with a property
pairs_imp : (P : List ℕ → Type 0) (R S : List ℕ → List ℕ → Type 0) → ((x y : List ℕ) → P x → P y → R x y → S x y) → (xs : List (List ℕ)) → All P xs → Pairs R xs → Pairs S xs
pairs_imp P R S f [] a p = tt
pairs_imp P R S f (x ∷ xs) a p = (all_both P (R x) (S x) (λ y q r. f x y a.0 q r) xs a.1 p.0, pairs_imp P R S f xs a.1 p.1)

-- the place at which a word appears first
abbrev place_in : List (List ℕ) → List ℕ → ℕ
place_in words w = first_where (same w) words

-- the distinct words are in the order of their first appearance
firsts_ordered : (ws : List (List ℕ)) → Pairs (λ (v w : List ℕ). place_in ws v < place_in ws w) (firsts_of ws)
firsts_ordered [] = tt
firsts_ordered (x ∷ ws) = (
  all_both Other Other (λ (w : List ℕ). place_in (x ∷ ws) x < place_in (x ∷ ws) w) (λ w p q. rw (here, later w p) (omega arith)) rest others others,
  pairs_imp Other (λ (v w : List ℕ). place_in ws v < place_in ws w) (λ (v w : List ℕ). place_in (x ∷ ws) v < place_in (x ∷ ws) w) (λ v w p q l. rw (later v p, later w q) (omega arith)) rest others
      (pairs_filter (λ (v w : List ℕ). place_in ws v < place_in ws w) (λ (v : List ℕ). not (same x v)) (firsts_of ws) (firsts_ordered ws)),
)
  where
    Other : List ℕ → Type 0
    Other v = not (same x v) ≡ true

    rest : List (List ℕ)
    rest = filter_by (λ (v : List ℕ). not (same x v)) (firsts_of ws)

    others : All Other rest
    others = all_passed (λ (v : List ℕ). not (same x v)) (firsts_of ws)

    here : place_in (x ∷ ws) x ≡ 0
    here = ap (λ (b : Bool). cond b 0 (suc (place_in ws x))) (same_yes x x refl)

    later : (v : List ℕ) → Other v → place_in (x ∷ ws) v ≡ suc (place_in ws v)
    later v p = ap (λ (b : Bool). cond b 0 (suc (place_in ws v))) (differ v x (λ e. same_false x v (not-true (same x v) p) (sym e)))

module _ (words : List (List ℕ)) where
  -- a word stands before another: it is more frequent, or as frequent and appears earlier
  abbrev Before : List ℕ → List ℕ → Type 0
  Before v w = (times_in words w < times_in words v) ⊎ ((times_in words w ≡ times_in words v) × (place_in words v < place_in words w))

  standing_times_lem : (f : ℕ) → All (λ (w : List ℕ). times_in words w ≡ f) (standing_times words f)
  unfolding standing_times
  standing_times_lem f =
      all_both (λ (w : List ℕ). eqb (times_in words w) f ≡ true) (λ (w : List ℕ). eqb (times_in words w) f ≡ true) (λ (w : List ℕ). times_in words w ≡ f) (λ w p q. eqb-true (times_in words w) f p)
      (standing_times words f) (all_passed (λ (w : List ℕ). eqb (times_in words w) f) (firsts_of words)) (all_passed (λ (w : List ℕ). eqb (times_in words w) f) (firsts_of words))

  standing_ordered : (f : ℕ) → Pairs Before (standing_times words f)
  unfolding standing_times
  standing_ordered f =
      pairs_imp (λ (w : List ℕ). times_in words w ≡ f) (λ (v w : List ℕ). place_in words v < place_in words w) Before (λ v w p q l. inr (q ∙ sym p, l)) (standing_times words f) (standing_times_lem f)
      (pairs_filter (λ (v w : List ℕ). place_in words v < place_in words w) (λ (w : List ℕ). eqb (times_in words w) f) (firsts_of words) (firsts_ordered words))

  down_few : (n : ℕ) → All (λ (w : List ℕ). times_in words w ≤ n) (down words n)
  unfolding flatten
  down_few zero = tt
  down_few (suc n) =
      all_append (λ (w : List ℕ). times_in words w ≤ suc n) (standing_times words (suc n)) (down words n)
      (all_both (λ (w : List ℕ). times_in words w ≡ suc n) (λ (w : List ℕ). times_in words w ≡ suc n) (λ (w : List ℕ). times_in words w ≤ suc n) (λ w p q. omega arith) (standing_times words (suc n)) (standing_times_lem (suc n)) (standing_times_lem (suc n)))
      (all_both (λ (w : List ℕ). times_in words w ≤ n) (λ (w : List ℕ). times_in words w ≤ n) (λ (w : List ℕ). times_in words w ≤ suc n) (λ w p q. omega arith) (down words n) (down_few n) (down_few n))

  down_ordered : (n : ℕ) → Pairs Before (down words n)
  unfolding flatten
  down_ordered zero = tt
  down_ordered (suc n) =
      pairs_append Before (standing_times words (suc n)) (down words n) (standing_ordered (suc n)) (down_ordered n)
      (all_both (λ (w : List ℕ). times_in words w ≡ suc n) (λ (w : List ℕ). times_in words w ≡ suc n) (λ (v : List ℕ). All (Before v) (down words n))
      (λ v p q. all_both (λ (w : List ℕ). times_in words w ≤ n) (λ (w : List ℕ). times_in words w ≤ n) (Before v) (λ w a b. inl (omega arith)) (down words n) (down_few n) (down_few n))
      (standing_times words (suc n)) (standing_times_lem (suc n)) (standing_times_lem (suc n)))

  order_ordered : Pairs Before (by_frequency words)
  unfolding by_frequency
  order_ordered = down_ordered (length words)

  order_before : (i j : ℕ) → i < j → j < length (by_frequency words) → Before (get_or (by_frequency words) i []) (get_or (by_frequency words) j [])
  order_before i j l h = pairs_at Before (by_frequency words) order_ordered i j l h

  order_frequent : (i j : ℕ) → i < j → j < length (by_frequency words) → times_in words (get_or (by_frequency words) j []) ≤ times_in words (get_or (by_frequency words) i [])
  order_frequent i j l h = go (order_before i j l h)
    where
      go : Before (get_or (by_frequency words) i []) (get_or (by_frequency words) j []) → times_in words (get_or (by_frequency words) j []) ≤ times_in words (get_or (by_frequency words) i [])
      go (inl m) = omega arith
      go (inr m) = omega (arith, m.0)

  order_earlier : (i j : ℕ) → i < j → j < length (by_frequency words) → times_in words (get_or (by_frequency words) j []) ≡ times_in words (get_or (by_frequency words) i [])
      → place_in words (get_or (by_frequency words) i []) < place_in words (get_or (by_frequency words) j [])
  order_earlier i j l h e = go (order_before i j l h)
    where
      go : Before (get_or (by_frequency words) i []) (get_or (by_frequency words) j []) → place_in words (get_or (by_frequency words) i []) < place_in words (get_or (by_frequency words) j [])
      go (inl m) = absurd (omega arith)
      go (inr m) = m.1

-- ---- frequencies of ranks

-- how often a rank stands in a text of which all words are in a list of words is how often its word stands
pub rank_times : (order : List (List ℕ)) → distinct order ≡ true → (i : ℕ) → i < length order → (ws : List (List ℕ)) → All (λ (w : List ℕ). is_in order w ≡ true) ws
    → count_of i (map (list_rank order) ws) ≡ times_in ws (get_or order i [])
rank_times order once i h [] a = sym (times_none (get_or order i []))
rank_times order once i h (x ∷ ws) a = go (alike (get_or order i []) x) (rank_times order once i h ws a.1)
  where
    n : ℕ
    n = count_of i (map (list_rank order) ws)

    go : (get_or order i [] ≡ x) ⊎ (get_or order i [] ≡ x → ⊥) → n ≡ times_in ws (get_or order i []) → cond (eqb (list_rank order x) i) (suc n) n ≡ times_in (x ∷ ws) (get_or order i [])
    go (inl e) ih = cond_same (suc n) n (list_rank order x) i (list_rank_at order x i once h (sym e)) ∙ ap suc ih ∙ sym (times_yes x ws (get_or order i []) e)
    go (inr d) ih =
        cond_other (suc n) n (list_rank order x) i (λ r. d (ap (λ (k : ℕ). get_or order k []) (sym r) ∙ sym (list_rank_stands order x a.0))) ∙ ih ∙ sym (times_no x ws (get_or order i []) d)

-- no rank stands there that is not below their number
rank_past : (order : List (List ℕ)) (i : ℕ) → length order ≤ i → (ws : List (List ℕ)) → All (λ (w : List ℕ). is_in order w ≡ true) ws → count_of i (map (list_rank order) ws) ≡ 0
rank_past order i h [] a = refl
rank_past order i h (x ∷ ws) a =
    let n : ℕ = count_of i (map (list_rank order) ws) in
    cond_other (suc n) n (list_rank order x) i (λ e. omega (arith, list_rank_below order x a.0)) ∙ rank_past order i h ws a.1

-- the ranks of words are below the number of the words of the list
pub ranks_inside : (order ws : List (List ℕ)) → All (λ (w : List ℕ). is_in order w ≡ true) ws → Below (length order) (map (list_rank order) ws)
ranks_inside order [] a = tt
ranks_inside order (x ∷ ws) a = (list_rank_below order x a.0, ranks_inside order ws a.1)

-- ---- the shortest stream

module _ (words : List (List ℕ)) where
  abbrev order : List (List ℕ)
  order = by_frequency words

  order_every : All (λ (w : List ℕ). is_in order w ≡ true) words
  order_every = all_words (λ (w : List ℕ). is_in order w ≡ true) words (λ w h. order_in words w h)

  order_no_other : All (λ (w : List ℕ). is_in words w ≡ true) order
  order_no_other = all_words (λ (w : List ℕ). is_in words w ≡ true) order (λ w h. times_in_lem words w (order_from words w h))

  order_falls : (i j : ℕ) → i ≤ j → count_of j (map (list_rank order) words) ≤ count_of i (map (list_rank order) words)
  order_falls i j l = go (below_or_not j (length order)) (same_or_not i j)
    where
      go : (j < length order) ⊎ (length order ≤ j) → (i ≡ j) ⊎ (i ≡ j → ⊥) → count_of j (map (list_rank order) words) ≤ count_of i (map (list_rank order) words)
      go h (inl e) = rw e (omega arith)
      go (inl h) (inr d) =
          omega (
            arith,
            rank_times order (order_once words) i (omega arith) words order_every,
            rank_times order (order_once words) j h words order_every,
            order_frequent words i j (omega arith) h,
          )
      go (inr h) (inr d) = omega (arith, rank_past order j h words order_every)

  module _ (other : List (List ℕ)) (once : distinct other ≡ true) (every : All (λ (w : List ℕ). is_in other w ≡ true) words) where
    -- a word of the order is in the other list
    both : (i : ℕ) → i < length order → is_in other (get_or order i []) ≡ true
    both i h =
        let w : List ℕ = get_or order i [] in
        let r = times_place words w (in_times words w (all_at (λ (v : List ℕ). is_in words v ≡ true) order [] i order_no_other h)) in
        ap (is_in other) r.2 ∙ all_at (λ (v : List ℕ). is_in other v ≡ true) words [] r.0 every r.1

    -- its rank there
    abbrev elsewhere : ℕ → ℕ
    elsewhere i = list_rank other (get_or order i [])

    own : (i j : ℕ) → i < length order → j < length order → elsewhere i ≡ elsewhere j → i ≡ j
    own i j h l e =
        distinct_place order i j (order_once words) h l
        (list_rank_stands other (get_or order i []) (both i h) ∙ ap (λ (k : ℕ). get_or other k []) e ∙ sym (list_rank_stands other (get_or order j []) (both j l)))

    ranks-elsewhere : (ws : List (List ℕ)) → All (λ (w : List ℕ). is_in order w ≡ true) ws → map elsewhere (map (list_rank order) ws) ≡ map (list_rank other) ws
    ranks-elsewhere [] a = refl
    ranks-elsewhere (x ∷ ws) a = ap₂ (λ (k : ℕ) (ks : List ℕ). k ∷ ks) (ap (list_rank other) (sym (list_rank_stands order x a.0))) (ranks-elsewhere ws a.1)

    order-shortest : (s : ℕ) → Closing s → length (stream s (map (list_rank order) words)) ≤ length (stream s (map (list_rank other) words))
    order-shortest s within =
        omega (
          arith,
          shortest_stream s within (length order) elsewhere own (map (list_rank order) words) (ranks_inside order words order_every) order_falls,
          ap (λ (t : List ℕ). length (stream s t)) (ranks-elsewhere words order_every),
        )

  order_exact_of : OrderExact words
  order_exact_of = record {
    once = order_once words;
    every = order_every;
    no_other = order_no_other;
    frequent = order_frequent words;
    earlier = order_earlier words;
    shortest = λ s within other once every. order-shortest other once every s within;
  }

-- the theorem
pub order_exact : OrdersAreExact
order_exact words = order_exact_of words
