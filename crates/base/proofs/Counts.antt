-- Laws of counting an element, and of finding the one with so many others before it. Assumes nothing.
use Prim.Native.Nat.{ℕ, zero, suc, ◌+◌, ◌-◌, ◌≤◌, ◌<◌, min}
use mathlib.Core.Path.{◌≡◌, refl, sym, ap, ◌∙◌}
use mathlib.Core.Bool.{Bool, true, false, cond}
use mathlib.Core.Logic.{◌⊎◌, inl, inr}
use mathlib.Core.List.{List, [], ◌∷◌, ◌++◌, append-nil}
use native.Mathlib.Omega.{arith}
use lib.Dec.{eqb}
use lib.ListN.{length, take, drop, get_or, length-take, length-drop, take-append-drop}
use lib.Seq.{take-suc, take-add, take_all, take-length, take-take, get_or-take, length-take-le, slice}
use Rattle.base.specs.Lists.{All, count_of, nth}
use Rattle.base.proofs.Tests.{same_or_not, below_or_not, cond_same, cond_other}

-- ---- how often

-- of two lists
pub count_append : (e : ℕ) (xs ys : List ℕ) → count_of e (xs ++ ys) ≡ count_of e xs + count_of e ys
count_append e [] ys = omega arith
count_append e (x ∷ xs) ys = rw (count_append e xs ys) (go (eqb x e))
  where
    go : (t : Bool) → cond t (suc (count_of e xs + count_of e ys)) (count_of e xs + count_of e ys) ≡ cond t (suc (count_of e xs)) (count_of e xs) + count_of e ys
    go true = omega arith
    go false = refl

-- one more element, equal to e: one more; another: as many
pub count_hit : (e : ℕ) (xs : List ℕ) (i : ℕ) → i < length xs → get_or xs i 0 ≡ e → count_of e (take (suc i) xs) ≡ suc (count_of e (take i xs))
count_hit e xs i h q = rw (take-suc xs i 0 h, count_append) (ap (λ (n : ℕ). count_of e (take i xs) + n) (cond_same (suc 0) 0 (get_or xs i 0) e q) ∙ omega arith)

pub count_miss : (e : ℕ) (xs : List ℕ) (i : ℕ) → i < length xs → (get_or xs i 0 ≡ e → ⊥) → count_of e (take (suc i) xs) ≡ count_of e (take i xs)
count_miss e xs i h q = rw (take-suc xs i 0 h, count_append) (ap (λ (n : ℕ). count_of e (take i xs) + n) (cond_other (suc 0) 0 (get_or xs i 0) e q) ∙ omega arith)

-- the first i elements and the n after them
pub count_part : (e i n : ℕ) (xs : List ℕ) → count_of e (take (i + n) xs) ≡ count_of e (take i xs) + count_of e (take n (drop i xs))
count_part e i n xs = ap (count_of e) (take-add i n xs) ∙ count_append e (take i xs) (take n (drop i xs))

-- the first i elements and those from i to before k
pub count_slice : (e i k : ℕ) (xs : List ℕ) → i ≤ k → count_of e (take k xs) ≡ count_of e (take i xs) + count_of e (slice i k xs)
count_slice e i k xs h = rw (← take-take i k xs h, ← count_append, take-append-drop)

-- none, where no element is equal to e
pub count_none : (e : ℕ) (xs : List ℕ) → All (λ (x : ℕ). x ≡ e → ⊥) xs → count_of e xs ≡ 0
count_none e [] a = refl
count_none e (x ∷ xs) a = cond_other _ _ x e a.0 ∙ count_none e xs a.1

-- never more than there are elements
pub count_most : (e : ℕ) (xs : List ℕ) → count_of e xs ≤ length xs
count_most e [] = omega arith
count_most e (x ∷ xs) = go (eqb x e) (count_most e xs)
  where
    go : (t : Bool) → count_of e xs ≤ length xs → cond t (suc (count_of e xs)) (count_of e xs) ≤ suc (length xs)
    go true h = omega arith
    go false h = omega arith

pub count_take_most : (e i : ℕ) (xs : List ℕ) → count_of e (take i xs) ≤ length xs
count_take_most e i xs = omega (arith, count_most e (take i xs), length-take i xs)

-- a front has at most as many of an element as a longer front, and as the whole list
pub count_take_rises : (e i k : ℕ) (xs : List ℕ) → i ≤ k → count_of e (take i xs) ≤ count_of e (take k xs)
count_take_rises e i k xs h = omega (arith, count_slice e i k xs h)

pub count_take_whole : (e i : ℕ) (xs : List ℕ) → count_of e (take i xs) ≤ count_of e xs
count_take_whole e i xs = omega (arith, ap (count_of e) (take-append-drop i xs), count_append e (take i xs) (drop i xs))

-- below an e there are fewer e than in the whole
pub count_take_less : (e : ℕ) (xs : List ℕ) (i : ℕ) → i < length xs → get_or xs i 0 ≡ e → count_of e (take i xs) < count_of e xs
count_take_less e [] i h q = absurd (omega arith)
count_take_less e (x ∷ xs) zero h q = rw (cond_same (suc (count_of e xs)) (count_of e xs) x e q) (omega arith)
count_take_less e (x ∷ xs) (suc i) h q = go (count_take_less e xs i (omega arith) q) (eqb x e)
  where
    go : count_of e (take i xs) < count_of e xs → (t : Bool) → cond t (suc (count_of e (take i xs))) (count_of e (take i xs)) < cond t (suc (count_of e xs)) (count_of e xs)
    go ih true = omega arith
    go ih false = ih

-- ---- where

-- past an element that is not e, and past one that is
pub nth_skip : (e j x : ℕ) (xs : List ℕ) → (x ≡ e → ⊥) → nth e j (x ∷ xs) ≡ suc (nth e j xs)
nth_skip e zero x xs n = cond_other 0 (suc (nth e 0 xs)) x e n
nth_skip e (suc j) x xs n = ap suc (cond_other (nth e j xs) (nth e (suc j) xs) x e n)

pub nth_step : (e j x : ℕ) (xs : List ℕ) → x ≡ e → nth e (suc j) (x ∷ xs) ≡ suc (nth e j xs)
nth_step e j x xs q = ap suc (cond_same (nth e j xs) (nth e (suc j) xs) x e q)

-- the place of an e with j others before it is the only one
pub nth_here : (e j i : ℕ) (xs : List ℕ) → i < length xs → get_or xs i 0 ≡ e → count_of e (take i xs) ≡ j → nth e j xs ≡ i
nth_here e j i xs h q c = ap (λ (m : ℕ). nth e m xs) (sym c) ∙ found i xs h q
  where
    found : (i : ℕ) (xs : List ℕ) → i < length xs → get_or xs i 0 ≡ e → nth e (count_of e (take i xs)) xs ≡ i
    found i [] h q = absurd (omega arith)
    found zero (x ∷ xs) h q = cond_same 0 (suc (nth e 0 xs)) x e q
    found (suc i) (x ∷ xs) h q = go (same_or_not x e) (found i xs (omega arith) q)
      where
        m : ℕ
        m = count_of e (take i xs)

        go : (x ≡ e) ⊎ (x ≡ e → ⊥) → nth e m xs ≡ i → nth e (cond (eqb x e) (suc m) m) (x ∷ xs) ≡ suc i
        go (inl r) ih = rw (cond_same (suc m) m x e r) (nth_step e m x xs r ∙ ap suc ih)
        go (inr n) ih = rw (cond_other (suc m) m x e n) (nth_skip e m x xs n ∙ ap suc ih)

-- what is known of the place that is found: it is inside, e stands there, and j others before it
pub record Found (e j : ℕ) (xs : List ℕ) : Type 0 where
  pub inside : nth e j xs < length xs
  pub stands : get_or xs (nth e j xs) 0 ≡ e
  pub before : count_of e (take (nth e j xs) xs) ≡ j

-- an e with j others before it is found if there are more than j
pub nth_found : (e j : ℕ) (xs : List ℕ) → j < count_of e xs → Found e j xs
nth_found e j xs h = up (length xs) (omega arith) (rw (take-length xs) h)
  where
    -- where it is that element
    at : (n : ℕ) → n < length xs → get_or xs n 0 ≡ e → count_of e (take n xs) ≡ j → Found e j xs
    at n l q c =
        let here : nth e j xs ≡ n = nth_here e j n xs l q c in
        record { inside = omega arith; stands = ap (λ (i : ℕ). get_or xs i 0) here ∙ q; before = ap (λ (i : ℕ). count_of e (take i xs)) here ∙ c }

    -- among the first n elements
    up : (n : ℕ) → n ≤ length xs → j < count_of e (take n xs) → Found e j xs
    up zero l h = absurd (omega arith)
    up (suc n) l h = by (up n (omega arith)) (same_or_not (get_or xs n 0) e) (same_or_not (count_of e (take n xs)) j)
      where
        by : (j < count_of e (take n xs) → Found e j xs) → (get_or xs n 0 ≡ e) ⊎ (get_or xs n 0 ≡ e → ⊥)
            → (count_of e (take n xs) ≡ j) ⊎ (count_of e (take n xs) ≡ j → ⊥) → Found e j xs
        by ih (inl q) (inl c) = at n (omega arith) q c
        by ih (inl q) (inr d) = ih (omega (arith, count_hit e xs n (omega arith) q))
        by ih (inr d) c = ih (omega (arith, count_miss e xs n (omega arith) d))

-- past the first of two lists, where that has at most j
pub nth_second : (e j : ℕ) (xs ys : List ℕ) → count_of e xs ≤ j → nth e j (xs ++ ys) ≡ length xs + nth e (j - count_of e xs) ys
nth_second e j [] ys h =
    let m : j - 0 ≡ j = omega arith in
    rw m (omega arith)
nth_second e j (x ∷ xs) ys h = go (λ j. nth_second e j xs ys) (same_or_not x e) j h
  where
    go : ((j : ℕ) → count_of e xs ≤ j → nth e j (xs ++ ys) ≡ length xs + nth e (j - count_of e xs) ys) → (x ≡ e) ⊎ (x ≡ e → ⊥)
        → (j : ℕ) → count_of e (x ∷ xs) ≤ j → nth e j (x ∷ xs ++ ys) ≡ suc (length xs) + nth e (j - count_of e (x ∷ xs)) ys
    go ih (inl q) zero l =
        let c : suc (count_of e xs) ≤ 0 = rw (cond_same (suc (count_of e xs)) (count_of e xs) x e q) at l in
        absurd (omega arith)
    go ih (inl q) (suc j) l =
        let c : suc (count_of e xs) ≤ suc j = rw (cond_same (suc (count_of e xs)) (count_of e xs) x e q) at l in
        let m : suc j - suc (count_of e xs) ≡ j - count_of e xs = omega arith in
        rw (cond_same (suc (count_of e xs)) (count_of e xs) x e q, m) (nth_step e j x (xs ++ ys) q ∙ ap suc (ih j (omega arith)) ∙ omega arith)
    go ih (inr n) j l =
        let c : count_of e xs ≤ j = rw (cond_other (suc (count_of e xs)) (count_of e xs) x e n) at l in
        rw (cond_other (suc (count_of e xs)) (count_of e xs) x e n) (nth_skip e j x (xs ++ ys) n ∙ ap suc (ih j c) ∙ omega arith)

-- the length, where there are at most j
pub nth_none : (e j : ℕ) (xs : List ℕ) → count_of e xs ≤ j → nth e j xs ≡ length xs
nth_none e j xs h = ap (nth e j) (sym (append-nil xs)) ∙ nth_second e j xs [] h ∙ omega arith

pub nth_most : (e j : ℕ) (xs : List ℕ) → nth e j xs ≤ length xs
nth_most e j xs = go (below_or_not j (count_of e xs))
  where
    go : (j < count_of e xs) ⊎ (count_of e xs ≤ j) → nth e j xs ≤ length xs
    go (inl h) = omega (arith, (nth_found e j xs h).inside)
    go (inr h) = omega (arith, nth_none e j xs h)

-- in the front of a list that has more than j
pub nth_front : (e j n : ℕ) (xs : List ℕ) → j < count_of e (take n xs) → nth e j (take n xs) ≡ nth e j xs
nth_front e j n xs h =
    let f : Found e j (take n xs) = nth_found e j (take n xs) h in
    let b : length (take n xs) ≡ min n (length xs) = length-take n xs in
    let c : nth e j (take n xs) < n = omega (arith, f.inside) in
    sym (nth_here e j (nth e j (take n xs)) xs (omega (arith, f.inside))
    (sym (get_or-take n xs (nth e j (take n xs)) 0 c) ∙ f.stands)
    (ap (count_of e) (sym (take-take (nth e j (take n xs)) n xs (omega arith))) ∙ f.before))

-- in the n elements from i on, where at most j stand before i, and more than j before i + n if that is not the end
pub nth_part : (e j i n : ℕ) (xs : List ℕ) → i ≤ length xs → count_of e (take i xs) ≤ j → (i + n < length xs → j < count_of e (take (i + n) xs))
    → nth e j xs ≡ i + nth e (j - count_of e (take i xs)) (take n (drop i xs))
nth_part e j i n xs h most next =
    ap (nth e j) (sym (take-append-drop i xs)) ∙ nth_second e j (take i xs) (drop i xs) most
    ∙ rw (length-take-le i xs h) (ap (λ (m : ℕ). i + m) (go (below_or_not (i + n) (length xs))))
  where
    go : (i + n < length xs) ⊎ (length xs ≤ i + n) → nth e (j - count_of e (take i xs)) (drop i xs) ≡ nth e (j - count_of e (take i xs)) (take n (drop i xs))
    go (inl l) = sym (nth_front e (j - count_of e (take i xs)) n (drop i xs) (omega (arith, next l, count_part e i n xs)))
    go (inr g) = ap (nth e (j - count_of e (take i xs))) (sym (take_all n (drop i xs) (rw (length-drop i xs) (omega arith))))
