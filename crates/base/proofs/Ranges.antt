-- Laws of the numbers from a on: their images, what holds of all of them, and those that pass a test. Assumes nothing.
use Prim.Native.Nat.{ℕ, zero, suc, ◌+◌, ◌-◌, ◌≤◌, ◌<◌}
use mathlib.Core.Path.{◌≡◌, refl, sym, ap, ◌∙◌}
use mathlib.Core.Logic.{◌⊎◌, inl, inr}
use mathlib.Core.Bool.{false≢true, Bool, true, false, cond}
use mathlib.Core.List.{List, [], ◌∷◌, ◌++◌, map, map-append}
use native.Mathlib.Numerals.{add-one}
use native.Mathlib.Omega.{arith}
use lib.ListN.{length, get_or, length-map}
use lib.Seq.{ext_get_or}
use Rattle.base.specs.Lists.{All, all_pass, filter_by, range_from}
use Rattle.base.proofs.Tests.{same_or_not, false_of}
use Rattle.base.proofs.Lists.{all_at, all_of_at, all_of_pass, pass_of_all, filter_append, filter_most}

pub length_range : (a n : ℕ) → length (range_from a n) ≡ n
length_range a zero = refl
length_range a (suc n) = ap suc (length_range (suc a) n)

pub get_d-range : (a n i d : ℕ) → i < n → get_or (range_from a n) i d ≡ a + i
get_d-range a zero i d h = absurd (omega arith)
get_d-range a (suc n) zero d h = omega arith
get_d-range a (suc n) (suc i) d h = get_d-range (suc a) n i d (omega arith) ∙ omega arith

-- n numbers and the m after them
pub range_append : (a n m : ℕ) → range_from a (n + m) ≡ range_from a n ++ range_from (a + n) m
range_append a zero m =
    let e : 0 + m ≡ m = omega arith in
    let f : a + 0 ≡ a = omega arith in
    rw (e, f)
range_append a (suc n) m =
    let e : suc n + m ≡ suc (n + m) = omega arith in
    let f : a + suc n ≡ suc a + n = omega arith in
    rw (e, f) (ap (λ (r : List ℕ). a ∷ r) (range_append (suc a) n m))

-- one number more
pub range_suc : (a n : ℕ) → range_from a (suc n) ≡ range_from a n ++ ((a + n) ∷ [])
range_suc a n = ap (range_from a) (sym (add-one n)) ∙ range_append a n 1

-- what holds of each of them holds of all
pub all_range : (P : ℕ → Type 0) (a n : ℕ) → ((i : ℕ) → i < n → P (a + i)) → All P (range_from a n)
all_range P a n h =
    all_of_at P (range_from a n) 0 (λ i l.
    let g : i < n = omega (arith, length_range a n) in
    rw (get_d-range a n i 0 g) (h i g))

pub range_all : (P : ℕ → Type 0) (a n : ℕ) → All P (range_from a n) → (i : ℕ) → i < n → P (a + i)
range_all P a n h i l = rw (get_d-range a n i 0 l) at (all_at P (range_from a n) 0 i h (omega (arith, length_range a n)))

-- a test holds of the numbers below n exactly if it holds of each
pub pass_range : (test : ℕ → Bool) (n : ℕ) → ((i : ℕ) → i < n → test i ≡ true) → all_pass test (range_from 0 n) ≡ true
pass_range test n h =
    pass_of_all test (range_from 0 n) (all_range (λ (x : ℕ). test x ≡ true) 0 n (λ i l.
    let e : 0 + i ≡ i = omega arith in
    rw e (h i l)))

pub range_pass : (test : ℕ → Bool) (n : ℕ) → all_pass test (range_from 0 n) ≡ true → (i : ℕ) → i < n → test i ≡ true
range_pass test n h i l =
    let e : 0 + i ≡ i = omega arith in
    rw e at (range_all (λ (x : ℕ). test x ≡ true) 0 n (all_of_pass test (range_from 0 n) h) i l)

-- one that fails is enough
pub range_fails : (test : ℕ → Bool) (n i : ℕ) → i < n → test i ≡ false → all_pass test (range_from 0 n) ≡ false
range_fails test n i l e = false_of (all_pass test (range_from 0 n)) (λ h. false≢true (sym e ∙ range_pass test n h i l))

-- and one more that passes
pub pass_range_suc : (test : ℕ → Bool) (n : ℕ) → all_pass test (range_from 0 n) ≡ true → test n ≡ true → all_pass test (range_from 0 (n + 1)) ≡ true
pass_range_suc test n h e = pass_range test (n + 1) (λ i l. go i (same_or_not i n) l)
  where
    go : (i : ℕ) → (i ≡ n) ⊎ (i ≡ n → ⊥) → i < n + 1 → test i ≡ true
    go i (inl q) l = ap test q ∙ e
    go i (inr d) l = range_pass test n h i (omega arith)

-- ---- images

module _ {ℓ} {A : Type ℓ} where
  pub length_map_range : (f : ℕ → A) (a n : ℕ) → length (map f (range_from a n)) ≡ n
  length_map_range f a n = length-map (range_from a n) f ∙ length_range a n

  -- f of the i-th number
  pub get_d-map_range : (f : ℕ → A) (n i : ℕ) (d : A) → i < n → get_or (map f (range_from 0 n)) i d ≡ f i
  get_d-map_range f n i d h = go 0 n i h ∙ ap f (omega arith)
    where
      go : (a n i : ℕ) → i < n → get_or (map f (range_from a n)) i d ≡ f (a + i)
      go a zero i h = absurd (omega arith)
      go a (suc n) zero h = ap f (omega arith)
      go a (suc n) (suc i) h = go (suc a) n i (omega arith) ∙ ap f (omega arith)

  -- a list is the images of the numbers below its length, where each element is
  pub map_range_is : (d : A) (xs : List A) (f : ℕ → A) (n : ℕ) → length xs ≡ n → ((i : ℕ) → i < n → get_or xs i d ≡ f i) → xs ≡ map f (range_from 0 n)
  map_range_is d xs f n l e =
      ext_get_or d xs (map f (range_from 0 n)) (l ∙ sym (length_map_range f 0 n)) (λ i h. e i (rw l at h) ∙ sym (get_d-map_range f n i d (rw l at h)))

  -- functions that agree below n have the same images of the numbers below n
  pub map_range_same : (f g : ℕ → A) (n : ℕ) → ((i : ℕ) → i < n → f i ≡ g i) → map f (range_from 0 n) ≡ map g (range_from 0 n)
  map_range_same f g zero h = refl
  map_range_same f g (suc n) h =
      let d : A = f 0 in
      map_range_is d (map f (range_from 0 (suc n))) g (suc n) (length_map_range f 0 (suc n)) (λ i l. get_d-map_range f (suc n) i d l ∙ h i l)

  -- one image more
  pub map_range_suc : (f : ℕ → A) (n : ℕ) → map f (range_from 0 (suc n)) ≡ map f (range_from 0 n) ++ (f n ∷ [])
  map_range_suc f n =
      let e : 0 + n ≡ n = omega arith in
      ap (map f) (range_suc 0 n) ∙ rw e (map-append f (range_from 0 n) (n ∷ []))

  -- a list is its elements in order
  pub map_get_d-range : (d : A) (xs : List A) → map (λ (i : ℕ). get_or xs i d) (range_from 0 (length xs)) ≡ xs
  map_get_d-range d xs = sym (map_range_is d xs (λ (i : ℕ). get_or xs i d) (length xs) refl (λ i h. refl))

-- ---- those that pass a test

module _ (test : ℕ → Bool) where
  -- those of a range, split at any point
  pub filter_range_append : (a n m : ℕ) → filter_by test (range_from a (n + m)) ≡ filter_by test (range_from a n) ++ filter_by test (range_from (a + n) m)
  filter_range_append a n m = ap (filter_by test) (range_append a n m) ∙ filter_append test (range_from a n) (range_from (a + n) m)

  -- none, where the test holds nowhere
  pub filter_range_none : (a n : ℕ) → ((i : ℕ) → a ≤ i → i < a + n → test i ≡ false) → filter_by test (range_from a n) ≡ []
  filter_range_none a zero h = refl
  filter_range_none a (suc n) h = rw (h a (omega arith) (omega arith)) (filter_range_none (suc a) n (λ i l u. h i (omega arith) (omega arith)))

  -- all, where the test holds of each
  pub filter_range_all : (a n : ℕ) → ((i : ℕ) → a ≤ i → i < a + n → test i ≡ true) → filter_by test (range_from a n) ≡ range_from a n
  filter_range_all a zero h = refl
  filter_range_all a (suc n) h = rw (h a (omega arith) (omega arith)) (ap (λ (is : List ℕ). a ∷ is) (filter_range_all (suc a) n (λ i l u. h i (omega arith) (omega arith))))

  -- a range with a number that passes: those before it, it, and those after it
  pub filter_range_meets : (a i n : ℕ) → a ≤ i → i < a + n → test i ≡ true
      → filter_by test (range_from a n) ≡ filter_by test (range_from a (i - a)) ++ i ∷ filter_by test (range_from (suc i) (a + n - suc i))
  filter_range_meets a i n h l t =
      let e : n ≡ (i - a) + suc (a + n - suc i) = omega arith in
      let f : a + (i - a) ≡ i = omega arith in
      ap (λ (m : ℕ). filter_by test (range_from a m)) e ∙ filter_range_append a (i - a) (suc (a + n - suc i))
      ∙ ap (λ (k : ℕ). filter_by test (range_from a (i - a)) ++ filter_by test (range_from k (suc (a + n - suc i)))) f
      ∙ ap (λ (b : Bool). filter_by test (range_from a (i - a)) ++ cond b (i ∷ filter_by test (range_from (suc i) (a + n - suc i))) (filter_by test (range_from (suc i) (a + n - suc i)))) t

  -- never more than there are numbers
  pub length_filter_range : (a n : ℕ) → length (filter_by test (range_from a n)) ≤ n
  length_filter_range a n = omega (arith, filter_most test (range_from a n), length_range a n)

  -- what holds of each number of the range that passes holds of all that pass
  pub all_filter_range : (P : ℕ → Type 0) (a n : ℕ) → ((i : ℕ) → a ≤ i → i < a + n → test i ≡ true → P i) → All P (filter_by test (range_from a n))
  all_filter_range P a zero h = tt
  all_filter_range P a (suc n) h = go (test a) refl (all_filter_range P (suc a) n (λ i l u. h i (omega arith) (omega arith)))
    where
      go : (t : Bool) → test a ≡ t → All P (filter_by test (range_from (suc a) n)) → All P (cond t (a ∷ filter_by test (range_from (suc a) n)) (filter_by test (range_from (suc a) n)))
      go true e ih = (h a (omega arith) (omega arith) e, ih)
      go false e ih = ih

  -- those that pass are strictly ascending
  pub filter_range_ascends : (a n i j : ℕ) → i < j → j < length (filter_by test (range_from a n)) → get_or (filter_by test (range_from a n)) i 0 < get_or (filter_by test (range_from a n)) j 0
  filter_range_ascends a zero i j l h = absurd (omega arith)
  filter_range_ascends a (suc n) i j l h = go (test a) i j l h (filter_range_ascends (suc a) n) (all_filter_range (λ (q : ℕ). a < q) (suc a) n (λ i l u e. omega arith))
    where
      xs : List ℕ
      xs = filter_by test (range_from (suc a) n)

      go : (t : Bool) (i j : ℕ) → i < j → j < length (cond t (a ∷ xs) xs) → ((i j : ℕ) → i < j → j < length xs → get_or xs i 0 < get_or xs j 0) → All (λ (q : ℕ). a < q) xs
          → get_or (cond t (a ∷ xs) xs) i 0 < get_or (cond t (a ∷ xs) xs) j 0
      go true zero zero l h ih above = absurd (omega arith)
      go true zero (suc j) l h ih above = all_at (λ (q : ℕ). a < q) xs 0 j above (omega arith)
      go true (suc i) zero l h ih above = absurd (omega arith)
      go true (suc i) (suc j) l h ih above = ih i j (omega arith) (omega arith)
      go false i j l h ih above = ih i j l h
