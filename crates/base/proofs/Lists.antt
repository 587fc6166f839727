-- Laws of all elements of a list, of the first that passes a test, of those that pass it, of equal lists, and of images. Assumes nothing.
use Prim.Native.Nat.{ℕ, zero, suc, ◌+◌, ◌≤◌, ◌<◌}
use mathlib.Core.Path.{◌≡◌, refl, sym, ap, ap₂, ◌∙◌}
use mathlib.Core.Bool.{Bool, true, false, cond, ◌&&◌, ◌||◌, not, false≢true}
use mathlib.Core.List.{List, [], ◌∷◌, ◌++◌, map}
use native.Mathlib.Numerals.{add-one}
use native.Mathlib.Omega.{arith}
use borrow.Author.Tests.{eq-eqb, eqb-true}
use lib.Dec.{eqb}
use lib.ListN.{length, take, drop, get_or, length-drop}
use lib.Seq.{get_or-drop}
use Rattle.base.specs.Lists.{All, Below, all_pass, filter_by, first_where, same}
use Rattle.base.proofs.Tests.{and_left, and_right, and_true}

-- ---- all elements

module _ {ℓ} {A : Type ℓ} where
  -- an element that is there has P
  pub all_at : (P : A → Type 0) (xs : List A) (d : A) (i : ℕ) → All P xs → i < length xs → P (get_or xs i d)
  all_at P [] d i a h = absurd (omega arith)
  all_at P (x ∷ xs) d zero a h = a.0
  all_at P (x ∷ xs) d (suc i) a h = all_at P xs d i a.1 (omega arith)

  -- if each element that is there has P, all have
  pub all_of_at : (P : A → Type 0) (xs : List A) (d : A) → ((i : ℕ) → i < length xs → P (get_or xs i d)) → All P xs
  all_of_at P [] d f = tt
  all_of_at P (x ∷ xs) d f = (f zero (omega arith), all_of_at P xs d (λ i h. f (suc i) (omega arith)))

  -- what P implies holds of all elements if P does
  pub all_imp : (P Q : A → Type 0) → ((x : A) → P x → Q x) → (xs : List A) → All P xs → All Q xs
  all_imp P Q f [] a = tt
  all_imp P Q f (x ∷ xs) a = (f x a.0, all_imp P Q f xs a.1)

  -- what holds of all elements of two lists holds of all of each
  pub all_front : (P : A → Type 0) (xs ys : List A) → All P (xs ++ ys) → All P xs
  all_front P [] ys a = tt
  all_front P (x ∷ xs) ys a = (a.0, all_front P xs ys a.1)

  pub all_back : (P : A → Type 0) (xs ys : List A) → All P (xs ++ ys) → All P ys
  all_back P [] ys a = a
  all_back P (x ∷ xs) ys a = all_back P xs ys a.1

  -- of a front of a list, and of what is left behind it
  pub all_take : (P : A → Type 0) (n : ℕ) (xs : List A) → All P xs → All P (take n xs)
  all_take P zero xs a = tt
  all_take P (suc n) [] a = tt
  all_take P (suc n) (x ∷ xs) a = (a.0, all_take P n xs a.1)

  pub all_drop : (P : A → Type 0) (n : ℕ) (xs : List A) → All P xs → All P (drop n xs)
  all_drop P zero xs a = a
  all_drop P (suc n) [] a = tt
  all_drop P (suc n) (x ∷ xs) a = all_drop P n xs a.1

  -- every element passes a test exactly if all have that it holds
  pub all_of_pass : (test : A → Bool) (xs : List A) → all_pass test xs ≡ true → All (λ (x : A). test x ≡ true) xs
  all_of_pass test [] e = tt
  all_of_pass test (x ∷ xs) e = (and_left (test x) (all_pass test xs) e, all_of_pass test xs (and_right (test x) (all_pass test xs) e))

  pub pass_of_all : (test : A → Bool) (xs : List A) → All (λ (x : A). test x ≡ true) xs → all_pass test xs ≡ true
  pass_of_all test [] a = refl
  pass_of_all test (x ∷ xs) a = and_true (test x) (all_pass test xs) a.0 (pass_of_all test xs a.1)

-- Q holds of all images if it holds of the image of each element that has P
pub all_map {ℓ ℓ'} : {A : Type ℓ} {B : Type ℓ'} (P : A → Type 0) (Q : B → Type 0) (f : A → B) → ((x : A) → P x → Q (f x)) → (xs : List A) → All P xs → All Q (map f xs)
all_map P Q f h [] a = tt
all_map P Q f h (x ∷ xs) a = (h x a.0, all_map P Q f h xs a.1)

-- a lower bound serves where a higher one does
pub below_weaken : (a b : ℕ) (xs : List ℕ) → a ≤ b → Below a xs → Below b xs
below_weaken a b xs h = all_imp (λ (x : ℕ). x < a) (λ (x : ℕ). x < b) (λ x l. omega arith) xs

-- ---- the first that passes a test

module _ {ℓ} {A : Type ℓ} (test : A → Bool) where
  -- the first element that passes stands where it passes and none before it does
  pub first_where_at : (xs : List A) (d : A) (i : ℕ) → i < length xs → ((j : ℕ) → j < i → test (get_or xs j d) ≡ false) → test (get_or xs i d) ≡ true → first_where test xs ≡ i
  first_where_at [] d i h n e = absurd (omega arith)
  first_where_at (x ∷ xs) d zero h n e = rw e
  first_where_at (x ∷ xs) d (suc i) h n e =
      let no : test x ≡ false = n 0 (omega arith) in
      rw no (ap suc (first_where_at xs d i (omega arith) (λ j l. n (suc j) (omega arith)) e))

  -- where none passes, the length
  pub first_where_none : (xs : List A) (d : A) → ((j : ℕ) → j < length xs → test (get_or xs j d) ≡ false) → first_where test xs ≡ length xs
  first_where_none [] d n = refl
  first_where_none (x ∷ xs) d n =
      let no : test x ≡ false = n 0 (omega arith) in
      rw no (ap suc (first_where_none xs d (λ j l. n (suc j) (omega arith))))

  -- the first that passes is inside exactly if one does not fail
  pub first_where_inside : (other : A → Bool) → ((x : A) → test x ≡ not (other x)) → (xs : List A) → all_pass other xs ≡ false → first_where test xs < length xs
  first_where_inside other h [] e = absurd (false≢true (sym e))
  first_where_inside other h (x ∷ xs) e = go (first_where_inside other h xs) (other x) refl e
    where
      go : (all_pass other xs ≡ false → first_where test xs < length xs) → (t : Bool) → other x ≡ t → t && all_pass other xs ≡ false
          → cond (test x) 0 (suc (first_where test xs)) < suc (length xs)
      go ih true q e = rw (h x, q) (omega (arith, ih e))
      go ih false q e = rw (h x, q) (omega arith)

  pub first_where_length : (other : A → Bool) → ((x : A) → test x ≡ not (other x)) → (xs : List A) → all_pass other xs ≡ true → first_where test xs ≡ length xs
  first_where_length other h [] e = refl
  first_where_length other h (x ∷ xs) e =
      rw (h x, and_left (other x) (all_pass other xs) e) (ap suc (first_where_length other h xs (and_right (other x) (all_pass other xs) e)))

  -- the first that passes stands no later than any that passes
  pub first_where_most : (xs : List A) (d : A) (j : ℕ) → j < length xs → test (get_or xs j d) ≡ true → first_where test xs ≤ j
  first_where_most [] d j h e = absurd (omega arith)
  first_where_most (x ∷ xs) d zero h e = rw e (omega arith)
  first_where_most (x ∷ xs) d (suc j) h e = go (test x) (first_where_most xs d j (omega arith) e)
    where
      go : (t : Bool) → first_where test xs ≤ j → cond t 0 (suc (first_where test xs)) ≤ suc j
      go true l = omega arith
      go false l = omega arith

  -- the first that passes does pass
  pub first_where_passes : (xs : List A) (d : A) → first_where test xs < length xs → test (get_or xs (first_where test xs) d) ≡ true
  first_where_passes [] d h = absurd (omega arith)
  first_where_passes (x ∷ xs) d h = go (test x) refl h (first_where_passes xs d)
    where
      go : (t : Bool) → test x ≡ t → cond t 0 (suc (first_where test xs)) < suc (length xs) → (first_where test xs < length xs → test (get_or xs (first_where test xs) d) ≡ true)
          → test (get_or (x ∷ xs) (cond t 0 (suc (first_where test xs))) d) ≡ true
      go true e h ih = e
      go false e h ih = ih (omega arith)

  -- of two lists one after the other it is that of the first list, or, where none passes there, that of the second behind it
  pub first_where_front : (xs ys : List A) → first_where test xs < length xs → first_where test (xs ++ ys) ≡ first_where test xs
  first_where_front [] ys h = absurd (omega arith)
  first_where_front (x ∷ xs) ys h = go (test x) h (first_where_front xs ys)
    where
      go : (t : Bool) → cond t 0 (suc (first_where test xs)) < suc (length xs) → (first_where test xs < length xs → first_where test (xs ++ ys) ≡ first_where test xs)
          → cond t 0 (suc (first_where test (xs ++ ys))) ≡ cond t 0 (suc (first_where test xs))
      go true h ih = refl
      go false h ih = ap suc (ih (omega arith))

  pub first_where_past : (xs ys : List A) → length xs ≤ first_where test xs → first_where test (xs ++ ys) ≡ length xs + first_where test ys
  first_where_past [] ys h = omega arith
  first_where_past (x ∷ xs) ys h = go (test x) h (first_where_past xs ys)
    where
      go : (t : Bool) → suc (length xs) ≤ cond t 0 (suc (first_where test xs)) → (length xs ≤ first_where test xs → first_where test (xs ++ ys) ≡ length xs + first_where test ys)
          → cond t 0 (suc (first_where test (xs ++ ys))) ≡ suc (length xs) + first_where test ys
      go true h ih = absurd (omega arith)
      go false h ih = let e = ih (omega arith) in omega arith

-- ---- those that pass a test

-- of two lists
pub filter_append {ℓ} : {A : Type ℓ} (test : A → Bool) (xs ys : List A) → filter_by test (xs ++ ys) ≡ filter_by test xs ++ filter_by test ys
filter_append test [] ys = refl
filter_append {A = A} test (x ∷ xs) ys = rw (filter_append test xs ys) (go (test x))
  where
    go : (t : Bool) → cond t (x ∷ (filter_by test xs ++ filter_by test ys)) (filter_by test xs ++ filter_by test ys) ≡ cond t (x ∷ filter_by test xs) (filter_by test xs) ++ filter_by test ys
    go true = refl
    go false = refl

-- never more than there are
pub filter_most {ℓ} : {A : Type ℓ} (test : A → Bool) (xs : List A) → length (filter_by test xs) ≤ length xs
filter_most test [] = omega arith
filter_most test (x ∷ xs) = go (test x) (filter_most test xs)
  where
    go : (t : Bool) → length (filter_by test xs) ≤ length xs → length (cond t (x ∷ filter_by test xs) (filter_by test xs)) ≤ suc (length xs)
    go true h = omega arith
    go false h = omega arith

-- one more, which passes or not
pub filter_yes {ℓ} : {A : Type ℓ} (test : A → Bool) (x : A) (xs : List A) → test x ≡ true → length (filter_by test (x ∷ xs)) ≡ suc (length (filter_by test xs))
filter_yes test x xs e = rw e

pub filter_no {ℓ} : {A : Type ℓ} (test : A → Bool) (x : A) (xs : List A) → test x ≡ false → length (filter_by test (x ∷ xs)) ≡ length (filter_by test xs)
filter_no test x xs e = rw e

-- of two tests that never hold both, the one or the other
pub filter_either {ℓ} : {A : Type ℓ} (p q r : A → Bool) → ((x : A) → r x ≡ p x || q x) → ((x : A) → p x ≡ true → q x ≡ true → ⊥) → (xs : List A)
    → length (filter_by r xs) ≡ length (filter_by p xs) + length (filter_by q xs)
filter_either p q r e n [] = omega arith
filter_either p q r e n (x ∷ xs) = go (p x) refl (q x) refl (filter_either p q r e n xs)
  where
    go : (s : Bool) → p x ≡ s → (t : Bool) → q x ≡ t → length (filter_by r xs) ≡ length (filter_by p xs) + length (filter_by q xs)
        → length (filter_by r (x ∷ xs)) ≡ length (filter_by p (x ∷ xs)) + length (filter_by q (x ∷ xs))
    go true a true b ih = absurd (n x a b)
    go true a false b ih = omega (arith, filter_yes r x xs (e x ∙ ap (λ (t : Bool). t || q x) a), filter_yes p x xs a, filter_no q x xs b)
    go false a true b ih = omega (arith, filter_yes r x xs (e x ∙ ap (λ (t : Bool). t || q x) a ∙ b), filter_no p x xs a, filter_yes q x xs b)
    go false a false b ih = omega (arith, filter_no r x xs (e x ∙ ap (λ (t : Bool). t || q x) a ∙ b), filter_no p x xs a, filter_no q x xs b)

-- ---- equal lists

-- the element at x of each list more
same_suc : (xs ys : List ℕ) (x : ℕ) → x < length xs → x < length ys → same (take x xs) (take x ys) && eqb (get_or xs x 0) (get_or ys x 0) ≡ same (take (suc x) xs) (take (suc x) ys)
same_suc [] ys x h l = absurd (omega arith)
same_suc (a ∷ xs) [] x h l = absurd (omega arith)
same_suc (a ∷ xs) (b ∷ ys) zero h l = by (eqb a b)
  where
    by : (t : Bool) → true && t ≡ t && true
    by true = refl
    by false = refl
same_suc (a ∷ xs) (b ∷ ys) (suc x) h l = by (eqb a b) (same_suc xs ys x (omega arith) (omega arith))
  where
    by : (t : Bool) → same (take x xs) (take x ys) && eqb (get_or xs x 0) (get_or ys x 0) ≡ same (take (suc x) xs) (take (suc x) ys)
        → (t && same (take x xs) (take x ys)) && eqb (get_or xs x 0) (get_or ys x 0) ≡ t && same (take (suc x) xs) (take (suc x) ys)
    by true e = e
    by false e = refl

-- one element more of a part of a list that is compared with another list from its start
pub same_more : (xs : List ℕ) (at : ℕ) (ys : List ℕ) (x : ℕ) → at + x < length xs → x < length ys
    → same (take x (drop at xs)) (take x ys) && eqb (get_or xs (at + x) 0) (get_or ys x 0) ≡ same (take (x + 1) (drop at xs)) (take (x + 1) ys)
same_more xs at ys x h l = rw (add-one, ← get_or-drop at xs x 0) (same_suc (drop at xs) ys x (rw length-drop (omega arith)) l)

-- the test of two lists holds exactly if they are equal
pub same_yes : (xs ys : List ℕ) → xs ≡ ys → same xs ys ≡ true
same_yes xs ys e = rw e (reflexive ys)
  where
    reflexive : (xs : List ℕ) → same xs xs ≡ true
    reflexive [] = refl
    reflexive (x ∷ xs) = rw (eq-eqb x x refl, reflexive xs)

pub same_true : (xs ys : List ℕ) → same xs ys ≡ true → xs ≡ ys
same_true [] [] e = refl
same_true [] (y ∷ ys) e = absurd (false≢true e)
same_true (x ∷ xs) [] e = absurd (false≢true e)
same_true (x ∷ xs) (y ∷ ys) e =
    ap₂ {C = List ℕ} (λ (h : ℕ) (t : List ℕ). h ∷ t) (eqb-true x y (and_left (eqb x y) (same xs ys) e)) (same_true xs ys (and_right (eqb x y) (same xs ys) e))

pub same_false : (xs ys : List ℕ) → same xs ys ≡ false → xs ≡ ys → ⊥
same_false xs ys e q = false≢true (sym e ∙ same_yes xs ys q)

-- ---- images and parts

-- the image at a position that is there
pub get_d_map {ℓ ℓ'} : {A : Type ℓ} {B : Type ℓ'} (f : A → B) (xs : List A) (i : ℕ) (d : B) (d' : A) → i < length xs → get_or (map f xs) i d ≡ f (get_or xs i d')
get_d_map f [] i d d' h = absurd (omega arith)
get_d_map f (x ∷ xs) zero d d' h = refl
get_d_map f (x ∷ xs) (suc i) d d' h = get_d_map f xs i d d' (omega arith)

-- images of images
pub map_map {ℓ κ μ} : {A : Type ℓ} {B : Type κ} {C : Type μ} (f : B → C) (g : A → B) (xs : List A) → map f (map g xs) ≡ map (λ (x : A). f (g x)) xs
map_map f g [] = refl
map_map {C = C} f g (x ∷ xs) = ap (λ (r : List C). f (g x) ∷ r) (map_map f g xs)
