-- Laws of the numbers of a range that pass a test: which they are, and how often each is there. Assumes nothing.
use Prim.Native.Nat.{ℕ, zero, suc, ◌+◌, ◌-◌, ◌≤◌, ◌<◌}
use mathlib.Core.Path.{◌≡◌, refl, sym, ap, ap₂, ◌∙◌, subst}
use mathlib.Core.Bool.{Bool, true, false, cond, false≢true}
use mathlib.Core.Logic.{◌⊎◌, inl, inr}
use mathlib.Core.List.Memᴰ
use mathlib.Core.List.{List, ◌∷◌, ◌++◌, append-nil, Memᴰ}
use native.Mathlib.Omega.{arith}
use lib.ListN.{length}
use Rattle.base.specs.Lists.{filter_by, range_from, count_of}
use Rattle.base.proofs.Tests.{cond_same}
use Rattle.base.proofs.Counts.{count_append, count_none}
use Rattle.base.proofs.Ranges.{filter_range_append, filter_range_none, filter_range_meets, all_filter_range}
use Rattle.base.proofs.Members.{all_mem}

-- two tests that agree on a range are passed by the same numbers of it
pub filter_range_same : (f g : ℕ → Bool) (a n : ℕ) → ((i : ℕ) → a ≤ i → i < a + n → f i ≡ g i) → filter_by f (range_from a n) ≡ filter_by g (range_from a n)
filter_range_same f g a zero h = refl
filter_range_same f g a (suc n) h =
    rw (h a (omega arith) (omega arith), filter_range_same f g (suc a) n (λ i l u. h i (omega arith) (omega arith)))

-- as many numbers pass a test k further on as pass the test of the number k further on
pub length_filter_shift : (test : ℕ → Bool) (k a n : ℕ) → length (filter_by test (range_from (a + k) n)) ≡ length (filter_by (λ (i : ℕ). test (i + k)) (range_from a n))
length_filter_shift test k a zero = refl
length_filter_shift test k a (suc n) =
    let e : suc (a + k) ≡ suc a + k = omega arith in
    go (test (a + k)) (ap (λ (m : ℕ). length (filter_by test (range_from m n))) e ∙ length_filter_shift test k (suc a) n)
  where
    rest : List ℕ
    rest = filter_by test (range_from (suc (a + k)) n)

    shifted : List ℕ
    shifted = filter_by (λ (i : ℕ). test (i + k)) (range_from (suc a) n)

    go : (t : Bool) → length rest ≡ length shifted → length (cond t ((a + k) ∷ rest) rest) ≡ length (cond t (a ∷ shifted) shifted)
    go true e = ap suc e
    go false e = e

-- numbers past the last that passes do not matter
pub filter_range_end : (test : ℕ → Bool) (a n m : ℕ) → ((i : ℕ) → a + n ≤ i → test i ≡ false) → filter_by test (range_from a (n + m)) ≡ filter_by test (range_from a n)
filter_range_end test a n m h =
    filter_range_append test a n m
    ∙ ap (λ (r : List ℕ). filter_by test (range_from a n) ++ r) (filter_range_none test (a + n) m (λ i l u. h i l))
    ∙ append-nil (filter_by test (range_from a n))

-- a number of a range is among those that pass a test once if it passes, and not at all if it does not
pub count_filter_range : (test : ℕ → Bool) (q a n : ℕ) → a ≤ q → q < a + n → count_of q (filter_by test (range_from a n)) ≡ cond (test q) 1 0
count_filter_range test q a n l u = go (test q) refl
  where
    other : (b m : ℕ) → ((i : ℕ) → b ≤ i → i < b + m → test i ≡ true → i ≡ q → ⊥) → count_of q (filter_by test (range_from b m)) ≡ 0
    other b m h = count_none q (filter_by test (range_from b m)) (all_filter_range test (λ (i : ℕ). i ≡ q → ⊥) b m h)

    go : (t : Bool) → test q ≡ t → count_of q (filter_by test (range_from a n)) ≡ cond t 1 0
    go false e = other a n (λ i h k p r. false≢true (sym e ∙ ap test (sym r) ∙ p))
    go true e =
        let before : List ℕ = filter_by test (range_from a (q - a)) in
        let after : List ℕ = filter_by test (range_from (suc q) (a + n - suc q)) in
        ap (count_of q) (filter_range_meets test a q n l u e) ∙ count_append q before (q ∷ after)
        ∙ ap₂ ◌+◌ (other a (q - a) (λ i h k p r. omega arith)) (cond_same (suc (count_of q after)) (count_of q after) q q refl ∙ ap suc (other (suc q) (a + n - suc q) (λ i h k p r. omega arith)))

-- a number that is not of the range is not among them
pub count_filter_outside : (test : ℕ → Bool) (q a n : ℕ) → (q < a) ⊎ (a + n ≤ q) → count_of q (filter_by test (range_from a n)) ≡ 0
count_filter_outside test q a n h = count_none q (filter_by test (range_from a n)) (all_filter_range test (λ (i : ℕ). i ≡ q → ⊥) a n (λ i l u p r. by h i l u r))
  where
    by : (q < a) ⊎ (a + n ≤ q) → (i : ℕ) → a ≤ i → i < a + n → i ≡ q → ⊥
    by (inl h) i l u r = omega arith
    by (inr h) i l u r = omega arith

-- the numbers of a range that pass a test are of the range and pass it, and each number of the range that passes is one of them
pub filter_range_sound : (test : ℕ → Bool) (a n q : ℕ) → Memᴰ q (filter_by test (range_from a n)) → (a ≤ q) × (q < a + n) × (test q ≡ true)
filter_range_sound test a n q m =
    all_mem (λ (i : ℕ). (a ≤ i) × (i < a + n) × (test i ≡ true)) (filter_by test (range_from a n))
    (all_filter_range test (λ (i : ℕ). (a ≤ i) × (i < a + n) × (test i ≡ true)) a n (λ i l u e. (l, u, e))) m

pub filter_range_has : (test : ℕ → Bool) (a n q : ℕ) → a ≤ q → q < a + n → test q ≡ true → Memᴰ q (filter_by test (range_from a n))
filter_range_has test a n q l u e =
    subst (λ (xs : List ℕ). Memᴰ q xs) (sym (filter_range_meets test a q n l u e)) (Memᴰ.append_right (filter_by test (range_from a (q - a))) (Memᴰ.head refl))
