-- Laws of the first pair of two lists: what stands there, what does not before it, and how it is found part by part. Assumes nothing.
use Prim.Native.Nat.{ℕ, zero, suc, ◌+◌, ◌-◌, ◌≤◌, ◌<◌, min, max}
use mathlib.Core.Path.{◌≡◌, refl, sym, ap, ◌∙◌}
use mathlib.Core.Bool.{Bool, true, false, cond, ◌&&◌, false≢true}
use mathlib.Core.Logic.{◌⊎◌, inl, inr}
use mathlib.Core.List.{List, [], ◌∷◌}
use native.Mathlib.Omega.{arith}
use borrow.Author.Tests.{eqb-true, eq-eqb}
use lib.Dec.{eqb}
use lib.ListN.{length, take, drop, get_or, length-take, length-drop}
use Rattle.base.specs.Lists.{nth}
use Rattle.base.proofs.Tests.{below_or_not, and_left, and_right, and_true}
use Rattle.pairs.specs.Pairs.{first_pair}

-- the index is at most the length
pub pair_most : (x y : ℕ) (hs ts : List ℕ) → first_pair x y hs ts ≤ length hs
pair_most x y [] ts = omega arith
pair_most x y (h ∷ hs) [] = omega arith
pair_most x y (h ∷ hs) (t ∷ ts) = go (eqb h x && eqb t y) (pair_most x y hs ts)
  where
    go : (b : Bool) → first_pair x y hs ts ≤ length hs → cond b 0 (suc (first_pair x y hs ts)) ≤ suc (length hs)
    go true l = omega arith
    go false l = omega arith

-- where it is below both lengths, x stands there in the one list and y in the other
pub pair_stands : (x y : ℕ) (hs ts : List ℕ) → first_pair x y hs ts < length hs → first_pair x y hs ts < length ts
    → (get_or hs (first_pair x y hs ts) 0 ≡ x) × (get_or ts (first_pair x y hs ts) 0 ≡ y)
pair_stands x y [] ts l m = absurd (omega arith)
pair_stands x y (h ∷ hs) [] l m = absurd (omega arith)
pair_stands x y (h ∷ hs) (t ∷ ts) l m = go (eqb h x && eqb t y) refl (pair_stands x y hs ts) l m
  where
    f : ℕ
    f = first_pair x y hs ts

    go : (b : Bool) → eqb h x && eqb t y ≡ b → (f < length hs → f < length ts → (get_or hs f 0 ≡ x) × (get_or ts f 0 ≡ y))
        → cond b 0 (suc f) < suc (length hs) → cond b 0 (suc f) < suc (length ts) → (get_or (h ∷ hs) (cond b 0 (suc f)) 0 ≡ x) × (get_or (t ∷ ts) (cond b 0 (suc f)) 0 ≡ y)
    go true e ih l m = (eqb-true h x (and_left (eqb h x) (eqb t y) e), eqb-true t y (and_right (eqb h x) (eqb t y) e))
    go false e ih l m = ih (omega arith) (omega arith)

-- at no index before it do both stand
pub pair_none_before : (x y : ℕ) (hs ts : List ℕ) (k : ℕ) → k < first_pair x y hs ts → get_or hs k 0 ≡ x → get_or ts k 0 ≡ y → ⊥
pair_none_before x y [] ts k l p q = omega arith
pair_none_before x y (h ∷ hs) [] k l p q = omega arith
pair_none_before x y (h ∷ hs) (t ∷ ts) k l p q = go (eqb h x && eqb t y) refl (pair_none_before x y hs ts) k l p q
  where
    f : ℕ
    f = first_pair x y hs ts

    go : (b : Bool) → eqb h x && eqb t y ≡ b → ((k : ℕ) → k < f → get_or hs k 0 ≡ x → get_or ts k 0 ≡ y → ⊥)
        → (k : ℕ) → k < cond b 0 (suc f) → get_or (h ∷ hs) k 0 ≡ x → get_or (t ∷ ts) k 0 ≡ y → ⊥
    go true e ih k l p q = omega arith
    go false e ih zero l p q = false≢true (sym e ∙ and_true (eqb h x) (eqb t y) (eq-eqb h x p) (eq-eqb t y q))
    go false e ih (suc k) l p q = ih k (omega arith) p q

-- a byte with itself, in one list: its first occurrence
pub pair_itself : (x : ℕ) (xs : List ℕ) → first_pair x x xs xs ≡ nth x 0 xs
pair_itself x [] = refl
pair_itself x (h ∷ hs) = go (eqb h x) (pair_itself x hs)
  where
    go : (b : Bool) → first_pair x x hs hs ≡ nth x 0 hs → cond (b && b) 0 (suc (first_pair x x hs hs)) ≡ cond b 0 (suc (nth x 0 hs))
    go true e = refl
    go false e = ap suc e

-- ---- one index after another

-- where both stand, the first pair is there or before
pub pair_by_lem : (x y : ℕ) (hs ts : List ℕ) (k : ℕ) → get_or hs k 0 ≡ x → get_or ts k 0 ≡ y → first_pair x y hs ts ≤ k
pair_by_lem x y hs ts k p q = go (below_or_not k (first_pair x y hs ts))
  where
    go : (k < first_pair x y hs ts) ⊎ (first_pair x y hs ts ≤ k) → first_pair x y hs ts ≤ k
    go (inl l) = absurd (pair_none_before x y hs ts k l p q)
    go (inr l) = l

-- where not both stand at the next index, the first pair is past it
pub pair_past : (x y : ℕ) (hs ts : List ℕ) (k : ℕ) → k < length hs → k < length ts → (get_or hs k 0 ≡ x → get_or ts k 0 ≡ y → ⊥) → k ≤ first_pair x y hs ts → k < first_pair x y hs ts
pair_past x y hs ts k l m not h = go (below_or_not k (first_pair x y hs ts))
  where
    go : (k < first_pair x y hs ts) ⊎ (first_pair x y hs ts ≤ k) → k < first_pair x y hs ts
    go (inl b) = b
    go (inr b) =
        let e : first_pair x y hs ts ≡ k = omega arith in
        let s = rw e at (pair_stands x y hs ts (omega arith) (omega arith)) in
        absurd (not s.0 s.1)

-- ---- part by part

-- past the first k indexes, where there is none before k
pub pair_drop : (x y k : ℕ) (hs ts : List ℕ) → k ≤ first_pair x y hs ts → first_pair x y hs ts ≡ k + first_pair x y (drop k hs) (drop k ts)
pair_drop x y zero hs ts l = omega arith
pair_drop x y (suc k) [] ts l = absurd (omega arith)
pair_drop x y (suc k) (h ∷ hs) [] l = absurd (omega arith)
pair_drop x y (suc k) (h ∷ hs) (t ∷ ts) l = go (eqb h x && eqb t y) (pair_drop x y k hs ts) l
  where
    f : ℕ
    f = first_pair x y hs ts

    go : (b : Bool) → (k ≤ f → f ≡ k + first_pair x y (drop k hs) (drop k ts)) → suc k ≤ cond b 0 (suc f) → cond b 0 (suc f) ≡ suc k + first_pair x y (drop k hs) (drop k ts)
    go true ih l = absurd (omega arith)
    go false ih l = omega (arith, ih (omega arith))

-- in the first n elements of each: the same index, or n where that is less
pub pair_take : (x y n : ℕ) (hs ts : List ℕ) → first_pair x y (take n hs) (take n ts) ≡ min n (first_pair x y hs ts)
pair_take x y zero hs ts = omega arith
pair_take x y (suc n) [] ts = omega arith
pair_take x y (suc n) (h ∷ hs) [] = omega arith
pair_take x y (suc n) (h ∷ hs) (t ∷ ts) = go (eqb h x && eqb t y) (pair_take x y n hs ts)
  where
    go : (b : Bool) → first_pair x y (take n hs) (take n ts) ≡ min n (first_pair x y hs ts) → cond b 0 (suc (first_pair x y (take n hs) (take n ts))) ≡ min (suc n) (cond b 0 (suc (first_pair x y hs ts)))
    go true e = omega arith
    go false e = omega arith

-- in the n elements from i on, where there is none before i
pub pair_part : (x y i n : ℕ) (hs ts : List ℕ) → i ≤ first_pair x y hs ts → i + first_pair x y (take n (drop i hs)) (take n (drop i ts)) ≡ min (i + n) (first_pair x y hs ts)
pair_part x y i n hs ts l = omega (arith, pair_take x y n (drop i hs) (drop i ts), pair_drop x y i hs ts l)

-- the n elements from i on are as many in two lists of the same length
pub part_same : (i n : ℕ) (hs ts : List ℕ) → length hs ≡ length ts → length (take n (drop i hs)) ≡ length (take n (drop i ts))
part_same i n hs ts e = omega (arith, length-take n (drop i hs), length-drop i hs, length-take n (drop i ts), length-drop i ts)

-- the first i indexes are tried, and the most elements that are left at a pair among them are so many
pub record Tried (x y : ℕ) (hs ts : List ℕ) (i most : ℕ) : Type 0 where
  pub inside : i ≤ length hs
  pub none : i ≤ first_pair x y hs ts → most ≡ 0
  pub some : first_pair x y hs ts < i → first_pair x y hs ts + most ≡ length hs

module _ (x y : ℕ) (hs ts : List ℕ) where
  -- none is tried
  pub tried_none : Tried x y hs ts 0 0
  tried_none = record { inside = omega arith; none = λ l. refl; some = λ l. absurd (omega arith) }

  -- all are tried: the first pair and those that are left there make up the length
  pub tried_all : {i most : ℕ} → Tried x y hs ts i most → length hs ≤ i → first_pair x y hs ts + most ≡ length hs
  tried_all {i} {most} t all = go (below_or_not (first_pair x y hs ts) i)
    where
      go : (first_pair x y hs ts < i) ⊎ (i ≤ first_pair x y hs ts) → first_pair x y hs ts + most ≡ length hs
      go (inl l) = t.some l
      go (inr l) = omega (arith, t.none l, pair_most x y hs ts)

  module _ {i most : ℕ} (t : Tried x y hs ts i most) (l : i < length hs) (m : i < length ts) (after : ℕ) where
    -- one more index, at which both stand
    pub tried_hit : get_or hs i 0 ≡ x → get_or ts i 0 ≡ y → after ≡ max most (length hs - i) → Tried x y hs ts (suc i) after
    tried_hit p q e = record {
      inside = omega arith;
      none = λ n. absurd (omega (arith, pair_by_lem x y hs ts i p q));
      some = λ b. go (below_or_not (first_pair x y hs ts) i);
    }
      where
        go : (first_pair x y hs ts < i) ⊎ (i ≤ first_pair x y hs ts) → first_pair x y hs ts + after ≡ length hs
        go (inl b) = omega (arith, t.some b)
        go (inr b) = omega (arith, t.none b, pair_by_lem x y hs ts i p q)

    -- one more at which not both stand
    pub tried_miss : (get_or hs i 0 ≡ x → get_or ts i 0 ≡ y → ⊥) → after ≡ most → Tried x y hs ts (suc i) after
    tried_miss not e = record {
      inside = omega arith;
      none = λ n. omega (arith, t.none (omega arith));
      some = λ b. go (below_or_not (first_pair x y hs ts) i) b;
    }
      where
        go : (first_pair x y hs ts < i) ⊎ (i ≤ first_pair x y hs ts) → first_pair x y hs ts < suc i → first_pair x y hs ts + after ≡ length hs
        go (inl b) s = omega (arith, t.some b)
        go (inr b) s = absurd (omega (arith, pair_past x y hs ts i l m not b))
