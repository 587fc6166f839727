-- Cases of two numbers, what a test chooses in each, and both tests of two. Assumes nothing.
use Prim.Native.Nat.{ℕ, ◌≤◌, ◌<◌}
use mathlib.Core.Path.{◌≡◌, refl, sym, ap, ap₂, ◌∙◌}
use mathlib.Core.Bool.{Bool, true, false, cond, ◌&&◌, ◌||◌, false≢true}
use mathlib.Core.Logic.{◌⊎◌, inl, inr}
use borrow.Author.Tests.{eq-eqb, ne_eqb, eqb-true, eqb-false, ltb-true, ltb-false, lt-ltb, le-ltb, le-leb, lt-leb}
use lib.Dec.{ltb, leb, eqb}
use Rattle.base.specs.Texts.{outside}

-- two numbers are equal or not
pub same_or_not : (a b : ℕ) → (a ≡ b) ⊎ (a ≡ b → ⊥)
same_or_not a b = go (eqb a b) refl
  where
    go : (t : Bool) → eqb a b ≡ t → (a ≡ b) ⊎ (a ≡ b → ⊥)
    go true e = inl (eqb-true a b e)
    go false e = inr (eqb-false a b e)

-- a number is below another or not
pub below_or_not : (a b : ℕ) → (a < b) ⊎ (b ≤ a)
below_or_not a b = go (ltb a b) refl
  where
    go : (t : Bool) → ltb a b ≡ t → (a < b) ⊎ (b ≤ a)
    go true e = inl (ltb-true a b e)
    go false e = inr (ltb-false a b e)

-- what a test chooses, by what is known of its numbers
module _ {ℓ} {A : Type ℓ} (x y : A) where
  pub cond_same : (a b : ℕ) → a ≡ b → cond (eqb a b) x y ≡ x
  cond_same a b h = ap (λ (t : Bool). cond t x y) (eq-eqb a b h)

  pub cond_other : (a b : ℕ) → (a ≡ b → ⊥) → cond (eqb a b) x y ≡ y
  cond_other a b h = ap (λ (t : Bool). cond t x y) (ne_eqb a b h)

  pub cond_below : (a b : ℕ) → a < b → cond (ltb a b) x y ≡ x
  cond_below a b h = ap (λ (t : Bool). cond t x y) (lt-ltb a b h)

  pub cond_not_below : (a b : ℕ) → b ≤ a → cond (ltb a b) x y ≡ y
  cond_not_below a b h = ap (λ (t : Bool). cond t x y) (le-ltb a b h)

  pub cond_most : (a b : ℕ) → a ≤ b → cond (leb a b) x y ≡ x
  cond_most a b h = ap (λ (t : Bool). cond t x y) (le-leb a b h)

  pub cond_above : (a b : ℕ) → b < a → cond (leb a b) x y ≡ y
  cond_above a b h = ap (λ (t : Bool). cond t x y) (lt-leb a b h)

-- both tests hold exactly if each does
pub and_left : (a b : Bool) → a && b ≡ true → a ≡ true
and_left true b e = refl
and_left false b e = e

pub and_right : (a b : Bool) → a && b ≡ true → b ≡ true
and_right true b e = e
and_right false b e = absurd (false≢true e)

pub and_never : (a : Bool) → a && false ≡ false
and_never true = refl
and_never false = refl

pub and_true : (a b : Bool) → a ≡ true → b ≡ true → a && b ≡ true
and_true a b p q = ap₂ ◌&&◌ p q

-- neither test of two holds exactly if each does not
pub or_false : (a b : Bool) → a ≡ false → b ≡ false → a || b ≡ false
or_false a b p q = ap₂ ◌||◌ p q

-- where not one of two tests holds, neither does
pub or_neither : (a b : Bool) → a || b ≡ false → (a ≡ false) × (b ≡ false)
or_neither true b e = absurd (false≢true (sym e))
or_neither false b e = (refl, e)

pub or_left : (a b : Bool) → a ≡ true → a || b ≡ true
or_left a b p = ap (λ (t : Bool). t || b) p

pub or_right : (a b : Bool) → b ≡ true → a || b ≡ true
or_right true b p = refl
or_right false b p = p

-- a test that holds only where something impossible does, does not hold
pub false_of : (t : Bool) → (t ≡ true → ⊥) → t ≡ false
false_of true h = absurd (h refl)
false_of false h = refl

-- "not below" and "at least" are one test
pub leb_not : (a b : ℕ) (t : Bool) → ltb a b ≡ t → leb b a ≡ cond t false true
leb_not a b true e = lt-leb b a (ltb-true a b e)
leb_not a b false e = le-leb b a (ltb-false a b e)

-- a number from low to high, one below them, and one above them
pub inside_range : (low high x : ℕ) → low ≤ x → x ≤ high → outside low high x ≡ false
unfolding outside
inside_range low high x l h = or_false (ltb x low) (ltb high x) (le-ltb x low l) (le-ltb high x h)

pub below_range : (low high x : ℕ) → x < low → outside low high x ≡ true
unfolding outside
below_range low high x h = or_left (ltb x low) (ltb high x) (lt-ltb x low h)

pub above_range : (low high x : ℕ) → high < x → outside low high x ≡ true
unfolding outside
above_range low high x h = or_right (ltb x low) (ltb high x) (lt-ltb high x h)

-- a number that is not outside is from low to high
pub range_inside : (low high x : ℕ) → outside low high x ≡ false → (low ≤ x) × (x ≤ high)
range_inside low high x e = go (below_or_not x low) (below_or_not high x)
  where
    go : (x < low) ⊎ (low ≤ x) → (high < x) ⊎ (x ≤ high) → (low ≤ x) × (x ≤ high)
    go (inl l) b = absurd (false≢true (sym e ∙ below_range low high x l))
    go (inr l) (inl h) = absurd (false≢true (sym e ∙ above_range low high x h))
    go (inr l) (inr h) = (l, h)
