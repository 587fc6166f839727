-- A phrase stands at a place exactly if it ends inside the text and each of its words is the one there. Assumes nothing.
use Prim.Native.Nat.{ℕ, zero, suc, ◌+◌, ◌≤◌, ◌<◌}
use mathlib.Core.Path.{◌≡◌, refl, sym, ap, ◌∙◌}
use mathlib.Core.Bool.{Bool, true, false, false≢true, ◌&&◌}
use mathlib.Core.List.{List, [], ◌∷◌}
use native.Mathlib.Omega.{arith}
use borrow.Author.Tests.{leb-true, le-leb, eqb-true, eq-eqb}
use lib.Dec.{eqb, leb}
use lib.ListN.{length, take, drop, get_or, length-drop}
use lib.Pointwise.{pointwise}
use lib.Seq.{get_or-drop}
use Rattle.base.proofs.Tests.{and_left, and_right, and_true, false_of}
use Rattle.phrases.specs.Phrases.{agrees, stands}

-- where all words agree, each does
agrees_word : (xs ws : List ℕ) → agrees xs ws ≡ true → (i : ℕ) → i < length xs → get_or ws i 0 ≡ get_or xs i 0
unfolding agrees
agrees_word [] ws e i h = absurd (omega arith)
agrees_word (x ∷ xs) [] e i h = absurd (false≢true e)
agrees_word (x ∷ xs) (w ∷ ws) e zero h = sym (eqb-true x w (and_left (eqb x w) (agrees xs ws) e))
agrees_word (x ∷ xs) (w ∷ ws) e (suc i) h = agrees_word xs ws (and_right (eqb x w) (agrees xs ws) e) i (omega arith)

-- where each word agrees, all do
agrees_all : (xs ws : List ℕ) → length xs ≤ length ws → ((i : ℕ) → i < length xs → get_or ws i 0 ≡ get_or xs i 0) → agrees xs ws ≡ true
unfolding agrees
agrees_all [] ws l h = refl
agrees_all (x ∷ xs) [] l h = absurd (omega arith)
agrees_all (x ∷ xs) (w ∷ ws) l h =
    and_true (eqb x w) (agrees xs ws) (eq-eqb x w (sym (h 0 (omega arith)))) (agrees_all xs ws (omega arith) (λ i b. h (suc i) (omega arith)))

-- all words agree exactly if as many of the list are the same
agrees_part : (xs ws : List ℕ) → length xs ≤ length ws → pointwise eqb xs (take (length xs) ws) ≡ agrees xs ws
unfolding agrees
agrees_part [] ws l = refl
agrees_part (x ∷ xs) [] l = absurd (omega arith)
agrees_part (x ∷ xs) (w ∷ ws) l = ap (λ (b : Bool). eqb x w && b) (agrees_part xs ws (omega arith))

module _ (t phrase : List ℕ) (q : ℕ) where
  -- a phrase that ends inside the text stands exactly if it is the part of the text there
  pub stands_part : q + length phrase ≤ length t → pointwise eqb phrase (take (length phrase) (drop q t)) ≡ stands t phrase q
  unfolding stands
  stands_part l =
      agrees_part phrase (drop q t) (rw (length-drop q t) (omega arith))
      ∙ sym (ap (λ (b : Bool). b && agrees phrase (drop q t)) (le-leb (q + length phrase) (length t) l))

  -- a phrase that stands ends inside the text
  pub stands_inside : stands t phrase q ≡ true → q + length phrase ≤ length t
  unfolding stands
  stands_inside e = leb-true (q + length phrase) (length t) (and_left (leb (q + length phrase) (length t)) (agrees phrase (drop q t)) e)

  -- and each of its words is the one there
  pub stands_word : stands t phrase q ≡ true → (i : ℕ) → i < length phrase → get_or t (q + i) 0 ≡ get_or phrase i 0
  unfolding stands
  stands_word e i h =
      sym (get_or-drop q t i 0) ∙ agrees_word phrase (drop q t) (and_right (leb (q + length phrase) (length t)) (agrees phrase (drop q t)) e) i h

  -- a phrase that ends inside the text and whose words are those there stands
  pub stands_yes : q + length phrase ≤ length t → ((i : ℕ) → i < length phrase → get_or t (q + i) 0 ≡ get_or phrase i 0) → stands t phrase q ≡ true
  unfolding stands
  stands_yes l h =
      and_true (leb (q + length phrase) (length t)) (agrees phrase (drop q t)) (le-leb (q + length phrase) (length t) l)
      (agrees_all phrase (drop q t) (rw (length-drop q t) (omega arith)) (λ i b. get_or-drop q t i 0 ∙ h i b))

  -- one that would end past the text does not stand
  pub stands_past : length t < q + length phrase → stands t phrase q ≡ false
  stands_past h = false_of (stands t phrase q) (λ e. omega (arith, stands_inside e))

  -- nor one of which a word is another than the one there
  pub stands_other : (i : ℕ) → i < length phrase → (get_or t (q + i) 0 ≡ get_or phrase i 0 → ⊥) → stands t phrase q ≡ false
  stands_other i h d = false_of (stands t phrase q) (λ e. d (stands_word e i h))
