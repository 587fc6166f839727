-- Laws of a slice that is written from a position on, and from its front on. Assumes nothing.
use Prim.Native.Nat.{ℕ, suc, ◌+◌, ◌-◌, ◌≤◌, ◌<◌}
use mathlib.Core.Path.{◌≡◌, refl, sym, ap, ap₂, ◌∙◌}
use mathlib.Core.List.{List, ◌++◌, append_assoc, [], ◌∷◌, append-nil}
use native.Mathlib.Omega.{arith}
use native.Mathlib.Numerals.{add-one}
use lib.ListN.{length, get_or, take, drop, length-append, length-drop, take-append-drop, set, get_or-append}
use lib.Seq.{paste, length_paste_head, take_all, take-append_seam, drop-append-add, drop-drop, drop-cons, get_or_at, sets, sets-eq, take_at, drop_at, drop-length, take-suc, length-take-le, get_or-set_same, get_or-set_other, get_or-drop, get_or-append-add}
use Rattle.base.specs.Answers.{front, written}
use mathlib.Core.Logic.{◌⊎◌, inl, inr}
use Rattle.base.proofs.Tests.{same_or_not}

-- a run of stores
pub written_sets : (xs z : List ℕ) (at : ℕ) → at + length xs ≤ length z → sets z at xs ≡ written xs at z
unfolding written
written_sets xs z at h = sets-eq xs z at h

pub written_one : (x : ℕ) (z : List ℕ) (at : ℕ) → at < length z → set z at x ≡ written (x ∷ []) at z
written_one x z at h = written_sets (x ∷ []) z at (omega arith)

pub length_written : (xs z : List ℕ) (at : ℕ) → at + length xs ≤ length z → length (written xs at z) ≡ length z
unfolding written
length_written xs z at h =
    length-append (take at z ++ xs) (drop (at + length xs) z)
    ∙ omega (arith, length-append (take at z) xs, length-take-le at z (omega arith), length-drop (at + length xs) z)

-- a list written behind another is the two written at once
pub written_more : (xs ys z : List ℕ) (at : ℕ) → at + length xs ≤ length z → written ys (at + length xs) (written xs at z) ≡ written (xs ++ ys) at z
unfolding written
written_more xs ys z at room =
    let n : length (take at z ++ xs) ≡ at + length xs = length-append (take at z) xs ∙ ap (λ (k : ℕ). k + length xs) (length-take-le at z (omega arith)) in
    let rest = drop (at + length xs) z in
    let m : at + length xs + length ys ≡ at + length (xs ++ ys) = omega (arith, length-append xs ys) in
    ap₂ (λ (p r : List ℕ). p ++ ys ++ r) (take_at (take at z ++ xs) rest (at + length xs) n)
    (sym (drop-drop (length ys) (at + length xs) (take at z ++ xs ++ rest))
    ∙ ap (drop (length ys)) (drop_at (take at z ++ xs) rest (at + length xs) n)
    ∙ drop-drop (length ys) (at + length xs) z)
    ∙ ap₂ (λ (p : List ℕ) (k : ℕ). p ++ drop k z) (append_assoc (take at z) xs ys) m

-- nothing written, and the whole of what is written
pub front_none : (z : List ℕ) → front [] z ≡ z
unfolding front
front_none z = refl

pub length_front : (xs z : List ℕ) → length xs ≤ length z → length (front xs z) ≡ length z
unfolding front
length_front xs z h = length-append xs (drop (length xs) z) ∙ omega (arith, length-drop (length xs) z)

-- more is written behind a front
pub front_more : (xs ys z : List ℕ) → written ys (length xs) (front xs z) ≡ front (xs ++ ys) z
unfolding written front
front_more xs ys z =
    ap (λ (p : List ℕ). p ++ ys ++ drop (length xs + length ys) (xs ++ drop (length xs) z)) (take_at xs (drop (length xs) z) (length xs) refl)
    ∙ ap (λ (r : List ℕ). (xs ++ ys) ++ r)
    (sym (drop-drop (length ys) (length xs) (xs ++ drop (length xs) z))
    ∙ ap (drop (length ys)) (drop_at xs (drop (length xs) z) (length xs) refl)
    ∙ drop-drop (length ys) (length xs) z
    ∙ ap (λ (n : ℕ). drop n z) (sym (length-append xs ys)))

-- the next element of a list is written behind the front that has those before it
pub front_next : (xs z : List ℕ) (i : ℕ) → i < length xs → i < length z → set (front (take i xs) z) i (get_or xs i 0) ≡ front (take (i + 1) xs) z
front_next xs z i h l =
    let n : length (take i xs) ≡ i = length-take-le i xs (omega arith) in
    let m : length (front (take i xs) z) ≡ length z = length_front (take i xs) z (omega arith) in
    written_one (get_or xs i 0) (front (take i xs) z) i (omega arith)
    ∙ ap (λ (k : ℕ). written (get_or xs i 0 ∷ []) k (front (take i xs) z)) (sym n)
    ∙ front_more (take i xs) (get_or xs i 0 ∷ []) z
    ∙ ap (λ (ys : List ℕ). front ys z) (sym (take-suc xs i 0 h) ∙ ap (λ (k : ℕ). take k xs) (sym (add-one i)))

-- what stands in front, and what is left behind it
pub front_is : (xs l : List ℕ) → front xs l ≡ xs ++ drop (length xs) l
unfolding front
front_is xs l = refl

-- what was written stands in front
pub take_front : (xs l : List ℕ) → take (length xs) (front xs l) ≡ xs
take_front xs l = ap (take (length xs)) (front_is xs l) ∙ take-append_seam xs (drop (length xs) l)

-- a slice that begins with a list has it in front
pub front_of_take : (xs l : List ℕ) → take (length xs) l ≡ xs → l ≡ front xs l
front_of_take xs l e = sym (take-append-drop (length xs) l) ∙ ap (λ (t : List ℕ). t ++ drop (length xs) l) e ∙ sym (front_is xs l)

-- the elements of a slice after its front is written: those that were written, and past them its own
pub front_inside : (xs z : List ℕ) (i : ℕ) → i < length xs → get_or (front xs z) i 0 ≡ get_or xs i 0
unfolding front
front_inside xs z i h = get_or-append xs (drop (length xs) z) 0 i h

pub front_past : (xs z : List ℕ) (i : ℕ) → length xs ≤ i → get_or (front xs z) i 0 ≡ get_or z i 0
unfolding front
front_past xs z i h =
    let e : length xs + (i - length xs) ≡ i = omega arith in
    ap (λ (n : ℕ). get_or (xs ++ drop (length xs) z) n 0) (sym e) ∙ get_or-append-add xs (drop (length xs) z) (i - length xs) 0
    ∙ get_or-drop (length xs) z (i - length xs) 0 ∙ ap (λ (n : ℕ). get_or z n 0) e

-- behind what was written to the front
pub drop_front : (xs l : List ℕ) (n : ℕ) → drop (length xs + n) (front xs l) ≡ drop (length xs + n) l
drop_front xs l n = ap (drop (length xs + n)) (front_is xs l) ∙ drop-append-add xs (drop (length xs) l) n ∙ drop-drop n (length xs) l

-- a longer list over a shorter one
pub front_over : (xs ys l : List ℕ) → length xs ≤ length ys → front ys (front xs l) ≡ front ys l
front_over xs ys l h =
    let e : length ys ≡ length xs + (length ys - length xs) = omega arith in
    front_is ys (front xs l) ∙ ap (λ (t : List ℕ). ys ++ t) (ap (λ (n : ℕ). drop n (front xs l)) e ∙ drop_front xs l (length ys - length xs) ∙ ap (λ (n : ℕ). drop n l) (sym e)) ∙ sym (front_is ys l)

-- one list more, pasted behind the front
pub front_paste : (xs ys l : List ℕ) → paste (front xs l) (length xs) ys (length ys) ≡ front (xs ++ ys) l
front_paste xs ys l =
    rw (take_front xs l, take_all (length ys) ys (omega arith), drop_front xs l (length ys), append_assoc, front_is (xs ++ ys) l, length-append xs ys, append_assoc)

-- ---- a list pasted over a part of a slice

-- the element behind those that are pasted is the slice's
pub paste_next : (d : List ℕ) (at : ℕ) (s : List ℕ) (n : ℕ) → at + n < length d → n ≤ length s → get_or (paste d at s n) (at + n) 0 ≡ get_or d (at + n) 0
paste_next d at s n h l =
    ap (λ (r : List ℕ). get_or ((take at d ++ take n s) ++ r) (at + n) 0) (drop-cons d (at + n) 0 h)
    ∙ get_or_at (take at d ++ take n s) (get_or d (at + n) 0) (drop (suc (at + n)) d) 0 (at + n) (length_paste_head d at s n (omega arith) l)

-- as many elements as the list has are the whole of it
pub front_whole : (xs z : List ℕ) → length xs ≡ length z → front xs z ≡ xs
front_whole xs z e =
    front_is xs z ∙ ap (λ (r : List ℕ). xs ++ r) (ap (λ (m : ℕ). drop m z) e ∙ drop-length z) ∙ append-nil xs

-- a list that holds f below k, with f k written at k, holds f below k + 1
pub set_below : (f : ℕ → ℕ) (xs : List ℕ) (k x : ℕ) → k < length xs → x ≡ f k → ((j : ℕ) → j < k → get_or xs j 0 ≡ f j) → (j : ℕ) → j < k + 1 → get_or (set xs k x) j 0 ≡ f j
set_below f xs k x h e p j l = go (same_or_not j k)
  where
    go : (j ≡ k) ⊎ (j ≡ k → ⊥) → get_or (set xs k x) j 0 ≡ f j
    go (inl q) = rw q (get_or-set_same xs k x 0 h ∙ e)
    go (inr n) = get_or-set_other xs k j x 0 n ∙ p j (omega arith)
