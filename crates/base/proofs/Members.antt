-- Laws of membership in a list, by its elements. Assumes nothing.
use Prim.Native.Nat.{ℕ, zero, suc, ◌<◌}
use mathlib.Core.Path.{◌≡◌, refl, sym, subst}
use mathlib.Core.Logic.{⊎_elim}
use mathlib.Core.List.Memᴰ
use mathlib.Core.List.{List, [], ◌∷◌, Memᴰ}
use native.Mathlib.Omega.{arith}
use lib.ListN.{length, take, drop, get_or, take-append-drop}
use Rattle.base.specs.Lists.{All}

-- what holds of all elements holds of each
pub all_mem : (P : ℕ → Type 0) (xs : List ℕ) → All P xs → {q : ℕ} → Memᴰ q xs → P q
all_mem P [] a m = absurd (Memᴰ.not-nil m)
all_mem P (x ∷ xs) a {q} m = ⊎_elim (λ e. subst P (sym e) a.0) (λ m. all_mem P xs a.1 m) (Memᴰ.cases_cons m)

-- an element, by its index, and the index of an element
pub get_d-mem : (xs : List ℕ) (i : ℕ) → i < length xs → Memᴰ (get_or xs i 0) xs
get_d-mem [] i h = absurd (omega arith)
get_d-mem (x ∷ xs) zero h = Memᴰ.head refl
get_d-mem (x ∷ xs) (suc i) h = Memᴰ.tail (get_d-mem xs i (omega arith))

pub mem_get_d : (xs : List ℕ) {q : ℕ} → Memᴰ q xs → (i : ℕ) × (i < length xs) × (get_or xs i 0 ≡ q)
mem_get_d [] m = absurd (Memᴰ.not-nil m)
mem_get_d (x ∷ xs) {q} m = ⊎_elim (λ e. (0, omega arith, sym e)) (λ m. further (mem_get_d xs m)) (Memᴰ.cases_cons m)
  where
    further : (i : ℕ) × (i < length xs) × (get_or xs i 0 ≡ q) → (i : ℕ) × (i < suc (length xs)) × (get_or (x ∷ xs) i 0 ≡ q)
    further h = (suc h.0, omega arith, h.2)

-- an element of a front is one of the list
pub mem_take : (k : ℕ) (xs : List ℕ) {q : ℕ} → Memᴰ q (take k xs) → Memᴰ q xs
mem_take k xs {q} m = subst (λ (ys : List ℕ). Memᴰ q ys) (take-append-drop k xs) (Memᴰ.append_left (drop k xs) m)
