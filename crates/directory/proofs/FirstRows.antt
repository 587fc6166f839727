-- Laws of lists of one width laid end to end. Assumes nothing.
use Prim.Native.Nat.{ℕ, zero, suc, ◌+◌, ◌*◌, ◌-◌, ◌<◌}
use mathlib.Core.Path.{◌≡◌, sym, ap, ◌∙◌}
use mathlib.Core.List.{List, [], ◌∷◌, ◌++◌, map, map-append, flatten, append-nil}
use native.Mathlib.Nat.{zero-mul, suc-mul}
use native.Mathlib.Omega.{arith}
use lib.ListN.{length, take, drop, get_or, length-append}
use lib.Seq.{get_or-take, get_or-drop, take_at, drop_at}
use Rattle.base.specs.Lists.{range_from}
use Rattle.base.proofs.Ranges.{range_append, map_range_suc}
use Rattle.base.proofs.Segments.{flatten_append}
use Rattle.directory.specs.Tables.{first_rows}

module _ (f : ℕ → List ℕ) where
  -- one list more
  pub first_rows_suc : (n : ℕ) → first_rows f (suc n) ≡ first_rows f n ++ f n
  unfolding flatten
  first_rows_suc n = ap flatten (map_range_suc f n) ∙ flatten_append (map f (range_from 0 n)) (f n ∷ []) ∙ ap (λ (l : List ℕ). first_rows f n ++ l) (append-nil (f n))

  module _ (w : ℕ) (wide : (r : ℕ) → length (f r) ≡ w) where
    -- n lists have n times the width
    pub first_rows_length : (n : ℕ) → length (first_rows f n) ≡ n * w
    unfolding flatten
    first_rows_length zero = sym (zero-mul w)
    first_rows_length (suc n) = ap length (first_rows_suc n) ∙ length-append (first_rows f n) (f n) ∙ omega (arith, first_rows_length n, wide n, suc-mul n w)

    -- list r of n
    pub first_rows_row : (n r : ℕ) → r < n → take w (drop (r * w) (first_rows f n)) ≡ f r
    unfolding flatten
    first_rows_row n r h =
        let m : ℕ = n - suc r in
        let e : n ≡ r + suc m = omega arith in
        let z : 0 + r ≡ r = omega arith in
        let rest : List ℕ = flatten (map f (range_from (suc r) m)) in
        let split : first_rows f n ≡ first_rows f r ++ (f r ++ rest) =
        ap (first_rows f) e ∙ ap (λ (l : List ℕ). flatten (map f l)) (range_append 0 r (suc m))
        ∙ ap flatten (map-append f (range_from 0 r) (range_from (0 + r) (suc m)))
        ∙ flatten_append (map f (range_from 0 r)) (map f (range_from (0 + r) (suc m)))
        ∙ ap (λ (k : ℕ). first_rows f r ++ flatten (map f (range_from k (suc m)))) z in
        ap (λ (l : List ℕ). take w (drop (r * w) l)) split ∙ ap (take w) (drop_at (first_rows f r) (f r ++ rest) (r * w) (first_rows_length r)) ∙ take_at (f r) rest w (wide r)

    -- element x of list r
    pub first_rows_at : (n r x : ℕ) → r < n → x < w → get_or (first_rows f n) (r * w + x) 0 ≡ get_or (f r) x 0
    first_rows_at n r x h l =
        sym (get_or-take w (drop (r * w) (first_rows f n)) x 0 l ∙ get_or-drop (r * w) (first_rows f n) x 0) ∙ ap (λ (xs : List ℕ). get_or xs x 0) (first_rows_row n r h)
