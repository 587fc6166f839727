-- The turns of the loops that write and compare a row, and of those that write and compare the rows of a table. Assumes nothing.
use Prim.Native.Nat.{ℕ, ◌+◌, ◌*◌, ◌≤◌, ◌<◌}
use mathlib.Core.Path.{◌≡◌, refl, sym, ap, ◌∙◌}
use mathlib.Core.Bool.{Bool, true, false, ◌&&◌}
use mathlib.Core.List.{List, [], ◌∷◌, ◌++◌, flatten}
use Rattle.std.specs.Cmp.Lexicographic.{pointwise}
use native.Mathlib.Numerals.{add-one}
use native.Mathlib.Omega.{arith}
use lib.Dec.{eqb}
use lib.ListN.{length, get_or, set, take, drop}
use lib.Seq.{paste, paste-zero, paste-suc, length-paste, take-add, take_all}
use Rattle.base.specs.Lists.{same}
use Rattle.base.specs.Answers.{front}
use Rattle.base.proofs.Lists.{same_more, same_true, same_false}
use Rattle.directory.specs.Tables.{first_rows}
use Rattle.directory.proofs.FirstRows.{first_rows_suc, first_rows_length, first_rows_row}
use Rattle.tallies.specs.Tallies.{BeginsWithRows}
use Rattle.base.proofs.Fronts.{length_front, take_front, front_of_take, front_over, front_paste, paste_next}

-- ---- the equality of two slices

-- element by element
pub same_pointwise : (xs ys : List ℕ) → pointwise eqb xs ys ≡ same xs ys
same_pointwise [] [] = refl
same_pointwise [] (y ∷ ys) = refl
same_pointwise (x ∷ xs) [] = refl
same_pointwise (x ∷ xs) (y ∷ ys) = ap (λ (b : Bool). eqb x y && b) (same_pointwise xs ys)

-- ---- one row written

-- the first x of 256 numbers are written to a row of a table, and the rest of the table is as it was
pub record Put (table₀ : List ℕ) (row : ℕ) (s : List ℕ) (at : ℕ) (table : List ℕ) (x : ℕ) : Type 0 where
  pub most : x ≤ 256
  pub starts : at ≡ row * 256
  pub pasted : table ≡ paste table₀ at s x

module _ (table₀ : List ℕ) (row : ℕ) (s : List ℕ) where
  -- at the start nothing is written
  pub put_start : Put table₀ row s (row * 256) table₀ 0
  put_start = record { most = omega arith; starts = refl; pasted = paste-zero table₀ (row * 256) s }

  module _ (fits : (row + 1) * 256 ≤ length table₀) (long : length s ≡ 256) {at : ℕ} {table : List ℕ} {x : ℕ} (p : Put table₀ row s at table x) where
    -- the table keeps its length
    pub put_length : length table ≡ length table₀
    put_length = ap length p.pasted ∙ length-paste table₀ at s x (omega (arith, p.most, p.starts)) (omega (arith, p.most))

    -- the number that is written next is as it was
    pub put_left : x < 256 → get_or table (at + x) 0 ≡ get_or table₀ (at + x) 0
    put_left h = ap (λ (t : List ℕ). get_or t (at + x) 0) p.pasted ∙ paste_next table₀ at s x (omega (arith, p.starts)) (omega arith)

    -- one number more is written
    pub put_next : (y : ℕ) → y ≡ get_or s x 0 → x < 256 → Put table₀ row s at (set table (at + x) y) (x + 1)
    put_next y e h = record {
      most = omega arith;
      starts = p.starts;
      pasted = rw (p.pasted, e, add-one x) (paste-suc table₀ at s x 0 (omega (arith, p.starts)) (omega arith));
    }

  -- after 256 numbers the row is written
  pub put_end : {at : ℕ} {table : List ℕ} {x : ℕ} → Put table₀ row s at table x → 256 ≤ x → table ≡ paste table₀ (row * 256) s 256
  put_end {x = x} p h =
      let e : x ≡ 256 = omega (arith, p.most) in
      rw (← p.starts, ← e) p.pasted

-- ---- one row compared

-- whether the first x numbers of a row of a table are those of a list
pub record Compared (table : List ℕ) (row : ℕ) (s : List ℕ) (at : ℕ) (equal : Bool) (x : ℕ) : Type 0 where
  pub most : x ≤ 256
  pub starts : at ≡ row * 256
  pub so_far : equal ≡ same (take x (drop at table)) (take x s)

module _ (table : List ℕ) (row : ℕ) (s : List ℕ) where
  -- at the start nothing is compared
  pub compared_start : Compared table row s (row * 256) true 0
  compared_start = record { most = omega arith; starts = refl; so_far = refl }

  module _ (fits : (row + 1) * 256 ≤ length table) (long : length s ≡ 256) {at : ℕ} {equal : Bool} {x : ℕ} (p : Compared table row s at equal x) where
    -- one number more is compared
    pub compared_next : (y : ℕ) → y ≡ get_or s x 0 → x < 256 → Compared table row s at (equal && eqb (get_or table (at + x) 0) y) (x + 1)
    compared_next y e h = record {
      most = omega arith;
      starts = p.starts;
      so_far = rw (p.so_far, e) (same_more table at s x (omega (arith, p.starts)) (omega arith));
    }

    -- after 256 numbers the row is compared
    pub compared_end : 256 ≤ x → equal ≡ same (take 256 (drop (row * 256) table)) s
    compared_end h =
        let e : x ≡ 256 = omega (arith, p.most) in
        let all : take 256 s ≡ s = take_all 256 s (omega arith) in
        rw (e, p.starts, all) at p.so_far

-- ---- the rows of a table

-- a table begins with no row
pub begins_none : (f : ℕ → List ℕ) (l : List ℕ) → BeginsWithRows f 0 l
unfolding flatten
begins_none f l = refl

module _ (f : ℕ → List ℕ) (wide : (r : ℕ) → length (f r) ≡ 256) where
  -- n rows in front of a slice that has room for them leave its length
  pub rows_length : (n : ℕ) (l : List ℕ) → n * 256 ≤ length l → length (front (first_rows f n) l) ≡ length l
  rows_length n l h = length_front (first_rows f n) l (omega (arith, first_rows_length f 256 wide n))

  -- one row more is written behind n rows
  pub rows_put : (n : ℕ) (l table s : List ℕ) → table ≡ front (first_rows f n) l → s ≡ f n → paste table (n * 256) s 256 ≡ front (first_rows f (n + 1)) l
  rows_put n l table s p q =
      let e : paste (front (first_rows f n) l) (length (first_rows f n)) (f n) (length (f n)) ≡ front (first_rows f n ++ f n) l = front_paste (first_rows f n) (f n) l in
      rw (p, q, add-one n, first_rows_suc f n) (rw (first_rows_length f 256 wide n, wide n) at e)

  -- more rows over some of them
  pub rows_over : (n m : ℕ) (l : List ℕ) → n ≤ m → front (first_rows f m) (front (first_rows f n) l) ≡ front (first_rows f m) l
  rows_over n m l h = front_over (first_rows f n) (first_rows f m) l (omega (arith, first_rows_length f 256 wide n, first_rows_length f 256 wide m))

  -- a table begins with the rows in front of it
  pub begins_front : (n : ℕ) (l : List ℕ) → BeginsWithRows f n (front (first_rows f n) l)
  begins_front n l = rw (first_rows_length f 256 wide n) at (take_front (first_rows f n) l)

  -- and a table that begins with rows has them in front
  pub front_begins : (n : ℕ) (l : List ℕ) → BeginsWithRows f n l → l ≡ front (first_rows f n) l
  front_begins n l b = front_of_take (first_rows f n) l (rw (first_rows_length f 256 wide n) b)

  -- one row more of a table is right
  pub right_row : (n : ℕ) (l s : List ℕ) → BeginsWithRows f n l → s ≡ f n → same (take 256 (drop (n * 256) l)) s ≡ true → BeginsWithRows f (n + 1) l
  right_row n l s b q e =
      let m : (n + 1) * 256 ≡ n * 256 + 256 = omega arith in
      rw (m, take-add (n * 256) 256 l, b, same_true (take 256 (drop (n * 256) l)) s e, q, add-one n) (sym (first_rows_suc f n))

  -- a table of n rows, all of which are there, is the rows
  pub begins_whole : (n : ℕ) (l : List ℕ) → length l ≡ n * 256 → BeginsWithRows f n l → l ≡ first_rows f n
  begins_whole n l e b = sym (take_all (n * 256) l (omega arith)) ∙ b

  -- a row that is not right shows that a table is not the rows
  pub wrong_row : (n r : ℕ) (l s : List ℕ) → r < n → s ≡ f r → same (take 256 (drop (r * 256) l)) s ≡ false → l ≡ first_rows f n → ⊥
  wrong_row n r l s h e d q = same_false (take 256 (drop (r * 256) l)) s d (ap (λ (t : List ℕ). take 256 (drop (r * 256) t)) q ∙ first_rows_row f 256 wide n r h ∙ sym e)
