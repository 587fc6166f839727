-- Laws of 256 sums, of the counters in two lanes, and of the rows that they are. Assumes nothing.
use Prim.Native.Nat.{ℕ, suc, ◌+◌, ◌≤◌, ◌<◌}
use mathlib.Core.Path.{◌≡◌, sym, ap, ◌∙◌}
use mathlib.Core.Logic.{◌⊎◌, inl, inr}
use mathlib.Core.List.{List, [], ◌∷◌, ◌++◌}
use native.Mathlib.Omega.{arith}
use lib.ListN.{length, get_or, set, drop, replicate, get_or-replicate}
use lib.Seq.{ext_get_or, get_or-drop, get_or-set_same, get_or-set_other}
use Rattle.base.specs.Lists.{Below, count_of}
use Rattle.base.proofs.Tests.{same_or_not, cond_same, cond_other}
use Rattle.base.proofs.Lists.{all_at, all_of_at}
use Rattle.base.proofs.Counts.{count_append, count_most}
use Rattle.base.proofs.Ranges.{length_map_range, get_d-map_range}
use Rattle.directory.specs.Counters.{row}
use Rattle.directory.proofs.Rows.{row_length, row_at}
use Rattle.tallies.specs.Tallies.{sums, counters}

-- ---- 256 numbers

-- two lists of 256 numbers are equal where each number is
pub same_numbers : (xs ys : List ℕ) → length xs ≡ 256 → length ys ≡ 256 → ((x : ℕ) → x < 256 → get_or xs x 0 ≡ get_or ys x 0) → xs ≡ ys
same_numbers xs ys p q e = ext_get_or 0 xs ys (p ∙ sym q) (λ x h. e x (rw p at h))

-- a number of a list that is below a bound
pub below_at : (bound : ℕ) (xs : List ℕ) → Below bound xs → length xs ≡ 256 → (x : ℕ) → x < 256 → get_or xs x 0 < bound
below_at bound xs b l x h = all_at (λ (n : ℕ). n < bound) xs 0 x b (omega arith)

-- a row is below any number above the length
pub row_below : (bound : ℕ) (xs : List ℕ) → length xs < bound → Below bound (row xs)
row_below bound xs l =
    all_of_at (λ (n : ℕ). n < bound) (row xs) 0 (λ x h.
    let below : x < 256 = omega (arith, row_length xs) in
    omega (arith, row_at xs x below, count_most x xs))

-- ---- sums

-- there are 256 sums
pub sums_length : (xs ys : List ℕ) → length (sums xs ys) ≡ 256
unfolding sums
sums_length xs ys = length_map_range (λ (x : ℕ). get_or xs x 0 + get_or ys x 0) 0 256

-- sum x
pub sums_at : (xs ys : List ℕ) (x : ℕ) → x < 256 → get_or (sums xs ys) x 0 ≡ get_or xs x 0 + get_or ys x 0
unfolding sums
sums_at xs ys x h = get_d-map_range (λ (x : ℕ). get_or xs x 0 + get_or ys x 0) 256 x 0 h

-- the sums of two rows are the row of both lists
pub sums_rows : (xs ys : List ℕ) → sums (row xs) (row ys) ≡ row (xs ++ ys)
sums_rows xs ys =
    same_numbers (sums (row xs) (row ys)) (row (xs ++ ys)) (sums_length (row xs) (row ys)) (row_length (xs ++ ys))
    (λ x h. omega (arith, sums_at (row xs) (row ys) x h, row_at xs x h, row_at ys x h, row_at (xs ++ ys) x h, count_append x xs ys))

-- and so are the sums of a list with one and then the other
pub sums_row : (cs xs ys : List ℕ) → sums (sums cs (row xs)) (row ys) ≡ sums cs (row (xs ++ ys))
sums_row cs xs ys =
    same_numbers (sums (sums cs (row xs)) (row ys)) (sums cs (row (xs ++ ys))) (sums_length (sums cs (row xs)) (row ys)) (sums_length cs (row (xs ++ ys)))
    (λ x h.
    omega (
      arith,
      sums_at (sums cs (row xs)) (row ys) x h,
      sums_at cs (row xs) x h,
      sums_at cs (row (xs ++ ys)) x h,
      row_at xs x h,
      row_at ys x h,
      row_at (xs ++ ys) x h,
      count_append x xs ys,
    ))

-- with the row of no bytes, 256 numbers are as they were
pub sums_none : (cs : List ℕ) → length cs ≡ 256 → cs ≡ sums cs (row [])
sums_none cs l = same_numbers cs (sums cs (row [])) l (sums_length cs (row [])) (λ x h. omega (arith, sums_at cs (row []) x h, row_at [] x h))

-- ---- the counters in two lanes

-- there are 256 counters
pub counters_length : (lanes : List ℕ) → length (counters lanes) ≡ 256
unfolding counters
counters_length lanes = sums_length lanes (drop 256 lanes)

-- counter x
pub counters_at : (lanes : List ℕ) (x : ℕ) → x < 256 → get_or (counters lanes) x 0 ≡ get_or lanes x 0 + get_or lanes (256 + x) 0
unfolding counters
counters_at lanes x h = sums_at lanes (drop 256 lanes) x h ∙ ap (λ (n : ℕ). get_or lanes x 0 + n) (get_or-drop 256 lanes x 0)

-- the two lanes of a counter that fits
pub counter_fits : (lanes : List ℕ) → Below 65536 (counters lanes) → (x : ℕ) → x < 256 → get_or lanes x 0 + get_or lanes (256 + x) 0 < 65536
counter_fits lanes b x h = omega (arith, counters_at lanes x h, below_at 65536 (counters lanes) b (counters_length lanes) x h)

-- lanes of zeros are the row of no bytes
pub counters_none : counters (replicate 512 0) ≡ row []
counters_none =
    same_numbers (counters (replicate 512 0)) (row []) (counters_length (replicate 512 0)) (row_length [])
    (λ x h.
    omega (
      arith,
      counters_at (replicate 512 0) x h,
      get_or-replicate {A = ℕ} 512 x 0 0 (omega arith),
      get_or-replicate {A = ℕ} 512 (256 + x) 0 0 (omega arith),
      row_at [] x h,
    ))

-- each lane is at most the counter
pub lane_most : (lanes : List ℕ) (k x : ℕ) → x < 256 → (k ≡ x) ⊎ (k ≡ 256 + x) → get_or lanes k 0 ≤ get_or (counters lanes) x 0
lane_most lanes k x h (inl e) = rw e (omega (arith, counters_at lanes x h))
lane_most lanes k x h (inr e) = rw e (omega (arith, counters_at lanes x h))

-- one of the two lanes of x goes up by one, at the index k: the byte x is counted
pub counters_up : (lanes : List ℕ) (k x : ℕ) → length lanes ≡ 512 → x < 256 → (k ≡ x) ⊎ (k ≡ 256 + x)
    → counters (set lanes k (get_or lanes k 0 + 1)) ≡ sums (counters lanes) (row (x ∷ []))
counters_up lanes k x l h w =
    same_numbers (counters up) (sums (counters lanes) (row (x ∷ []))) (counters_length up) (sums_length (counters lanes) (row (x ∷ [])))
    (λ y b. omega (arith, counters_at up y b, counters_at lanes y b, sums_at (counters lanes) (row (x ∷ [])) y b, row_at (x ∷ []) y b, go y b w (same_or_not x y)))
  where
    up : List ℕ
    up = set lanes k (get_or lanes k 0 + 1)

    more : (i : ℕ) → i ≡ k → i < 512 → get_or up i 0 ≡ get_or lanes i 0 + 1
    more i e b = rw e (get_or-set_same lanes k (get_or lanes k 0 + 1) 0 (omega arith))

    as-was : (i : ℕ) → (i ≡ k → ⊥) → get_or up i 0 ≡ get_or lanes i 0
    as-was i n = get_or-set_other lanes k i (get_or lanes k 0 + 1) 0 n

    go : (y : ℕ) → y < 256 → (k ≡ x) ⊎ (k ≡ 256 + x) → (x ≡ y) ⊎ (x ≡ y → ⊥) → get_or up y 0 + get_or up (256 + y) 0 ≡ get_or lanes y 0 + get_or lanes (256 + y) 0 + count_of y (x ∷ [])
    go y b (inl e) (inl q) = omega (arith, more y (omega arith) (omega arith), as-was (256 + y) (λ (z : 256 + y ≡ k). omega arith), cond_same (suc 0) 0 x y q)
    go y b (inr e) (inl q) = omega (arith, more (256 + y) (omega arith) (omega arith), as-was y (λ (z : y ≡ k). omega arith), cond_same (suc 0) 0 x y q)
    go y b (inl e) (inr n) = omega (arith, as-was y (λ (z : y ≡ k). n (omega arith)), as-was (256 + y) (λ (z : 256 + y ≡ k). omega arith), cond_other (suc 0) 0 x y n)
    go y b (inr e) (inr n) = omega (arith, as-was y (λ (z : y ≡ k). omega arith), as-was (256 + y) (λ (z : 256 + y ≡ k). n (omega arith)), cond_other (suc 0) 0 x y n)
