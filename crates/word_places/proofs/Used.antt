-- Laws of how many of the first elements of a list pass a test, and of how many counts are above 0. Assumes nothing.
use Rattle.std.proofs.Common.{◌≡◌, refl, ap, ◌∙◌, ℕ, ◌+◌, ◌<◌, Bool, true, false, cond, List, [], ◌∷◌, length, get_or, take, ltb, arith}
use native.Mathlib.Numerals.{add-one}
use lib.ListN.{length-append}
use lib.Seq.{take-suc}
use Rattle.std.specs.Prelude.{count_by}
use Rattle.std.proofs.lemmas.List.Recursion.{is_count_by}
use Rattle.base.specs.Lists.{filter_by}
use Rattle.base.proofs.Lists.{filter_append}

module _ (test : ℕ → Bool) (xs : List ℕ) (i : ℕ) (inside : i < length xs) where
  -- one element more
  passed_more : length (filter_by test (take (i + 1) xs)) ≡ length (filter_by test (take i xs)) + length (filter_by test (get_or xs i 0 ∷ []))
  passed_more =
      ap (λ (n : ℕ). length (filter_by test (take n xs))) (add-one i)
      ∙ ap (λ (ys : List ℕ). length (filter_by test ys)) (take-suc xs i 0 inside)
      ∙ ap length (filter_append test (take i xs) (get_or xs i 0 ∷ []))
      ∙ length-append (filter_by test (take i xs)) (filter_by test (get_or xs i 0 ∷ []))

  -- that passes, and that does not
  pub passed_yes : test (get_or xs i 0) ≡ true → length (filter_by test (take (i + 1) xs)) ≡ length (filter_by test (take i xs)) + 1
  passed_yes e = passed_more ∙ ap (λ (t : Bool). length (filter_by test (take i xs)) + length (cond t (get_or xs i 0 ∷ []) [])) e

  pub passed_no : test (get_or xs i 0) ≡ false → length (filter_by test (take (i + 1) xs)) ≡ length (filter_by test (take i xs))
  passed_no e = passed_more ∙ ap (λ (t : Bool). length (filter_by test (take i xs)) + length (cond t (get_or xs i 0 ∷ []) [])) e ∙ omega arith

-- counts above 0 are counted as the library counts
pub used_is : (xs : List ℕ) → length (filter_by (ltb 0) xs) ≡ count_by (λ x. ltb 0 x) xs
used_is xs = is_count_by (λ ys. length (filter_by (ltb 0) ys)) (λ x. ltb 0 x) refl (λ x ys. more x ys (ltb 0 x)) xs
  where
    more : (x : ℕ) (ys : List ℕ) (t : Bool) → length (cond t (x ∷ filter_by (ltb 0) ys) (filter_by (ltb 0) ys)) ≡ cond t (1 + length (filter_by (ltb 0) ys)) (length (filter_by (ltb 0) ys))
    more x ys true = omega arith
    more x ys false = refl
