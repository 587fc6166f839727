-- The list functions of the engine are those of the library, whose lemmas and whose iterators speak of them. Assumes nothing.
use Rattle.std.proofs.Common.{◌≡◌, refl, ap, ℕ, suc, ◌+◌, List, Bool, Option, Some, None, length, arith}
use Rattle.std.specs.Prelude.{cond, not, eqb, ltb, sum, count_by}
use Rattle.std.specs.Option.{unwrap_or}
use Rattle.std.proofs.lemmas.Grind.{common_steps}
use Rattle.std.specs.List.{position_or_len}
use Rattle.std.proofs.lemmas.List.Recursion.{is_sum_by, is_count_by, is_position_or_len}
use Rattle.std.proofs.lemmas.Bool.Decides.{nat_tests}
use Rattle.std.proofs.lemmas.List.Sums.{prefix_len-le-length}
use Rattle.base.specs.Lists.{first_where, total, count_of}

-- one more is the number after
one_more : (n : ℕ) → suc n ≡ 1 + n
one_more n = omega arith

-- the first element that passes
pub first_where_is : {A : Type 0} (p : A → Bool) (xs : List A) → first_where p xs ≡ position_or_len p xs
first_where_is p xs = is_position_or_len (first_where p) p refl (λ x xs. ap (cond (p x) 0) (one_more (first_where p xs))) xs

-- the place that `position` gives, or the length where it gives none
pub place_or_length : {A : Type 0} (p : A → Bool) (xs : List A) (r : Option ℕ) →
    r ≡ cond (ltb (position_or_len p xs) (length xs)) (Some (position_or_len p xs)) None → unwrap_or r (length xs) ≡ first_where p xs
place_or_length p xs r e = grind (arith, common_steps, nat_tests, first_where_is p xs, prefix_len-le-length (λ x. not (p x)) xs)

-- the sum
pub total_is : (xs : List ℕ) → total xs ≡ sum xs
total_is xs = is_sum_by total (λ x. x) refl (λ _ _. refl) xs

-- how often a number stands
pub count_of_is : (x : ℕ) (xs : List ℕ) → count_of x xs ≡ count_by (λ y. eqb y x) xs
count_of_is x xs = is_count_by (count_of x) (λ y. eqb y x) refl (λ y ys. ap (λ n. cond (eqb y x) n (count_of x ys)) (one_more (count_of x ys))) xs
