-- Whether some element passes a test, and where the first one stands. Assumes nothing.
use Rattle.std.proofs.Common.{◌≡◌, refl, ap, ◌∙◌, ℕ, suc, List, [], ◌∷◌, length, Bool, true, false, cond, ltb, ◌||◌, arith}
use Rattle.std.specs.List.{list_any}
use Rattle.std.proofs.lemmas.Bool.Decides.{nat_tests}
use Rattle.base.specs.Lists.{first_where}

either : (b : Bool) (m n : ℕ) → b || ltb m n ≡ ltb (cond b 0 (suc m)) (suc n)
either true m n = grind (arith, nat_tests)
either false m n = grind (arith, nat_tests)

-- some element passes where the first that passes is one of them
pub any_is : (p : ℕ → Bool) (xs : List ℕ) → list_any p xs ≡ ltb (first_where p xs) (length xs)
any_is p [] = refl
any_is p (x ∷ xs) = ap (λ r. p x || r) (any_is p xs) ∙ either (p x) (first_where p xs) (length xs)
