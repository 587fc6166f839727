-- The test of a text's ranks, as a fact of each rank. Assumes nothing.
use Prim.Native.Nat.{ℕ, ◌≤◌, ◌<◌}
use mathlib.Core.Path.{◌≡◌, refl, ◌∙◌}
use mathlib.Core.Bool.{Bool, true, false, cond, not}
use mathlib.Core.List.{List}
use native.Mathlib.Omega.{arith}
use borrow.Author.Tests.{ltb-true, lt-ltb, leb-true, le-leb}
use lib.Dec.{ltb, leb}
use lib.ListN.{length}
use Rattle.base.specs.Lists.{Below, first_where}
use Rattle.base.specs.Texts.{max_words, ranks_below, is_text}
use Rattle.base.proofs.Tests.{and_left, and_right, and_true, false_of, leb_not}
use Rattle.base.proofs.Lists.{all_imp, all_of_pass, pass_of_all, first_where_inside, first_where_length}

-- the test holds exactly if every rank is below V
pub below_of_test : (v : ℕ) (t : List ℕ) → ranks_below v t ≡ true → Below v t
unfolding ranks_below
below_of_test v t e = all_imp (λ (w : ℕ). ltb w v ≡ true) (λ (w : ℕ). w < v) (λ w q. ltb-true w v q) t (all_of_pass (λ (w : ℕ). ltb w v) t e)

pub test_of_below : (v : ℕ) (t : List ℕ) → Below v t → ranks_below v t ≡ true
unfolding ranks_below
test_of_below v t b = pass_of_all (λ (w : ℕ). ltb w v) t (all_imp (λ (w : ℕ). w < v) (λ (w : ℕ). ltb w v ≡ true) (λ w q. lt-ltb w v q) t b)

-- a text has at most 16,777,216 words, with ranks below V
pub text_length_lem : (v : ℕ) (t : List ℕ) → is_text v t ≡ true → length t ≤ max_words
unfolding is_text
text_length_lem v t e = leb-true (length t) max_words (and_left (leb (length t) max_words) (ranks_below v t) e)

pub text_below : (v : ℕ) (t : List ℕ) → is_text v t ≡ true → Below v t
unfolding is_text
text_below v t e = below_of_test v t (and_right (leb (length t) max_words) (ranks_below v t) e)

pub is_text_lem : (v : ℕ) (t : List ℕ) → length t ≤ max_words → Below v t → is_text v t ≡ true
unfolding is_text
is_text_lem v t l b = and_true (leb (length t) max_words) (ranks_below v t) (le-leb (length t) max_words l) (test_of_below v t b)

-- the first rank that is not below V stands inside the text exactly if there is one
not_below : (v w : ℕ) → leb v w ≡ not (ltb w v)
not_below v w = leb_not w v (ltb w v) refl ∙ flip (ltb w v)
  where
    flip : (t : Bool) → cond t false true ≡ not t
    flip true = refl
    flip false = refl

pub rank_outside : (v : ℕ) (t : List ℕ) → first_where (λ (w : ℕ). leb v w) t < length t → ranks_below v t ≡ false
unfolding ranks_below
rank_outside v t h = false_of (ranks_below v t) (λ e. absurd (omega (arith, first_where_length (λ (w : ℕ). leb v w) (λ (w : ℕ). ltb w v) (not_below v) t e)))

pub no_rank_outside : (v : ℕ) (t : List ℕ) → length t ≤ first_where (λ (w : ℕ). leb v w) t → ranks_below v t ≡ true
unfolding ranks_below
no_rank_outside v t h = go (ranks_below v t) refl
  where
    go : (r : Bool) → ranks_below v t ≡ r → ranks_below v t ≡ true
    go true e = e
    go false e = absurd (omega (arith, first_where_inside (λ (w : ℕ). leb v w) (λ (w : ℕ). ltb w v) (not_below v) t e))
