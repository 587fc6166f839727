-- The decimal digits that `io::decimal` makes are those of the definition, and how many there are. Assumes nothing.
use Prim.Native.Nat.{ℕ, zero, suc, ◌+◌, ◌*◌, ◌-◌, ◌/◌, ◌%◌, ◌^◌, ◌≤◌, ◌<◌}
use mathlib.Core.Path.{◌≡◌, sym, ap, ap₂, ◌∙◌}
use mathlib.Core.Logic.{◌⊎◌, inl, inr}
use mathlib.Core.List.{List, [], ◌∷◌, ◌++◌}
use native.Mathlib.Omega.{arith}
use native.Mathlib.Nat.{pow-suc, one-le-pow, mod-eq_of_lt}
use lib.ListN.{length, length-append}
use Rattle.io.specs.Digits.{hex_digit_ascii, last_digits, IsDigitCount}
use Rattle.base.proofs.Tests.{below_or_not, cond_below, cond_not_below}
use Rattle.formatting.specs.Characters.{digit_of, decimal_within, decimal, labelled}

-- below 10 the digit of either is that from 0 to 9
digit_glyph : (d : ℕ) → d < 10 → hex_digit_ascii d ≡ digit_of d
digit_glyph d h = cond_below _ _ _ _ h ∙ sym (cond_below _ _ _ _ h)

-- the digits of n, where it has one, and where it has more
within_one : (m n : ℕ) → n < 10 → decimal_within m n ≡ digit_of n ∷ []
within_one zero n h = ap (λ (d : ℕ). digit_of d ∷ []) (mod-eq_of_lt h)
within_one (suc m) n h = cond_below _ _ _ _ h

within_more : (m n : ℕ) → 10 ≤ n → decimal_within (suc m) n ≡ decimal_within m (n / 10) ++ (digit_of (n % 10) ∷ [])
within_more m n h = cond_not_below _ _ _ _ h

-- a power of 10 is 10 of the power before it, and at least 1
power : (k : ℕ) → (10 ^ suc k ≡ 10 * 10 ^ k) × (1 ≤ 10 ^ k)
power k = (omega (arith, pow-suc 10 k), one-le-pow k 10 (omega arith))

-- the fewest digits that hold n, where there are more than one: n / 10 has one fewer
fewer : (k n : ℕ) → IsDigitCount 10 1 n (suc (suc k)) → (10 ≤ n) × IsDigitCount 10 1 (n / 10) (suc k)
fewer k n f =
    let e : suc (suc k) - 1 ≡ suc k = omega arith in
    let d : suc k - 1 ≡ k = omega arith in
    let l : 10 ^ suc k ≤ n = rw e at (f.2 (omega arith)) in
    (omega (arith, power k), (omega arith, omega (arith, f.1, power (suc k)), λ x. rw d (omega (arith, power k))))

-- as many digits as `io::decimal` makes of n are its digits
pub digits_within : (k m n : ℕ) → n ≤ m → IsDigitCount 10 1 n (suc k) → last_digits 10 (suc k) n ≡ decimal_within m n
digits_within zero m n h f =
    let l : n < 10 = omega (arith, f.1, power 0) in
    ap (λ (d : ℕ). d ∷ []) (ap hex_digit_ascii (mod-eq_of_lt l) ∙ digit_glyph n l) ∙ sym (within_one m n l)
digits_within (suc k) zero n h f = absurd (omega (arith, (fewer k n f).0))
digits_within (suc k) (suc m) n h f =
    let more = fewer k n f in
    ap₂ (λ (xs : List ℕ) (d : ℕ). xs ++ (d ∷ [])) (digits_within k m (n / 10) (omega (arith, more.0)) more.1) (digit_glyph (n % 10) (omega arith))
    ∙ sym (within_more m n more.0)

pub digits_decimal : (k n : ℕ) → IsDigitCount 10 1 n k → last_digits 10 k n ≡ decimal n
unfolding decimal
digits_decimal zero n f = absurd (omega arith)
digits_decimal (suc k) n f = digits_within k n n (omega arith) f

-- a number below a power of 10 has at most as many digits as the power has zeros
pub length_within : (k m n : ℕ) → n < 10 ^ suc k → length (decimal_within m n) ≤ suc k
length_within k zero n h = omega arith
length_within k (suc m) n h = go k (below_or_not n 10) h (λ k. length_within k m (n / 10))
  where
    go : (k : ℕ) → (n < 10) ⊎ (10 ≤ n) → n < 10 ^ suc k → ((k : ℕ) → n / 10 < 10 ^ suc k → length (decimal_within m (n / 10)) ≤ suc k) → length (decimal_within (suc m) n) ≤ suc k
    go k (inl l) h ih = rw (within_one (suc m) n l) (omega arith)
    go zero (inr l) h ih = absurd (omega (arith, power 0))
    go (suc k) (inr l) h ih =
        rw (within_more m n l) (omega (arith, length-append (decimal_within m (n / 10)) (digit_of (n % 10) ∷ []), ih k (omega (arith, power (suc k)))))

pub decimal_length : (k n : ℕ) → n < 10 ^ suc k → length (decimal n) ≤ suc k
unfolding decimal
decimal_length k n h = length_within k n n h

-- fixed words and a number have the length of both
pub labelled_length : (label : List ℕ) (n : ℕ) → length (labelled label n) ≡ length label + length (decimal n)
unfolding labelled
labelled_length label n = length-append label (decimal n)
