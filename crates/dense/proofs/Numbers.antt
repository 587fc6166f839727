-- Numbers in two and three digits: s and c stand for the numbers of closing and continuing values. Assumes nothing.
use Prim.Native.Nat.{ℕ, ◌+◌, ◌-◌, ◌*◌, ◌/◌, ◌%◌, ◌≤◌, ◌<◌}
use mathlib.Core.Path.{◌≡◌, ap, ◌∙◌}
use native.Mathlib.Nat.{mul-add-mod_self_left, mul-add-div, mod-eq_of_lt, div-eq_of_lt, add-zero, mul_comm, div-lt_iff_lt-mul, mul-le-mul_left, mul-le-mul}
use native.Mathlib.Omega.{arith}

-- a quotient is below c if the number is below m times c
pub div_below : (m c x : ℕ) → 0 < m → x < m * c → x / m < c
div_below m c x h l = (div-lt_iff_lt-mul h).1 (rw (mul_comm c m) l)

-- a number made of a quotient and a remainder gives both back
pub digit_div : (m a r : ℕ) → r < m → (m * a + r) / m ≡ a
digit_div m a r h = mul-add-div (omega arith) a r ∙ ap (λ (x : ℕ). a + x) (div-eq_of_lt h) ∙ add-zero a

pub digit_mod : (m a r : ℕ) → r < m → (m * a + r) % m ≡ r
digit_mod m a r h = mul-add-mod_self_left m a r ∙ mod-eq_of_lt h

-- a quotient and a remainder that are in range stand for a number in range
pub digits_below : (m c a r : ℕ) → r < m → a < c → m * a + r < m * c
digits_below m c a r h l = omega (arith, mul-le-mul_left m l)

-- what is left of a rank of three bytes after the ranks of one byte and of two
pub third_part : (s c i : ℕ) → i < s * (1 + c + c * c) → s + s * c ≤ i → i - (s + s * c) < s * (c * c)
third_part s c i h l = omega arith

-- ranks of one byte, of two and of three are ranks
pub first_part_below : (s c x : ℕ) → x < s → x < s * (1 + c + c * c)
first_part_below s c x h = omega arith

pub second_part_below : (s c x : ℕ) → x < s * c → s + x < s * (1 + c + c * c)
second_part_below s c x h = omega arith

pub third_part_below : (s c x : ℕ) → x < s * (c * c) → s + s * c + x < s * (1 + c + c * c)
third_part_below s c x h = omega arith

-- the products of the numbers of closing and continuing values are small
pub record Small (s : ℕ) : Type 0 where
  pub others : 256 - s ≤ 255
  pub two : s * (256 - s) ≤ 65025
  pub square : (256 - s) * (256 - s) ≤ 65025
  pub three : s * ((256 - s) * (256 - s)) ≤ 16581375
  pub all : s * (1 + (256 - s) + (256 - s) * (256 - s)) ≤ 16646655

pub small : (s : ℕ) → 1 ≤ s → s ≤ 255 → Small s
small s l h =
    let o : 256 - s ≤ 255 = omega arith in
    let t : s * (256 - s) ≤ 255 * 255 = mul-le-mul h o in
    let q : (256 - s) * (256 - s) ≤ 255 * 255 = mul-le-mul o o in
    let u : s * ((256 - s) * (256 - s)) ≤ 255 * (255 * 255) = mul-le-mul h q in
    record { others = o; two = t; square = q; three = u; all = omega arith }

-- a node that two continuing bytes lead to at most, times the number of closing or of continuing values
pub node_products : (s node : ℕ) → 1 ≤ s → s ≤ 255 → node ≤ (256 - s) * (256 - s) + (256 - s) → (s * node ≤ 16646400) × ((256 - s) * node ≤ 16646400)
node_products s node l h m =
    let n : node ≤ 65280 = omega (arith, (small s l h).square, (small s l h).others) in
    let p : s * node ≤ 255 * 65280 = mul-le-mul h n in
    let q : (256 - s) * node ≤ 255 * 65280 = mul-le-mul (small s l h).others n in
    (omega arith, omega arith)
