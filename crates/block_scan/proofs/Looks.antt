-- Bytes that are read on from a position to the next x. Assumes nothing.
use Prim.Native.Nat.{ℕ, suc, ◌-◌, ◌≤◌, ◌<◌}
use mathlib.Core.Path.{◌≡◌, refl, ap, sym, ◌∙◌}
use mathlib.Core.Bool.{Bool, true, false, cond}
use mathlib.Core.List.{List}
use native.Mathlib.Omega.{arith}
use lib.ListN.{length, take, get_or}
use Rattle.std.specs.Prelude.{Some}
use Rattle.base.specs.Lists.{count_of, nth}
use Rattle.base.proofs.Counts.{count_hit, count_miss}
use Rattle.block_scan.specs.BlockScans.{scan_of, Met, Clear}
use Rattle.block_scan.proofs.BlockScans.{scan_hit, not-past-one}

-- a test does not hold and fail
pub never : {P : Type 0} (t : Bool) → t ≡ true → t ≡ false → P
never t e f = let n : ◌≡◌ {A = ℕ} 1 0 = ap (λ (b : Bool). cond b 1 0) (sym e ∙ f) in absurd (omega arith)

-- no bytes are read
pub clear_none : (x from : ℕ) (block : List ℕ) → from ≤ length block → Clear x from block from
clear_none x from block h = record { onward = omega arith; inside = h; none = refl }

-- one byte is read, which is x
pub met-one : (x i : ℕ) (block : List ℕ) → i < length block → get_or block i 0 ≡ x → Met x i block (suc i)
met-one x i block h e = record { at = i; onward = omega arith; last = refl; inside = omega arith; stands = e; before = refl }

-- one byte is read, which is another
pub clear-one : (x i : ℕ) (block : List ℕ) → i < length block → (get_or block i 0 ≡ x → ⊥) → Clear x i block (suc i)
clear-one x i block h n = record { onward = omega arith; inside = omega arith; none = count_miss x block i h n }

-- where none is among the bytes up to a position, what is read on from there was read on from the start
pub met_on : {x from between read : ℕ} {block : List ℕ} → Clear x from block between → Met x between block read → Met x from block read
met_on c m = record {
  at = m.at;
  onward = omega (arith, c.onward, m.onward);
  last = m.last;
  inside = m.inside;
  stands = m.stands;
  before = m.before ∙ c.none;
}

pub clear_on : {x from between read : ℕ} {block : List ℕ} → Clear x from block between → Clear x between block read → Clear x from block read
clear_on c d = record { onward = omega (arith, c.onward, d.onward); inside = d.inside; none = d.none ∙ c.none }

-- bytes without x end before the occurrence, which the next byte is therefore not past
pub clear_before : (j : ℕ) {x from read : ℕ} {block : List ℕ} → Clear x from block read → count_of x (take from block) ≤ j → read ≤ nth x j block
clear_before j {x} {from} {read} {block} c most = not-past-one x j read block c.inside (omega (arith, c.none))

-- the x after those left to pass ends the scan, at the last byte that was read
pub met_ends : {x j from read : ℕ} {block : List ℕ} → Met x from block read → count_of x (take from block) ≡ j
    → record { stands = Some (read - 1); read = read } ≡ scan_of x j block
met_ends {x} {j} {from} {read} {block} m c =
    let e : read ≡ suc m.at = m.last in
    let f : read - 1 ≡ m.at = omega (arith, e) in
    rw (f, e) (scan_hit x j m.at block (omega (arith, m.inside)) m.stands (m.before ∙ c))

-- another has one less to pass
pub met_counts : {x from read : ℕ} {block : List ℕ} → Met x from block read → (from < read) × (count_of x (take read block) ≡ suc (count_of x (take from block)))
met_counts {x} {from} {read} {block} m =
    let e : read ≡ suc m.at = m.last in
    (omega (arith, e, m.onward), rw e (count_hit x block m.at (omega (arith, e, m.inside)) m.stands ∙ ap suc m.before))
