-- The two cases of a scan, and how far bytes may be read before the occurrence. Assumes nothing.
use Prim.Native.Nat.{ℕ, suc, ◌+◌, ◌≤◌, ◌<◌}
use mathlib.Core.Path.{◌≡◌, ap, sym, ◌∙◌}
use mathlib.Core.Logic.{◌⊎◌, inl, inr}
use mathlib.Core.Bool.{Bool, cond}
use mathlib.Core.List.{List}
use native.Mathlib.Omega.{arith}
use borrow.Author.Tests.{lt-ltb, le-ltb}
use lib.ListN.{length, take, drop, get_or, length-take}
use lib.Seq.{take_all}
use Rattle.base.specs.Lists.{count_of, nth}
use Rattle.base.proofs.Tests.{below_or_not}
use Rattle.base.proofs.Counts.{Found, count_hit, count_part, count_most, count_take_rises, count_take_less, nth_found, nth_here, nth_none}
use Rattle.std.specs.Prelude.{Some, None}
use Rattle.block_scan.specs.declared.Scanned.{Scanned}
use Rattle.block_scan.specs.BlockScans.{scan_of, position_of}

-- the scan of a block by whether it has more than j
cases : ℕ → ℕ → List ℕ → Bool → Scanned
cases x j block t = cond t (record { stands = Some (nth x j block); read = suc (nth x j block) }) (record { stands = None; read = length block })

-- where the block has more than j
pub scan_found : (x j : ℕ) (block : List ℕ) → j < count_of x block → scan_of x j block ≡ record { stands = Some (nth x j block); read = suc (nth x j block) }
unfolding scan_of cases
scan_found x j block h = ap (cases x j block) (lt-ltb j _ (omega (arith, h)))

-- and where it has at most j
pub scan_none : (x j : ℕ) (block : List ℕ) → count_of x block ≤ j → scan_of x j block ≡ record { stands = None; read = length block }
unfolding scan_of cases
scan_none x j block h = ap (cases x j block) (le-ltb j _ (omega (arith, h)))

-- the position that the scan gives is that of the occurrence, and the length where there is none
pub scan_position : (x j : ℕ) (block : List ℕ) → position_of (scan_of x j block).stands (length block) ≡ nth x j block
scan_position x j block = go (below_or_not j (count_of x block))
  where
    go : (j < count_of x block) ⊎ (count_of x block ≤ j) → position_of (scan_of x j block).stands (length block) ≡ nth x j block
    go (inl h) = ap (λ (r : Scanned). position_of r.stands (length block)) (scan_found x j block h)
    go (inr h) = ap (λ (r : Scanned). position_of r.stands (length block)) (scan_none x j block h) ∙ sym (nth_none x j block h)

-- n more bytes have at most n more of x
pub piece_most : (x i n : ℕ) (block : List ℕ) → count_of x (take (i + n) block) ≤ count_of x (take i block) + n
piece_most x i n block = omega (arith, count_part x i n block, count_most x (take n (drop i block)), length-take n (drop i block))

-- the first i bytes and n more do not reach the occurrence, where as many as n others are left to pass after the first i
pub not_past : (x j i n : ℕ) (block : List ℕ) → i + n ≤ length block → count_of x (take i block) + n ≤ j → i + n ≤ nth x j block
not_past x j i n block here left = go (below_or_not j (count_of x block))
  where
    most : count_of x (take (i + n) block) ≤ j
    most = omega (arith, piece_most x i n block)

    go : (j < count_of x block) ⊎ (count_of x block ≤ j) → i + n ≤ nth x j block
    go (inl h) = by (nth_found x j block h) (below_or_not (nth x j block) (i + n))
      where
        by : Found x j block → (nth x j block < i + n) ⊎ (i + n ≤ nth x j block) → i + n ≤ nth x j block
        by f (inl less) =
            absurd (omega (arith, most, f.before, count_hit x block (nth x j block) f.inside f.stands, count_take_rises x (suc (nth x j block)) (i + n) block (omega arith)))
        by f (inr past) = past
    go (inr h) = omega (arith, nth_none x j block h)

-- a position is not past the occurrence where at most j of x stand before it
pub not-past-one : (x j i : ℕ) (block : List ℕ) → i ≤ length block → count_of x (take i block) ≤ j → i ≤ nth x j block
not-past-one x j i block h c = omega (arith, not_past x j i 0 block (omega arith) (omega arith))

-- a scan that has read i bytes with j of x, and then x, ends there
pub scan_hit : (x j i : ℕ) (block : List ℕ) → i < length block → get_or block i 0 ≡ x → count_of x (take i block) ≡ j
    → record { stands = Some i; read = suc i } ≡ scan_of x j block
scan_hit x j i block here q c =
    let p : nth x j block ≡ i = nth_here x j i block here q c in
    let h : j < count_of x block = omega (arith, count_take_less x block i here q) in
    sym (scan_found x j block h ∙ ap (λ (n : ℕ). record { stands = Some n; read = suc n }) p)

-- a scan that has read all bytes with at most j of x ends with none
pub scan_whole : (x j i : ℕ) (block : List ℕ) → i ≡ length block → count_of x (take i block) ≤ j → record { stands = None; read = i } ≡ scan_of x j block
scan_whole x j i block e most =
    let all : take i block ≡ block = take_all i block (omega arith) in
    ap (λ (n : ℕ). record { stands = None; read = n }) e ∙ sym (scan_none x j block (rw all at most))
