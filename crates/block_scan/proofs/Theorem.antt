-- What a scan gives is the occurrence and the bytes through it, and nothing behind them matters. Assumes nothing.
use Prim.Native.Nat.{ℕ, suc, ◌<◌}
use mathlib.Core.Path.{◌≡◌, refl, ap, sym, ◌∙◌}
use mathlib.Core.List.{List, [], ◌∷◌, ◌++◌}
use native.Mathlib.Omega.{arith}
use lib.ListN.{length, take}
use lib.Seq.{take-append_seam}
use Rattle.base.specs.Lists.{count_of, nth}
use Rattle.base.proofs.Counts.{Found, count_append, count_hit, nth_found, nth_front}
use Rattle.std.specs.Prelude.{Some, None}
use Rattle.block_scan.specs.declared.Scanned.{Scanned}
use Rattle.block_scan.specs.BlockScans.{scan_of}
use Rattle.block_scan.specs.Laws.{ScansExact}
use Rattle.block_scan.proofs.BlockScans.{scan_found, scan_none}

-- what is read of a block with more than j has the occurrence at its end, whatever follows it
scan_enough : (x j : ℕ) (block rest : List ℕ) → j < count_of x block → scan_of x j (take (suc (nth x j block)) block ++ rest) ≡ scan_of x j block
scan_enough x j block rest h = same (take (suc (nth x j block)) block) b (nth_front x j (suc (nth x j block)) block (omega (arith, b)))
  where
    b : count_of x (take (suc (nth x j block)) block) ≡ suc j
    b = let f : Found x j block = nth_found x j block h in omega (arith, count_hit x block (nth x j block) f.inside f.stands, f.before)

    same : (front : List ℕ) → count_of x front ≡ suc j → nth x j front ≡ nth x j block → scan_of x j (front ++ rest) ≡ scan_of x j block
    same front c p =
        let t : count_of x (take (length front) (front ++ rest)) ≡ count_of x front = ap (count_of x) (take-append_seam front rest) in
        let r : nth x j front ≡ nth x j (front ++ rest) = sym (ap (nth x j) (take-append_seam front rest)) ∙ nth_front x j (length front) (front ++ rest) (omega arith) in
        let q : nth x j (front ++ rest) ≡ nth x j block = sym r ∙ p in
        scan_found x j (front ++ rest) (omega (arith, count_append x front rest)) ∙ ap (λ (n : ℕ). record { stands = Some n; read = suc n }) q ∙ sym (scan_found x j block h)

pub scans_exact : ScansExact
scans_exact x j block = record {
  found = λ h. let f : Found x j block = nth_found x j block h in (nth x j block, f.inside, f.stands, f.before, scan_found x j block h);
  none = scan_none x j block;
  enough = λ rest h. ap (λ (r : Scanned). scan_of x j (take r.read block ++ rest)) (scan_found x j block h) ∙ scan_enough x j block rest h;
}

-- samples: the third, the second, one at the last byte, one too many, an empty block
samples : (scan_of 7 2 (7 ∷ 1 ∷ 7 ∷ 7 ∷ 7 ∷ []) ≡ record { stands = Some 3; read = 4 })
    × (scan_of 7 1 (7 ∷ 1 ∷ 7 ∷ 7 ∷ 7 ∷ []) ≡ record { stands = Some 2; read = 3 })
    × (scan_of 7 3 (7 ∷ 1 ∷ 7 ∷ 7 ∷ 7 ∷ []) ≡ record { stands = Some 4; read = 5 })
    × (scan_of 7 4 (7 ∷ 1 ∷ 7 ∷ 7 ∷ 7 ∷ []) ≡ record { stands = None; read = 5 })
    × (scan_of 7 0 [] ≡ record { stands = None; read = 0 })
unfolding scan_of
samples = (refl, refl, refl, refl, refl)
