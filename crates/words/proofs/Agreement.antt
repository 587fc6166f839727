-- Kinds 1 to 3 agree, of every text and word. Assumes nothing.
use Prim.Native.Nat.{ℕ, suc, ◌-◌, ◌≤◌}
use mathlib.Core.Path.{◌≡◌, refl, ap, ◌∙◌}
use native.Mathlib.Omega.{arith}
use lib.ListN.{take}
use lib.Seq.{take-length}
use Rattle.base.specs.Lists.{count_of, nth}
use Rattle.base.proofs.Counts.{Found, nth_found, nth_here}
use Rattle.words.specs.Words.{frequency, KindsAgree}

pub kinds_agree : KindsAgree
kinds_agree t w = record {
  inside = λ j least most. (found j least most).inside;
  stands = λ j least most. (found j least most).stands;
  before = λ j least most. (found j least most).before;
  numbered = λ p h q.
      let e : suc (count_of w (take p t)) - 1 ≡ count_of w (take p t) = omega arith in
      ap (λ (m : ℕ). nth w m t) e ∙ nth_here w (count_of w (take p t)) p t h q refl;
  whole = ap (count_of w) (take-length t);
}
  where
    found : (j : ℕ) → 1 ≤ j → j ≤ frequency t w → Found w (j - 1) t
    found j least most = nth_found w (j - 1) t (omega arith)
