-- Laws of a word that is written letter by letter. Assumes nothing.
use Prim.Native.Nat.{ℕ, suc, ◌+◌, ◌≤◌, ◌<◌}
use mathlib.Core.Path.{◌≡◌, sym, ap, ◌∙◌}
use mathlib.Core.List.{List, [], ◌∷◌, ◌++◌, append-nil}
use native.Mathlib.Omega.{arith}
use native.Mathlib.Numerals.{add-one}
use lib.ListN.{length, get_or, take, drop, set, length-drop, take-append-drop}
use lib.Seq.{take-suc, length-take-le, get_or-drop, drop-drop}
use Rattle.base.proofs.Fronts.{written_one, written_more, length_written}
use Rattle.base.specs.Answers.{written}
use Rattle.scanning.proofs.Scans.{run_at_more, run_at_none}
use Rattle.scanning.specs.Scans.{letter_at, run_at}

-- nothing written
pub written_none : (z : List ℕ) (at : ℕ) → written [] at z ≡ z
unfolding written
written_none z at =
    let e : at + 0 ≡ at = omega arith in
    ap (λ (xs : List ℕ). xs ++ drop (at + 0) z) (append-nil (take at z)) ∙ ap (λ (k : ℕ). take at z ++ drop k z) e ∙ take-append-drop at z

-- an element written behind the elements before it
pub written_next : (xs z : List ℕ) (at i : ℕ) → i < length xs → at + length xs ≤ length z
    → set (written (take i xs) at z) (at + i) (get_or xs i 0) ≡ written (take (i + 1) xs) at z
written_next xs z at i h room =
    let l : length (take i xs) ≡ i = length-take-le i xs (omega arith) in
    let m : length (written (take i xs) at z) ≡ length z = length_written (take i xs) z at (omega arith) in
    written_one (get_or xs i 0) (written (take i xs) at z) (at + i) (omega arith)
    ∙ ap (λ (n : ℕ). written (get_or xs i 0 ∷ []) (at + n) (written (take i xs) at z)) (sym l)
    ∙ written_more (take i xs) (get_or xs i 0 ∷ []) z at (omega arith)
    ∙ ap (λ (ys : List ℕ). written ys at z) (sym (take-suc xs i 0 h) ∙ ap (λ (n : ℕ). take n xs) (sym (add-one i)))

-- an element written behind a whole list
pub written_last : (xs z : List ℕ) (at x : ℕ) → at + suc (length xs) ≤ length z → set (written xs at z) (at + length xs) x ≡ written (xs ++ (x ∷ [])) at z
written_last xs z at x room =
    written_one x (written xs at z) (at + length xs) (omega (arith, length_written xs z at (omega arith)))
    ∙ written_more xs (x ∷ []) z at (omega arith)

-- a letter of the word that begins at a position: it stands there, and what is left of the word begins at the next position
pub record Lettered (table text : List ℕ) (start i : ℕ) : Type 0 where
  pub inside : i < length (run_at table text start)
  pub letter : get_or (run_at table text start) i 0 ≡ letter_at table text (start + i)
  pub rest : drop (i + 1) (run_at table text start) ≡ run_at table text (start + (i + 1))

module _ (table text : List ℕ) (start i : ℕ) (left : drop i (run_at table text start) ≡ run_at table text (start + i)) where
  -- a letter that is no separator belongs to the word
  pub lettered : (letter_at table text (start + i) ≡ 0 → ⊥) → Lettered table text start i
  lettered n =
      let e : drop i (run_at table text start) ≡ letter_at table text (start + i) ∷ run_at table text (start + i + 1) = left ∙ run_at_more table text (start + i) n in
      let z : i + 0 ≡ i = omega arith in
      let m : start + i + 1 ≡ start + (i + 1) = omega arith in
      record {
        inside = omega (arith, ap length e, length-drop i (run_at table text start));
        letter = ap (λ (k : ℕ). get_or (run_at table text start) k 0) (sym z) ∙ sym (get_or-drop i (run_at table text start) 0 0) ∙ ap (λ (xs : List ℕ). get_or xs 0 0) e;
        rest = sym (drop-drop 1 i (run_at table text start)) ∙ ap (drop 1) e ∙ ap (run_at table text) m;
      }

  -- the end of the word
  pub word_ended : i ≤ length (run_at table text start) → letter_at table text (start + i) ≡ 0 → i ≡ length (run_at table text start)
  word_ended h e = omega (arith, ap length (left ∙ run_at_none table text (start + i) e), length-drop i (run_at table text start))
