-- A codeword as it is handed on, by its length. Assumes nothing.
use Prim.Native.Nat.{ℕ, suc, ◌+◌, ◌≤◌}
use mathlib.Core.Path.{◌≡◌, sym, ap, ◌∙◌}
use mathlib.Core.List.{List, [], ◌∷◌}
use native.Mathlib.Numerals.{add-one}
use native.Mathlib.Omega.{arith}
use lib.ListN.{length, set, length-take}
use lib.Seq.{sets}
use Rattle.base.specs.Answers.{written}
use Rattle.base.proofs.Fronts.{written_sets}
use Rattle.dense.specs.declared.Codeword.{Codeword}
use Rattle.dense.specs.Code.{code}
use Rattle.dense.specs.Laws.{code_length}
use Rattle.dense.specs.Words.{codeword_bytes}
use Rattle.dense.proofs.Codewords.{code_length_lem, code_short}

-- the bytes of a codeword, by its length
pub bytes_one : (w : Codeword) → w.length ≡ 1 → codeword_bytes w ≡ w.first ∷ []
bytes_one w e = rw e

pub bytes_two : (w : Codeword) → w.length ≡ 2 → codeword_bytes w ≡ w.first ∷ w.second ∷ []
bytes_two w e = rw e

pub bytes_three : (w : Codeword) → w.length ≡ 3 → codeword_bytes w ≡ w.first ∷ w.second ∷ w.third ∷ []
bytes_three w e = rw e

-- their number
pub bytes_length : (w : Codeword) → w.length ≤ 3 → length (codeword_bytes w) ≡ w.length
bytes_length w h = length-take w.length (w.first ∷ w.second ∷ w.third ∷ []) ∙ omega arith

-- the codeword of a rank as it is handed on: its length, and what it leaves in a stream
module _ (s rank : ℕ) (w : Codeword) (is : codeword_bytes w ≡ code s rank) (short : w.length ≤ 3) where
  pub encoded_length : w.length ≡ length (code s rank)
  encoded_length = sym (bytes_length w short) ∙ ap length is

  pub encoded_some : 1 ≤ w.length
  encoded_some = omega (arith, encoded_length, (code_short s rank).0)

  pub encoded_room : (n : ℕ) → n + code_length s rank ≡ n + w.length
  encoded_room n = omega (arith, encoded_length, code_length_lem s rank)

  module _ (z : List ℕ) (at : ℕ) (room : at + code_length s rank ≤ length z) where
    -- stored byte by byte, it is written from the position on
    stored : (bytes : List ℕ) → codeword_bytes w ≡ bytes → sets z at bytes ≡ written (code s rank) at z
    stored bytes e =
        ap (sets z at) (sym e ∙ is) ∙ written_sets (code s rank) z at (omega (arith, code_length_lem s rank))

    pub stored_one : w.length ≡ 1 → set z at w.first ≡ written (code s rank) at z
    stored_one e = stored (w.first ∷ []) (bytes_one w e)

    pub stored_two : w.length ≡ 2 → set (set z at w.first) (at + 1) w.second ≡ written (code s rank) at z
    stored_two e = rw (add-one at) (stored (w.first ∷ w.second ∷ []) (bytes_two w e))

    pub stored_three : w.length ≡ 3 → set (set (set z at w.first) (at + 1) w.second) (at + 2) w.third ≡ written (code s rank) at z
    stored_three e =
        let two : at + 2 ≡ suc (suc at) = omega arith in
        rw (add-one at, two) (stored (w.first ∷ w.second ∷ w.third ∷ []) (bytes_three w e))
