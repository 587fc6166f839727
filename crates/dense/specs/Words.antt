-- Codewords as the functions of this crate hand them on, and bytes of a stream that continue.
use Rattle.std.specs.Prelude.{ℕ, zero, suc, Bool, true, false, cond, List, [], ◌∷◌, take}
use Rattle.dense.specs.declared.Codeword.{Codeword}
use Rattle.dense.specs.Code.{closes}

-- the bytes of a codeword
abbrev pub codeword_bytes : Codeword → List ℕ
codeword_bytes w = take w.length (w.first ∷ w.second ∷ w.third ∷ [])

-- whether the first n bytes are there and continue
abbrev pub begins_open : ℕ → ℕ → List ℕ → Bool
begins_open s zero bs = true
begins_open s (suc n) [] = false
begins_open s (suc n) (b ∷ bs) = cond (closes s b) false (begins_open s n bs)

-- whether three bytes in a row continue
abbrev pub three_open : ℕ → List ℕ → Bool
three_open s [] = false
three_open s (b ∷ bs) = cond (begins_open s 3 (b ∷ bs)) true (three_open s bs)
