-- Laws of what is written of each element of a list, one after another, and of the two digits of bytes. Assumes nothing.
use Prim.Native.Nat.{ℕ, suc, ◌+◌, ◌*◌, ◌/◌, ◌%◌, ◌≤◌, ◌<◌}
use mathlib.Core.Path.{◌≡◌, refl, ap, ◌∙◌}
use mathlib.Core.List.{List, [], ◌∷◌, ◌++◌, map, map-append, flatten, append-nil}
use native.Mathlib.Omega.{arith}
use native.Mathlib.Numerals.{add-one}
use lib.ListN.{length, take, get_or, set, length-append}
use lib.Seq.{take-suc, length-take-le}
use Rattle.base.proofs.Segments.{flatten_append}
use Rattle.base.proofs.Fronts.{written_sets}
use Rattle.formatting.specs.Characters.{digit_of, byte_text, bytes_text}
use Rattle.formatting.specs.Writing.{Wrote}
use Rattle.formatting.proofs.Wrote.{room_second, wrote_both}

-- one list more, laid behind others
pub flatten_one : (xs : List (List ℕ)) (x : List ℕ) → flatten (xs ++ (x ∷ [])) ≡ flatten xs ++ x
unfolding flatten
flatten_one xs x = flatten_append xs (x ∷ []) ∙ ap (λ (r : List ℕ). flatten xs ++ r) (append-nil x)

-- no bytes, and one byte more
pub bytes_none : bytes_text [] ≡ []
unfolding bytes_text flatten
bytes_none = refl

pub bytes_next : (bytes : List ℕ) (i : ℕ) → i < length bytes → bytes_text (take (i + 1) bytes) ≡ bytes_text (take i bytes) ++ byte_text (get_or bytes i 0)
unfolding bytes_text
bytes_next bytes i h =
    let e : take (i + 1) bytes ≡ take i bytes ++ (get_or bytes i 0 ∷ []) = rw add-one (take-suc bytes i 0 h) in
    ap (λ (xs : List ℕ). flatten (map byte_text xs)) e
    ∙ ap flatten (map-append byte_text (take i bytes) (get_or bytes i 0 ∷ []))
    ∙ flatten_one (map byte_text (take i bytes)) (byte_text (get_or bytes i 0))

-- each byte takes a blank and two digits
pub length_bytes_text : (bytes : List ℕ) → length (bytes_text bytes) ≡ 3 * length bytes
unfolding bytes_text flatten
length_bytes_text [] = refl
length_bytes_text (b ∷ bytes) = omega (arith, length_bytes_text bytes)

module _ (bytes : List ℕ) (at i : ℕ) (z y : List ℕ) (mid : ℕ) (room : at + 3 * length bytes ≤ length z) (first : Wrote (bytes_text (take i bytes)) at z mid y) where
  module _ (h : i < length bytes) where
    -- there is room for those before the i-th byte and for it
    bytes_room : at + length (bytes_text (take i bytes) ++ byte_text (get_or bytes i 0)) ≤ length z
    bytes_room = omega (arith, length-append (bytes_text (take i bytes)) (byte_text (get_or bytes i 0)), length_bytes_text (take i bytes), length-take-le i bytes (omega arith))

    -- so it has room behind them
    pub bytes_next_room : mid + 3 ≤ length y
    bytes_next_room = room_second first (byte_text (get_or bytes i 0)) bytes_room

    -- and is written there
    pub bytes_next_written : {next : ℕ} {x : List ℕ} → Wrote (byte_text (get_or bytes i 0)) mid y next x → Wrote (bytes_text (take (i + 1) bytes)) at z next x
    bytes_next_written second = rw (bytes_next bytes i h) (wrote_both first (byte_text (get_or bytes i 0)) bytes_room second)

-- a blank and the two digits of a byte, stored one after another
pub byte_stored : (b high low at : ℕ) (z : List ℕ) → high ≡ digit_of (b / 16) → low ≡ digit_of (b % 16) → at + 3 ≤ length z
    → Wrote (byte_text b) at z (at + 3) (set (set (set z at 32) (at + 1) high) (at + 2) low)
byte_stored b high low at z h l room =
    let two : at + 2 ≡ suc (suc at) = omega arith in
    record { after = refl; slice = rw (h, l, add-one at, two) (written_sets (byte_text b) z at room) }
