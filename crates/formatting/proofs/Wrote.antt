-- Laws of what is written into a slice, one list behind another. Assumes nothing.
use Prim.Native.Nat.{ℕ, ◌+◌, ◌≤◌, ◌<◌}
use mathlib.Core.Path.{◌≡◌, refl, sym, ap, ap₂, ◌∙◌}
use mathlib.Core.List.{List, [], ◌∷◌, ◌++◌, append-nil}
use native.Mathlib.Omega.{arith}
use native.Mathlib.Numerals.{add-one}
use lib.ListN.{length, take, drop, get_or, set, length-append, take-append-drop}
use lib.Seq.{take-suc, length-take-le}
use Rattle.base.specs.Answers.{written, front}
use Rattle.base.proofs.Fronts.{written_one, written_more, length_written}
use Rattle.formatting.specs.Writing.{Wrote}

-- nothing is written
pub wrote_none : (at : ℕ) (z : List ℕ) → Wrote [] at z at z
unfolding written
wrote_none at z =
    let e : at + 0 ≡ at = omega arith in
    record {
      after = omega arith;
      slice = sym (ap₂ (λ (p : List ℕ) (k : ℕ). p ++ drop k z) (append-nil (take at z)) e ∙ take-append-drop at z);
    }

-- one element is written
pub wrote_one : (x at : ℕ) (z : List ℕ) → at < length z → Wrote (x ∷ []) at z (at + 1) (set z at x)
wrote_one x at z h = record { after = refl; slice = written_one x z at h }

-- where two lists have room, the first has
pub room_first : (xs ys : List ℕ) (at n : ℕ) → at + length (xs ++ ys) ≤ n → at + length xs ≤ n
room_first xs ys at n h = omega (arith, length-append xs ys)

module _ {xs : List ℕ} {at : ℕ} {z : List ℕ} {mid : ℕ} {y : List ℕ} (first : Wrote xs at z mid y) where
  -- the slice stays as long as it was
  pub wrote_length : at + length xs ≤ length z → length y ≡ length z
  wrote_length room = ap length first.slice ∙ length_written xs z at room

  module _ (ys : List ℕ) (room : at + length (xs ++ ys) ≤ length z) where
    -- where two lists have room, the second has room behind the first
    pub room_second : mid + length ys ≤ length y
    room_second = omega (arith, wrote_length (room_first xs ys at (length z) room), first.after, length-append xs ys)

    -- both are written
    pub wrote_both : {next : ℕ} {x : List ℕ} → Wrote ys mid y next x → Wrote (xs ++ ys) at z next x
    wrote_both second = record {
      after = omega (arith, first.after, second.after, length-append xs ys);
      slice = second.slice ∙ ap₂ (λ (k : ℕ) (w : List ℕ). written ys k w) first.after first.slice ∙ written_more xs ys z at (room_first xs ys at (length z) room);
    }

-- what is written from the front on
pub wrote_front : {xs z : List ℕ} {n : ℕ} {y : List ℕ} → Wrote xs 0 z n y → (n ≡ length xs) × (y ≡ front xs z)
unfolding written front
wrote_front {xs} {z} w =
    let e : 0 + length xs ≡ length xs = omega arith in
    (w.after ∙ e, w.slice ∙ ap (λ (k : ℕ). xs ++ drop k z) e)

-- four lists, written one behind another
module _ (a b c d : List ℕ) (at : ℕ) (z : List ℕ) (room : at + length (a ++ b ++ c ++ d) ≤ length z) where
  room_three : at + length (a ++ b ++ c) ≤ length z
  room_three = room_first (a ++ b ++ c) d at (length z) room

  room_two : at + length (a ++ b) ≤ length z
  room_two = room_first (a ++ b) c at (length z) room_three

  pub first_of_four : at + length a ≤ length z
  first_of_four = room_first a b at (length z) room_two

  module _ {i : ℕ} {y : List ℕ} (one : Wrote a at z i y) where
    pub second_of_four : i + length b ≤ length y
    second_of_four = room_second one b room_two

    module _ {j : ℕ} {x : List ℕ} (two : Wrote b i y j x) where
      pub third_of_four : j + length c ≤ length x
      third_of_four = room_second (wrote_both one b room_two two) c room_three

      module _ {k : ℕ} {w : List ℕ} (three : Wrote c j x k w) where
        pub fourth_of_four : k + length d ≤ length w
        fourth_of_four = room_second (wrote_both (wrote_both one b room_two two) c room_three three) d room

        pub wrote_four : {l : ℕ} {v : List ℕ} → Wrote d k w l v → Wrote (a ++ b ++ c ++ d) at z l v
        wrote_four four = wrote_both (wrote_both (wrote_both one b room_two two) c room_three three) d room four

-- the next element of a list is written behind those before it
pub wrote_next : (xs : List ℕ) (at i : ℕ) (z y : List ℕ) → i < length xs → at + length xs ≤ length z → Wrote (take i xs) at z (at + i) y
    → Wrote (take (i + 1) xs) at z (at + (i + 1)) (set y (at + i) (get_or xs i 0))
wrote_next xs at i z y h room w =
    let n : length (take i xs) ≡ i = length-take-le i xs (omega arith) in
    let e : take (i + 1) xs ≡ take i xs ++ (get_or xs i 0 ∷ []) = rw add-one (take-suc xs i 0 h) in
    let k : at + (i + 1) ≡ at + i + 1 = omega arith in
    let r : at + length (take i xs ++ (get_or xs i 0 ∷ [])) ≤ length z = omega (arith, length-append (take i xs) (get_or xs i 0 ∷ [])) in
    rw (e, k) (wrote_both w (get_or xs i 0 ∷ []) r (wrote_one (get_or xs i 0) (at + i) y (omega (arith, room_second w (get_or xs i 0 ∷ []) r))))
