-- Laws of the code: codewords are well formed, and the rank and its codeword give each other back. Assumes nothing.
use Prim.Native.Nat.{ℕ, ◌+◌, ◌-◌, ◌*◌, ◌/◌, ◌%◌, ◌≤◌, ◌<◌}
use mathlib.Core.Path.{◌≡◌, refl, ap, ◌∙◌}
use mathlib.Core.Bool.{Bool, true, false, cond}
use mathlib.Core.Logic.{◌⊎◌, inl, inr}
use mathlib.Core.List.{List, [], ◌∷◌}
use native.Mathlib.Nat.{mod-lt, div-add-mod}
use native.Mathlib.Omega.{arith}
use lib.Dec.{ltb}
use lib.ListN.{length}
use Rattle.base.proofs.Tests.{below_or_not, cond_below, cond_not_below}
use Rattle.dense.specs.Code.{Closing, continuing, max_vocabulary, first_of_two, first_of_three, two, three, code, rank_of, Word, closing, continued}
use Rattle.dense.specs.Laws.{code_length}
use Rattle.dense.proofs.Numbers.{div_below, digit_div, digit_mod, digits_below, first_part_below, second_part_below, third_part, third_part_below}

-- the codeword of a rank, by its length
pub code_one : (s i : ℕ) → i < s → code s i ≡ (continuing s + i) ∷ []
unfolding code
code_one s i h = cond_below _ _ i s h

pub code_two : (s x : ℕ) → x < s * continuing s → code s (s + x) ≡ two s x
unfolding code
code_two s x h =
    cond_not_below _ _ (s + x) s (omega arith) ∙ cond_below _ _ (s + x) (s + s * continuing s) (omega arith) ∙ ap (two s) (omega arith)

pub code_three : (s x : ℕ) → code s (s + s * continuing s + x) ≡ three s x
unfolding code
code_three s x =
    cond_not_below _ _ (s + s * continuing s + x) s (omega arith)
    ∙ cond_not_below _ _ (s + s * continuing s + x) (s + s * continuing s) (omega arith)
    ∙ ap (three s) (omega arith)

-- a rank that has a codeword, by the length of that codeword
pub data Form (s i : ℕ) : Type 0 where
  one : i < s → Form s i
  second : (x : ℕ) → x < s * continuing s → i ≡ s + x → Form s i
  third : (x : ℕ) → x < s * (continuing s * continuing s) → i ≡ s + s * continuing s + x → Form s i

pub form : (s i : ℕ) → i < max_vocabulary s → Form s i
form s i h = go (below_or_not i s) (below_or_not i (s + s * continuing s))
  where
    go : (i < s) ⊎ (s ≤ i) → (i < s + s * continuing s) ⊎ (s + s * continuing s ≤ i) → Form s i
    go (inl l) q = one l
    go (inr g) (inl l) = second (i - s) (omega arith) (omega arith)
    go (inr g) (inr m) = third (i - (s + s * continuing s)) (third_part s (continuing s) i h m) (omega arith)

-- how many bytes a codeword has
pub code_length_lem : (s i : ℕ) → length (code s i) ≡ code_length s i
unfolding code
code_length_lem s i = go (ltb i (first_of_two s)) (ltb i (first_of_three s))
  where
    go : (p q : Bool) → length (cond p ((continuing s + i) ∷ []) (cond q (two s (i - first_of_two s)) (three s (i - first_of_three s)))) ≡ cond p 1 (cond q 2 3)
    go true q = refl
    go false true = refl
    go false false = refl

-- at least one and at most three
pub code_length_most : (s i : ℕ) → (1 ≤ code_length s i) × (code_length s i ≤ 3)
code_length_most s i = go (ltb i (first_of_two s)) (ltb i (first_of_three s))
  where
    go : (p q : Bool) → (1 ≤ cond p 1 (cond q 2 3)) × (cond p 1 (cond q 2 3) ≤ 3)
    go true q = omega arith
    go false true = omega arith
    go false false = omega arith

pub code_short : (s i : ℕ) → (1 ≤ length (code s i)) × (length (code s i) ≤ 3)
code_short s i = rw (code_length_lem s i) (code_length_most s i)

module _ (s : ℕ) (within : Closing s) where
  -- there is a closing value and a continuing one
  pub some_closing : 0 < s
  some_closing = within.least

  pub some_continuing : 0 < continuing s
  some_continuing = omega (arith, within.most)

  -- the closing byte of a remainder is a byte
  pub closing_byte_lem : (x : ℕ) → continuing s + x % s < 256
  closing_byte_lem x = omega (arith, mod-lt x some_closing, within.most)

  -- every codeword is continuing bytes and then one closing byte
  pub code_word : (i : ℕ) → i < max_vocabulary s → Word s (code s i)
  code_word i h = go (form s i h)
    where
      go : Form s i → Word s (code s i)
      go (one l) = rw (code_one s i l) (closing (continuing s + i) (omega arith) (omega (arith, within.most)))
      go (second x l q) =
          rw (q, code_two s x l) (continued (x / s) (div_below s (continuing s) x some_closing l) (closing (continuing s + x % s) (omega arith) (closing_byte_lem x)))
      go (third x l q) =
          let y : x / s < continuing s * continuing s = div_below s (continuing s * continuing s) x some_closing l in
          rw (q, code_three s x)
          (continued (x / s / continuing s) (div_below (continuing s) (continuing s) (x / s) some_continuing y)
          (continued (x / s % continuing s) (mod-lt (x / s) some_continuing) (closing (continuing s + x % s) (omega arith) (closing_byte_lem x))))

  -- reading the codeword of a rank gives the rank
  pub rank_of_code : (i : ℕ) → i < max_vocabulary s → rank_of s (code s i) ≡ i
  rank_of_code i h = go (form s i h)
    where
      last : (x : ℕ) → continuing s + x % s - continuing s ≡ x % s
      last x = omega arith

      go : Form s i → rank_of s (code s i) ≡ i
      go (one l) = rw (code_one s i l) (omega arith)
      go (second x l q) = rw (q, code_two s x l) (ap (λ (r : ℕ). s + (s * (x / s) + r)) (last x) ∙ ap (λ (r : ℕ). s + r) (div-add-mod x s))
      go (third x l q) =
          rw (q, code_three s x)
          (ap (λ (r : ℕ). s + s * continuing s + (s * (continuing s * (x / s / continuing s) + x / s % continuing s) + r)) (last x)
          ∙ ap (λ (r : ℕ). s + s * continuing s + (s * r + x % s)) (div-add-mod (x / s) (continuing s))
          ∙ ap (λ (r : ℕ). s + s * continuing s + r) (div-add-mod x s))

  -- a well formed codeword of at most three bytes is the codeword of the rank that it names
  pub code_of_rank : (w : List ℕ) → Word s w → length w ≤ 3 → (rank_of s w < max_vocabulary s) × (code s (rank_of s w) ≡ w)
  code_of_rank w (closing b h l) n =
      let r : b - continuing s < s = omega (arith, within.most) in
      (first_part_below s (continuing s) (b - continuing s) r, code_one s (b - continuing s) r ∙ ap (λ (r : ℕ). r ∷ []) (omega arith))
  code_of_rank w (continued a ha (closing b h l)) n =
      let r : b - continuing s < s = omega (arith, within.most) in
      let d : s * a + (b - continuing s) < s * continuing s = digits_below s (continuing s) a (b - continuing s) r ha in (
        second_part_below s (continuing s) (s * a + (b - continuing s)) d,
        code_two s (s * a + (b - continuing s)) d
            ∙ rw (digit_div s a (b - continuing s) r, digit_mod s a (b - continuing s) r) (ap (λ (r : ℕ). a ∷ r ∷ []) (omega arith)),
      )
  code_of_rank w (continued a ha (continued a' ha' (closing b h l))) n =
      let r : b - continuing s < s = omega (arith, within.most) in
      let u : continuing s * a + a' < continuing s * continuing s = digits_below (continuing s) (continuing s) a a' ha' ha in
      let d : s * (continuing s * a + a') + (b - continuing s) < s * (continuing s * continuing s) = digits_below s (continuing s * continuing s) (continuing s * a + a') (b - continuing s) r u in (
        third_part_below s (continuing s) (s * (continuing s * a + a') + (b - continuing s)) d,
        code_three s (s * (continuing s * a + a') + (b - continuing s))
            ∙ rw (digit_div s (continuing s * a + a') (b - continuing s) r, digit_mod s (continuing s * a + a') (b - continuing s) r, digit_div (continuing s) a a' ha', digit_mod (continuing s) a a' ha')
            (ap (λ (r : ℕ). a ∷ a' ∷ r ∷ []) (omega arith)),
      )
  code_of_rank w (continued a ha (continued a' ha' (continued a'' ha'' (closing b h l)))) n = absurd (omega arith)
  code_of_rank w (continued a ha (continued a' ha' (continued a'' ha'' (continued b h u)))) n = absurd (omega arith)
