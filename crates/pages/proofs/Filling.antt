-- A slice that a loop fills from the front with the hits that it meets. Assumes nothing.
use Prim.Native.Nat.{ℕ, ◌+◌, ◌≤◌, ◌<◌}
use mathlib.Core.Path.{◌≡◌, refl, sym, ap, ◌∙◌}
use mathlib.Core.List.{List, [], ◌∷◌, ◌++◌}
use native.Mathlib.Omega.{arith}
use lib.ListN.{length, set, length-append}
use Rattle.base.specs.Answers.{front}
use Rattle.base.proofs.Fronts.{written_one, front_none, front_more, length_front}
use Rattle.pages.specs.Hits.{last_or}
use Rattle.pages.proofs.Hits.{last_append}

-- a slice that was `entry` has the hits `found` in front: `value` elements, the last of them `last`
pub record Filled (entry found slice : List ℕ) (value last : ℕ) : Type 0 where
  pub value_is : value ≡ length found
  pub fits : value ≤ length entry
  pub slice_is : slice ≡ front found entry
  pub last_is : last ≡ last_or 0 found

-- nothing written
pub filled_none : (entry : List ℕ) → Filled entry [] entry 0 0
filled_none entry = record { value_is = refl; fits = omega arith; slice_is = sym (front_none entry); last_is = refl }

-- the slice keeps its length
pub filled_length : (entry found slice : List ℕ) (value last : ℕ) → Filled entry found slice value last → length slice ≡ length entry
filled_length entry found slice value last f = ap length f.slice_is ∙ length_front found entry (omega (arith, f.value_is, f.fits))

-- one hit more
pub filled_more : (entry found slice : List ℕ) (value last q : ℕ) → Filled entry found slice value last → value < length entry
    → Filled entry (found ++ q ∷ []) (set slice value q) (value + 1) q
filled_more entry found slice value last q f h = record {
  value_is = omega (arith, f.value_is, length-append found (q ∷ []));
  fits = omega arith;
  slice_is =
      rw (f.slice_is, f.value_is)
      (written_one q (front found entry) (length found) (omega (arith, f.value_is, length_front found entry (omega (arith, f.value_is, f.fits)))) ∙ front_more found (q ∷ []) entry);
  last_is = sym (last_append 0 found q);
}
