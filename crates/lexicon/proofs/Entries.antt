-- The entries of a table one by one: each is 0 or kept, and some is not 0. Assumes nothing.
use Prim.Native.Nat.{ℕ, ◌+◌, ◌≤◌, ◌<◌}
use mathlib.Core.Path.{◌≡◌, refl, sym, ap, ◌∙◌}
use mathlib.Core.Bool.{Bool, true, false, not, ◌&&◌, ◌||◌, false≢true}
use mathlib.Core.Logic.{◌⊎◌, inl, inr}
use mathlib.Core.List.{List}
use native.Mathlib.Omega.{arith}
use borrow.Author.Tests.{eqb-true, eq-eqb, ne_eqb, not-true, not-false}
use lib.Dec.{eqb}
use lib.ListN.{length}
use Rattle.base.specs.Lists.{all_pass, first_where}
use Rattle.base.proofs.Lists.{all_at, all_of_at, all_of_pass, pass_of_all, first_where_inside, first_where_passes}
use Rattle.base.proofs.Tests.{same_or_not, and_true, and_never, or_left, or_right, or_neither, false_of}
use Rattle.lexicon.specs.Letters.{letter_in, keeps, is_entry, keeps_entries, has_letter}

module _ (table : List ℕ) where
  -- an entry that is 0 or kept passes, another does not
  pub zero_passes : (x : ℕ) → x ≡ 0 → is_entry table x ≡ true
  unfolding is_entry
  zero_passes x z = or_left (eqb x 0) (keeps table x) (eq-eqb x 0 z)

  pub other_passes : (x : ℕ) → (x ≡ 0 → ⊥) → is_entry table x ≡ keeps table x
  unfolding is_entry
  other_passes x n = ap (λ (t : Bool). t || keeps table x) (ne_eqb x 0 n)

  pub kept_passes : (x : ℕ) → letter_in table x ≡ x → is_entry table x ≡ true
  unfolding is_entry
  kept_passes x k = or_right (eqb x 0) (keeps table x) (eq-eqb (letter_in table x) x k)

  -- all entries pass if each does, and not if one does not
  pub entries_pass_lem : ((b : ℕ) → b < length table → is_entry table (letter_in table b) ≡ true) → keeps_entries table ≡ true
  unfolding keeps_entries
  entries_pass_lem h = pass_of_all (is_entry table) table (all_of_at (λ (x : ℕ). is_entry table x ≡ true) table 0 h)

  pub entry_passes : keeps_entries table ≡ true → (b : ℕ) → b < length table → is_entry table (letter_in table b) ≡ true
  unfolding keeps_entries
  entry_passes e b h = all_at (λ (x : ℕ). is_entry table x ≡ true) table 0 b (all_of_pass (is_entry table) table e) h

  pub entry_fails : (b : ℕ) → b < length table → is_entry table (letter_in table b) ≡ false → keeps_entries table ≡ false
  entry_fails b h e = false_of (keeps_entries table) (λ t. false≢true (sym e ∙ entry_passes t b h))

  -- some entry is not 0 if one is not, and none if each is
  pub no_letter : ((b : ℕ) → b < length table → letter_in table b ≡ 0) → has_letter table ≡ false
  unfolding has_letter
  no_letter h = ap not (pass_of_all (λ (x : ℕ). eqb x 0) table (all_of_at (λ (x : ℕ). eqb x 0 ≡ true) table 0 (λ b l. eq-eqb (letter_in table b) 0 (h b l))))

  pub a_letter : (b : ℕ) → b < length table → (letter_in table b ≡ 0 → ⊥) → has_letter table ≡ true
  unfolding has_letter
  a_letter b h n =
      ap not (false_of (all_pass (λ (x : ℕ). eqb x 0) table) (λ t. false≢true (sym (ne_eqb (letter_in table b) 0 n) ∙ all_at (λ (x : ℕ). eqb x 0 ≡ true) table 0 b (all_of_pass (λ (x : ℕ). eqb x 0) table t) h)))

  -- a letter, where there is one
  pub some_letter : has_letter table ≡ true → (b : ℕ) × (b < length table) × (letter_in table b ≡ 0 → ⊥)
  unfolding has_letter
  some_letter e =
      let at = first_where (λ (x : ℕ). not (eqb x 0)) table in
      let inside = first_where_inside (λ (x : ℕ). not (eqb x 0)) (λ (x : ℕ). eqb x 0) (λ x. refl) table (not-true (all_pass (λ (x : ℕ). eqb x 0) table) e) in
      let other = not-true (eqb (letter_in table at) 0) (first_where_passes (λ (x : ℕ). not (eqb x 0)) table 0 inside) in
      (at, inside, λ z. false≢true (sym other ∙ eq-eqb (letter_in table at) 0 z))

  -- ---- one pass over the entries

  -- the entries below i are passed over, and it is noted whether one of them is not 0
  pub record Seen (i : ℕ) (some : Bool) : Type 0 where
    pub kept : (b : ℕ) → b < i → is_entry table (letter_in table b) ≡ true
    pub noted : some ≡ true → has_letter table ≡ true
    pub none : some ≡ false → (b : ℕ) → b < i → letter_in table b ≡ 0

  pub seen_first : Seen 0 false
  seen_first = record { kept = λ b h. absurd (omega (arith, h)); noted = λ e. absurd (false≢true e); none = λ e b h. absurd (omega (arith, h)) }

  pub seen_next : (i : ℕ) (some : Bool) → i < length table → Seen i some → is_entry table (letter_in table i) ≡ true → Seen (i + 1) (some || not (eqb (letter_in table i) 0))
  seen_next i some h s e = record { kept = λ b l. go b (same_or_not b i) l; noted = letter some s.noted (same_or_not (letter_in table i) 0); none = λ n b l. zero b (same_or_not b i) l n }
    where
      go : (b : ℕ) → (b ≡ i) ⊎ (b ≡ i → ⊥) → b < i + 1 → is_entry table (letter_in table b) ≡ true
      go b (inl q) l = ap (λ (x : ℕ). is_entry table (letter_in table x)) q ∙ e
      go b (inr n) l = s.kept b (omega (arith, n, l))

      letter : (t : Bool) → (t ≡ true → has_letter table ≡ true) → (letter_in table i ≡ 0) ⊎ (letter_in table i ≡ 0 → ⊥) → t || not (eqb (letter_in table i) 0) ≡ true → has_letter table ≡ true
      letter true f d q = f refl
      letter false f (inl z) q = absurd (false≢true (sym (ap not (eq-eqb (letter_in table i) 0 z)) ∙ q))
      letter false f (inr n) q = a_letter i h n

      zero : (b : ℕ) → (b ≡ i) ⊎ (b ≡ i → ⊥) → b < i + 1 → some || not (eqb (letter_in table i) 0) ≡ false → letter_in table b ≡ 0
      zero b (inl q) l n = ap (letter_in table) q ∙ eqb-true (letter_in table i) 0 (not-false (eqb (letter_in table i) 0) (or_neither some (not (eqb (letter_in table i) 0)) n).1)
      zero b (inr d) l n = s.none (or_neither some (not (eqb (letter_in table i) 0)) n).0 b (omega (arith, d, l))

  pub seen_all : (i : ℕ) (some : Bool) → length table ≤ i → Seen i some → some ≡ keeps_entries table && has_letter table
  seen_all i true h s = sym (and_true (keeps_entries table) (has_letter table) (entries_pass_lem (λ b l. s.kept b (omega (arith, l, h)))) (s.noted refl))
  seen_all i false h s = sym (ap (λ (t : Bool). keeps_entries table && t) (no_letter (λ b l. s.none refl b (omega (arith, l, h)))) ∙ and_never (keeps_entries table))

  pub seen_broken : (i : ℕ) → i < length table → is_entry table (letter_in table i) ≡ false → keeps_entries table && has_letter table ≡ false
  seen_broken i h e = ap (λ (t : Bool). t && has_letter table) (entry_fails i h e)
