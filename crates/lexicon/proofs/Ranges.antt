-- The letter table follows its ranges, and no other does; the check of tables. Assumes nothing.
use Prim.Native.Nat.{ℕ, ◌+◌, ◌≤◌, ◌<◌}
use mathlib.Core.Path.{◌≡◌, refl, sym, ap, ◌∙◌}
use mathlib.Core.Bool.{true, ◌||◌}
use mathlib.Core.Logic.{◌⊎◌, inl, inr}
use mathlib.Core.List.{List}
use native.Mathlib.Omega.{arith}
use borrow.Author.Tests.{eqb-true, ne_eqb}
use lib.Dec.{eqb}
use lib.Seq.{ext_get_or}
use Rattle.base.specs.Answers.{accepted}
use Rattle.base.specs.Lists.{all_pass, range_from}
use Rattle.base.specs.Texts.{outside}
use Rattle.base.proofs.Ranges.{range_pass}
use Rattle.base.proofs.Tests.{same_or_not, below_or_not, inside_range}
use Rattle.lexicon.specs.Letters.{within, letter_of, letters, letter_in}
use Rattle.lexicon.specs.Tables.{table_answer, FollowsRanges, TablesChecked}
use Rattle.lexicon.proofs.Tables.{letters_rule, table_broken, table_kept, accepted_rules, rules_accepted, rules_broken}

-- a byte from low to high other than one has its value in the letter table, if all such bytes have, by one computed test
by_range : (low high but : ℕ) (value : ℕ → ℕ) → all_pass (λ (b : ℕ). outside low high b || eqb b but || eqb (letter_in letters b) (value b)) (range_from 0 256) ≡ true
    → (b : ℕ) → b < 256 → low ≤ b → b ≤ high → (b ≡ but → ⊥) → letter_in letters b ≡ value b
by_range low high but value all b h l m n =
    eqb-true (letter_in letters b) (value b)
    (sym (rw (inside_range low high b l m, ne_eqb b but n)) ∙ range_pass (λ (b : ℕ). outside low high b || eqb b but || eqb (letter_in letters b) (value b)) 256 all b h)

letters_follow_lem : FollowsRanges letters
unfolding within outside letter_of letters
letters_follow_lem = record {
  sized = refl;
  digits = λ b l h. by_range 0x30 0x39 256 (λ x. x) refl b (omega (arith, h)) (omega (arith, l)) (omega (arith, h)) (λ e. omega (arith, h, e));
  small = λ b l h. by_range 0x61 0x7A 256 (λ x. x) refl b (omega (arith, h)) (omega (arith, l)) (omega (arith, h)) (λ e. omega (arith, h, e));
  capitals = λ b l h. by_range 0x41 0x5A 256 (λ x. x + 0x20) refl b (omega (arith, h)) (omega (arith, l)) (omega (arith, h)) (λ e. omega (arith, h, e));
  high_capitals = λ b l h n. by_range 0xC0 0xDE 0xD7 (λ x. x + 0x20) refl b (omega (arith, h)) (omega (arith, l)) (omega (arith, h)) (λ e. omega (arith, n, e));
  high_small = λ b l h n. by_range 0xDF 0xFF 0xF7 (λ x. x) refl b (omega (arith, h)) (omega (arith, l)) (omega (arith, h)) (λ e. omega (arith, n, e));
  rest = separators;
}
  where
    separators : (b : ℕ) → b < 0x100
        → (b < 0x30) ⊎ ((0x39 < b) × (b < 0x41)) ⊎ ((0x5A < b) × (b < 0x61)) ⊎ ((0x7A < b) × (b < 0xC0)) ⊎ (b ≡ 0xD7) ⊎ (b ≡ 0xF7)
        → letter_in letters b ≡ 0
    separators b h (inl l) = by_range 0 0x2F 256 (λ x. 0) refl b h (omega arith) (omega (arith, l)) (λ e. omega (arith, l, e))
    separators b h (inr (inl l)) = by_range 0x3A 0x40 256 (λ x. 0) refl b h (omega (arith, l.0)) (omega (arith, l.1)) (λ e. omega (arith, l.1, e))
    separators b h (inr (inr (inl l))) = by_range 0x5B 0x60 256 (λ x. 0) refl b h (omega (arith, l.0)) (omega (arith, l.1)) (λ e. omega (arith, l.1, e))
    separators b h (inr (inr (inr (inl l)))) = by_range 0x7B 0xBF 256 (λ x. 0) refl b h (omega (arith, l.0)) (omega (arith, l.1)) (λ e. omega (arith, l.1, e))
    separators b h (inr (inr (inr (inr (inl l))))) = ap (letter_in letters) l
    separators b h (inr (inr (inr (inr (inr l))))) = ap (letter_in letters) l

-- two tables that follow the ranges have the same entries: each byte is in one of them
module _ (t u : List ℕ) (f : FollowsRanges t) (g : FollowsRanges u) where
  same_entry : (b : ℕ) → b < 256 → letter_in t b ≡ letter_in u b
  same_entry b h = below-30 (below_or_not b 0x30)
    where
      from-DF : 0xDF ≤ b → (b ≡ 0xF7) ⊎ (b ≡ 0xF7 → ⊥) → letter_in t b ≡ letter_in u b
      from-DF l (inl e) = f.rest b h (inr (inr (inr (inr (inr e))))) ∙ sym (g.rest b h (inr (inr (inr (inr (inr e))))))
      from-DF l (inr n) = f.high_small b l (omega (arith, h)) n ∙ sym (g.high_small b l (omega (arith, h)) n)

      from-C0 : 0xC0 ≤ b → (b < 0xDF) ⊎ (0xDF ≤ b) → (b ≡ 0xD7) ⊎ (b ≡ 0xD7 → ⊥) → letter_in t b ≡ letter_in u b
      from-C0 l (inr m) d = from-DF m (same_or_not b 0xF7)
      from-C0 l (inl m) (inl e) = f.rest b h (inr (inr (inr (inr (inl e))))) ∙ sym (g.rest b h (inr (inr (inr (inr (inl e))))))
      from-C0 l (inl m) (inr n) = f.high_capitals b l (omega (arith, m)) n ∙ sym (g.high_capitals b l (omega (arith, m)) n)

      from-7B : 0x7A < b → (b < 0xC0) ⊎ (0xC0 ≤ b) → letter_in t b ≡ letter_in u b
      from-7B l (inl m) = f.rest b h (inr (inr (inr (inl (l, m))))) ∙ sym (g.rest b h (inr (inr (inr (inl (l, m))))))
      from-7B l (inr m) = from-C0 m (below_or_not b 0xDF) (same_or_not b 0xD7)

      from-61 : 0x61 ≤ b → (b < 0x7B) ⊎ (0x7B ≤ b) → letter_in t b ≡ letter_in u b
      from-61 l (inl m) = f.small b l (omega (arith, m)) ∙ sym (g.small b l (omega (arith, m)))
      from-61 l (inr m) = from-7B (omega (arith, m)) (below_or_not b 0xC0)

      from-5B : 0x5A < b → (b < 0x61) ⊎ (0x61 ≤ b) → letter_in t b ≡ letter_in u b
      from-5B l (inl m) = f.rest b h (inr (inr (inl (l, m)))) ∙ sym (g.rest b h (inr (inr (inl (l, m)))))
      from-5B l (inr m) = from-61 m (below_or_not b 0x7B)

      from-41 : 0x41 ≤ b → (b < 0x5B) ⊎ (0x5B ≤ b) → letter_in t b ≡ letter_in u b
      from-41 l (inl m) = f.capitals b l (omega (arith, m)) ∙ sym (g.capitals b l (omega (arith, m)))
      from-41 l (inr m) = from-5B (omega (arith, m)) (below_or_not b 0x61)

      from-3A : 0x39 < b → (b < 0x41) ⊎ (0x41 ≤ b) → letter_in t b ≡ letter_in u b
      from-3A l (inl m) = f.rest b h (inr (inl (l, m))) ∙ sym (g.rest b h (inr (inl (l, m))))
      from-3A l (inr m) = from-41 m (below_or_not b 0x5B)

      from-30 : 0x30 ≤ b → (b < 0x3A) ⊎ (0x3A ≤ b) → letter_in t b ≡ letter_in u b
      from-30 l (inl m) = f.digits b l (omega (arith, m)) ∙ sym (g.digits b l (omega (arith, m)))
      from-30 l (inr m) = from-3A (omega (arith, m)) (below_or_not b 0x41)

      below-30 : (b < 0x30) ⊎ (0x30 ≤ b) → letter_in t b ≡ letter_in u b
      below-30 (inl m) = f.rest b h (inl m) ∙ sym (g.rest b h (inl m))
      below-30 (inr m) = from-30 m (below_or_not b 0x3A)

  same_table : t ≡ u
  same_table = ext_get_or 0 t u (f.sized ∙ sym g.sized) (λ b h. same_entry b (omega (arith, h, f.sized)))

-- the theorem
pub tables_checked : TablesChecked
unfolding table_answer
tables_checked = record {
  checked = λ table. (accepted_rules table, rules_accepted table);
  broken = λ table n. table_broken table (accepted 0) (rules_broken table n);
  letters_pass = table_kept letters (accepted 0) letters_rule;
  letters_follow = letters_follow_lem;
  letters_only = λ table f. same_table table letters f letters_follow_lem;
}
