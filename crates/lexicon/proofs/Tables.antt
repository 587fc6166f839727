-- The letter table keeps the rules; what the rules of a table say, entry by entry; and the check of a table. Assumes nothing.
use Prim.Native.Nat.{ℕ, ◌<◌}
use mathlib.Core.Path.{◌≡◌, refl, sym, ap, ◌∙◌}
use mathlib.Core.Bool.{Bool, true, false, not, ◌&&◌, ◌||◌, false≢true}
use mathlib.Core.Logic.{◌⊎◌, inl, inr}
use mathlib.Core.List.{List}
use native.Mathlib.Omega.{arith}
use borrow.Author.Tests.{eqb-true, eq-eqb, ne_eqb}
use lib.Dec.{eqb}
use lib.ListN.{length}
use Rattle.base.specs.Answers.{accepted, refused, is_accepted}
use Rattle.base.specs.Refusals.{refusal_table}
use Rattle.base.specs.Texts.{outside}
use Rattle.base.specs.declared.Answer.{Answer}
use Rattle.base.proofs.Answers.{first_here, first_later, first_none}
use Rattle.base.proofs.Tests.{and_left, and_right, and_true, false_of}
use Rattle.lexicon.proofs.Entries.{zero_passes, kept_passes, entries_pass_lem, entry_passes, a_letter, some_letter}
use Rattle.lexicon.specs.Letters.{within, letter_of, letters, letter_in, keeps, line_feed, is_entry, keeps_entries, has_letter, is_table, LettersRule}
use Rattle.lexicon.specs.Tables.{table_case, with_table, table_answer, TableRules}

-- the letter table keeps the rules, by one computed test
pub letters_rule : LettersRule
unfolding within outside letter_of letters is_entry keeps_entries has_letter is_table
letters_rule = refl

module _ (table : List ℕ) where
  -- ---- the four rules

  -- the rules hold, one with the other
  pub is_table_lem : length table ≡ 256 → letter_in table line_feed ≡ 0 → is_table table ≡ keeps_entries table && has_letter table
  unfolding is_table
  is_table_lem s c = rw (eq-eqb (length table) 256 s, eq-eqb (letter_in table line_feed) 0 c) (go (keeps_entries table))
    where
      go : (k : Bool) → k && true && has_letter table ≡ k && has_letter table
      go true = refl
      go false = refl

  -- one that does not hold is enough
  pub other_size : (length table ≡ 256 → ⊥) → is_table table ≡ false
  unfolding is_table
  other_size n = rw (ne_eqb (length table) 256 n)

  pub line_feed_kept : (letter_in table line_feed ≡ 0 → ⊥) → is_table table ≡ false
  unfolding is_table
  line_feed_kept n = rw (ne_eqb (letter_in table line_feed) 0 n) (go (eqb (length table) 256 && keeps_entries table))
    where
      go : (k : Bool) → k && false && has_letter table ≡ false
      go true = refl
      go false = refl

  module _ (e : is_table table ≡ true) where
    three : eqb (length table) 256 && keeps_entries table && eqb (letter_in table line_feed) 0 ≡ true
    unfolding is_table
    three = and_left (eqb (length table) 256 && keeps_entries table && eqb (letter_in table line_feed) 0) (has_letter table) e

    two : eqb (length table) 256 && keeps_entries table ≡ true
    two = and_left (eqb (length table) 256 && keeps_entries table) (eqb (letter_in table line_feed) 0) three

    -- a table has 256 entries
    pub table_sized : length table ≡ 256
    table_sized = eqb-true (length table) 256 (and_left (eqb (length table) 256) (keeps_entries table) two)

    -- the closing byte of a list is a separator
    pub table_closing : letter_in table line_feed ≡ 0
    table_closing = eqb-true (letter_in table line_feed) 0 (and_right (eqb (length table) 256 && keeps_entries table) (eqb (letter_in table line_feed) 0) three)

    -- each entry is 0 or a byte that the table keeps
    pub table_entry : (x : ℕ) → x < length table → (letter_in table x ≡ 0) ⊎ (letter_in table (letter_in table x) ≡ letter_in table x)
    unfolding is_entry
    table_entry x h = go (eqb (letter_in table x) 0) refl (entry_passes table (and_right (eqb (length table) 256) (keeps_entries table) two) x h)
      where
        go : (t : Bool) → eqb (letter_in table x) 0 ≡ t → is_entry table (letter_in table x) ≡ true → (letter_in table x ≡ 0) ⊎ (letter_in table (letter_in table x) ≡ letter_in table x)
        go true q r = inl (eqb-true (letter_in table x) 0 q)
        go false q r = inr (eqb-true (letter_in table (letter_in table x)) (letter_in table x) (ap (λ (s : Bool). s || keeps table (letter_in table x)) (sym q) ∙ r))

    -- the four rules, entry by entry
    pub rules_of : TableRules table
    unfolding is_table
    rules_of =
        let some = some_letter table (and_right (eqb (length table) 256 && keeps_entries table && eqb (letter_in table line_feed) 0) (has_letter table) e) in
        record {
          sized = table_sized;
          kept = λ b h. table_entry b (omega (arith, h, table_sized));
          closing = table_closing;
          some = (some.0, omega (arith, some.1, table_sized), some.2);
        }

  pub of_rules : TableRules table → is_table table ≡ true
  of_rules r =
      is_table_lem r.sized r.closing
      ∙ and_true (keeps_entries table) (has_letter table) (entries_pass_lem table (λ b h. go b (r.kept b (omega (arith, h, r.sized)))))
      (a_letter table r.some.0 (omega (arith, r.some.1, r.sized)) r.some.2)
    where
      go : (b : ℕ) → (letter_in table b ≡ 0) ⊎ (letter_in table (letter_in table b) ≡ letter_in table b) → is_entry table (letter_in table b) ≡ true
      go b (inl z) = zero_passes table (letter_in table b) z
      go b (inr k) = kept_passes table (letter_in table b) k

  -- ---- a call that is lent the table

  -- it is refused by 18 if the table breaks a rule
  pub table_broken : (answer : Answer) → is_table table ≡ false → with_table table answer ≡ refused refusal_table
  unfolding with_table table_case
  table_broken answer e = first_here _ _ _ _ (ap not e)

  -- and otherwise answered as with a table that keeps the rules
  pub table_kept : (answer : Answer) → is_table table ≡ true → with_table table answer ≡ answer
  unfolding with_table table_case
  table_kept answer e = first_later _ _ _ _ (ap not e) ∙ first_none answer

  -- a table that is accepted keeps the rules
  pub accepted_rules : table_answer table ≡ accepted 0 → TableRules table
  unfolding table_answer
  accepted_rules e = rules_of (go (is_table table) refl)
    where
      go : (b : Bool) → is_table table ≡ b → is_table table ≡ true
      go true q = q
      go false q = absurd (false≢true (ap is_accepted (sym (table_broken (accepted 0) q) ∙ e)))

  -- and one that keeps them is accepted
  pub rules_accepted : TableRules table → table_answer table ≡ accepted 0
  unfolding table_answer
  rules_accepted r = table_kept (accepted 0) (of_rules r)

  -- a table that breaks one of the rules, entry by entry, breaks them
  pub rules_broken : (TableRules table → ⊥) → is_table table ≡ false
  rules_broken n = false_of (is_table table) (λ t. n (rules_of t))
