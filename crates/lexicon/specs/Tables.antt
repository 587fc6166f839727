-- A letter table that is lent: the answer of its check, its rules entry by entry, and the ranges of the letter table.
use Rattle.std.specs.Prelude.{ℕ, ◌≤◌, ◌<◌, ◌+◌, ◌≡◌, not, ◌↔◌, ◌⊎◌, List, [], ◌∷◌, length}
use Rattle.base.specs.declared.Answer.{Answer}
use Rattle.base.specs.Refusals.{refusal_table}
use Rattle.base.specs.Answers.{accepted, refused, Case, ◌⇒◌, first_of}
use Rattle.lexicon.specs.Letters.{letters, letter_in, line_feed, is_table}

-- refusal 18: the table breaks a rule
unfoldable pub table_case : List ℕ → Case
table_case table = not (is_table table) ⇒ refused refusal_table

-- the answer of a call that is lent a table: refusal 18 before all others, and then what the call answers with a table that keeps the rules
unfoldable pub with_table : List ℕ → Answer → Answer
with_table table answer = first_of (table_case table ∷ []) answer

-- checking a table: 0, or refusal 18
unfoldable pub table_answer : List ℕ → Answer
table_answer table = with_table table (accepted 0)

-- a table keeps the rules, entry by entry: it has 256 entries, each is 0 or a byte that the table keeps, entry 0A is 0, some entry is not 0
pub record TableRules (table : List ℕ) : Type 0 where
  pub sized : length table ≡ 256
  pub kept : (b : ℕ) → b < 256 → (letter_in table b ≡ 0) ⊎ (letter_in table (letter_in table b) ≡ letter_in table b)
  pub closing : letter_in table line_feed ≡ 0
  pub some : (b : ℕ) × (b < 256) × (letter_in table b ≡ 0 → ⊥)

-- a table follows the ranges of paper 01: digits, small letters, DF and the small letters above it are kept, capitals gain 20, the rest are
-- separators
pub record FollowsRanges (table : List ℕ) : Type 0 where
  pub sized : length table ≡ 256
  pub digits : (b : ℕ) → 0x30 ≤ b → b ≤ 0x39 → letter_in table b ≡ b
  pub small : (b : ℕ) → 0x61 ≤ b → b ≤ 0x7A → letter_in table b ≡ b
  pub capitals : (b : ℕ) → 0x41 ≤ b → b ≤ 0x5A → letter_in table b ≡ b + 0x20
  pub high_capitals : (b : ℕ) → 0xC0 ≤ b → b ≤ 0xDE → (b ≡ 0xD7 → ⊥) → letter_in table b ≡ b + 0x20
  pub high_small : (b : ℕ) → 0xDF ≤ b → b ≤ 0xFF → (b ≡ 0xF7 → ⊥) → letter_in table b ≡ b
  pub rest :
      (b : ℕ) → b < 0x100 →
      (b < 0x30) ⊎ ((0x39 < b) × (b < 0x41)) ⊎ ((0x5A < b) × (b < 0x61)) ⊎ ((0x7A < b) × (b < 0xC0)) ⊎ (b ≡ 0xD7) ⊎ (b ≡ 0xF7) →
      letter_in table b ≡ 0

-- Statement: the check of a table accepts it exactly if it keeps the rules, and otherwise refuses it by 18; the letter table is accepted, and
-- follows its ranges, and no other table does.
pub record TablesChecked : Type 0 where
  pub checked : (table : List ℕ) → (table_answer table ≡ accepted 0) ↔ TableRules table
  pub broken : (table : List ℕ) → (TableRules table → ⊥) → table_answer table ≡ refused refusal_table
  pub letters_pass : table_answer letters ≡ accepted 0
  pub letters_follow : FollowsRanges letters
  pub letters_only : (table : List ℕ) → FollowsRanges table → table ≡ letters
