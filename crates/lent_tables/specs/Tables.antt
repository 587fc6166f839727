-- The check of a letter table and the calls that are lent one: the theorem about them.
use Rattle.std.specs.Prelude.{ℕ, ◌≡◌, true, List}
use Rattle.base.specs.Answers.{refused}
use Rattle.base.specs.Refusals.{refusal_table}
use Rattle.lexicon.specs.Letters.{letters}
use Rattle.lexicon.specs.Tables.{TableRules, TablesChecked}
use Rattle.lexicon.specs.Lexicon.{is_list}
use Rattle.lexicon.specs.Reading.{read_text_answer, read_text_exit}
use Rattle.lexicon.specs.Laws.{ReadTextExact}
use Rattle.finding.specs.Finding.{find_word_answer, FindingExact}
use Rattle.list_calls.specs.Making.{list_made, make_list_exit, make_ranks_exit}
use Rattle.made_lists.specs.Made.{MadeExact, MakingExact}
use Rattle.lent_tables.specs.Calls.{read_text_with_answer, read_text_with_exit, find_word_with_answer, list_made_with, make_list_with_exit, make_ranks_with_exit}

-- a reading that is lent a table answers and writes what reading by that table does, as paper 01 has it of the built-in one
pub record ReadsAs (table list text z : List ℕ) : Type 0 where
  pub answered : read_text_with_answer table list text z ≡ read_text_answer table list text z
  pub written : read_text_with_exit table list text z ≡ read_text_exit table list text z

-- a list that is made with a lent table is returned and written as making it by that table does
pub record MakesAs (table text y z : List ℕ) : Type 0 where
  pub returned : list_made_with table text y z ≡ list_made table text y z
  pub list : make_list_with_exit table text y z ≡ make_list_exit table text y z
  pub ranks : make_ranks_with_exit table text y z ≡ make_ranks_exit table text y z

-- Statement: of every table, what its check says, and what the calls that are lent it return and write.
pub record TablesExact : Type 0 where
  -- the check accepts a table exactly if it keeps the rules, and otherwise refuses it by 18; the letter table is accepted, and follows its ranges,
  -- and no other table does
  pub checks : TablesChecked
  -- with a table that breaks a rule, a reading is refused by 18 whatever else it brings, and leaves its slice
  pub reads_refused :
      (table list text z : List ℕ) → (TableRules table → ⊥) →
      (read_text_with_answer table list text z ≡ refused refusal_table) × (read_text_with_exit table list text z ≡ z)
  -- with every table that keeps the rules it is the reading of paper 01 by that table, with all that is proved of it
  pub reads_with : (table list text z : List ℕ) → TableRules table → ReadsAs table list text z
  pub reading : (table : List ℕ) → TableRules table → ReadTextExact table
  -- the same of finding a word: refused by 18, and otherwise the call without a table, by this one
  pub finds_refused : (table list spelling : List ℕ) → (TableRules table → ⊥) → find_word_with_answer table list spelling ≡ refused refusal_table
  pub finds_with : (table list spelling : List ℕ) → TableRules table → find_word_with_answer table list spelling ≡ find_word_answer table list spelling
  pub finding : (table list : List ℕ) → TableRules table → is_list table list ≡ true → FindingExact table list
  -- the same of making a list: refused by 18, it gives two zeros and leaves both slices
  pub makes_refused :
      (table text y z : List ℕ) → (TableRules table → ⊥) →
      (list_made_with table text y z ≡ record { answer = refused refusal_table; bytes = 0; words = 0 })
      × (make_list_with_exit table text y z ≡ y) × (make_ranks_with_exit table text y z ≡ z)
  pub makes_with : (table text y z : List ℕ) → TableRules table → MakesAs table text y z
  pub made : (table text : List ℕ) → TableRules table → MadeExact table text
  pub making : (table text y z : List ℕ) → TableRules table → MakingExact table text y z
  -- the letter table, lent, gives what the calls without a table give
  pub reads_letters : (list text z : List ℕ) → ReadsAs letters list text z
  pub finds_letters : (list spelling : List ℕ) → find_word_with_answer letters list spelling ≡ find_word_answer letters list spelling
  pub makes_letters : (text y z : List ℕ) → MakesAs letters text y z
