-- The calls that are lent a letter table, by whether it keeps the rules. Assumes nothing.
use Prim.Native.Nat.{ℕ}
use mathlib.Core.Path.{◌≡◌, sym, ap, ◌∙◌}
use mathlib.Core.Bool.{true, false}
use mathlib.Core.List.{List}
use Rattle.base.specs.Answers.{refused, is_accepted, filled}
use Rattle.base.specs.Refusals.{refusal_table}
use Rattle.base.specs.declared.Answer.{Answer}
use Rattle.base.proofs.Answers.{filled_not}
use Rattle.lexicon.specs.Letters.{is_table}
use Rattle.lexicon.specs.Reading.{text_ranks, read_text_answer, read_text_exit}
use Rattle.lexicon.proofs.Tables.{table_broken, table_kept}
use Rattle.finding.specs.Finding.{find_word_answer}
use Rattle.list_calls.specs.declared.ListMade.{ListMade}
use Rattle.list_calls.specs.Making.{made_list, made_ranks, make_list_answer, list_made_by, list_made, make_list_exit, make_ranks_exit}
use Rattle.lent_tables.specs.Calls.{read_text_with_answer, read_text_with_exit, find_word_with_answer, make_list_with_answer, list_made_with, make_list_with_exit, make_ranks_with_exit}
use Rattle.lent_tables.specs.Tables.{ReadsAs, MakesAs}

module _ (table : List ℕ) where
  module _ (e : is_table table ≡ false) where
    -- a reading with a table that breaks a rule
    pub reads_refused_lem : (list text z : List ℕ) → (read_text_with_answer table list text z ≡ refused refusal_table) × (read_text_with_exit table list text z ≡ z)
    unfolding read_text_with_answer read_text_with_exit
    reads_refused_lem list text z =
        let r = table_broken table (read_text_answer table list text z) e in
        (r, filled_not (read_text_with_answer table list text z) (text_ranks table list text) z (ap is_accepted r))

    -- a word found with one
    pub finds_refused_lem : (list spelling : List ℕ) → find_word_with_answer table list spelling ≡ refused refusal_table
    unfolding find_word_with_answer
    finds_refused_lem list spelling = table_broken table (find_word_answer table list spelling) e

    -- a list made with one
    pub makes_refused_lem : (text y z : List ℕ)
        → (list_made_with table text y z ≡ record { answer = refused refusal_table; bytes = 0; words = 0 })
        × (make_list_with_exit table text y z ≡ y) × (make_ranks_with_exit table text y z ≡ z)
    unfolding make_list_with_answer list_made_with make_list_with_exit make_ranks_with_exit
    makes_refused_lem text y z =
        let r = table_broken table (make_list_answer table text y z) e in (
          ap (list_made_by table text) r,
          filled_not (make_list_with_answer table text y z) (made_list table text) y (ap is_accepted r),
          filled_not (make_list_with_answer table text y z) (made_ranks table text) z (ap is_accepted r),
        )

    -- what has the answer and two zeros is what it returns
    pub makes_refused_by : (text y z : List ℕ) (r : ListMade) → r.answer ≡ refused refusal_table → r.bytes ≡ 0 → r.words ≡ 0
        → (r ≡ list_made_with table text y z) × (y ≡ make_list_with_exit table text y z) × (z ≡ make_ranks_with_exit table text y z)
    makes_refused_by text y z r a b w =
        let m = makes_refused_lem text y z in
        ((λ i. record { answer = a i; bytes = b i; words = w i }) ∙ sym m.0, sym m.1, sym m.2)

  module _ (e : is_table table ≡ true) where
    -- a reading with a table that keeps the rules
    pub reads_as : (list text z : List ℕ) → ReadsAs table list text z
    unfolding read_text_with_answer read_text_with_exit read_text_exit
    reads_as list text z =
        let r = table_kept table (read_text_answer table list text z) e in
        record { answered = r; written = ap (λ (a : Answer). filled a (text_ranks table list text) z) r }

    -- a word found with one
    pub finds_as : (list spelling : List ℕ) → find_word_with_answer table list spelling ≡ find_word_answer table list spelling
    unfolding find_word_with_answer
    finds_as list spelling = table_kept table (find_word_answer table list spelling) e

    -- a list made with one
    pub makes_as : (text y z : List ℕ) → MakesAs table text y z
    unfolding make_list_with_answer list_made_with make_list_with_exit make_ranks_with_exit list_made make_list_exit make_ranks_exit
    makes_as text y z =
        let r = table_kept table (make_list_answer table text y z) e in
        record {
          returned = ap (list_made_by table text) r;
          list = ap (λ (a : Answer). filled a (made_list table text) y) r;
          ranks = ap (λ (a : Answer). filled a (made_ranks table text) z) r;
        }
