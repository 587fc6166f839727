-- The calls that are lent a letter table: what each returns, and what its slices hold then.
use Rattle.std.specs.Prelude.{ℕ, List}
use Rattle.base.specs.declared.Answer.{Answer}
use Rattle.base.specs.Answers.{filled}
use Rattle.lexicon.specs.Tables.{with_table}
use Rattle.lexicon.specs.Reading.{text_ranks, read_text_answer}
use Rattle.finding.specs.Finding.{find_word_answer}
use Rattle.list_calls.specs.declared.ListMade.{ListMade}
use Rattle.list_calls.specs.Making.{made_list, made_ranks, make_list_answer, list_made_by}

-- reading a plain text through a word list with a lent table, into a slice that holds z: refusals 18, 1, 2, 5, 13 and 14
unfoldable pub read_text_with_answer : List ℕ → List ℕ → List ℕ → List ℕ → Answer
read_text_with_answer table list text z = with_table table (read_text_answer table list text z)

-- what the slice holds then: the ranks in front, the rest as it was
unfoldable pub read_text_with_exit : List ℕ → List ℕ → List ℕ → List ℕ → List ℕ
read_text_with_exit table list text z = filled (read_text_with_answer table list text z) (text_ranks table list text) z

-- finding a word in a word list with a lent table: refusals 18, 1 and 13
unfoldable pub find_word_with_answer : List ℕ → List ℕ → List ℕ → Answer
find_word_with_answer table list spelling = with_table table (find_word_answer table list spelling)

-- making a word list of a text with a lent table, in slices that hold y and z, for the list and for the ranks: refusals 18, 2, 17 and 5
unfoldable pub make_list_with_answer : List ℕ → List ℕ → List ℕ → List ℕ → Answer
make_list_with_answer table text y z = with_table table (make_list_answer table text y z)

-- all that it returns
unfoldable pub list_made_with : List ℕ → List ℕ → List ℕ → List ℕ → ListMade
list_made_with table text y z = list_made_by table text (make_list_with_answer table text y z)

-- what the slice for the list holds then: the list in front, the rest as it was
unfoldable pub make_list_with_exit : List ℕ → List ℕ → List ℕ → List ℕ → List ℕ
make_list_with_exit table text y z = filled (make_list_with_answer table text y z) (made_list table text) y

-- what the slice for the ranks holds then: the ranks in front, the rest as it was
unfoldable pub make_ranks_with_exit : List ℕ → List ℕ → List ℕ → List ℕ → List ℕ
make_ranks_with_exit table text y z = filled (make_list_with_answer table text y z) (made_ranks table text) z
