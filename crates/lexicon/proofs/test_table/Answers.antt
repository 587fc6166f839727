-- `lexicon::test_table`: refusal 18, or none.
use Rattle.std.proofs.Common.{arith}
use Rattle.std.proofs.lemmas.Grind.{common_steps}
use Rattle.base.specs.Answers.{first_of}
use Rattle.lexicon.specs.Tables.{table_case, with_table, table_answer}
use Rattle.lexicon.proofs.test_table.Goals as goal

pub returns-then-not-is_table : goal.returns-then-not-is_table
unfolding table_case with_table table_answer first_of
returns-then-not-is_table c = grind (arith, common_steps)

pub returns : goal.returns
unfolding table_case with_table table_answer first_of
returns c = grind (arith, common_steps)
