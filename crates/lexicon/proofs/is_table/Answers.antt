-- `lexicon::is_table`: the length, entry 0A, and then all entries.
use Rattle.std.proofs.Common.{arith}
use Rattle.std.proofs.lemmas.Grind.{common_steps}
use Rattle.lexicon.specs.Letters.{is_table}
use Rattle.lexicon.proofs.is_table.Goals as goal

pub returns-then-table-eq0 : goal.returns-then-table-eq0
unfolding is_table
returns-then-table-eq0 c = grind (arith, common_steps)

pub returns-else-table-eq0 : goal.returns-else-table-eq0
unfolding is_table
returns-else-table-eq0 c = grind (arith, common_steps)
