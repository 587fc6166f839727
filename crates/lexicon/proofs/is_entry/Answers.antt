-- `lexicon::is_entry`: 0 passes, and of another entry it is tested whether the table keeps it.
use Rattle.std.proofs.Common.{arith}
use Rattle.std.proofs.lemmas.Grind.{common_steps}
use Rattle.lexicon.specs.Letters.{is_entry}
use Rattle.lexicon.proofs.is_entry.Goals as goal

pub returns-then-x-eq0 : goal.returns-then-x-eq0
unfolding is_entry
returns-then-x-eq0 c = grind (arith, common_steps)

pub returns-else-x-eq0 : goal.returns-else-x-eq0
unfolding is_entry
returns-else-x-eq0 c = grind (arith, common_steps)
