-- The elements are bytes. Assumes nothing.
use Rattle.std.proofs.Common.{◌<◌, arith}
use Rattle.base.proofs.Lists.{all_of_at}
use Rattle.checking.proofs.add_up.Goals as goal

pub returns-clause-elements : goal.returns-clause-elements
returns-clause-elements c = all_of_at (λ b. b < 256) c.args.bytes.now 0 (λ i h. omega (arith, c.type_inv.bytes i))
