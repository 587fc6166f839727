-- The first pair of a byte with itself is its first occurrence. Assumes nothing.
use Rattle.std.proofs.Common.{◌∙◌}
use Rattle.pairs.proofs.Pairs.{pair_itself}
use Rattle.pairs.proofs.next_of.Goals as goal

pub returns : goal.returns
returns c = c.next_pair.ensures ∙ pair_itself c.args.byte c.args.part.now
