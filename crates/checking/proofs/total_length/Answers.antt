-- The total is the library's sum. Assumes nothing.
use Rattle.std.proofs.Common.{◌≡◌, sum, sym, ◌∙◌, rules}
use Rattle.base.proofs.StdWords.{total_is}
use Rattle.checking.proofs.total_length.Goals as goal

pub returns : goal.returns
returns c = let is : c.sum.result ≡ sum c.args.lengths.now = search rules in is ∙ sym (total_is c.args.lengths.now)
