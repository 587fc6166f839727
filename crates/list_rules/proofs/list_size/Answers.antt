-- `list_rules::list_size` meets its contract. Assumes nothing.
use Rattle.std.proofs.Common.{◌≡◌, sym, ◌∙◌, eqb, rules}
use Rattle.std.specs.Prelude.{count_by}
use Rattle.base.proofs.StdWords.{count_of_is}
use Rattle.lexicon.specs.Lexicon.{list_size}
use Rattle.list_rules.proofs.list_size.Goals as goal

pub returns : goal.returns
unfolding list_size
returns c =
    let counted : c.count.result ≡ count_by (λ y. eqb y 10) c.args.list.now = search rules in
    counted ∙ sym (count_of_is 10 c.args.list.now)
