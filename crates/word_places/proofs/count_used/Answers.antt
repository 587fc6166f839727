-- `word_places::count_used` meets its contract. Assumes nothing.
use Rattle.std.proofs.Common.{◌≡◌, ltb, take, sym, ◌∙◌, rules}
use Rattle.std.specs.Prelude.{count_by}
use Rattle.word_places.proofs.Used.{used_is}
use Rattle.word_places.proofs.count_used.Goals as goal

pub returns : goal.returns
returns c =
    let counted : c.count.result ≡ count_by (λ x. ltb 0 x) (take c.args.size c.args.counts.now) = search rules in
    counted ∙ sym (used_is (take c.args.size c.args.counts.now))
