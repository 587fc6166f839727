-- `base::first_outside` returns the first place outside: the search over the ranks is the engine's.
use Rattle.std.proofs.Common.{ℕ, rules}
use Rattle.std.specs.Prelude.{leb}
use Rattle.std.proofs.lemmas.Iterator.{YieldsList-from_slice}
use Rattle.std.proofs.lemmas.Iterator.Search.{position_from_yields_List}
use borrow.Author.Tests.{tests}
use Rattle.base.proofs.StdWords.{place_or_length}
use Rattle.base.proofs.first_outside.Goals as goal

pub returns : goal.returns
returns c =
    let below = λ (w : ℕ). leb c.args.vocabulary w in
    rw c.unwrap_or.ensures
    (place_or_length below c.args.text.now c.position.result
    (position_from_yields_List below _ _ c.position.result c.position.ensures.ran (YieldsList-from_slice c.args.text.now cc) (λ x b q k. search (rules, tests))))
