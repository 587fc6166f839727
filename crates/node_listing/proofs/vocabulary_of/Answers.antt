-- the greatest rank that the chain meets is the largest of the text
use Rattle.std.proofs.Common.{unwrap_or, ap, ◌∙◌, rules, tests, arith}
use Rattle.std.proofs.lemmas.Iterator.{YieldsList-from_slice, YieldsList-from_map}
use Rattle.std.proofs.lemmas.Iterator.Consumers.{reduce_from_yields_List}
use Rattle.std.proofs.lemmas.List.Folds.{max_of_map}
use Rattle.node_listing.proofs.Vocabulary.{largest_from}
use Rattle.node_listing.proofs.vocabulary_of.Goals as goal

pub returns : goal.returns
returns c =
    let text = c.args.text.now in
    omega (
      arith,
      c.unwrap_or-largest.ensures
          ∙ ap (λ o. unwrap_or o 0) (reduce_from_yields_List _ c.map.result _ c.max.ensures.ran (YieldsList-from_map _ (λ x. x) (YieldsList-from_slice text cc) c.map.ensures.closure (λ x b q k. search (rules, tests))))
          ∙ max_of_map (λ x. x) text,
      largest_from 0 text,
    )
