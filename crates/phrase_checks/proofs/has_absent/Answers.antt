use Rattle.std.proofs.Common.{rules, tests, ◌∙◌, ℕ, eqb}
use Rattle.std.proofs.lemmas.Iterator.{YieldsList-from_slice}
use Rattle.std.proofs.lemmas.Iterator.Search.{any_from_yields_List}
use Rattle.questions.specs.Answering.{has_absent}
use Rattle.phrase_checks.proofs.Absent.{any_is}
use Rattle.phrase_checks.proofs.has_absent.Goals as goal

pub returns : goal.returns
unfolding has_absent
returns c =
    let phrase = c.args.phrase.now in
    any_from_yields_List (λ (w : ℕ). eqb w c.args.vocabulary) _ _ _ c.any.ensures.ran (YieldsList-from_slice phrase cc) (λ x b q k. search (rules, tests))
    ∙ any_is (λ (w : ℕ). eqb w c.args.vocabulary) phrase
