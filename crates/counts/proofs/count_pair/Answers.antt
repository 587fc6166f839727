-- The hits of a pair are its neighbours.
use Rattle.std.proofs.Common.{refl, ap, ◌∙◌}
use Rattle.std.proofs.lemmas.Int.{to_z-of_z}
use Rattle.base.proofs.Fronts.{front_whole}
use Rattle.words.specs.Texts.{text_of}
use Rattle.documents.specs.Documents.{neighbours_in}
use Rattle.counts.proofs.Hits.{pair_hits}
use Rattle.counts.proofs.count_pair.Goals as goal

pub invariant_of-count_hits-clause-firsts_are : goal.invariant_of-count_hits-clause-firsts_are
invariant_of-count_hits-clause-firsts_are c = c.first_bytes.ensures ∙ front_whole _ _ refl

pub returns : goal.returns
returns c =
    let t = text_of c.args.text.now in
    c.count_hits.ensures ∙ pair_hits c.args.documents.now t c.args.w c.args.v _ ∙ ap (neighbours_in c.args.documents.now t c.args.w c.args.v) (to_z-of_z _ _ c.ranges.offset)
