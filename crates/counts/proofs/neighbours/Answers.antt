-- By the mirror law either word may lead the search.
use Rattle.std.proofs.Common.{◌≡◌, ℤ, neg_ℤ, w32, to_z, of_z, sym, ap, ◌∙◌}
use Rattle.std.proofs.lemmas.Int.{to_z-of_z}
use Rattle.words.specs.Texts.{text_of}
use Rattle.phrases.proofs.Offsets.{negated_fits}
use Rattle.documents.specs.Documents.{neighbours_in}
use Rattle.documents.proofs.Inside.{mirror_in}
use Rattle.counts.proofs.neighbours.Goals as goal

pub returns-else-first-second : goal.returns-else-first-second
returns-else-first-second c =
    let t = text_of c.args.text.now in
    let e : c.negated-back.result ≡ neg_ℤ c.args.offset = c.negated-back.ensures ∙ ap neg_ℤ (to_z-of_z _ _ c.ranges.offset) in
    c.count_pair-else-first-second.ensures
    ∙ ap (neighbours_in c.args.documents.now t c.args.v c.args.w) (ap (λ (z : ℤ). to_z w32 (of_z w32 z)) e ∙ to_z-of_z _ _ (negated_fits c.args.offset c.requires.2))
    ∙ sym (mirror_in c.args.documents.now t c.args.w c.args.v c.args.offset)
