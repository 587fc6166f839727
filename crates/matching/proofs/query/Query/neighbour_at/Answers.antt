use Rattle.std.proofs.Common.{ap, ap₂, ◌∙◌, ◌≡◌, ℕ, Bool, ◌&&◌, arith, sym, pos, ◌+ℤ◌, nat_abs, length}
use Rattle.std.proofs.lemmas.Int.{to_z-of_z}
use Rattle.base.proofs.Tests.{and_never}
use Rattle.words.specs.Texts.{text_of}
use Rattle.words.proofs.Positions.{text_most}
use Rattle.phrases.specs.Offsets.{shifted_of}
use Rattle.phrases.proofs.Offsets.{shifted_below}
use Rattle.phrases.proofs.Neighbours.{stands_moved, stands_outside, moved_is}
use Rattle.documents.specs.Documents.{same_document}
use Rattle.matching.proofs.query.Query.neighbour_at.Goals as goal
use Rattle.matching.proofs.query.Query.neighbour_at.Goals.{After-shifted}

-- the place that is moved to, of the text and the offset
moved : (c : After-shifted) → c.shifted.result ≡ shifted_of c.args.place.0 c.args.offset (length (text_of c.args.self.now.text))
moved c = c.shifted.ensures ∙ ap₂ (shifted_of c.args.place.0) (to_z-of_z _ _ c.ranges.offset) c.length.ensures

pub shifted-requires : goal.shifted-requires
shifted-requires c = (omega (arith, text_most c.args.self.now.text.ready.checked), omega arith)

pub word_stands-requires : goal.word_stands-requires
word_stands-requires c =
    (c.requires.0, shifted_below c.args.place.0 c.args.offset _ c.in-Some.at (sym (moved (goal.at.word_stands-requires c).After-shifted) ∙ c.in-Some.is))

pub returns-in-Some : goal.returns-in-Some
returns-in-Some c =
    let e = sym (moved (goal.at.returns-in-Some c).After-shifted) ∙ c.in-Some.is in
    let q = c.args.self.now in
    let p = c.in-Some.at in
    c.word_stands.ensures
    ∙ ap₂ (λ (k : ℕ) (b : Bool). same_document q.documents.now c.args.place.0 k && b)
    (sym (moved_is c.args.place.0 c.args.offset _ p e)) (sym (stands_moved (text_of q.text) c.args.rank c.args.offset c.args.place.0 p e))

pub returns-in-None : goal.returns-in-None
returns-in-None c =
    let e = sym (moved (goal.at.returns-in-None c).After-shifted) ∙ c.in-None.is in
    let q = c.args.self.now in
    let same : Bool = same_document q.documents.now c.args.place.0 (nat_abs (pos c.args.place.0 +ℤ c.args.offset)) in
    sym (ap (λ (b : Bool). same && b) (stands_outside (text_of q.text) c.args.rank c.args.offset c.args.place.0 e) ∙ and_never same)
