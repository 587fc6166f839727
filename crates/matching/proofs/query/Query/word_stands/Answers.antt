use Rattle.std.proofs.Common.{ap, ◌∙◌, ◌≡◌, ℕ, Bool, false, ◌&&◌, get_or, arith, sym, eqb}
use borrow.Author.Tests.{eqb-true}
use Rattle.base.proofs.Tests.{and_never, false_of}
use Rattle.dense.specs.Code.{code}
use Rattle.tree.specs.Nodes.{first_byte}
use Rattle.tree.specs.declared.Position.{Position}
use Rattle.words.proofs.Positions.{root_byte, root_inside}
use Rattle.documents.specs.Documents.{same_document}
use Rattle.matching.proofs.query.Query.word_stands.Goals as goal

-- the place as a position of the root
pub bounds-bytes-at : goal.bounds-bytes-at
bounds-bytes-at c = omega (arith, ap (λ (x : Position). x.0) c.root_position-at.ensures, root_inside c.args.self.now.text.ready.checked)

-- a word whose first byte is another does not stand there
pub returns-then-bytes-at : goal.returns-then-bytes-at
returns-then-bytes-at c =
    let q = c.args.self.now in
    let same = same_document q.documents.now c.args.from.0 c.args.place.0 in
    let other : eqb _ c.args.rank ≡ false = false_of (eqb _ c.args.rank)
    (λ t. c.if-bytes-at.true (ap (λ (x : Position). get_or q.text.index.bytes.now x.0 0) c.root_position-at.ensures ∙ root_byte q.text.ready.checked c.args.place.0 c.requires.1
    ∙ ap (λ (w : ℕ). first_byte (code q.text.index.s w)) (eqb-true _ _ t) ∙ sym c.requires.0)) in
    sym (ap (λ (b : Bool). same && b) other ∙ and_never same)
