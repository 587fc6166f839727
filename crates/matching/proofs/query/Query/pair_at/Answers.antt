use Rattle.std.proofs.Common.{ap, ◌∙◌, ◌≡◌, ℕ, ℤ, ◌+◌, ◌<◌, List, false, Bool, ◌&&◌, arith, sym, pos, ◌+ℤ◌, nat_abs, length, get_or}
use Rattle.std.proofs.lemmas.Int.{to_z-of_z}
use borrow.Author.Tests.{eqb-true, eqb-false}
use Rattle.base.proofs.Tests.{and_right, false_of}
use Rattle.words.specs.Texts.{text_of}
use Rattle.phrases.specs.Neighbours.{stands_at, neighbour_at}
use Rattle.phrases.proofs.Neighbours.{neighbour_anchored, neighbour_test}
use Rattle.documents.specs.Documents.{same_document, neighbour_in}
use Rattle.matching.proofs.query.Query.pair_at.Goals as goal

-- where the first word does not stand, neither does the pair
differs : (documents t : List ℕ) (w v : ℕ) (d : ℤ) (q : ℕ) → (get_or t q 0 ≡ w → ⊥) → neighbour_in documents t w v d q ≡ false
unfolding neighbour_in
differs documents t w v d q n =
    false_of (neighbour_in documents t w v d q) (λ e.
    let z : q + 0 ≡ q = omega arith in
    n (rw z at ((neighbour_anchored t w v d).word q (and_right (same_document documents q (nat_abs (pos q +ℤ d))) (neighbour_at t w v d q) e))))

-- where it does, the second at the offset decides, in the same document
decides : (documents t : List ℕ) (w v : ℕ) (d : ℤ) (q : ℕ) → q < length t → get_or t q 0 ≡ w
    → same_document documents q (nat_abs (pos q +ℤ d)) && stands_at t v (pos q +ℤ d) ≡ neighbour_in documents t w v d q
unfolding neighbour_in
decides documents t w v d q h e = ap (λ (b : Bool). same_document documents q (nat_abs (pos q +ℤ d)) && b) (sym (neighbour_test t w v d q h e))

pub returns-then-not-agrees_at : goal.returns-then-not-agrees_at
returns-then-not-agrees_at c =
    let q = c.args.self.now in
    sym (differs q.documents.now (text_of q.text) (get_or q.words.now 0 0) (get_or q.words.now 1 0) c.args.offset c.args.place.0
    (eqb-false _ _ (sym c.agrees_at.ensures ∙ c.if-not-agrees_at.true)))

pub returns : goal.returns
returns c =
    let q = c.args.self.now in
    let t = text_of q.text in
    let ws = q.words.now in
    c.neighbour_at.ensures
    ∙ ap (λ (z : ℤ). same_document q.documents.now c.args.place.0 (nat_abs (pos c.args.place.0 +ℤ z)) && stands_at t (get_or ws 1 0) (pos c.args.place.0 +ℤ z)) (to_z-of_z _ _ c.ranges.offset)
    ∙ decides q.documents.now t (get_or ws 0 0) (get_or ws 1 0) c.args.offset c.args.place.0 c.requires.1 (eqb-true _ _ (sym c.agrees_at.ensures ∙ c.if-not-agrees_at.false))
