-- Fewer than two words lie in one document, and others if no document follows or the next starts behind the last of them. Assumes nothing.
use Rattle.std.proofs.Common.{◌≡◌, ◌+◌, ◌-◌, ◌<◌, ℕ, zero, suc, true, List, length, get_or, ltb, refl, sym, ap, ◌∙◌, arith}
use Rattle.std.proofs.lemmas.Grind.{get_or_default_zero}
use borrow.Author.Tests.{ltb-true, ltb-false}
use Rattle.documents.specs.Documents.{same_document, in_one_document}
use Rattle.documents.proofs.Numbers.{document_most, document_itself, document_last, document_next}
use Rattle.documents.proofs.in_one_document.Goals as goal

-- fewer than two words always lie in one document
few : (starts : List ℕ) (q m : ℕ) → m < 2 → true ≡ in_one_document starts q m
unfolding in_one_document
few starts q zero h = refl
few starts q (suc zero) h = sym (document_itself starts q)
few starts q (suc (suc m)) h = absurd (omega arith)

-- others do if the first and the last do
more : (starts : List ℕ) (q m : ℕ) → 1 < m → same_document starts q (q + (m - 1)) ≡ in_one_document starts q m
unfolding in_one_document
more starts q zero h = absurd (omega arith)
more starts q (suc m) h =
    let e : suc m - 1 ≡ m = omega arith in
    ap (λ (k : ℕ). same_document starts q (q + k)) e

pub returns-then-count-lt2 : goal.returns-then-count-lt2
returns-then-count-lt2 c = few c.args.starts.now c.args.place.0 c.args.count (omega arith)

pub returns-in-Some : goal.returns-in-Some
returns-in-Some c =
    let found = c.document_of-next in
    let starts = c.args.starts.now in
    let last = c.args.place.0 + (c.args.count - 1) in
    let there : found.result < length starts = ltb-true _ _ (sym c.in-Some.ensures.lookup.0) in
    ap (ltb last) (c.in-Some.ensures.lookup.1 ∙ get_or_default_zero starts found.result c.in-Some.at.now there)
    ∙ ap (λ (k : ℕ). ltb last (get_or starts k 0)) found.ensures
    ∙ document_next starts c.requires.0 c.args.place.0 (c.args.count - 1) (rw (← found.ensures) there)
    ∙ more starts c.args.place.0 c.args.count (omega arith)

pub returns-in-None : goal.returns-in-None
returns-in-None c =
    let starts = c.args.starts.now in
    let none = ltb-false c.document_of-next.result (length starts) (sym c.in-None.ensures.lookup.0) in
    sym (document_last starts c.args.place.0 (c.args.count - 1) (omega (arith, none, c.document_of-next.ensures, document_most starts c.args.place.0)))
    ∙ more starts c.args.place.0 c.args.count (omega arith)
