use Rattle.std.proofs.Common.{◌≡◌, ℕ, List, false, sym, ap, ◌∙◌, arith, length}
use Rattle.tree.specs.declared.Position.{Position}
use Rattle.words.specs.Texts.{text_of}
use Rattle.words.proofs.Positions.{text_most, root_inside}
use Rattle.phrases.specs.Phrases.{stands}
use Rattle.documents.proofs.Inside.{past_in, apart_in, nowhere_in, together_in}
use Rattle.matching.proofs.FirstBytes.{first_bytes_length, first_bytes_differ}
use Rattle.matching.proofs.query.Query.stands_at.Goals as goal

pub overflow_add-place : goal.overflow_add-place
overflow_add-place c = omega (arith, c.args.self.now.most, text_most c.args.self.now.text.ready.checked)

pub returns-then-n-place : goal.returns-then-n-place
returns-then-n-place c =
    let q = c.args.self.now in
    sym (past_in q.documents.now (text_of q.text) q.words.now c.args.place.0 (omega arith))

pub bytes_stand-alike-requires : goal.bytes_stand-alike-requires
bytes_stand-alike-requires c =
    let q = c.args.self.now in
    omega (
      arith,
      ap (λ (x : Position). x.0) c.root_position.ensures,
      root_inside q.text.ready.checked,
      ap length q.firsts_are,
      first_bytes_length q.text.index.s q.words.now,
    )

-- where the first bytes differ, the phrase does not stand
pub returns-then-not-alike : goal.returns-then-not-alike
returns-then-not-alike c =
    let q = c.args.self.now in
    let e : stands q.text.index.bytes.now q.firsts.now c.args.place.0 ≡ false =
    ap (λ (x : Position). stands q.text.index.bytes.now q.firsts.now x.0) (sym c.root_position.ensures) ∙ sym c.bytes_stand-alike.ensures ∙ c.if-not-alike.true in
    sym (nowhere_in q.documents.now (text_of q.text) q.words.now c.args.place.0
    (first_bytes_differ q.text.ready q.words.now c.args.place.0 (ap (λ (x : List ℕ). stands q.text.index.bytes.now x c.args.place.0) (sym q.firsts_are) ∙ e)))

pub in_one_document-together-requires : goal.in_one_document-together-requires
in_one_document-together-requires c = (c.args.self.now.ascending, omega (arith, text_most c.args.self.now.text.ready.checked))

pub returns-then-not-together : goal.returns-then-not-together
returns-then-not-together c =
    let q = c.args.self.now in
    sym (apart_in q.documents.now (text_of q.text) q.words.now c.args.place.0 (sym c.in_one_document-together.ensures ∙ c.if-not-together.true))

pub returns : goal.returns
returns c =
    let q = c.args.self.now in
    c.words_stand.ensures
    ∙ sym (together_in q.documents.now (text_of q.text) q.words.now c.args.place.0 (sym c.in_one_document-together.ensures ∙ c.if-not-together.false))
