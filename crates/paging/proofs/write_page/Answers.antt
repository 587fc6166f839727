-- Without words all places are written.
use Rattle.std.proofs.Common.{length, sym, ap, ◌∙◌, arith}
use borrow.Author.Tests.{eqb-true}
use Rattle.base.specs.Answers.{front}
use Rattle.index.specs.Arrays.{text_in}
use Rattle.index.specs.Lent.{slices_of}
use Rattle.words.proofs.Parts.{checked_some, checked_most, checked_total}
use Rattle.words.proofs.Positions.{text_most}
use Rattle.pages.specs.Pages.{HitPage}
use Rattle.paging.specs.Written.{written_of}
use Rattle.paging.proofs.NoWords.{none_page}
use Rattle.paging.proofs.write_page.Goals as goal

pub text_length-requires : goal.text_length-requires
text_length-requires c = checked_some c.requires.0

pub write_places-requires : goal.write_places-requires
write_places-requires c =
    let n = c.text_length.ensures.1 _ _ _ _ _ c.requires.0 in
    (omega (arith, n, c.requires.3), omega (arith, n, text_most c.requires.0))

pub returns-then-is_empty : goal.returns-then-is_empty
returns-then-is_empty c =
    let x = c.args.index.now in
    let n = c.text_length.ensures.1 _ _ _ _ _ c.requires.0 in
    let e = none_page c.args.documents.now (text_in x.s (slices_of x)) c.args.words.now c.text_length.result (length c.args.lines.now) c.args.next.0 (eqb-true (length c.args.words.now) 0 (sym c.if-is_empty.ensures)) n in
    (c.write_places.ensures.0 ∙ ap written_of e, c.write_places.ensures.1 ∙ ap (λ (p : HitPage). front p.found c.args.lines.now) e)

pub node_starts-requires : goal.node_starts-requires
node_starts-requires c = (omega (arith, checked_most c.requires.0), checked_total c.requires.0)
