use Rattle.std.proofs.Common.{◌≡◌, List, ℕ, length, ap, ◌∙◌, rules}
use Rattle.dense.specs.Code.{Closing}
use Rattle.index.specs.Arrays.{arrays, text_in}
use Rattle.documents.specs.Documents.{one_start}
use Rattle.listing.specs.Paging.{call_of, PageResult, page_of}
use Rattle.listing.proofs.WithoutStarts.{page_by_root}
use Rattle.listing.proofs.Listing.page.Goals as goal

-- the published code has closing values within the limits
closing_128 : Closing 128
closing_128 = search rules

pub returns : goal.returns
returns c =
    let a = arrays c.args.lengths.now c.args.bytes.now c.args.superblocks.now c.args.blocks.now in
    let page_with = λ (documents : List ℕ). page_of (call_of 128 c.args.shape a documents c.args.words.now c.args.start c.args.count c.args.lines.now) c.args.self in
    let e : page_with c.one_start-documents.result.now ≡ page_with (one_start (length (text_in 128 a))) =
    ap page_with c.one_start-documents.ensures ∙ page_by_root 128 closing_128 c.args.shape a c.args.words.now c.args.start c.args.count c.args.lines.now c.args.self in
    (c.page_of.ensures.0 ∙ ap (λ (x : PageResult). x.page) e, c.page_of.ensures.1 ∙ ap (λ (x : PageResult). x.lines) e)
