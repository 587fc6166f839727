-- `finding::rank_of` meets its contract: a spelling with a separator has V, another the rank of its run. Assumes nothing.
use Rattle.std.proofs.Common.{sym, ◌∙◌, arith}
use Rattle.plain_text.proofs.Calls.{list_sized}
use Rattle.finding.proofs.Ranks.{rank_of_run, rank_of_cut}
use Rattle.finding.proofs.rank_of.Goals as goal

pub returns-then-scan-spelling : goal.returns-then-scan-spelling
returns-then-scan-spelling c =
    let list = c.args.list.now in
    list.counted
    ∙ sym (list_sized list.letters.table.now list.letters.rule list.bytes.now c.requires)
    ∙ sym (rank_of_cut list.letters.table.now list.bytes.now c.requires c.args.spelling.now (omega (arith, c.scan_word-scan.ensures.0, c.if-scan-spelling.true)))

pub returns : goal.returns
returns c =
    let list = c.args.list.now in
    c.first_alike.ensures
    ∙ rank_of_run list.letters.table.now list.bytes.now c.requires list.letters.rule c.args.spelling.now (omega (arith, c.scan_word-scan.ensures.0, c.if-scan-spelling.false))
