-- `finding::find_by_written` meets its contract: a word twice, then the rank. Assumes nothing.
use Rattle.std.proofs.Common.{true, false, sym, ◌∙◌, ap}
use Rattle.base.specs.Answers.{accepted}
use Rattle.plain_text.proofs.Calls.{list_by_tests}
use Rattle.plain_text.proofs.Sizes.{refused_is}
use Rattle.finding.proofs.Ranks.{find_list, find_rank}
use Rattle.finding.proofs.find_by_written.Goals as goal

pub returns-then-not-is_distinct : goal.returns-then-not-is_distinct
returns-then-not-is_distinct c =
    let list = c.args.list.now in
    let table = list.letters.table.now in
    refused_is _ _ c.into.ensures
    ∙ sym (find_list table list.bytes.now c.args.spelling.now c.requires.1
    (list_by_tests table list.letters.rule list.bytes.now c.requires.0 false (sym c.is_distinct.ensures ∙ c.if-not-is_distinct.true)))

pub returns : goal.returns
returns c =
    let list = c.args.list.now in
    let table = list.letters.table.now in
    ap accepted c.rank_of.ensures
    ∙ sym (find_rank table list.bytes.now c.args.spelling.now c.requires.1
    (list_by_tests table list.letters.rule list.bytes.now c.requires.0 true (sym c.is_distinct.ensures ∙ c.if-not-is_distinct.false)))
