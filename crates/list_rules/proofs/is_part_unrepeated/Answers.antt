-- `list_rules::is_part_unrepeated` meets its contract: the words of the part, and those behind it. Assumes nothing.
use Rattle.std.proofs.Common.{sym, ◌∙◌}
use Rattle.list_rules.proofs.Repeats.{repeated_more}
use Rattle.list_rules.proofs.is_part_unrepeated.Goals as goal

pub returns-else-is_part_distinct : goal.returns-else-is_part_distinct
returns-else-is_part_distinct c =
    let p = c.args.part.now in
    c.if-is_part_distinct.false
    ∙ sym (repeated_more p.list.now.letters.table.now p.list.now.bytes.now p.from p.count p.count c.args.size c.requires.0 (sym c.is_part_distinct.ensures ∙ c.if-is_part_distinct.false))
