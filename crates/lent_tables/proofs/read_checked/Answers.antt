-- `lent_tables::read_checked` meets its contract: the table is checked, and then the text is read with it. Assumes nothing.
use Rattle.std.proofs.Common.{sym, ◌∙◌}
use Rattle.std.proofs.lemmas.Result.{err_from_is_err_and}
use Rattle.lent_tables.proofs.Calls.{reads_refused_lem, reads_as}
use Rattle.lent_tables.proofs.read_checked.Goals as goal

pub returns-in_err-letters : goal.returns-in_err-letters
returns-in_err-letters c =
    let a = c.args in
    let p = err_from_is_err_and c.from_residual.result c.from_residual.ensures.1 in
    let r = reads_refused_lem a.table.now c.in_err-letters.ensures.1 a.list.now a.text.now a.ranks.now in
    rw (p.1, p.2, c.in_err-letters.ensures.0) (sym r.0, sym r.1)

pub returns : goal.returns
returns c =
    let a = c.args in
    let r = reads_as a.table.now c.in_ok-letters.ensures.1 a.list.now a.text.now a.ranks.now in
    let f = rw c.in_ok-letters.ensures.0 at c.read_text_by.ensures in
    (f.0 ∙ sym r.answered, f.1 ∙ sym r.written)
