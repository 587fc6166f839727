-- `lent_tables::find_checked` meets its contract: the table is checked, and then the word is found with it. Assumes nothing.
use Rattle.std.proofs.Common.{sym, ◌∙◌}
use Rattle.std.proofs.lemmas.Result.{err_from_is_err_and}
use Rattle.lent_tables.proofs.Calls.{finds_refused_lem, finds_as}
use Rattle.lent_tables.proofs.find_checked.Goals as goal

pub returns-in_err-letters : goal.returns-in_err-letters
returns-in_err-letters c =
    let a = c.args in
    let p = err_from_is_err_and c.from_residual.result c.from_residual.ensures.1 in
    rw (p.1, p.2, c.in_err-letters.ensures.0) (sym (finds_refused_lem a.table.now c.in_err-letters.ensures.1 a.list.now a.spelling.now))

pub returns : goal.returns
returns c =
    let a = c.args in
    let f = rw c.in_ok-letters.ensures.0 at c.find_word_by.ensures in
    f ∙ sym (finds_as a.table.now c.in_ok-letters.ensures.1 a.list.now a.spelling.now)
