-- `lent_tables::make_checked` meets its contract: the table is checked, and then the list is made with it. Assumes nothing.
use Rattle.std.proofs.Common.{refl, sym, ◌∙◌}
use Rattle.std.proofs.lemmas.Result.{err_from_is_err_and}
use Rattle.lent_tables.proofs.Calls.{makes_refused_by, makes_as}
use Rattle.lent_tables.proofs.make_checked.Goals as goal

pub returns-in_err-letters : goal.returns-in_err-letters
returns-in_err-letters c =
    let a = c.args in
    let p = err_from_is_err_and c.from_residual.result c.from_residual.ensures.1 in
    rw (p.1, p.2, c.in_err-letters.ensures.0) (makes_refused_by a.table.now c.in_err-letters.ensures.1 a.text.now a.list.now a.ranks.now _ refl refl refl)

pub returns : goal.returns
returns c =
    let a = c.args in
    let r = makes_as a.table.now c.in_ok-letters.ensures.1 a.text.now a.list.now a.ranks.now in
    let f = rw c.in_ok-letters.ensures.0 at c.make_list_by.ensures in
    (f.0 ∙ sym r.returned, f.1 ∙ sym r.list, f.2 ∙ sym r.ranks)
