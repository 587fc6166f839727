-- The limits decide, and then passing. Assumes nothing.
use Rattle.std.proofs.Common.{sym, ◌∙◌}
use Rattle.std.proofs.lemmas.Result.{err_from_is_err_and}
use Rattle.index.specs.Lent.{slices_of}
use Rattle.index.proofs.Refusals.{limits_zero, check_numbered, check_fails, limits_check}
use Rattle.checking.proofs.check_of.Goals as goal

pub returns-in_err-check_limits : goal.returns-in_err-check_limits
returns-in_err-check_limits c =
    let x = c.args.index.now in
    let p = err_from_is_err_and c.from_residual.result c.from_residual.ensures.1 in
    rw (p.1, p.2) (check_numbered x.s x.shape (slices_of x) _ c.in_err-check_limits.ensures)

pub passes-requires : goal.passes-requires
passes-requires c = (c.requires, limits_zero c.args.index.now.s c.args.index.now.shape (sym c.in_ok-check_limits.ensures))

pub returns-then-not-passes : goal.returns-then-not-passes
returns-then-not-passes c =
    let x = c.args.index.now in
    rw c.into.ensures (sym (check_fails x.s x.shape (slices_of x) (limits_zero x.s x.shape (sym c.in_ok-check_limits.ensures)) (sym c.passes.ensures ∙ c.if-not-passes.true)))

pub returns : goal.returns
returns c =
    let x = c.args.index.now in
    sym (limits_check x.s c.requires x.shape (slices_of x) (limits_zero x.s x.shape (sym c.in_ok-check_limits.ensures)) (sym c.passes.ensures ∙ c.if-not-passes.false))
