-- V is tested first, and then B and b. Assumes nothing.
use Rattle.std.proofs.Common.{sym, ap, ◌∙◌}
use Rattle.std.proofs.lemmas.Result.{err_from_is_err_and}
use Rattle.base.specs.Outcomes.{number_of}
use Rattle.index.proofs.Refusals.{limits_vocabulary, limits_by_blocks}
use Rattle.index.proofs.check_limits.Goals as goal

pub returns-in_err-check_vocabulary : goal.returns-in_err-check_vocabulary
returns-in_err-check_vocabulary c =
    let p = err_from_is_err_and c.from_residual.result c.from_residual.ensures.1 in
    let e = c.in_err-check_vocabulary.ensures in
    rw (p.1, p.2) (ap number_of e.0 ∙ sym (limits_vocabulary c.args.s c.args.shape e.1))

pub returns : goal.returns
returns c = limits_by_blocks c.args.s c.args.shape c.in_ok-check_vocabulary.ensures _ c.check_blocks.ensures
