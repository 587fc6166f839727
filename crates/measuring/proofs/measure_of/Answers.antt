-- The sizes where the text is accepted, four zeros where it is refused. Assumes nothing.
use Rattle.std.proofs.Common.{refl, sym, ap, ◌∙◌}
use Rattle.std.proofs.lemmas.Result.{err_from_is_err_and}
use Rattle.base.specs.Answers.{is_accepted}
use Rattle.index.proofs.Texts.{stream_short}
use Rattle.measuring.proofs.Passes.{limits_refused, rank_refused, rank_passed}
use Rattle.measuring.proofs.Sizes.{measure_accepts, measured_sizes, measured_as, sizes_from}
use Rattle.measuring.proofs.measure_of.Goals as goal

pub returns-in_err-check_limits : goal.returns-in_err-check_limits
returns-in_err-check_limits c =
    let p = err_from_is_err_and c.from_residual.result c.from_residual.ensures.1 in
    rw (p.1, p.2) (limits_refused c.args.s c.args.shape c.args.text.now _ c.in_err-check_limits.ensures)

pub returns-in_err-bytes : goal.returns-in_err-bytes
returns-in_err-bytes c =
    let limits = c.in_ok-check_limits.ensures in
    let p = err_from_is_err_and c.from_residual-in_err-bytes.result c.from_residual-in_err-bytes.ensures.1 in
    rw (p.1, p.2) (rank_refused c.args.s c.args.shape c.args.text.now (limits.limits refl) (limits.words refl) _ c.in_err-bytes.ensures)

pub sizes_for-requires : goal.sizes_for-requires
sizes_for-requires c =
    let limits = c.in_ok-check_limits.ensures in
    let passed = rank_passed c.args.s c.args.shape c.args.text.now (limits.limits refl) (limits.words refl) _ c.in_ok-bytes.ensures in
    (c.requires, limits.limits refl, rw passed.1 (stream_short c.args.s c.args.shape c.args.text.now c.requires (limits.limits refl) passed.0))

pub returns : goal.returns
returns c =
    let a = c.args in
    let limits = c.in_ok-check_limits.ensures in
    let passed = rank_passed a.s a.shape a.text.now (limits.limits refl) (limits.words refl) _ c.in_ok-bytes.ensures in
    let accepts = measure_accepts a.s a.shape a.text.now (limits.limits refl) passed.0 in
    measured_as a.s a.shape a.text.now (sym accepts)
    (c.sizes_for.ensures ∙ sizes_from a.s a.shape a.text.now c.requires (limits.limits refl) passed.0 refl passed.1 refl refl ∙ sym (measured_sizes a.s a.shape a.text.now (ap is_accepted accepts)))
