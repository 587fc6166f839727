-- What measuring is refused by, or what building a measured text gives. Assumes nothing.
use Rattle.std.proofs.Common.{sym, ◌∙◌}
use Rattle.std.proofs.lemmas.Result.{err_from_is_err_and}
use Rattle.index.specs.Arrays.{arrays}
use Rattle.measuring.proofs.Sizes.{build_stopped}
use Rattle.building.proofs.Built.{known, not_taken}
use Rattle.building.proofs.build_of.Goals as goal

pub returns-in_err-needed : goal.returns-in_err-needed
returns-in_err-needed c =
    let a = c.args in
    let p = err_from_is_err_and c.from_residual.result c.from_residual.ensures.1 in
    let down = not_taken a.s a.shape a.text.now _ c.in_err-needed.ensures in
    let stopped = build_stopped a.s a.shape a.text.now (arrays a.lengths.now a.bytes.now a.superblocks.now a.blocks.now) down.1 in
    record { answered = rw (p.1, p.2) (down.0 ∙ sym stopped.0); filled = sym stopped.1 }

pub build_measured-requires : goal.build_measured-requires
build_measured-requires c =
    let k = known c.args.s c.args.shape c.args.text.now c.requires _ c.in_ok-needed.ensures in
    record { text = (c.requires, k.limits, k.text); bytes = k.bytes }
