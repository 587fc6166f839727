-- What measuring is refused by, 16 where the sizes are others, or what building a measured text gives. Assumes nothing.
use Rattle.std.proofs.Common.{sym, ap, ◌∙◌}
use Rattle.std.proofs.lemmas.Result.{err_from_is_err_and}
use Rattle.index.specs.Arrays.{arrays}
use Rattle.measuring.specs.Sizes.{same_sizes}
use Rattle.measuring.proofs.Sizes.{sizes_same, sized_stopped, same_sized_lem, other_sized_lem}
use Rattle.building.proofs.Built.{known, not_taken}
use Rattle.building.proofs.build_sized_of.Goals as goal

pub returns-in_err-measured : goal.returns-in_err-measured
returns-in_err-measured c =
    let a = c.args in
    let p = err_from_is_err_and c.from_residual.result c.from_residual.ensures.1 in
    let down = not_taken a.s a.shape a.text.now _ c.in_err-measured.ensures in
    let stopped = sized_stopped a.s a.shape a.text.now (arrays a.lengths.now a.bytes.now a.superblocks.now a.blocks.now) a.sizes down.1 in
    record { answered = rw (p.1, p.2) (down.0 ∙ sym stopped.0); filled = sym stopped.1 }

pub returns-then-not-same_sizes : goal.returns-then-not-same_sizes
returns-then-not-same_sizes c =
    let a = c.args in
    let k = known a.s a.shape a.text.now c.requires _ c.in_ok-measured.ensures in
    let other = other_sized_lem a.s a.shape a.text.now (arrays a.lengths.now a.bytes.now a.superblocks.now a.blocks.now) a.sizes k.taken
    (ap (same_sizes a.sizes) (sym k.sizes_are) ∙ sym c.same_sizes.ensures ∙ c.if-not-same_sizes.true) in
    record { answered = rw c.into.ensures (sym other.0); filled = sym other.1 }

pub build_measured-requires : goal.build_measured-requires
build_measured-requires c =
    let k = known c.args.s c.args.shape c.args.text.now c.requires _ c.in_ok-measured.ensures in
    record { text = (c.requires, k.limits, k.text); bytes = k.bytes }

pub returns : goal.returns
returns c =
    let a = c.args in
    let k = known a.s a.shape a.text.now c.requires _ c.in_ok-measured.ensures in
    let same = same_sized_lem a.s a.shape a.text.now (arrays a.lengths.now a.bytes.now a.superblocks.now a.blocks.now) a.sizes
    (sizes_same _ _ (sym c.same_sizes.ensures ∙ c.if-not-same_sizes.false) ∙ k.sizes_are) in
    record { answered = c.build_measured.ensures.answered ∙ sym same.0; filled = c.build_measured.ensures.filled ∙ sym same.1 }
