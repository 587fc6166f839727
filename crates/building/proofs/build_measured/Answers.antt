-- The slices decide. Assumes nothing.
use Rattle.std.proofs.Common.{sym, ◌∙◌}
use Rattle.index.specs.Arrays.{arrays}
use Rattle.building.proofs.Built.{bytes_tested, short_built, long_buildable, long_built}
use Rattle.building.proofs.build_measured.Goals as goal

pub too_short-requires : goal.too_short-requires
too_short-requires c =
    let r = c.requires.text in
    (r.0, r.1, bytes_tested c.args.s r.0 c.args.shape r.1 c.args.text.now r.2 c.args.needed c.requires.bytes)

pub returns-then-too_short : goal.returns-then-too_short
returns-then-too_short c =
    let a = c.args in
    let r = c.requires.text in
    let short = short_built a.s r.0 a.shape r.1 a.text.now r.2 a.needed c.requires.bytes (arrays a.lengths.now a.bytes.now a.superblocks.now a.blocks.now) (sym c.too_short.ensures ∙ c.if-too_short.true) in
    record { answered = rw c.into.ensures short.0; filled = short.1 }

pub write_index-requires : goal.write_index-requires
write_index-requires c =
    let a = c.args in
    let r = c.requires.text in
    (long_buildable a.s r.0 a.shape r.1 a.text.now r.2 a.needed c.requires.bytes (arrays a.lengths.now a.bytes.now a.superblocks.now a.blocks.now) (sym c.too_short.ensures ∙ c.if-too_short.false), c.requires.bytes)

pub returns : goal.returns
returns c =
    let a = c.args in
    let r = c.requires.text in
    let built = long_built a.s r.0 a.shape r.1 a.text.now r.2 a.needed c.requires.bytes (arrays a.lengths.now a.bytes.now a.superblocks.now a.blocks.now) _ c.write_index.ensures (sym c.too_short.ensures ∙ c.if-too_short.false) in
    record { answered = built.0; filled = built.1 }
