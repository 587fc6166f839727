use Rattle.std.proofs.Common.{◌≡◌, ◌+◌, ◌-◌, ◌∙◌, length, arith}
use Rattle.phrases.proofs.Standing.{stands_part}
use Rattle.matching.proofs.bytes_stand.Goals as goal

-- the bytes are those of the part from the position on
pub returns : goal.returns
returns c =
    let n : c.args.at.0 + length c.args.firsts.now - c.args.at.0 ≡ length c.args.firsts.now = omega arith in
    let e = rw n at c.eq.ensures in
    e ∙ stands_part c.args.bytes.now c.args.firsts.now c.args.at.0 c.requires
