-- `dense::encode`, by the length of the codeword.
use Rattle.std.proofs.Common.{◌≡◌, ◌+◌, ◌-◌, ◌*◌, ◌/◌, ◌<◌, sym, ap, ◌∙◌, arith}
use Rattle.dense.specs.Code.{continuing, code}
use Rattle.dense.proofs.Codewords.{some_continuing, code_one, code_two, code_three}
use Rattle.dense.proofs.Numbers.{div_below}
use Rattle.dense.proofs.encode.Goals as goal

pub returns-then-rank-s : goal.returns-then-rank-s
returns-then-rank-s c = (sym (code_one _ _ c.if-rank-s.true), omega arith)

pub returns-then-x-s : goal.returns-then-x-s
returns-then-x-s c =
    let e : c.args.s + (c.args.rank - c.args.s) ≡ c.args.rank = omega arith in
    (sym (code_two c.args.s (c.args.rank - c.args.s) c.if-x-s.true) ∙ ap (code c.args.s) e, omega arith)

pub overflow_cast-result-2 : goal.overflow_cast-result-2
overflow_cast-result-2 c =
    let s = c.args.s in
    let y = c.args.rank - s - s * continuing s in
    let below : y < s * (continuing s * continuing s) = omega (arith, c.requires.1) in
    omega (arith, div_below (continuing s) (continuing s) (y / s) (some_continuing s c.requires.0) (div_below s (continuing s * continuing s) y c.requires.0.least below), c.requires.0.least)

pub returns : goal.returns
returns c =
    let s = c.args.s in
    let y = c.args.rank - s - s * continuing s in
    let e : s + s * continuing s + y ≡ c.args.rank = omega arith in
    (sym (code_three s y) ∙ ap (code s) e, omega arith)
