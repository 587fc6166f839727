-- The first pair of a piece is the first of all, where there is none before the piece. Assumes nothing.
use Rattle.std.proofs.Common.{◌+◌, ◌-◌, length, arith}
use Rattle.pairs.proofs.Pairs.{pair_most, pair_part}
use Rattle.pairs.proofs.next_pair.Goals as goal

pub returns-then-at-stop : goal.returns-then-at-stop
returns-then-at-stop c =
    let a = c.args in
    let l = c.loop-i in
    omega (arith, c.first_few.ensures, pair_part a.x a.y l.i (l.i + 128 - l.i) a.here.now a.there.now l.invariant.1)

pub loop-i-preserved : goal.loop-i-preserved
loop-i-preserved c =
    let a = c.args in
    let l = c.loop-i in
    (omega arith, omega (arith, c.first_few.ensures, pair_part a.x a.y l.i (l.i + 128 - l.i) a.here.now a.there.now l.invariant.1))

pub returns : goal.returns
returns c =
    let a = c.args in
    let l = c.loop-i in
    let e = rw (← c.requires) at c.first_few-2.ensures in
    omega (arith, e, pair_part a.x a.y l.i (length a.here.now - l.i) a.here.now a.there.now l.invariant.1, pair_most a.x a.y a.here.now a.there.now)
