-- The row that is found has at most j, and the one after it more or is none.
use Rattle.std.proofs.Common.{◌≡◌, suc, ◌-◌, arith}
use Rattle.directory.proofs.last_row.Goals as goal

pub loop-high-init : goal.loop-high-init
loop-high-init g c = (omega arith, omega arith, omega arith, c.requires.most, λ h. absurd (omega arith))

pub loop-high-preserved-then-number_at-j : goal.loop-high-preserved-then-number_at-j
loop-high-preserved-then-number_at-j g c =
    let l = c.loop-high.invariant in
    (omega arith, omega arith, omega arith, λ d. omega (arith, c.number_at.ensures d), l.4)

pub loop-high-preserved : goal.loop-high-preserved
loop-high-preserved g c =
    let l = c.loop-high.invariant in
    (omega arith, omega arith, omega arith, l.3, λ h d. omega (arith, c.number_at.ensures d))

pub loop-row-init : goal.loop-row-init
loop-row-init g c = λ r e d. let q : r ≡ c.loop-high.low = omega arith in rw q (c.loop-high.invariant.3 d)

pub returns-then-j-number_at : goal.returns-then-j-number_at
returns-then-j-number_at g c = λ d.
    let row = c.loop-row.row in
    let e : suc (row - 1) ≡ row = omega arith in
    record {
      from = omega arith;
      inside = omega arith;
      most = c.loop-row.invariant (row - 1) (omega arith) d;
      more = λ h. rw e (omega (arith, c.number_at-in-loop-row.ensures d));
    }

pub loop-row-preserved : goal.loop-row-preserved
loop-row-preserved g c = λ r e d. let q : r ≡ c.loop-row.row = omega arith in rw q (omega (arith, c.number_at-in-loop-row.ensures d))

pub returns : goal.returns
returns g c = λ d.
    let high = c.loop-high.high in
    let e : suc (high - 1) ≡ high = omega arith in
    record {
      from = omega arith;
      inside = omega arith;
      most = c.loop-row.invariant (high - 1) (omega arith) d;
      more = λ h. rw e (c.loop-high.invariant.4 (omega arith) d);
    }
