-- The piece that is found begins before the occurrence or at it, and ends behind it.
use Rattle.std.proofs.Common.{ℕ, ◌≡◌, ◌+◌, ◌-◌, take, arith}
use Rattle.base.specs.Lists.{count_of}
use Rattle.base.proofs.Counts.{count_part, nth_found}
use Rattle.block_scan.proofs.BlockScans.{not-past-one}
use Rattle.directory.proofs.Pieces.{nth_before}
use Rattle.directory.proofs.piece_in.Goals as goal
use Rattle.directory.proofs.piece_in.Goals.{After-count_few}

-- with the piece from i the count is that of the bytes before the stop
counted : (c : After-count_few) → let a = c.args in let i = c.loop-i.i in count_of a.byte (take i a.part.now) + c.count_few.result ≡ count_of a.byte (take (i + 64) a.part.now)
counted c =
    let a = c.args in
    let i : ℕ = c.loop-i.i in
    let e : i + (i + 64 - i) ≡ i + 64 = omega arith in
    rw (c.count_few.ensures, ← count_part a.byte i (i + 64 - i) a.part.now, e)

pub returns-then-left-found : goal.returns-then-left-found
returns-then-left-found c =
    let a = c.args in
    let l = c.loop-i in (
      not-past-one a.byte a.rest l.i a.part.now l.invariant.0 (omega (arith, l.invariant.1)),
      nth_before a.byte a.rest (l.i + 64) a.part.now (omega (arith, counted (goal.at.returns-then-left-found c).After-count_few, l.invariant.1)),
    )

pub loop-i-preserved : goal.loop-i-preserved
loop-i-preserved c = (omega arith, omega (arith, counted (goal.at.loop-i-preserved c).After-count_few))

pub returns : goal.returns
returns c =
    let a = c.args in
    let l = c.loop-i in (
      not-past-one a.byte a.rest l.i a.part.now l.invariant.0 (omega (arith, l.invariant.1)),
      omega (arith, (nth_found a.byte a.rest a.part.now c.requires).inside),
    )
