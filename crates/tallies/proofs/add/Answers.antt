-- One sum more is written over its total.
use Rattle.std.proofs.Common.{ℕ, ◌≡◌, ◌+◌, ◌<◌, List, ◌++◌, length, get_or, set, drop, ap, ◌∙◌, arith}
use mathlib.Core.List.{append-nil}
use lib.ListN.{drop_of_length-le}
use lib.Seq.{take_all}
use Rattle.tallies.specs.Tallies.{sums, counters}
use Rattle.tallies.proofs.Sums.{below_at, sums_length, sums_at, counters_at, counter_fits}
use Rattle.tallies.proofs.Tables.{Put, put_left, put_next, put_end}
use Rattle.tallies.proofs.add.Goals as goal

module _ (before lanes : List ℕ) (long : length before ≡ 256) {totals : List ℕ} {x : ℕ} (h : x < 256) (p : Put before 0 (sums before (counters lanes)) 0 totals x) where
  -- total x is as it was, and with the two lanes of its counter it is sum x
  total : get_or totals x 0 + (get_or lanes x 0 + get_or lanes (256 + x) 0) ≡ get_or (sums before (counters lanes)) x 0
  total =
      let z : 0 + x ≡ x = omega arith in
      let e : get_or totals x 0 ≡ get_or before x 0 = rw z at (put_left before 0 (sums before (counters lanes)) (omega arith) (sums_length before (counters lanes)) p h) in
      omega (arith, sums_at before (counters lanes) x h, counters_at lanes x h)

  -- and is written
  written : (y : ℕ) → y ≡ get_or lanes x 0 + get_or lanes (256 + x) 0 → Put before 0 (sums before (counters lanes)) 0 (set totals x (get_or totals x 0 + y)) (x + 1)
  written y e =
      let z : 0 + x ≡ x = omega arith in
      rw z at (put_next before 0 (sums before (counters lanes)) (omega arith) (sums_length before (counters lanes)) p (get_or totals x 0 + y) (omega (arith, total)) h)

pub overflow_add-lanes : goal.overflow_add-lanes
overflow_add-lanes c = omega (arith, counter_fits c.args.lanes.now c.requires.1 c.loop-x.x (omega arith))

pub overflow_add-total : goal.overflow_add-total
overflow_add-total c =
    let a = c.args in
    let l = c.loop-x in
    let below : l.x < 256 = omega arith in
    omega (
      arith,
      total a.totals.now a.lanes.now c.requires.0 below l.invariant,
      below_at 4294967296 (sums a.totals.now (counters a.lanes.now)) c.requires.2 (sums_length a.totals.now (counters a.lanes.now)) l.x below,
    )

pub loop-x-preserved : goal.loop-x-preserved
loop-x-preserved c =
    let a = c.args in
    written a.totals.now a.lanes.now c.requires.0 (omega arith) c.loop-x.invariant c.from.result (omega arith)

pub returns : goal.returns
returns c =
    let a = c.args in
    let sum = sums a.totals.now (counters a.lanes.now) in
    put_end a.totals.now 0 sum c.loop-x.invariant (omega arith)
    ∙ ap (λ (t : List ℕ). t ++ drop 256 a.totals.now) (take_all 256 sum (omega (arith, sums_length a.totals.now (counters a.lanes.now))))
    ∙ ap (λ (t : List ℕ). sum ++ t) (drop_of_length-le a.totals.now {i = 256} (omega arith)) ∙ append-nil sum
