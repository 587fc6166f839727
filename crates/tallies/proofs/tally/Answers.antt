-- One byte more is counted, in one of its two lanes.
use Rattle.std.proofs.Common.{ℕ, ◌≡◌, ◌+◌, ◌*◌, ◌%◌, ◌≤◌, ◌<◌, List, [], ◌∷◌, get_or, take, ap, sym, refl, ◌∙◌, inl, inr, ◌⊎◌, add-one, arith}
use lib.ListN.{length-set}
use lib.Seq.{take-suc}
use Rattle.base.proofs.Tests.{below_or_not}
use Rattle.base.proofs.Counts.{count_take_less}
use Rattle.directory.specs.Counters.{row}
use Rattle.directory.proofs.Rows.{row_at}
use Rattle.tallies.specs.Tallies.{sums, counters}
use Rattle.tallies.proofs.Sums.{below_at, sums_length, sums_at, sums_row, sums_none, counters_length, counters_up, lane_most}
use Rattle.tallies.proofs.tally.Goals as goal

-- the index is one of the two lanes of the byte
lane : (i x : ℕ) → (i % 2 * 256 + x ≡ x) ⊎ (i % 2 * 256 + x ≡ 256 + x)
lane i x = go (below_or_not (i % 2) 1)
  where
    go : (i % 2 < 1) ⊎ (1 ≤ i % 2) → (i % 2 * 256 + x ≡ x) ⊎ (i % 2 * 256 + x ≡ 256 + x)
    go (inl h) = inl (omega arith)
    go (inr h) = inr (omega arith)

pub loop-i-init : goal.loop-i-init
loop-i-init c = (c.requires.0, sums_none (counters c.args.lanes.now) (counters_length c.args.lanes.now))

pub overflow_add-lanes : goal.overflow_add-lanes
overflow_add-lanes c =
    let l = c.loop-i in
    let part = c.args.part.now in
    let cs = counters c.args.lanes.now in
    let x = get_or part l.i 0 in
    let b : x < 256 = omega (arith, c.type_inv.part l.i) in
    let e : c.from.result ≡ x = omega arith in
    rw e (omega (
      arith,
      lane_most l.lanes (l.i % 2 * 256 + x) x b (lane l.i x),
      ap (λ (t : List ℕ). get_or t x 0) l.invariant.1,
      sums_at cs (row (take l.i part)) x b,
      row_at (take l.i part) x b,
      below_at 65536 (sums cs (row part)) c.requires.1 (sums_length cs (row part)) x b,
      sums_at cs (row part) x b,
      row_at part x b,
      count_take_less x part l.i c.loop-i-test.true refl,
    ))

pub loop-i-preserved : goal.loop-i-preserved
loop-i-preserved c =
    let l = c.loop-i in
    let part = c.args.part.now in
    let cs = counters c.args.lanes.now in
    let x = get_or part l.i 0 in
    let k = l.i % 2 * 256 + x in
    let b : x < 256 = omega (arith, c.type_inv.part l.i) in
    let e : c.from.result ≡ x = omega arith in
    rw e (
      length-set l.lanes k (get_or l.lanes k 0 + 1) ∙ l.invariant.0,
      counters_up l.lanes k x l.invariant.0 b (lane l.i x) ∙ ap (λ (t : List ℕ). sums t (row (x ∷ []))) l.invariant.1 ∙ sums_row cs (take l.i part) (x ∷ [])
          ∙ ap (λ (t : List ℕ). sums cs (row t)) (sym (ap (λ (n : ℕ). take n part) (add-one l.i) ∙ take-suc part l.i 0 c.loop-i-test.true)),
    )
