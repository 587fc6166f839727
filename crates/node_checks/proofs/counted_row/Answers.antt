-- A value stands in the part as often as below its end and not below its start. Assumes nothing.
use Rattle.std.proofs.Common.{ℕ, List, ◌+◌, ◌-◌, ◌<◌, ◌≤◌, ◌≡◌, length, get_or, set, take, drop, ap, ◌∙◌, length-set, arith}
use Rattle.base.specs.Lists.{count_of}
use Rattle.base.proofs.Counts.{count_part, count_take_most}
use Rattle.base.proofs.Fronts.{set_below}
use Rattle.base.proofs.Ranges.{map_range_is}
use Rattle.directory.specs.Counters.{row}
use Rattle.node_checks.proofs.counted_row.Goals as goal
use Rattle.node_checks.proofs.counted_row.Goals.{After-count_below-below}

-- the numbers below an end and below a start differ by that in the part between them
part : (bytes : List ℕ) (start end e before below : ℕ) → start ≤ end → before ≡ count_of e (take start bytes) → below ≡ count_of e (take end bytes)
    → below ≡ before + count_of e (take (end - start) (drop start bytes))
part bytes start end e before below h p q =
    let z : end ≡ start + (end - start) = omega arith in
    omega (arith, ap (λ n. count_of e (take n bytes)) z, count_part e start (end - start) bytes)

-- with their difference the counts are those of one value more
more : (c : After-count_below-below) → let a = c.args in let l = c.loop-value in
    let counts = set l.counts l.value (c.count_below-below.result - c.count_below-before.result) in
    (length counts ≡ 256) × ((j : ℕ) → j < l.value + 1 → get_or counts j 0 ≡ count_of j (take (a.end - a.start) (drop a.start a.counted.now.bytes.now)))
more c =
    let a = c.args in
    let l = c.loop-value in
    let difference = c.count_below-below.result - c.count_below-before.result in
    let is = part a.counted.now.bytes.now a.start a.end l.value _ _ c.requires.0 c.count_below-before.ensures c.count_below-below.ensures in (
      length-set l.counts l.value difference ∙ l.invariant.0,
      set_below (λ j. count_of j (take (a.end - a.start) (drop a.start a.counted.now.bytes.now))) l.counts l.value difference (omega arith) (omega (arith, is)) l.invariant.1,
    )

pub overflow_sub-counts : goal.overflow_sub-counts
overflow_sub-counts c =
    omega (arith, part c.args.counted.now.bytes.now c.args.start c.args.end c.loop-value.value _ _ c.requires.0 c.count_below-before.ensures c.count_below-below.ensures)

pub overflow_cast-counts : goal.overflow_cast-counts
overflow_cast-counts c =
    omega (arith, c.count_below-below.ensures, count_take_most c.loop-value.value c.args.end c.args.counted.now.bytes.now, c.args.counted.now.sizes.bytes_most, c.requires.1)

pub loop-value-preserved : goal.loop-value-preserved
loop-value-preserved c = more ((goal.at.loop-value-preserved c).After-count_below-below)

pub returns : goal.returns
unfolding row
returns c =
    let a = c.args in
    let counted = c.loop-value.invariant in
    map_range_is 0 _ (λ j. count_of j (take (a.end - a.start) (drop a.start a.counted.now.bytes.now))) 256 counted.0 (λ j h. counted.1 j (omega arith))
