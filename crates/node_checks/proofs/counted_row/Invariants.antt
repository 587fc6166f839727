-- The loop's invariant: the counts passed are those of the part.
use Rattle.std.proofs.Common.{◌≡◌, ℕ, ◌-◌, ◌<◌, length, get_or, take, drop}
use Rattle.base.specs.Lists.{count_of}
use Rattle.node_checks.proofs.counted_row.Given as goal

abbrev pub invariant-loop-value : goal.invariant-loop-value
invariant-loop-value l =
    (length l.counts ≡ 256)
    × ((j : ℕ) → j < l.value → get_or l.counts j 0 ≡ count_of j (take (l.end - l.start) (drop l.start l.counted.bytes.now)))
