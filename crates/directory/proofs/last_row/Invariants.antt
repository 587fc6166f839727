-- Row low has at most j, and row high, where it is before end, has more; then the row before the one looked at has at most j.
use Rattle.std.proofs.Common.{ℕ, ◌≡◌, ◌+◌, ◌-◌, ◌*◌, ◌≤◌, ◌<◌, get_or}
use Rattle.directory.proofs.last_row.Given as goal

abbrev pub invariant-loop-high : goal.invariant-loop-high
invariant-loop-high g l =
    (l.first ≤ l.low) × (l.low < l.high) × (l.high ≤ l.end)
    × ((d : g.row.N.Denot) → g.N.Number.value (get_or l.rows (l.low * 256 + l.byte) d) ≤ l.j)
    × (l.high < l.end → (d : g.row.N.Denot) → l.j < g.N.Number.value (get_or l.rows (l.high * 256 + l.byte) d))

abbrev pub decreases-loop-high : goal.decreases-loop-high
decreases-loop-high g l = l.high - l.low

abbrev pub invariant-loop-row : goal.invariant-loop-row
invariant-loop-row g l = (r : ℕ) → r + 1 ≡ l.row → (d : g.row.N.Denot) → g.N.Number.value (get_or l.rows (r * 256 + l.byte) d) ≤ l.j
