-- No hit has its anchor before the position.
use Rattle.std.proofs.Common.{◌-◌, ◌≡◌, ℕ, ◌+◌, ◌≤◌, ◌<◌, false}
use Rattle.hits.specs.Queries.{is_hit}
use Rattle.hits.proofs.hit_in_part.Given as goal

abbrev pub invariant-loop-at : goal.invariant-loop-at
invariant-loop-at l = record {
  onward : l.fn.from ≤ l.at;
  clear : (p : ℕ) → l.fn.from ≤ p + l.anchor → p + l.anchor < l.at → is_hit l.query p ≡ false;
}

abbrev pub decreases-loop-at : goal.decreases-loop-at
decreases-loop-at l = l.to - l.at
