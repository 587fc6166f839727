-- The loop's invariant: the words agree in the letters passed.
use Rattle.std.proofs.Common.{◌≡◌, ◌+◌, ◌-◌, ◌≤◌, length}
use Rattle.base.specs.Lists.{same}
use Rattle.scanning.specs.Scans.{run_at}
use Rattle.scanning.proofs.Letters.same_word.Given as goal

abbrev pub invariant-loop-start : goal.invariant-loop-start
invariant-loop-start l =
    (l.start + l.i ≤ length l.text)
    × (l.at + l.i ≤ length l.list)
    × (same (run_at l.self.table.now l.text l.start) (run_at l.self.table.now l.list l.at)
    ≡ same (run_at l.self.table.now l.text (l.start + l.i)) (run_at l.self.table.now l.list (l.at + l.i)))

abbrev pub decreases-loop-start : goal.decreases-loop-start
decreases-loop-start l = length l.text - (l.start + l.i)
