-- The loop's invariant: the letters passed are written, and what is left of the word begins at the next position.
use Rattle.std.proofs.Common.{◌≡◌, ◌+◌, ◌-◌, ◌≤◌, length, take, drop}
use Rattle.base.specs.Answers.{written}
use Rattle.scanning.specs.Scans.{letter_at, run_at}
use Rattle.list_writing.proofs.lists.write_spelling.Given as goal

abbrev pub invariant-loop-letter : goal.invariant-loop-letter
invariant-loop-letter l =
    (l.i ≤ length (run_at l.letters.table.now l.text l.start))
    × (drop l.i (run_at l.letters.table.now l.text l.start) ≡ run_at l.letters.table.now l.text (l.start + l.i))
    × (l.letter ≡ letter_at l.letters.table.now l.text (l.start + l.i))
    × (l.list ≡ written (take l.i (run_at l.letters.table.now l.text l.start)) l.at l.initial.list)

abbrev pub decreases-loop-letter : goal.decreases-loop-letter
decreases-loop-letter l = length (run_at l.letters.table.now l.text l.start) - l.i
