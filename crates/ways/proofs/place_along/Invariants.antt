-- Each step finds the position of the place in its node.
use Rattle.ways.specs.Ways.{step_of}
use Rattle.ways.proofs.Ways.{Climbed}
use Rattle.ways.proofs.place_along.Given as goal

abbrev pub invariant-loop-i : goal.invariant-loop-i
invariant-loop-i l = Climbed l.text l.fn.rank l.fn.j (step_of l.way l.i).node l.at.0
