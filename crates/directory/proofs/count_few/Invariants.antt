-- `found` is the count of the bytes passed.
use Rattle.std.proofs.Common.{◌≡◌, ◌≤◌, take}
use Rattle.base.specs.Lists.{count_of}
use Rattle.directory.proofs.count_few.Given as goal

abbrev pub invariant-loop-here : goal.invariant-loop-here
invariant-loop-here l = (l.found ≡ count_of l.byte (take l.here-index l.part)) × (l.found ≤ l.here-index)
