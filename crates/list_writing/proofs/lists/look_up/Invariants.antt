-- The loop's invariant: what the table has for the places passed is written.
use Rattle.std.proofs.Common.{◌≡◌, ℕ, map, get_or, take}
use Rattle.base.specs.Answers.{front}
use Rattle.list_writing.proofs.lists.look_up.Given as goal

abbrev pub invariant-loop-i : goal.invariant-loop-i
invariant-loop-i l = l.ranks ≡ front (take l.i (map (λ (p : ℕ). get_or l.values p 0) (take l.size l.places))) l.initial.ranks
