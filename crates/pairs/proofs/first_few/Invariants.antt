-- As many indexes are tried as turns are done, and `left` counts the others.
use Rattle.std.proofs.Common.{◌≡◌, ◌+◌, length}
use Rattle.pairs.proofs.Pairs.{Tried}
use Rattle.pairs.proofs.first_few.Given as goal

abbrev pub invariant-loop-h : goal.invariant-loop-h
invariant-loop-h l = (l.count ≡ length l.here) × (l.left + length l.yielded ≡ l.count) × Tried l.x l.y l.here l.there (length l.yielded) l.most
