use Rattle.std.proofs.Common.{◌≡◌, take}
use Rattle.base.specs.Answers.{front}
use Rattle.matching.specs.Searching.{first_bytes}
use Rattle.matching.proofs.first_bytes.Given as goal

-- the table has in front the first bytes of the words before i
abbrev pub invariant-loop-i : goal.invariant-loop-i
invariant-loop-i l = l.table ≡ front (take l.i (first_bytes l.s l.words)) l.initial.table
