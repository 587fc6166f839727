-- As many bytes of the piece are read as turns are done, and `found` is the number of the byte among them.
use Rattle.std.proofs.Common.{◌≡◌, ◌+◌, ◌≤◌, take}
use Rattle.base.specs.Lists.{count_of}
use Rattle.block_scan.proofs.Sought.read_piece.Given as goal

abbrev pub invariant-loop : goal.invariant-loop
invariant-loop l =
    (l.read ≡ l.from + l.counter) × (count_of l.self.byte (take l.from l.self.block.now) + l.found ≡ count_of l.self.byte (take l.read l.self.block.now)) × (l.found ≤ l.counter)
