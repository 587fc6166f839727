-- The loop's invariant: the first word from here on begins where the one asked for does.
use Rattle.std.proofs.Common.{◌≡◌}
use Rattle.scanning.specs.Scans.{start_from}
use Rattle.scanning.proofs.Letters.word_start.Given as goal

abbrev pub invariant-loop-start : goal.invariant-loop-start
invariant-loop-start l = start_from l.self.table.now l.text l.at ≡ start_from l.self.table.now l.text l.start
