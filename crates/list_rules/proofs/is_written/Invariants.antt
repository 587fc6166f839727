-- The loop's invariant: the bytes left, and whether a word is begun before them, decide.
use Rattle.std.proofs.Common.{◌≡◌, drop}
use Rattle.lexicon.specs.Lexicon.{is_written}
use Rattle.list_rules.proofs.Written.{written_after}
use Rattle.list_rules.proofs.is_written.Given as goal

abbrev pub invariant-loop-byte : goal.invariant-loop-byte
invariant-loop-byte l = is_written l.letters.table.now l.list ≡ written_after l.letters.table.now l.begun (drop l.byte-index l.list)
