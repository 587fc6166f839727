-- the loop's invariant: the bytes passed are written
use Rattle.std.proofs.Common.{take}
use Rattle.formatting.specs.Characters.{bytes_text}
use Rattle.formatting.specs.Writing.{Wrote}
use Rattle.formatting.proofs.write_bytes.Given as goal

abbrev pub invariant-loop-byte : goal.invariant-loop-byte
invariant-loop-byte l = Wrote (bytes_text (take l.byte-index l.bytes)) l.at l.initial.output l.next l.output
