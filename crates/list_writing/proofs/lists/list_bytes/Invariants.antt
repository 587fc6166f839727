-- The loop's invariant: the bytes are those of the list of the words passed.
use Rattle.std.proofs.Common.{◌≡◌, length, take}
use Rattle.list_calls.specs.Making.{list_of, made_words}
use Rattle.list_writing.proofs.lists.list_bytes.Given as goal

abbrev pub invariant-loop-rank : goal.invariant-loop-rank
invariant-loop-rank l = l.bytes ≡ length (list_of (take l.rank (made_words l.letters.table.now l.text)))
