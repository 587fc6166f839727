-- The loop's invariant: the list of the words passed is written.
use Rattle.std.proofs.Common.{◌≡◌, length, take}
use Rattle.base.specs.Answers.{front}
use Rattle.list_calls.specs.Making.{list_of, made_words}
use Rattle.list_writing.proofs.lists.write_list.Given as goal

abbrev pub invariant-loop-rank : goal.invariant-loop-rank
invariant-loop-rank l =
    (l.at ≡ length (list_of (take l.rank (made_words l.letters.table.now l.text))))
    × (l.list ≡ front (list_of (take l.rank (made_words l.letters.table.now l.text))) l.initial.list)
