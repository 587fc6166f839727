-- The loop of `lexicon::entries_pass`: the entries passed are kept, and it is noted whether one of them is not 0.
use Rattle.lexicon.proofs.Entries.{Seen}
use Rattle.lexicon.proofs.entries_pass.Given as goal

abbrev pub invariant-loop-x : goal.invariant-loop-x
invariant-loop-x l = Seen l.table l.x-index l.some
