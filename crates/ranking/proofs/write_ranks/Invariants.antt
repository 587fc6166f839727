-- The loop's invariant: the ranks of the words that are in the parts passed are written.
use Rattle.std.proofs.Common.{◌-◌, ◌≤◌}
use Rattle.hashing.proofs.Parts.{WordsBefore}
use Rattle.hashing.specs.HashTables.{Room}
use Rattle.hashing.specs.Parts.{words_of}
use Rattle.lexicon.specs.Reading.{text_words}
use Rattle.ranking.proofs.Ranks.{RanksTo}
use Rattle.scanning.specs.Scans.{WordBegins}
use Rattle.ranking.proofs.write_ranks.Given as goal

abbrev pub invariant-loop-first : goal.invariant-loop-first
invariant-loop-first l =
    (l.first ≤ l.list.size)
    × WordBegins l.list.letters.table.now l.list.bytes.now l.from
    × WordsBefore l.list.letters.table.now l.list.bytes.now l.from l.first
    × RanksTo (words_of l.list) (text_words l.list.letters.table.now l.text) l.first l.initial.ranks l.ranks
    × Room l.heads l.links l.starts

abbrev pub decreases-loop-first : goal.decreases-loop-first
decreases-loop-first l = l.list.size - l.first
