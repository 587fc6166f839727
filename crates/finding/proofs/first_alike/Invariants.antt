-- The loop's invariant: no word passed is spelled alike.
use Rattle.std.proofs.Common.{◌≡◌, ℕ, ◌<◌, false, [], get_or}
use Rattle.base.specs.Lists.{same}
use Rattle.hashing.proofs.Parts.{WordsBefore}
use Rattle.hashing.specs.Parts.{words_of}
use Rattle.scanning.specs.Scans.{run_at, WordBegins}
use Rattle.finding.proofs.first_alike.Given as goal

abbrev pub invariant-loop-rank : goal.invariant-loop-rank
invariant-loop-rank l =
    WordBegins l.list.letters.table.now l.list.bytes.now l.at
    × WordsBefore l.list.letters.table.now l.list.bytes.now l.at l.rank
    × ((q : ℕ) → q < l.rank → same (run_at l.list.letters.table.now l.spelling 0) (get_or (words_of l.list) q []) ≡ false)
