-- The loop's invariant: the first word of the part that is alike, from the first one given on, is the first from here on.
use Rattle.std.proofs.Common.{◌≡◌, ◌-◌, ◌≤◌, ◌<◌}
use Rattle.hashing.proofs.HashTables.{chain_left}
use Rattle.hashing.specs.HashTables.{spelled_at, index_from}
use Rattle.scanning.specs.Scans.{run_at, bucket_of}
use Rattle.hashing.proofs.chain.find_from.Given as goal

abbrev pub invariant-loop-word : goal.invariant-loop-word
invariant-loop-word l =
    (l.word ≤ l.count)
    × (index_from l.letters.table.now l.list l.from l.count (run_at l.letters.table.now l.text l.at) l.word
    ≡ index_from l.letters.table.now l.list l.from l.count (run_at l.letters.table.now l.text l.at) l.first)
    × (0 < l.word → bucket_of (spelled_at l.letters.table.now l.list l.from (l.word - 1)) ≡ bucket_of (run_at l.letters.table.now l.text l.at))

abbrev pub decreases-loop-word : goal.decreases-loop-word
decreases-loop-word l = chain_left l.count l.word
