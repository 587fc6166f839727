-- The loop's invariant: the words passed are in the hash table, and the buckets of the others are noted.
use Rattle.hashing.specs.HashTables.{Buckets, Chains}
use Rattle.hashing.proofs.making.chain.Given as goal

abbrev pub invariant-loop-word : goal.invariant-loop-word
invariant-loop-word l =
    Buckets l.letters.table.now l.list l.from l.word l.links
    × Chains l.letters.table.now l.list l.from l.count l.word l.heads l.links
