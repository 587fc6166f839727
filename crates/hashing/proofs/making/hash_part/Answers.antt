-- `hashing::making::hash_part` meets its contract: an empty hash table, the starts and the buckets of the words, and the words in their buckets. Assumes nothing.
use Rattle.std.proofs.Common.{◌≡◌, ◌<◌, length, refl, arith}
use Rattle.hashing.proofs.HashTables.{chains_none}
use Rattle.scanning.specs.Scans.{buckets}
use Rattle.hashing.proofs.making.hash_part.Goals as goal

pub chain-requires : goal.chain-requires
chain-requires c =
    let noted = c.note_starts-behind.ensures in
    let few : length c.fill.new.self ≡ buckets = omega (arith, c.fill.ensures.len, c.requires.3.heads_long) in (
      c.requires.1,
      noted.1,
      chains_none c.args.letters.now.table.now c.args.list.now c.args.from c.args.count _ _ few
          (λ b (h : b < buckets). c.fill.ensures.clones b 0 (omega arith) refl)
          noted.1.long,
    )
