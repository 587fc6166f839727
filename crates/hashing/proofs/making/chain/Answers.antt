-- `hashing::making::chain` meets its contract. Assumes nothing.
use Rattle.std.proofs.Common.{◌≡◌, ◌+◌, ◌-◌, ◌<◌, arith}
use Rattle.hashing.proofs.HashTables.{bucket_below, chains_more, buckets_less}
use Rattle.hashing.specs.HashTables.{spelled_at}
use Rattle.hashing.proofs.making.chain.Goals as goal

pub bounds-heads-bucket : goal.bounds-heads-bucket
bounds-heads-bucket c =
    omega (
      arith,
      c.loop-word.invariant.1.heads_long,
      c.loop-word.invariant.0.bucket (c.loop-word.word - 1) (omega arith),
      bucket_below (spelled_at c.args.letters.now.table.now c.args.list.now c.args.from (c.loop-word.word - 1)),
    )

pub bounds-heads-bucket-in-loop-word : goal.bounds-heads-bucket-in-loop-word
bounds-heads-bucket-in-loop-word c =
    omega (
      arith,
      c.loop-word.invariant.1.heads_long,
      c.loop-word.invariant.0.bucket (c.loop-word.word - 1) (omega arith),
      bucket_below (spelled_at c.args.letters.now.table.now c.args.list.now c.args.from (c.loop-word.word - 1)),
    )

pub loop-word-preserved : goal.loop-word-preserved
loop-word-preserved c =
    let table = c.args.letters.now.table.now in
    let list = c.args.list.now in
    let loop = c.loop-word in
    let h : 0 < loop.word = omega arith in
    let e : loop.word - 1 + 1 ≡ loop.word = omega arith in (
      buckets_less table list c.args.from loop.word loop.links _ loop.invariant.0 h,
      rw e (chains_more table list c.args.from c.args.count loop.word loop.heads loop.links _ loop.invariant.1 h (omega arith) c.requires.0
          (loop.invariant.0.bucket (loop.word - 1) (omega arith))),
    )
