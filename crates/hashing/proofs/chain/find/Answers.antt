-- `hashing::chain::find` meets its contract: the look-up along the bucket, from its first word on. Assumes nothing.
use Rattle.std.proofs.Common.{◌-◌, ◌<◌, get_or, ◌∙◌, ap, arith}
use Rattle.hashing.proofs.HashTables.{bucket_below, next_in_most, next_in_bucket, index_first}
use Rattle.hashing.specs.HashTables.{index_from}
use Rattle.scanning.specs.Scans.{run_at, buckets}
use Rattle.hashing.proofs.chain.find.Goals as goal

pub offset_bounds-heads-bucket : goal.offset_bounds-heads-bucket
offset_bounds-heads-bucket c = omega (arith, c.requires.2, bucket_below (run_at c.args.letters.now.table.now c.args.text.now c.args.at))

pub bounds-heads-bucket : goal.bounds-heads-bucket
bounds-heads-bucket c =
    omega (arith, c.requires.0.chained.heads_long, c.requires.2, bucket_below (run_at c.args.letters.now.table.now c.args.text.now c.args.at))

pub find_from-requires : goal.find_from-requires
find_from-requires c =
    let a = c.args in
    let table = a.letters.now.table.now in
    let list = a.list.now in
    let h = c.requires.0 in
    let inside : a.bucket < buckets = omega (arith, c.requires.2, bucket_below (run_at table a.text.now a.at)) in
    let e = h.chained.head a.bucket inside in (
      h.few,
      h.begun,
      h.chained.linked,
      c.requires.1,
      omega (arith, e, next_in_most table list a.from a.count a.bucket 0 (omega arith)),
      λ (n : 0 < get_or a.heads.now a.bucket 0).
          next_in_bucket table list a.from a.count a.bucket 0 (get_or a.heads.now a.bucket 0 - 1) (omega (arith, e, n)) ∙ c.requires.2,
    )

pub returns : goal.returns
returns c =
    let a = c.args in
    let table = a.letters.now.table.now in
    let list = a.list.now in
    let w = run_at table a.text.now a.at in
    let inside : a.bucket < buckets = omega (arith, c.requires.2, bucket_below w) in
    c.find_from.ensures ∙ ap (index_from table list a.from a.count w) (c.requires.0.chained.head a.bucket inside) ∙ index_first table list a.from w a.bucket a.count c.requires.2
