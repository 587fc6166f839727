-- The loop's invariant: what is left of the word ends where it does and leads to its bucket.
use Rattle.std.proofs.Common.{◌≡◌, ◌+◌, ◌<◌, length}
use Rattle.scanning.specs.Scans.{run_at, buckets, bucket_from, bucket_of}
use Rattle.scanning.proofs.Letters.scan_word.Given as goal

abbrev pub invariant-loop-end : goal.invariant-loop-end
invariant-loop-end l =
    (l.bucket < buckets)
    × (l.start + length (run_at l.self.table.now l.text l.start) ≡ l.end + length (run_at l.self.table.now l.text l.end))
    × (bucket_of (run_at l.self.table.now l.text l.start) ≡ bucket_from l.bucket (run_at l.self.table.now l.text l.end))
