-- The starts at or before the place end where the halving stops. Assumes nothing.
use Rattle.std.proofs.Common.{ℕ, leb, rules, arith}
use Rattle.std.proofs.lemmas.List.Sorted.{IsPartitionedBy-leb, IsPartitionPoint-from_clause}
use borrow.Author.Tests.{leb-true, leb-false}
use Rattle.documents.proofs.Halving.{ascending_sorted, started_are}
use Rattle.documents.proofs.document_of.Goals as goal

pub returns : goal.returns
returns c =
    let starts = c.args.starts.now in
    let q = c.args.place.0 in
    let i = c.partition_point.result in
    let parts = IsPartitionPoint-from_clause (λ (x : ℕ). leb x q) starts i c.partition_point.ensures.partitioned
    (IsPartitionedBy-leb (λ (x : ℕ). x) starts q (ascending_sorted starts c.requires)) (λ a r f k. search rules) in
    started_are starts c.requires q i c.partition_point.ensures.bound
    (λ k h. leb-true _ _ (parts.0 k 0 (omega arith) h))
    (λ h. leb-false _ _ (parts.1 i 0 (omega arith) h))
