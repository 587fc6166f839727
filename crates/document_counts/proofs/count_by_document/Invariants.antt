-- The hits so far are counted in their documents.
use Rattle.std.proofs.Common.{◌≡◌, map}
use Rattle.base.specs.Answers.{front}
use Rattle.document_counts.proofs.Counts.{counts_among}
use Rattle.document_counts.proofs.count_by_document.Given as goal

abbrev pub invariant-loop-place : goal.invariant-loop-place
invariant-loop-place l = l.counts ≡ front (counts_among l.documents (map (λ p. p.0) l.yielded)) l.initial.counts
