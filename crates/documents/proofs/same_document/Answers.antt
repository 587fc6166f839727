-- The numbers of the two documents are compared. Assumes nothing.
use Rattle.std.proofs.Common.{ap₂, eqb}
use Rattle.documents.specs.Documents.{same_document}
use Rattle.documents.proofs.same_document.Goals as goal

pub returns : goal.returns
unfolding same_document
returns c = ap₂ eqb c.document_of-first.ensures c.document_of-second.ensures
