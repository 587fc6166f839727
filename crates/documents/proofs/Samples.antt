-- The samples of documents hold, by computation. Assumes nothing.
use mathlib.Core.Path.{refl}
use Rattle.phrases.specs.Phrases.{agrees, stands}
use Rattle.phrases.specs.Neighbours.{stands_at, neighbour_at}
use Rattle.documents.specs.Documents.{is_ascending, are_starts, document_of, same_document, in_one_document, stands_in, places_in, neighbour_in, neighbours_in, count_in_document, counts_by_document, document_words}
use Rattle.documents.specs.Samples.{DocumentSamples}

pub document_samples : DocumentSamples
unfolding agrees stands stands_at neighbour_at is_ascending are_starts document_of same_document in_one_document stands_in places_in neighbour_in neighbours_in count_in_document counts_by_document document_words
document_samples = record {
  in_documents = refl;
  counts = refl;
  one_word = refl;
  no_words = refl;
  across_border = refl;
  left_of_border = refl;
  itself = refl;
  numbers = refl;
  words = refl;
  kept = refl;
  broken = refl;
  empty_text = refl;
  one = refl;
}
