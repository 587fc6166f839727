-- The samples of absent words, by computation. Assumes nothing.
use mathlib.Core.Path.{refl}
use Rattle.base.specs.Answers.{first_of}
use Rattle.base.specs.Texts.{outside}
use Rattle.phrases.specs.Phrases.{agrees, stands}
use Rattle.phrases.specs.Neighbours.{stands_at, neighbour_at}
use Rattle.documents.specs.Documents.{document_of, same_document, in_one_document, stands_in, places_in, neighbour_in, neighbours_in, count_in_document, counts_by_document}
use Rattle.questions.specs.Answering.{rank_asked_case, has_absent, phrase_in, phrase_cases, occurrences_answer, place_answer, neighbours_answer, phrase_answer}
use Rattle.samples.specs.Absent.{AbsentSamples}

pub absent_samples : AbsentSamples
unfolding first_of outside agrees stands stands_at neighbour_at document_of same_document in_one_document stands_in places_in neighbour_in neighbours_in count_in_document counts_by_document rank_asked_case has_absent phrase_in phrase_cases occurrences_answer place_answer neighbours_answer phrase_answer
absent_samples =
    record {
      below = refl;
      above = refl;
      place = refl;
      place_above = refl;
      neighbour = refl;
      mirrored = refl;
      itself = refl;
      far = refl;
      far_left = refl;
      neighbour_above = refl;
      phrase = refl;
      phrase_one = refl;
      phrase_there = refl;
      phrase_above = refl;
      which = refl;
      in_documents = refl;
    }
