-- A question without document starts is answered of the whole text. Assumes nothing.
use mathlib.Core.Path.{refl}
use lib.ListN.{length}
use Rattle.index.specs.Arrays.{text_in}
use Rattle.documents.specs.Documents.{one_start}
use Rattle.documents.proofs.Exact.{documents_are_exact}
use Rattle.questions.specs.Answering.{phrase_in, neighbours_answer, phrase_answer, ask_answer_in, ask_answer}
use Rattle.questions.specs.WithoutStarts.{AskedWithoutStarts}
use Rattle.questions.proofs.Checks.{reading_whole}

pub asked_without_starts : AskedWithoutStarts
unfolding ask_answer ask_answer_in neighbours_answer phrase_answer
asked_without_starts s shape a words = record {
  by_the_index = λ q. reading_whole s shape a _;
  all_neighbours = λ w v d. rw ((documents_are_exact (one_start (length (text_in s a))) (text_in s a) (phrase_in words 0 0)).whole_pairs refl w v d);
  all_places = λ start len. rw ((documents_are_exact (one_start (length (text_in s a))) (text_in s a) (phrase_in words start len)).whole refl);
}
